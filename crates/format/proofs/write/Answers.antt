use mathlib.Core.Path.{◌≡◌, refl, ap, ◌∙◌}
use mathlib.Core.List.{◌++◌}
use Prim.Native.Nat.{◌*◌, ◌-◌}
use native.Mathlib.Omega.{arith}
use lib.ListN.{length, take, drop}
use Rattle.lists.proofs.Runs.{run_length}
use Rattle.words.specs.Words.{words}
use Rattle.words.proofs.Laws.{length_words, lent_run}
use Rattle.layout.specs.Contents.{blank_proxy}
use Rattle.layout.specs.Layout.{head_codec, all_agreed_codec, all_proxies_codec, all_places_codec, head_words, store_words}
use Rattle.layout.specs.Layout.{proxies_at, bag_at, places_at}
use Rattle.layout.proofs.Lent.{lent_length}
use Rattle.format.specs.First.{first_head, agreed_in, first_place}
use Rattle.format.proofs.Pairs.{first_pairs_long}
use Rattle.format.proofs.First.{first_steps}
use borrow.Author.Rules.{rules}
use Rattle.format.proofs.write.Goals as goal

pub bucket_records-requires : goal.bucket_records-requires
bucket_records-requires c =
    (search rules, ap length c.requires.2 ∙ first_pairs_long c.args.settings)

pub places-requires : goal.places-requires
places-requires c = (search rules, search rules)

pub returns : goal.returns
returns c =
    let t = c.args.settings in
    let s0 = c.args.s.now in
    let pa = c.proxies_at-proxies_at in
    let ba = c.bag_at-bag_at in
    let qa = c.places_at-places_at in
    let one = c.write in
    let two = c.bucket_records in
    let three = c.proxies in
    let four = c.write-2 in
    let five = c.places in
    let l0 : length s0 ≡ 8 * store_words t = c.requires.1 in
    let ep : pa.result ≡ proxies_at t = pa.ensures in
    let eb : ba.result ≡ bag_at t = ba.ensures in
    let eq : qa.result ≡ places_at t = qa.ensures in
    let s1 = take 0 s0 ++ (one.new.part ++ drop 64 (drop 0 s0)) in
    let k1 : length one.new.part ≡ 64 = one.auto.part ∙ run_length 0 64 s0 (omega arith) in
    let l1 : length s1 ≡ length s0 = lent_length s0 one.new.part 0 64 (omega arith) k1 in
    let n2 = 8 * pa.result - 64 in
    let s2 = take 64 s1 ++ (two.new.s ++ drop n2 (drop 64 s1)) in
    let k2 : length two.new.s ≡ n2 = two.auto.s ∙ run_length 64 n2 s1 (omega arith) in
    let l2 : length s2 ≡ length s1 = lent_length s1 two.new.s 64 n2 (omega arith) k2 in
    let o3 = 8 * pa.result in
    let n3 = 8 * ba.result - o3 in
    let s3 = take o3 s2 ++ (three.new.s ++ drop n3 (drop o3 s2)) in
    let k3 : length three.new.s ≡ n3 = three.auto.s ∙ run_length o3 n3 s2 (omega arith) in
    let s4 = four.new.s in
    let e1 = lent_run s0 one.new.part 0 64 0 head_words (head_codec.enc (first_head t)) refl refl (omega arith) k1 one.ensures in
    let e2 = lent_run s1 two.new.s 64 n2 head_words (all_agreed_codec t).size ((all_agreed_codec t).enc (agreed_in c.args.assigned.now)) refl
    (omega arith) (omega arith) (omega arith) two.ensures in
    let e3 = lent_run s2 three.new.s o3 n3 pa.result all_proxies_codec.size (all_proxies_codec.enc (λ _. blank_proxy)) refl
    (omega arith) (omega arith) (omega arith) three.ensures in
    let l3 : length s3 ≡ length s2 = lent_length s2 three.new.s o3 n3 (omega arith) k3 in
    let l4 : length s4 ≡ length s3 = four.auto.s in
    let o5 = 8 * qa.result in
    let n5 = length s0 - o5 in
    let k5 : length five.new.s ≡ n5 = five.auto.s ∙ run_length o5 n5 s4 (omega arith) in
    let e5 = lent_run s4 five.new.s o5 n5 qa.result (all_places_codec t).size ((all_places_codec t).enc first_place) refl
    (omega arith) (omega arith) (omega arith) five.ensures in
    first_steps t c.args.assigned.now c.requires.2 pa.result ba.result qa.result (words s0) _ _ _ _ _ (length_words s0 ∙ omega arith) ep eb eq e1 e2 e3 four.ensures e5
