-- What straight-line writes leave: the parts of the first state.
use mathlib.Core.Path.{◌≡◌, refl, sym, ap, ◌∙◌}
use mathlib.Core.List.{List, [], ◌∷◌}
use Prim.Native.Nat.{ℕ, ◌+◌, ◌/◌, ◌≤◌, ◌<◌}
use native.Mathlib.Nat.{zero-add, add-zero}
use native.Mathlib.Omega.{arith}
use lib.ListN.{length, take, drop, set, length-set}
use lib.Seq.{take-nil}
use Rattle.lists.specs.Runs.{run, on_run}
use Rattle.lists.proofs.Runs.{run_length, on_right, on_length, on_by, on_set}
use Rattle.rules.specs.declared.settings.Settings.{Settings}
use Rattle.rules.specs.Limits.{buckets, max_relays}
use Rattle.rules.specs.Chunks.{Chunk}
use Rattle.rules.specs.Pairs.{Assignments}
use Rattle.rules.specs.Format.{first_pairs, format}
use Rattle.chunk_log.specs.Log.{log_enc}
use Rattle.chunk_log.proofs.Changes.{cleared}
use Rattle.codec.specs.Codec.{Codec, ◌&◌, enc_two, ◌then◌, Row, table}
use Rattle.codec.proofs.Laws.{Lawful}
use Rattle.codec.proofs.Focus.{on_whole, many_same, if_present_some}
use Rattle.codec.proofs.Loops.{then_written, table_cleared}
use Rattle.layout.specs.Contents.{Status, Copies, Brick, Contents, entry_row, relay_row, blank_proxy, blank_copies, brick_reading, contents_reading}
use Rattle.layout.specs.Layout.{head_codec, agreed_codec, status_codec, buffer_codec, copy_codec, copies_codec}
use Rattle.layout.specs.Layout.{all_copies_codec, log_codec, brick_codec, place_codec, status_words, copy_words, copies_words, log_words, place_words}
use Rattle.layout.specs.Layout.{buffer_at, all_copies_at, log_at}
use Rattle.layout.specs.Layout.{bag_codec, all_agreed_codec, all_proxies_codec, all_places_codec, store_codec, head_words, bag_words, store_words}
use Rattle.layout.specs.Layout.{proxies_at, bag_at, places_at}
use Rattle.layout.specs.Store.{contents_of, render}
use Rattle.layout.proofs.Codecs.{status_law, buffer_law, copy_law, all_copies_law, head_law, all_agreed_law, all_proxies_law, bag_law}
use Rattle.format.specs.First.{first_head, agreed_in, new_brick, first_place}
use Rattle.format.proofs.Pairs.{format_agreed, format_place}

-- ---- a count of 0 is all that an empty list writes
zero_run : (f : List ℕ → List ℕ) (a n : ℕ) (w : List ℕ) → a + n ≤ length w → 0 < n → f (run a n w) ≡ set (run a n w) 0 0 → on_run a n f w ≡ set w a 0
zero_run f a n w h p e = on_by a n f (λ v. set v 0 0) w e ∙ on_set a n 0 0 w h p ∙ ap (λ (i : ℕ). set w i 0) (add-zero a)

pub table_run : {A : Type 0} (r : Row A) (most a : ℕ) (w : List ℕ) → a + (table most r).size ≤ length w
    → on_run a (table most r).size ((table most r).enc []) w ≡ set w a 0
table_run r most a w h =
    let l = run_length a (table most r).size w h in
    zero_run ((table most r).enc []) a (table most r).size w h (omega arith)
    (table_cleared r most (run a (table most r).size w) (omega arith))

pub copies_written : (c : Settings) (w : List ℕ) → length w ≡ copies_words c → set (set w 0 0) (copy_words c) 0 ≡ (copies_codec c).enc blank_copies w
copies_written c w h =
    let k : ℕ = copy_words c in
    let clear : List ℕ → List ℕ = (copy_codec c).enc [] in
    let one : on_run 0 k clear w ≡ set w 0 0 = table_run entry_row c.entries 0 w (omega arith) in
    let l : length (set w 0 0) ≡ length w = length-set w 0 0 in
    let two : on_run (0 + k) k clear (on_run 0 k clear w) ≡ set (set w 0 0) k 0 =
    rw (one, zero-add k) (table_run entry_row c.entries k (set w 0 0) (omega arith)) in
    sym two ∙ sym (then_written (copy_codec c) (copy_codec c) (copy_law c) ([] & []) 0 w (omega arith))
    ∙ on_whole (copies_words c) ((copies_codec c).enc blank_copies) w h

-- ---- a place
log_cleared : (c : Settings) (w : List ℕ) → length w ≡ log_words c → (log_codec c).enc [] w ≡ set w 0 0
unfolding log_enc
log_cleared c w h = rw (take-nil {A = Chunk} c.chunks) (sym (cleared c.chunks (c.size / 8) w h))

position_first : (c : Settings) (i : ℕ) (b : Brick) (w : List ℕ) → 0 < i → length w ≡ place_words c
    → (place_codec c).enc (i & b) w ≡ on_run 1 (brick_codec c).size ((brick_codec c).enc b) (set w 0 i)
position_first c i b [] o h = absurd (omega arith)
position_first c i b (x ∷ w) o h =
    ap (λ (v : List ℕ). i ∷ v) (if_present_some (brick_codec c) i b w o)
    ∙ sym (on_right 0 (brick_codec c).size ((brick_codec c).enc b) 1 (i ∷ []) w refl
    ∙ ap (λ (v : List ℕ). i ∷ v) (on_whole (brick_codec c).size ((brick_codec c).enc b) w (omega arith)))

module _ (c : Settings) (i : ℕ) (status : Status) (w : List ℕ) (o : 0 < i) (h : length w ≡ place_words c) where
  abbrev empty : ℕ → Copies
  empty g = blank_copies

  abbrev with_id : List ℕ
  with_id = set w 0 i

  abbrev with_status : List ℕ
  with_status = on_run 1 status_words (status_codec.enc status) with_id

  abbrev with_buffer : List ℕ
  with_buffer = set with_status buffer_at 0

  abbrev with_copies : List ℕ
  with_copies = on_run all_copies_at (all_copies_codec c).size ((all_copies_codec c).enc empty) with_buffer

  status_long : length with_status ≡ place_words c
  status_long =
      let l : length with_id ≡ length w = length-set w 0 i in
      on_length 1 status_words (status_codec.enc status) with_id (omega arith)
      (status_law.keeps status (run 1 status_words with_id) (run_length 1 status_words with_id (omega arith))) ∙ omega arith

  buffer_long : length with_buffer ≡ place_words c
  buffer_long = length-set with_status buffer_at 0 ∙ status_long

  copies_long : length with_copies ≡ place_words c
  copies_long =
      let l = buffer_long in
      let n : ℕ = (all_copies_codec c).size in
      on_length all_copies_at n ((all_copies_codec c).enc empty) with_buffer (omega arith)
      ((all_copies_law c).keeps empty (run all_copies_at n with_buffer) (run_length all_copies_at n with_buffer (omega arith))) ∙ l

  place_written : set with_copies (log_at c) 0 ≡ (place_codec c).enc (i & new_brick status) w
  place_written =
      let ls = status_long in
      let lb = buffer_long in
      let lc = copies_long in
      let li : length with_id ≡ length w = length-set w 0 i in
      let all : ℕ = (all_copies_codec c).size in
      let log : ℕ = log_words c in
      let one = then_written status_codec (buffer_codec then all_copies_codec c then log_codec c) status_law (brick_reading.from (new_brick status)) 1 with_id
      (omega arith) in
      let two = then_written buffer_codec (all_copies_codec c then log_codec c) buffer_law ([] & empty & []) buffer_at with_status (omega arith) in
      let buffer = table_run entry_row 32 buffer_at with_status (omega arith) in
      let three = then_written (all_copies_codec c) (log_codec c) (all_copies_law c) (empty & []) all_copies_at with_buffer (omega arith) in
      let cells = zero_run ((log_codec c).enc []) (log_at c) log with_copies (omega arith) (omega arith)
      (log_cleared c (run (log_at c) log with_copies) (run_length (log_at c) log with_copies (omega arith))) in
      sym cells ∙ sym three
      ∙ ap (on_run all_copies_at (all + log) (enc_two (all_copies_codec c) (log_codec c) (empty & []))) (sym buffer)
      ∙ sym two ∙ sym one ∙ sym (position_first c i (new_brick status) w o h)

-- the writes of a place, one after the other
pub place_steps : (c : Settings) (i : ℕ) (status : Status) (log : ℕ) (w0 w1 w2 w3 w4 w5 : List ℕ) → 0 < i → length w0 ≡ place_words c
    → w1 ≡ set w0 0 i → w2 ≡ on_run 1 status_words (status_codec.enc status) w1 → w3 ≡ set w2 buffer_at 0
    → w4 ≡ on_run all_copies_at (all_copies_codec c).size ((all_copies_codec c).enc (λ g. blank_copies)) w3 → log ≡ log_at c → w5 ≡ set w4 log 0
    → w5 ≡ (place_codec c).enc (i & new_brick status) w0
place_steps c i status log w0 w1 w2 w3 w4 w5 o h e1 e2 e3 e4 el e5 = e5 ∙ rw (el, e4, e3, e2, e1) (place_written c i status w0 o h)

-- ---- the store
module _ (c : Settings) (d : Contents) (w : List ℕ) (h : length w ≡ store_words c) where
  abbrev with_head : List ℕ
  with_head = on_run 0 head_words (head_codec.enc d.head) w

  abbrev with_agreed : List ℕ
  with_agreed = on_run head_words (all_agreed_codec c).size ((all_agreed_codec c).enc d.agreed) with_head

  abbrev with_proxies : List ℕ
  with_proxies = on_run (proxies_at c) all_proxies_codec.size (all_proxies_codec.enc d.proxy) with_agreed

  abbrev with_bag : List ℕ
  with_bag = on_run (bag_at c) bag_words (bag_codec.enc d.bag) with_proxies

  on_kept : {A : Type 0} (e : Codec A) → Lawful e → (a : A) (o : ℕ) (v : List ℕ) → length v ≡ store_words c → o + e.size ≤ store_words c
      → length (on_run o e.size (e.enc a) v) ≡ store_words c
  on_kept e l a o v k i =
      on_length o e.size (e.enc a) v (omega arith) (l.keeps a (run o e.size v) (run_length o e.size v (omega arith))) ∙ k

  proxies_long : length with_proxies ≡ store_words c
  proxies_long =
      let l1 = on_kept head_codec head_law d.head 0 w h (omega arith) in
      let l2 = on_kept (all_agreed_codec c) (all_agreed_law c) d.agreed head_words with_head l1 (omega arith) in
      on_kept all_proxies_codec all_proxies_law d.proxy (proxies_at c) with_agreed l2 (omega arith)

  disk_written : (store_codec c).enc d w ≡ on_run (places_at c) (all_places_codec c).size ((all_places_codec c).enc d.place) with_bag
  disk_written =
      let l1 = on_kept head_codec head_law d.head 0 w h (omega arith) in
      let l2 = on_kept (all_agreed_codec c) (all_agreed_law c) d.agreed head_words with_head l1 (omega arith) in
      let l3 = proxies_long in
      sym (on_whole (store_words c) ((store_codec c).enc d) w h)
      ∙ then_written head_codec (all_agreed_codec c then all_proxies_codec then bag_codec then all_places_codec c) head_law (contents_reading.from d) 0 w
      (omega arith)
      ∙ then_written (all_agreed_codec c) (all_proxies_codec then bag_codec then all_places_codec c) (all_agreed_law c)
      (d.agreed & d.proxy & d.bag & d.place) head_words with_head (omega arith)
      ∙ then_written all_proxies_codec (bag_codec then all_places_codec c) all_proxies_law (d.proxy & d.bag & d.place) (proxies_at c) with_agreed
      (omega arith)
      ∙ then_written bag_codec (all_places_codec c) bag_law (d.bag & d.place) (bag_at c) with_proxies (omega arith)

abbrev first_disk : Settings → Contents
first_disk c = record { head = first_head c; agreed = agreed_in (first_pairs c); proxy = λ p. blank_proxy; bag = []; place = first_place }

-- the first state, as it lies
as_first : (c : Settings) (w : List ℕ) → render (format c) w ≡ (store_codec c).enc (first_disk c) w
unfolding render format enc_two
as_first c w =
    let rest : List ℕ = drop head_words w in
    let places : List ℕ = drop bag_words (drop all_proxies_codec.size (drop (all_agreed_codec c).size rest)) in
    rw (
      many_same agreed_codec (buckets c) (contents_of (format c)).agreed (agreed_in (first_pairs c)) (take (all_agreed_codec c).size rest) (format_agreed c),
      many_same (place_codec c) c.places (contents_of (format c)).place first_place places (format_place c),
    )

-- the writes of the first state, one after the other
pub first_steps : (c : Settings) (assigned : Assignments) → assigned ≡ first_pairs c → (p b q : ℕ) (w0 w1 w2 w3 w4 w5 : List ℕ) → length w0 ≡ store_words c
    → p ≡ proxies_at c → b ≡ bag_at c → q ≡ places_at c → w1 ≡ on_run 0 head_words (head_codec.enc (first_head c)) w0
    → w2 ≡ on_run head_words (all_agreed_codec c).size ((all_agreed_codec c).enc (agreed_in assigned)) w1
    → w3 ≡ on_run p all_proxies_codec.size (all_proxies_codec.enc (λ _. blank_proxy)) w2 → w4 ≡ set w3 b 0
    → w5 ≡ on_run q (all_places_codec c).size ((all_places_codec c).enc first_place) w4 → w5 ≡ render (format c) w0
first_steps c assigned es p b q w0 w1 w2 w3 w4 w5 h ep eb eq e1 e2 e3 e4 e5 =
    let d : Contents = first_disk c in
    let all : List ℕ → List ℕ = on_run (places_at c) (all_places_codec c).size ((all_places_codec c).enc first_place) in
    let bag = table_run relay_row max_relays (bag_at c) (with_proxies c d w0 h) (rw (proxies_long c d w0 h) (omega arith)) in
    e5 ∙ rw (eq, e4, eb, e3, ep, e2, es, e1) (ap all (sym bag) ∙ sym (disk_written c d w0 h) ∙ sym (as_first c w0))
