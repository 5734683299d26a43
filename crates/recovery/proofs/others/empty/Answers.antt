use mathlib.Core.Path.{◌≡◌, ◌∙◌}
use mathlib.Core.List.{List, [], ◌++◌}
use Prim.Native.Nat.{ℕ, ◌+◌, ◌*◌, ◌-◌}
use native.Mathlib.Omega.{arith}
use lib.ListN.{length, take, drop}
use Rattle.words.specs.Words.{words}
use Rattle.words.proofs.Laws.{length_words, lent_run}
use Rattle.layout.specs.Layout.{copy_codec, copy_words, copies_at}
use Rattle.layout.proofs.Lent.{lent_length}
use Rattle.recovery.proofs.PlaceLaws.{emptied_steps}
use Rattle.recovery.proofs.others.empty.Goals as goal

pub returns : goal.returns
returns c =
    let v = c.args.part.now in
    let t = c.args.settings in
    let g = c.args.bucket in
    let size = 8 * c.copy_words-size.result in
    let m = 8 * c.memory_at-memory.result in
    let d = 8 * c.disk_at-disk.result in
    let t1 = c.clear.new.t in
    let v1 : List ℕ = take m v ++ (t1 ++ drop (m + size - m) (drop m v)) in
    let l1 : length v1 ≡ length v = lent_length v t1 m (m + size - m) (omega arith) (omega arith) in
    let e1 = lent_run v t1 m (m + size - m) (copies_at t g) (copy_words t) ((copy_codec t).enc []) (omega arith) (omega arith) (omega arith) (omega arith)
    c.clear.ensures in
    let e2 = lent_run v1 c.clear-2.new.t d (d + size - d) (copies_at t g + copy_words t) (copy_words t) ((copy_codec t).enc [])
    (omega arith) (omega arith) (omega arith) (omega arith) c.clear-2.ensures in
    emptied_steps t g c.requires.1 (words v) c.requires.0.clean (length_words v ∙ omega arith) c.requires.2 (words v1) _ e1 e2
