use Prim.Native.Nat.{◌+◌, ◌*◌, ◌-◌}
use native.Mathlib.Omega.{arith}
use Rattle.words.proofs.Laws.{lent_run}
use Rattle.layout.specs.Layout.{agreed_codec, agreed_at, agreed_words}
use Rattle.records.specs.Records.{agreed_of}
use Rattle.lent.proofs.bucket.write.Goals as goal

pub returns : goal.returns
returns c =
    let at = 8 * c.agreed_at-at.result in
    lent_run c.args.store.now c.write.new.part at (at + 64 - at) (agreed_at c.args.bucket) agreed_words
    (agreed_codec.enc (agreed_of c.args.agreed)) (omega arith) (omega arith) (omega arith) (omega arith) c.write.ensures
