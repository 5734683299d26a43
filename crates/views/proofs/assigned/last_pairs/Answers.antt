use mathlib.Core.Path.{◌≡◌, ap}
use Prim.Native.Nat.{◌*◌}
use native.Mathlib.Omega.{arith}
use lib.ListN.{length-set}
use borrow.Author.Rules.{rules}
use Rattle.words.specs.Words.{words}
use Rattle.layout.specs.Contents.{Agreed}
use Rattle.layout.specs.Store.{decode}
use Rattle.lent.proofs.Stores.{settings_are}
use Rattle.views.proofs.Counts.{last_pairs_are, assigned_start, assigned_turn}
use Rattle.views.proofs.assigned.last_pairs.Goals as goal

pub loop-bucket-init : goal.loop-bucket-init
loop-bucket-init c =
    let s = decode (words c.args.store.now) in
    (search rules, assigned_start (λ g. (s.bucket g).last_primary) (λ g. (s.bucket g).last_backup) c.args.assigned.now)

pub bounds-assigned-bucket-in-loop-bucket : goal.bounds-assigned-bucket-in-loop-bucket
bounds-assigned-bucket-in-loop-bucket c =
    let l = c.loop-bucket in
    omega (arith, length-set l.assigned (2 * l.bucket) c.agreed-agreed.result.last_primary)

pub loop-bucket-preserved : goal.loop-bucket-preserved
loop-bucket-preserved c =
    let s = decode (words c.args.store.now) in
    let l = c.loop-bucket in
    let e = c.agreed-agreed.ensures in (
      search rules,
      assigned_turn l.bucket (λ g. (s.bucket g).last_primary) (λ g. (s.bucket g).last_backup) c.args.assigned.now l.assigned
          c.agreed-agreed.result.last_primary c.agreed-agreed.result.last_backup (omega arith) l.invariant.1 (ap (λ (k : Agreed). k.last_primary) e)
          (ap (λ (k : Agreed). k.last_backup) e),
    )

pub returns : goal.returns
returns c =
    let s = decode (words c.args.store.now) in
    let l = c.loop-bucket in
    let n = c.buckets-count.result in
    let e : l.bucket ≡ n = omega arith in
    last_pairs_are s c.args.settings (settings_are c.args.settings c.args.store.now c.requires.0) n c.buckets-count.ensures
    c.args.assigned.now l.assigned (omega arith) (rw e at l.invariant.1)
