use Rattle.std.proofs.lemmas.Result.{err_from_is_err_and}
use mathlib.Core.Path.{◌≡◌, refl, sym, ◌∙◌}
use mathlib.Core.Bool.{true, false}
use Prim.Native.Nat.{ℕ, ◌<◌}
use native.Mathlib.Omega.{arith}
use lib.ListN.{length}
use borrow.Author.Tests.{le-ltb}
use Rattle.lists.specs.Tests.{◌and◌}
use Rattle.words.specs.Words.{words}
use Rattle.rules.specs.Limits.{max_relays}
use Rattle.rules.specs.Maps.{send_asks}
use Rattle.rules.specs.Question.{first_no}
use Rattle.rules.proofs.Refusals.{refuses_there}
use Rattle.rules.proofs.Questions.{first_stop, goes_on}
use Rattle.layout.specs.Store.{decode}
use Rattle.records.specs.Records.{agreed_of}
use Rattle.mappings.proofs.Buckets.{InBucket, in_bucket}
use Rattle.sends.specs.Asks.{primary_asks, room_asks}
use Rattle.sends.proofs.Sending.{no_order, entry_decides}
use Rattle.sends.proofs.asks.Goals as goal
use Rattle.sends.proofs.asks.Goals.{In_ok-primary_asks, After-agreed-agreed, After-has}

-- where the first group was answered yes, the second decides
second : (c : In_ok-primary_asks) (m : ℕ) → let s = decode (words c.args.store.now) in
    m ≡ first_no (room_asks s c.args.block.0) → m ≡ first_no (send_asks s c.args.block.0)
unfolding ◌and◌
second c m = goes_on (primary_asks (decode (words c.args.store.now)) c.args.block.0) _ refl c.in_ok-primary_asks.ensures refl

read : (c : After-agreed-agreed) → InBucket (decode (words c.args.store.now)) c.args.settings.entries c.args.block.0
    c.number-bucket.result (agreed_of c.agreed-agreed.result)
read c = in_bucket c.args.settings c.args.store.now c.requires c.args.block.0 _ c.number-bucket.ensures.0 _ c.agreed-agreed.ensures

room : (c : After-agreed-agreed) → length (decode (words c.args.store.now)).bag < max_relays
room c = omega (arith, c.relay_count.ensures, c.if-relay_count.false)

pub returns-in_err-primary_asks : goal.returns-in_err-primary_asks
returns-in_err-primary_asks c =
    let p = err_from_is_err_and c.from_residual.result c.from_residual.ensures.1 in
    rw (p.1, p.2) (refuses_there (primary_asks (decode (words c.args.store.now)) c.args.block.0) _ _ c.in_err-primary_asks.ensures)

pub returns-then-relay_count : goal.returns-then-relay_count
returns-then-relay_count c =
    let s = decode (words c.args.store.now) in
    second (goal.at.returns-then-relay_count c).In_ok-primary_asks _
    (sym (first_stop 10 _ (le-ltb (length s.bag) max_relays (omega (arith, c.relay_count.ensures, c.if-relay_count.true)))))

pub returns-then-agreed-ge-MAX_VIEW_OR_ORDER : goal.returns-then-agreed-ge-MAX_VIEW_OR_ORDER
returns-then-agreed-ge-MAX_VIEW_OR_ORDER c =
    let at = goal.at.returns-then-agreed-ge-MAX_VIEW_OR_ORDER c in
    second at.In_ok-primary_asks _
    (no_order _ _ _ _ _ (read at.After-agreed-agreed) (room at.After-agreed-agreed) c.if-agreed-ge-MAX_VIEW_OR_ORDER.true)

pub returns-then-has : goal.returns-then-has
returns-then-has c =
    let at = goal.at.returns-then-has c in
    second at.In_ok-primary_asks _
    (entry_decides _ _ _ _ _ (read at.After-agreed-agreed) (room at.After-agreed-agreed) c.if-agreed-ge-MAX_VIEW_OR_ORDER.false true
    (sym c.has.ensures ∙ c.if-has.true))

pub returns-else-has : goal.returns-else-has
returns-else-has c =
    let at = goal.at.returns-else-has c in
    second at.In_ok-primary_asks _
    (entry_decides _ _ _ _ _ (read at.After-agreed-agreed) (room at.After-agreed-agreed) c.if-agreed-ge-MAX_VIEW_OR_ORDER.false false
    (sym c.has.ensures ∙ c.if-has.false))
