use mathlib.Core.Path.{◌≡◌, sym, ap, ◌∙◌}
use mathlib.Core.List.{[], ◌∷◌}
use mathlib.Core.Bool.{Bool}
use native.Mathlib.Omega.{arith}
use Rattle.words.specs.Words.{words}
use Rattle.rules.specs.Derived.{up_member}
use Rattle.rules.specs.Question.{◌asks◌, first_no}
use Rattle.rules.proofs.Questions.{first_yes, first_stop, none_asked}
use Rattle.layout.specs.Contents.{Agreed}
use Rattle.layout.specs.Store.{decode}
use Rattle.recovery.specs.Asks.{bucket_asks}
use Rattle.recovery.proofs.Questions.{no_bucket, is_bucket_yes}
use Rattle.recovery.proofs.asks.bucket_asks.Goals as goal
use Rattle.recovery.proofs.asks.bucket_asks.Goals.{After-up_member}

-- the question that is left once there is such a bucket
last : (c : After-up_member) → first_no (bucket_asks (decode (words c.args.store.now)) c.args.bucket) ≡ first_no ((6 asks c.up_member.result) ∷ [])
last c =
    first_yes 3 _ (is_bucket_yes c.args.settings c.args.store.now c.requires c.args.bucket (omega (arith, c.buckets.ensures, c.if-buckets-bucket.false)))
    ∙ ap (λ (b : Bool). first_no ((6 asks b) ∷ [])) (sym (c.up_member.ensures
    ∙ ap (λ (k : Agreed). up_member (decode (words c.args.store.now)) k.primary) c.agreed-agreed.ensures))

pub returns-then-buckets-bucket : goal.returns-then-buckets-bucket
returns-then-buckets-bucket c =
    sym (first_stop 3 _ (no_bucket c.args.settings c.args.store.now c.requires c.args.bucket
    (omega (arith, c.buckets.ensures, c.if-buckets-bucket.true))))

pub returns-then-up_member : goal.returns-then-up_member
returns-then-up_member c = sym (last (goal.at.returns-then-up_member c).After-up_member ∙ first_yes 6 _ c.if-up_member.true ∙ none_asked)

pub returns-else-up_member : goal.returns-else-up_member
returns-else-up_member c = sym (last (goal.at.returns-else-up_member c).After-up_member ∙ first_stop 6 _ c.if-up_member.false)
