-- The questions that fetch and ready ask first.
use Rattle.std.specs.Prelude.{◌≡◌, List, [], ◌∷◌, true, not, ℕ, ◌<◌}
use Rattle.rules.specs.declared.settings.Settings.{Settings}
use Rattle.rules.specs.Limits.{buckets}
use Rattle.rules.specs.State.{State}
use Rattle.rules.specs.Derived.{up_member}
use Rattle.layout.specs.Contents.{Agreed}
use Rattle.rules.specs.Question.{Question, ◌asks◌, is_bucket}

-- is there such a bucket, and is its primary an up member?
abbrev pub bucket_asks : State → ℕ → List Question
bucket_asks s g = (3 asks is_bucket s g) ∷ (6 asks up_member s (s.bucket g).primary) ∷ []

-- the last questions of ready: is the bucket fetched in this view, and not yet ready?
abbrev pub fetched_asks : Agreed → List Question
fetched_asks agreed = (13 asks agreed.fetched) ∷ (13 asks not agreed.ready) ∷ []

-- there is such a bucket, and its primary is an up member
pub record UpBucket (settings : Settings) (s : State) (g : ℕ) : Type 0 where
  pub inside : g < buckets settings
  pub primary : up_member s (s.bucket g).primary ≡ true
