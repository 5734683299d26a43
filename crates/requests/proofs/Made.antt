-- What a request was answered and the store that it leaves, by the calls that it makes.
use mathlib.Core.Path.{◌≡◌, refl, sym, ap, ◌∙◌}
use mathlib.Core.List.{List, [], ◌∷◌, ◌++◌}
use Prim.Native.Nat.{ℕ}
use Rattle.lists.specs.Runs.{Below}
use Rattle.rules.specs.declared.settings.Settings.{Settings}
use Rattle.rules.specs.Call.{Call}
use Rattle.lent.specs.Stores.{StoreOf}
use Rattle.history.specs.Claim.{Answered}
use Rattle.calls.specs.Outcome.{outcome, store_after}
use Rattle.calls.specs.Claim.{answered_calls}
use Rattle.calls.proofs.Calls.{call_keeps, kept_of}
use Rattle.calls.proofs.Claim.{answered_append}

pub record Made (c : Settings) (bs : List ℕ) (calls : List Call) (ts : List Answered) (after : List ℕ) : Type 0 where
  pub answered : ts ≡ answered_calls c.size bs calls
  pub left : after ≡ store_after bs calls
  -- still a sound store of the settings
  pub held : StoreOf c after
  pub bytes : Below 256 after

-- and what the requests after it were answered, by the calls that they make
pub made_then : (c : Settings) (bs : List ℕ) {calls : List Call} {ts : List Answered} {after : List ℕ} → Made c bs calls ts after
    → (more : List Call) {us : List Answered} → us ≡ answered_calls c.size after more → ts ++ us ≡ answered_calls c.size bs (calls ++ more)
made_then c bs {calls} {ts} m more e =
    ap (λ (us : List Answered). ts ++ us) (e ∙ ap (λ (s : List ℕ). answered_calls c.size s more) m.left)
    ∙ ap (λ (us : List Answered). us ++ answered_calls c.size (store_after bs calls) more) m.answered ∙ sym (answered_append c.size bs calls more)

-- a single call
pub single_made : (c : Settings) (bs : List ℕ) → StoreOf c bs → Below 256 bs → (call : Call)
    → Made c bs (call ∷ []) (answered_calls c.size bs (call ∷ [])) (outcome bs call).store
unfolding store_after
single_made c bs v b call = let k = call_keeps bs b call in record { answered = refl; left = refl; held = kept_of v k; bytes = k.bytes }

-- no call
pub none_made : (c : Settings) (bs : List ℕ) → StoreOf c bs → Below 256 bs → Made c bs [] [] bs
unfolding answered_calls store_after
none_made c bs v b = record { answered = refl; left = refl; held = v; bytes = b }
