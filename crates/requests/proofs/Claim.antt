-- Demand 3 of requests, proved: by the claim about the list of calls that they make.
use mathlib.Core.Path.{◌≡◌, refl, sym, subst, ◌∙◌}
use mathlib.Core.List.{List, [], ◌∷◌}
use Prim.Native.Nat.{ℕ}
use Rattle.lists.specs.Runs.{Below}
use Rattle.words.specs.Words.{words}
use Rattle.rules.specs.declared.settings.Settings.{Settings}
use Rattle.rules.specs.Format.{format}
use Rattle.layout.specs.Layout.{settings_of}
use Rattle.layout.specs.Store.{decode_bytes}
use Rattle.lent.specs.Stores.{StoreOf}
use Rattle.lent.proofs.Stores as stores
use Rattle.history.specs.Claim.{Answered, Claimed}
use Rattle.calls.specs.Outcome.{outcome}
use Rattle.calls.specs.Claim.{answered_calls, NeverTwo}
use Rattle.calls.proofs.Claim.{formatted, calls_claim}
use Rattle.calls.proofs.Held.{held_settings}
use Rattle.calls.proofs.Performed.{store_sound}
use Rattle.reads.proofs.Outcomes.{size_is}
use Rattle.batch.specs.Batch.{lent, batch_outcome}
use Rattle.requests.specs.Claim.{Request, answered_requests, calls_made, AsCalls, RequestsClaim}
use Rattle.requests.proofs.Made.{made_then, single_made}
use Rattle.requests.proofs.Batches.{several_made}
use Rattle.requests.proofs.BlockReads.{blocks_made}

-- ---- what requests are answered is what the calls that they make are answered
requests_answered : (c : Settings) (bs : List ℕ) → StoreOf c bs → Below 256 bs → (requests : List Request)
    → answered_requests c.size bs requests ≡ answered_calls c.size bs (calls_made c.size bs requests)
unfolding answered_requests calls_made
requests_answered c bs v b [] = unfold answered_calls in refl
requests_answered c bs v b (Request.single call ∷ requests) =
    let m = single_made c bs v b call in
    made_then c bs m _ (requests_answered c (outcome bs call).store m.held m.bytes requests)
requests_answered c bs v b (Request.several batch area answers ∷ requests) =
    let m = several_made c bs v b batch area answers in
    made_then c bs m _ (requests_answered c (batch_outcome batch (lent bs area answers)).left.store m.held m.bytes requests)
requests_answered c bs v b (Request.blocks proxy numbers answers ∷ requests) =
    made_then c bs (blocks_made c bs v b proxy numbers answers) _ (requests_answered c bs v b requests)

pub as_calls : AsCalls
unfolding decode_bytes
as_calls bs b y requests =
    let c : Settings = settings_of (words bs) in
    let v : StoreOf c bs = stores.store_of bs (store_sound bs y) c refl in
    subst (λ (size : ℕ). answered_requests size bs requests ≡ answered_calls size bs (calls_made size bs requests)) (size_is c bs v)
    (requests_answered c bs v b requests)

pub requests_claim : RequestsClaim
requests_claim c bytes b y code store f requests =
    let h = formatted c bytes b y code store f in
    let v : StoreOf c store = stores.store_of store (store_sound store h.passes) c (sym (held_settings h ∙ (unfold format in refl))) in
    subst (λ (ts : List Answered). Claimed c.size ts × NeverTwo ts)
    (sym (requests_answered c store v h.bytes requests)) (calls_claim c bytes b y code store f (calls_made c.size store requests))
