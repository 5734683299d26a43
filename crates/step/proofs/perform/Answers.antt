use mathlib.Core.Path.{◌≡◌, refl}
use mathlib.Core.List.{List, []}
use Prim.Native.Nat.{ℕ, ◌≤◌, ◌<◌}
use native.Mathlib.Omega.{arith}
use lib.ListN.{length, get_or}
use Rattle.std.specs.Prelude.{Result, Err}
use Rattle.rules.specs.declared.refusal.Refusal.{Refusal}
use Rattle.rules.specs.declared.refusal.Refusal.TheVariants.{BadInput}
use Rattle.lists.proofs.Runs.{below_of}
use Rattle.words.specs.Words.{words}
use Rattle.rules.specs.Event.{Event, event_from}
use Rattle.rules.specs.Call.{Call, get_kind}
use Rattle.rules.proofs.Event.{kinds_open, two_numbers, one_number, kind_none, kind_past}
use Rattle.layout.specs.Store.{decode_bytes}
use Rattle.lent.specs.Performs.{Performs}
use Rattle.lent.proofs.Stores.{sound_store}
use Rattle.calls.specs.Outcome.{call_with, outcome, outcome_of}
use Rattle.step.proofs.KindLaws.{unknown_refused}
use Rattle.step.proofs.Outcomes.{other_steps, get_steps}
use Rattle.step.proofs.perform.Goals as goal

pub returns-in-9 : goal.returns-in-9
unfolding kinds_open
returns-in-9 c =
    let store : List ℕ = c.args.store.now in
    let call : Call = let s' = c.args in
    call_with s'.kind s'.a s'.b s'.c s'.«data».now s'.blank.now s'.area.now in
    let event : Event = let k = call in event_from k.kind k.a k.b k.c k.bytes in
    let other : (e : Event) → ((call).kind ≡ get_kind → ⊥) → event ≡ e → (r' : Result ℕ Refusal) (after : List ℕ)
    → ((i : ℕ) → get_or after i 0 < 256) → length after ≡ length (store) → Performs e (words (store)) r' (words after)
    → outcome_of r' (call).area after ≡ outcome (store) (call) = λ e u q r' after b h p. other_steps (call) (store) (sound_store _ (store) c.requires) u r' after (below_of 256 _ b) h e q p in
    let r = c.done in
    other _ (λ z. omega arith) (rw c.in-9.is refl) r.result _
    (λ i. omega (arith, c.type_inv.store i)) r.auto.store r.ensures

pub returns-in-10 : goal.returns-in-10
unfolding decode_bytes
returns-in-10 c =
    let store : List ℕ = c.args.store.now in
    let call : Call = let s' = c.args in
    call_with s'.kind s'.a s'.b s'.c s'.«data».now s'.blank.now s'.area.now in
    get_steps (store) (sound_store _ (store) c.requires) (below_of 256 _ (λ i. omega (arith, c.slice_known-1.given i))) (call)
    c.in-10.is c.get_into.result _ c.get_into.ensures

pub returns-in-11 : goal.returns-in-11
unfolding kinds_open
returns-in-11 c =
    let store : List ℕ = c.args.store.now in
    let call : Call = let s' = c.args in
    call_with s'.kind s'.a s'.b s'.c s'.«data».now s'.blank.now s'.area.now in
    let event : Event = let k = call in event_from k.kind k.a k.b k.c k.bytes in
    let other : (e : Event) → ((call).kind ≡ get_kind → ⊥) → event ≡ e → (r' : Result ℕ Refusal) (after : List ℕ)
    → ((i : ℕ) → get_or after i 0 < 256) → length after ≡ length (store) → Performs e (words (store)) r' (words after)
    → outcome_of r' (call).area after ≡ outcome (store) (call) = λ e u q r' after b h p. other_steps (call) (store) (sound_store _ (store) c.requires) u r' after (below_of 256 _ b) h e q p in
    let r = c.abandon in
    other _ (λ z. omega arith) (rw c.in-11.is refl) r.result _
    (λ i. omega (arith, c.type_inv.store i)) r.auto.store r.ensures

pub returns-in-1-to-3 : goal.returns-in-1-to-3
returns-in-1-to-3 c =
    let store : List ℕ = c.args.store.now in
    let call : Call = let s' = c.args in
    call_with s'.kind s'.a s'.b s'.c s'.«data».now s'.blank.now s'.area.now in
    let event : Event = let k = call in event_from k.kind k.a k.b k.c k.bytes in
    let other : (e : Event) → ((call).kind ≡ get_kind → ⊥) → event ≡ e → (r' : Result ℕ Refusal) (after : List ℕ)
    → ((i : ℕ) → get_or after i 0 < 256) → length after ≡ length (store) → Performs e (words (store)) r' (words after)
    → outcome_of r' (call).area after ≡ outcome (store) (call) = λ e u q r' after b h p. other_steps (call) (store) (sound_store _ (store) c.requires) u r' after (below_of 256 _ b) h e q p in
    let r = c.write in
    other _ (λ z. omega arith) refl r.result _ (λ i. omega (arith, c.type_inv.store i)) r.auto.store r.ensures

pub returns-in-4-to-8 : goal.returns-in-4-to-8
returns-in-4-to-8 c =
    let store : List ℕ = c.args.store.now in
    let call : Call = let s' = c.args in
    call_with s'.kind s'.a s'.b s'.c s'.«data».now s'.blank.now s'.area.now in
    let event : Event = let k = call in event_from k.kind k.a k.b k.c k.bytes in
    let other : (e : Event) → ((call).kind ≡ get_kind → ⊥) → event ≡ e → (r' : Result ℕ Refusal) (after : List ℕ)
    → ((i : ℕ) → get_or after i 0 < 256) → length after ≡ length (store) → Performs e (words (store)) r' (words after)
    → outcome_of r' (call).area after ≡ outcome (store) (call) = λ e u q r' after b h p. other_steps (call) (store) (sound_store _ (store) c.requires) u r' after (below_of 256 _ b) h e q p in
    let two : 4 ≤ (call).kind → (call).kind ≤ 8 → event ≡ event_from (call).kind (call).a (call).b 0 [] = λ l h. let k = call in two_numbers k.a k.b k.c k.bytes k.kind l h in
    let r = c.map in
    other _ (λ z. omega arith) (two (omega arith) (omega arith)) r.result _ (λ i. omega (arith, c.type_inv.store i)) r.auto.store r.ensures

pub returns-in-12-to-13 : goal.returns-in-12-to-13
returns-in-12-to-13 c =
    let store : List ℕ = c.args.store.now in
    let call : Call = let s' = c.args in
    call_with s'.kind s'.a s'.b s'.c s'.«data».now s'.blank.now s'.area.now in
    let event : Event = let k = call in event_from k.kind k.a k.b k.c k.bytes in
    let other : (e : Event) → ((call).kind ≡ get_kind → ⊥) → event ≡ e → (r' : Result ℕ Refusal) (after : List ℕ)
    → ((i : ℕ) → get_or after i 0 < 256) → length after ≡ length (store) → Performs e (words (store)) r' (words after)
    → outcome_of r' (call).area after ≡ outcome (store) (call) = λ e u q r' after b h p. other_steps (call) (store) (sound_store _ (store) c.requires) u r' after (below_of 256 _ b) h e q p in
    let one : 12 ≤ (call).kind → (call).kind ≤ 22 → event ≡ event_from (call).kind (call).a 0 0 [] = λ l h. let k = call in one_number k.a k.b k.c k.bytes k.kind l h in
    let r = c.follow in
    other _ (λ z. omega arith) (one (omega arith) (omega arith)) r.result _ (λ i. omega (arith, c.type_inv.store i)) r.auto.store r.ensures

pub returns-in-14-to-17 : goal.returns-in-14-to-17
returns-in-14-to-17 c =
    let store : List ℕ = c.args.store.now in
    let call : Call = let s' = c.args in
    call_with s'.kind s'.a s'.b s'.c s'.«data».now s'.blank.now s'.area.now in
    let event : Event = let k = call in event_from k.kind k.a k.b k.c k.bytes in
    let other : (e : Event) → ((call).kind ≡ get_kind → ⊥) → event ≡ e → (r' : Result ℕ Refusal) (after : List ℕ)
    → ((i : ℕ) → get_or after i 0 < 256) → length after ≡ length (store) → Performs e (words (store)) r' (words after)
    → outcome_of r' (call).area after ≡ outcome (store) (call) = λ e u q r' after b h p. other_steps (call) (store) (sound_store _ (store) c.requires) u r' after (below_of 256 _ b) h e q p in
    let one : 12 ≤ (call).kind → (call).kind ≤ 22 → event ≡ event_from (call).kind (call).a 0 0 [] = λ l h. let k = call in one_number k.a k.b k.c k.bytes k.kind l h in
    let r = c.change_brick in
    other _ (λ z. omega arith) (one (omega arith) (omega arith)) r.result _ (λ i. omega (arith, c.type_inv.store i)) r.auto.store r.ensures

pub returns-in-18-to-20 : goal.returns-in-18-to-20
returns-in-18-to-20 c =
    let store : List ℕ = c.args.store.now in
    let call : Call = let s' = c.args in
    call_with s'.kind s'.a s'.b s'.c s'.«data».now s'.blank.now s'.area.now in
    let event : Event = let k = call in event_from k.kind k.a k.b k.c k.bytes in
    let other : (e : Event) → ((call).kind ≡ get_kind → ⊥) → event ≡ e → (r' : Result ℕ Refusal) (after : List ℕ)
    → ((i : ℕ) → get_or after i 0 < 256) → length after ≡ length (store) → Performs e (words (store)) r' (words after)
    → outcome_of r' (call).area after ≡ outcome (store) (call) = λ e u q r' after b h p. other_steps (call) (store) (sound_store _ (store) c.requires) u r' after (below_of 256 _ b) h e q p in
    let one : 12 ≤ (call).kind → (call).kind ≤ 22 → event ≡ event_from (call).kind (call).a 0 0 [] = λ l h. let k = call in one_number k.a k.b k.c k.bytes k.kind l h in
    let r = c.change_view in
    other _ (λ z. omega arith) (one (omega arith) (omega arith)) r.result _ (λ i. omega (arith, c.type_inv.store i)) r.auto.store r.ensures

pub returns-in-21-to-22 : goal.returns-in-21-to-22
returns-in-21-to-22 c =
    let store : List ℕ = c.args.store.now in
    let call : Call = let s' = c.args in
    call_with s'.kind s'.a s'.b s'.c s'.«data».now s'.blank.now s'.area.now in
    let event : Event = let k = call in event_from k.kind k.a k.b k.c k.bytes in
    let other : (e : Event) → ((call).kind ≡ get_kind → ⊥) → event ≡ e → (r' : Result ℕ Refusal) (after : List ℕ)
    → ((i : ℕ) → get_or after i 0 < 256) → length after ≡ length (store) → Performs e (words (store)) r' (words after)
    → outcome_of r' (call).area after ≡ outcome (store) (call) = λ e u q r' after b h p. other_steps (call) (store) (sound_store _ (store) c.requires) u r' after (below_of 256 _ b) h e q p in
    let one : 12 ≤ (call).kind → (call).kind ≤ 22 → event ≡ event_from (call).kind (call).a 0 0 [] = λ l h. let k = call in one_number k.a k.b k.c k.bytes k.kind l h in
    let r = c.keep_up in
    other _ (λ z. omega arith) (one (omega arith) (omega arith)) r.result _ (λ i. omega (arith, c.type_inv.store i)) r.auto.store r.ensures

pub returns-in_default : goal.returns-in_default
returns-in_default c =
    let store : List ℕ = c.args.store.now in
    let call : Call = let s' = c.args in
    call_with s'.kind s'.a s'.b s'.c s'.«data».now s'.blank.now s'.area.now in
    let event : Event = let k = call in event_from k.kind k.a k.b k.c k.bytes in
    let other : (e : Event) → ((call).kind ≡ get_kind → ⊥) → event ≡ e → (r : Result ℕ Refusal) (after : List ℕ)
    → ((i : ℕ) → get_or after i 0 < 256) → length after ≡ length (store) → Performs e (words (store)) r (words after)
    → outcome_of r (call).area after ≡ outcome (store) (call) = λ e u q r after b h p. other_steps (call) (store) (sound_store _ (store) c.requires) u r after (below_of 256 _ b) h e q p in
    let none : ((call).kind ≡ get_kind → ⊥) → event ≡ Event.unknown
    → outcome_of (Err BadInput) (call).area (store) ≡ outcome (store) (call) = λ u q. other _ u q (Err BadInput) (store) (λ i. omega (arith, c.type_inv.store i)) refl
    (unknown_refused _ c.requires.sound) in
    none (λ z. omega arith) (kind_none (call).a (call).b (call).c (call).bytes (call).kind (omega arith))

pub returns-in_default-2 : goal.returns-in_default-2
returns-in_default-2 c =
    let store : List ℕ = c.args.store.now in
    let call : Call = let s' = c.args in
    call_with s'.kind s'.a s'.b s'.c s'.«data».now s'.blank.now s'.area.now in
    let event : Event = let k = call in event_from k.kind k.a k.b k.c k.bytes in
    let other : (e : Event) → ((call).kind ≡ get_kind → ⊥) → event ≡ e → (r : Result ℕ Refusal) (after : List ℕ)
    → ((i : ℕ) → get_or after i 0 < 256) → length after ≡ length (store) → Performs e (words (store)) r (words after)
    → outcome_of r (call).area after ≡ outcome (store) (call) = λ e u q r after b h p. other_steps (call) (store) (sound_store _ (store) c.requires) u r after (below_of 256 _ b) h e q p in
    let none : ((call).kind ≡ get_kind → ⊥) → event ≡ Event.unknown
    → outcome_of (Err BadInput) (call).area (store) ≡ outcome (store) (call) = λ u q. other _ u q (Err BadInput) (store) (λ i. omega (arith, c.type_inv.store i)) refl
    (unknown_refused _ c.requires.sound) in
    none (λ z. omega arith) (kind_past (call).a (call).b (call).c (call).bytes (call).kind (omega arith))
