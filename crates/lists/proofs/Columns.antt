-- Laws of a column with one value changed.
use mathlib.Core.Path.{◌≡◌, refl, fun_ext}
use mathlib.Core.Bool.{Bool, true, false}
use Prim.Native.Nat.{ℕ}
use lib.Dec.{eqb}
use borrow.Author.Tests.{ne_eqb}
use Rattle.lists.specs.Columns.{upd}
use Rattle.lists.proofs.Tests.{by, by_eq, eqb_self, impossible, clash}

pub upd_same {ℓ} : {A : Type ℓ} (f : ℕ → A) (i : ℕ) (v : A) → upd f i v i ≡ v
unfolding upd
upd_same f i v = cc (eqb_self i)

pub upd_other {ℓ} : {A : Type ℓ} (f : ℕ → A) (i j : ℕ) (v : A) → (j ≡ i → ⊥) → upd f i v j ≡ f j
unfolding upd
upd_other f i j v h = cc (ne_eqb j i h)

-- a property of every number survives a change at one
pub upd_all {ℓ} : {A : Type ℓ} (P : ℕ → A → Type 0) (f : ℕ → A) (i : ℕ) (v : A) → ((j : ℕ) → P j (f j)) → P i v → (j : ℕ) → P j (upd f i v j)
unfolding upd
upd_all P f i v h p j = by_eq j i (λ q r. rw (q, r) p) (λ q r. rw q (h j))

-- a second change at one number
pub upd_again : {A : Type 0} (f : ℕ → A) (i : ℕ) (v w : A) → upd (upd f i v) i w ≡ upd f i w
unfolding upd
upd_again f i v w = fun_ext (λ j. by_eq j i (λ q _. rw q) (λ q _. rw q))

-- a flag taken from one number
pub unflag : (f : ℕ → Bool) (x j : ℕ) → upd f x false j ≡ true → (f j ≡ true) × (j ≡ x → ⊥)
unfolding upd
unflag f x j y = by_eq j x (λ q r. impossible (rw q at y)) (λ q r. (rw q at y, r))

pub still_flagged : (f : ℕ → Bool) (x j : ℕ) → (j ≡ x → ⊥) → f j ≡ true → upd f x false j ≡ true
still_flagged f x j n y = rw (upd_other f x j false n) y

-- ---- columns: what holds wherever a flag is down
-- is kept where the value changes at a number whose flag is up
pub upd_up : {A : Type 0} (flag : ℕ → Bool) (P : ℕ → A → Type 0) (f : ℕ → A) (x : ℕ) (a : A)
    → flag x ≡ true → ((i : ℕ) → flag i ≡ false → P i (f i)) → (i : ℕ) → flag i ≡ false → P i (upd f x a i)
upd_up flag P f x a y h = upd_all (λ i b. flag i ≡ false → P i b) f x a h (λ n. clash n y)

-- is kept where the flag changes at one number and the value there has it
pub upd_both : {A : Type 0} (flag : ℕ → Bool) (b : Bool) (P : ℕ → A → Type 0) (f : ℕ → A) (x : ℕ) (a : A)
    → P x a → ((i : ℕ) → (i ≡ x → ⊥) → flag i ≡ false → P i (f i)) → (i : ℕ) → upd flag x b i ≡ false → P i (upd f x a i)
unfolding upd
upd_both flag b P f x a p h i = by_eq i x (λ q e. rw (q, e) (λ _. p)) (λ q n. rw q (h i n))

-- a blank column with a blank value
pub upd_blank : {A : Type 0} (d : A) (x : ℕ) → upd (λ i. d) x d ≡ (λ i. d)
unfolding upd
upd_blank d x = fun_ext (λ i. by (eqb i x) (λ q. rw q refl) (λ q. rw q refl))
