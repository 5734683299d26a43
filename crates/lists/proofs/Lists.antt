-- Laws of lists: elements by their place, and what a map and a test do together.
use mathlib.Core.Path.{◌≡◌, refl, ap}
use mathlib.Core.Bool.{Bool, true, cond}
use mathlib.Core.List.{List, [], ◌∷◌, ◌++◌, map, append-nil, Memᴰ}
use Prim.Native.Nat.{ℕ, zero, suc, ◌<◌}
use native.Mathlib.Nat.{not-suc-le-zero, le_of_suc-le-suc}
use lib.ListN.{length, get_or, take}
use lib.Seq.{take-suc}
use Rattle.lists.specs.Tests.{only}
use Rattle.lists.proofs.Tests.{by}

-- two lists with the same first element and the same rest
pub same_cons : {A : Type 0} {x y : A} {xs ys : List A} → x ≡ y → xs ≡ ys → x ∷ xs ≡ y ∷ ys
same_cons p q = cc

-- an element by its place, whatever stands for none
pub get_or_map_in : {A B : Type 0} (f : A → B) (l : List A) (i : ℕ) (e : B) (d : A) → i < length l → get_or (map f l) i e ≡ f (get_or l i d)
get_or_map_in f [] i e d h = absurd (not-suc-le-zero h)
get_or_map_in f (x ∷ l) zero e d h = refl
get_or_map_in f (x ∷ l) (suc i) e d h = get_or_map_in f l i e d (le_of_suc-le-suc h)

-- the elements that a test keeps, mapped
pub map_only : {A B : Type 0} (f : A → B) (p : A → Bool) (t : B → Bool) → ((a : A) → t (f a) ≡ p a) → (l : List A) → map f (only p l) ≡ only t (map f l)
unfolding only
map_only f p t e [] = refl
map_only {A} {B} f p t e (x ∷ l) =
    by (p x) (λ q. rw (q, e x, q) (ap (λ (r : List B). f x ∷ r) (map_only f p t e l))) (λ q. rw (q, e x, q) (map_only f p t e l))

pub only_append : {A : Type 0} (p : A → Bool) (k l : List A) → only p (k ++ l) ≡ only p k ++ only p l
unfolding only
only_append p [] l = refl
only_append {A} p (x ∷ k) l = by (p x) (λ q. rw (q, only_append p k l)) (λ q. rw (q, only_append p k l))

-- tests that agree on a list keep the same of it
pub only_same : {A : Type 0} (p q : A → Bool) (l : List A) → ((x : A) → Memᴰ x l → p x ≡ q x) → only p l ≡ only q l
unfolding only
only_same p q [] e = refl
only_same {A} p q (x ∷ l) e =
    let rest = only_same p q l (λ y m. e y (Memᴰ.tail m)) in
    by (q x) (λ t. rw (e x (Memᴰ.head refl), t) (ap (λ (r : List A). x ∷ r) rest)) (λ t. rw (e x (Memᴰ.head refl), t) rest)

-- a test that holds of all keeps all
pub only_all : {A : Type 0} (p : A → Bool) (l : List A) → ((x : A) → Memᴰ x l → p x ≡ true) → only p l ≡ l
unfolding only
only_all p [] e = refl
only_all {A} p (x ∷ l) e = rw (e x (Memᴰ.head refl)) (ap (λ (r : List A). x ∷ r) (only_all p l (λ y m. e y (Memᴰ.tail m))))

-- the elements that a test keeps of one more
pub only_more : {A : Type 0} (p : A → Bool) (l : List A) (i : ℕ) (d : A) → i < length l
    → only p (take (suc i) l) ≡ cond (p (get_or l i d)) (only p (take i l) ++ get_or l i d ∷ []) (only p (take i l))
unfolding only
only_more p l i d h =
    rw (take-suc l i d h, only_append p (take i l) (get_or l i d ∷ []))
    (by (p (get_or l i d)) (λ q. rw q) (λ q. rw (q, append-nil)))
