-- Laws of `onto`.
use mathlib.Core.Path.{◌≡◌, sym, ap, ◌∙◌}
use mathlib.Core.List.{List, [], ◌∷◌, ◌++◌, append_assoc, append-nil}
use Prim.Native.Nat.{ℕ, ◌+◌, ◌-◌, ◌≤◌, ◌<◌}
use native.Mathlib.Nat.{add-zero, zero-add, add_assoc}
use native.Mathlib.Numerals.{add-one}
use native.Mathlib.Omega.{arith}
use lib.ListN.{length, take, drop, set, length-append, length-drop, take-append-drop, drop_of_length-le}
use lib.Seq.{drop-drop, take_at, drop_at, length-take-le, set_split, take_all}
use Rattle.area.specs.Area.{onto}

-- nothing written
pub onto_nothing : (at : ℕ) (l : List ℕ) → onto at [] l ≡ l
unfolding onto
onto_nothing at l = rw add-zero (take-append-drop at l)

-- one byte
pub onto_byte : (at b : ℕ) (l : List ℕ) → at < length l → set l at b ≡ onto at (b ∷ []) l
unfolding onto
onto_byte at b l h = set_split l at b h ∙ ap (λ (k : ℕ). take at l ++ b ∷ drop k l) (sym (add-one at))

-- a text and then another are one text
pub onto_onto : (at : ℕ) (t u l : List ℕ) → at + length t ≤ length l → onto (at + length t) u (onto at t l) ≡ onto at (t ++ u) l
unfolding onto
onto_onto at t u l h =
    let rest : List ℕ = drop (at + length t) l in
    let front : List ℕ = take at l ++ t in
    let lf : length front ≡ at + length t = length-append (take at l) t ∙ ap (λ (k : ℕ). k + length t) (length-take-le at l (omega arith)) in
    let whole : take at l ++ (t ++ rest) ≡ front ++ rest = sym (append_assoc (take at l) t rest) in
    let et : take (at + length t) (take at l ++ (t ++ rest)) ≡ front = ap (take (at + length t)) whole ∙ take_at front rest (at + length t) lf in
    let ed : drop (at + length t + length u) (take at l ++ (t ++ rest)) ≡ drop (length u) rest =
    sym (drop-drop (length u) (at + length t) (take at l ++ (t ++ rest)))
    ∙ ap (drop (length u)) (ap (drop (at + length t)) whole ∙ drop_at front rest (at + length t) lf) in
    let er : drop (length u) rest ≡ drop (at + length (t ++ u)) l =
    drop-drop (length u) (at + length t) l ∙ ap (λ (k : ℕ). drop k l) (add_assoc at (length t) (length u) ∙ ap (λ (k : ℕ). at + k) (sym (length-append t u))) in
    rw (et, ed, er) (append_assoc (take at l) t (u ++ drop (at + length (t ++ u)) l)
    ∙ ap (λ (r : List ℕ). take at l ++ r) (sym (append_assoc t u (drop (at + length (t ++ u)) l))))

-- the same, as two calls leave it
pub onto_then : (at next : ℕ) (t u l m n : List ℕ) → at + length t ≤ length l → next ≡ at + length t
    → m ≡ onto at t l → n ≡ onto next u m → n ≡ onto at (t ++ u) l
onto_then at next t u l m n h e em en = en ∙ rw (e, em) (onto_onto at t u l h)

-- a part &mut area[at..] that was lent, and written at its front
pub onto_part : (at : ℕ) (t l p : List ℕ) → at ≤ length l → p ≡ onto 0 t (take (length l - at) (drop at l))
    → take at l ++ (p ++ drop (length l - at) (drop at l)) ≡ onto at t l
unfolding onto
onto_part at t l p h e =
    let ld : length (drop at l) ≡ length l - at = length-drop at l in
    let all : take (length l - at) (drop at l) ≡ drop at l = take_all (length l - at) (drop at l) (omega arith) in
    let gone : drop (length l - at) (drop at l) ≡ [] = drop_of_length-le (drop at l) {i = length l - at} (omega arith) in
    rw (gone, append-nil, e, all, zero-add, drop-drop (length t) at l)
