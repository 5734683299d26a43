-- Laws of a run of elements moved within one list: `paste d at s n` is d with n elements of s from `at` on.
use mathlib.Core.Path.{◌≡◌, sym, ap, ◌∙◌}
use mathlib.Core.List.{List, ◌++◌, append_assoc}
use Prim.Native.Nat.{ℕ, ◌+◌, ◌-◌, ◌≤◌, ◌<◌}
use native.Mathlib.Nat.{add_assoc}
use native.Mathlib.Numerals.{add-one}
use native.Mathlib.Omega.{arith}
use lib.ListN.{length, take, drop, get_or, set, replicate, length-drop, length-replicate, get_or-replicate}
use lib.Seq.{drop_at, take-add, take-take, drop-drop, take-append-le, length-take-le, paste, paste-suc, length-paste, take-paste, drop-paste}

-- the run made longer at its end, and at its front
paste_more : (d : List ℕ) (at : ℕ) (s : List ℕ) (i k : ℕ) → at + i ≤ length d → i ≤ length s
    → paste (paste d at s i) (at + i) (drop i s) k ≡ paste d at s (i + k)
paste_more d at s i k hd hs =
    let e : drop (at + i + k) (paste d at s i) ≡ drop (at + (i + k)) d =
    sym (drop-drop k (at + i) (paste d at s i)) ∙ ap (drop k) (drop-paste d at s i (omega arith) hs) ∙ drop-drop k (at + i) d
    ∙ ap (λ (j : ℕ). drop j d) (add_assoc at i k) in
    rw (take-paste d at s i (omega arith) hs, e, take-add i k s, append_assoc (take at d) (take i s) (take k (drop i s)))

paste_front : (d : List ℕ) (at : ℕ) (s : List ℕ) (k m : ℕ) → at + k ≤ length d
    → paste (paste d (at + k) (drop k s) m) at s k ≡ paste d at s (k + m)
paste_front d at s k m hd =
    let front : List ℕ = take (at + k) d in
    let rest : List ℕ = take m (drop k s) ++ drop (at + k + m) d in
    let l : length front ≡ at + k = length-take-le (at + k) d hd in
    let t : take at (front ++ rest) ≡ take at d =
    take-append-le at front rest (omega arith) ∙ take-take at (at + k) d (omega arith) in
    rw (append_assoc front (take m (drop k s)) (drop (at + k + m) d), t, drop_at front rest (at + k) l, take-add k m s, add_assoc at k m)
    (simp append_assoc)

-- the turns of the loops that move k words: those that are read have not been written yet
pub down_turn : (w : List ℕ) (from to n i k : ℕ) → to ≤ from → from + n ≤ length w → i + k ≤ n
    → paste (paste w to (drop from w) i) (to + i) (drop (from + i) (paste w to (drop from w) i)) k ≡ paste w to (drop from w) (i + k)
down_turn w from to n i k h hl hi =
    let hs : i ≤ length (drop from w) = rw length-drop (omega arith) in
    let f : to + i + (from - to) ≡ from + i = omega arith in
    let e : drop (from + i) (paste w to (drop from w) i) ≡ drop i (drop from w) =
    ap (λ (j : ℕ). drop j (paste w to (drop from w) i)) (sym f) ∙ sym (drop-drop (from - to) (to + i) (paste w to (drop from w) i))
    ∙ ap (drop (from - to)) (drop-paste w to (drop from w) i (omega arith) hs) ∙ drop-drop (from - to) (to + i) w
    ∙ ap (λ (j : ℕ). drop j w) f ∙ sym (drop-drop i from w) in
    rw e (paste_more w to (drop from w) i k (omega arith) hs)

same_run : (d w : List ℕ) (a k : ℕ) → a ≤ length d → a ≤ length w → take (a + k) d ≡ take (a + k) w → take k (drop a d) ≡ take k (drop a w)
same_run d w a k hd hw e =
    sym (drop_at (take a d) (take k (drop a d)) a (length-take-le a d hd)) ∙ ap (drop a) (sym (take-add a k d) ∙ e ∙ take-add a k w)
    ∙ drop_at (take a w) (take k (drop a w)) a (length-take-le a w hw)

pub up_turn : (w : List ℕ) (from to n l j k : ℕ) → from ≤ to → to + n ≤ length w → l ≤ n → l ≡ j + k
    → paste (paste w (to + l) (drop (from + l) w) (n - l)) (to + j) (drop (from + j) (paste w (to + l) (drop (from + l) w) (n - l))) k
    ≡ paste w (to + j) (drop (from + j) w) (n - j)
up_turn w from to n l j k h hl hn el =
    let d : List ℕ = paste w (to + l) (drop (from + l) w) (n - l) in
    let front : List ℕ = take (to + l) w in
    let lf : length front ≡ to + l = length-take-le (to + l) w (omega arith) in
    let ld : length d ≡ length w = length-paste w (to + l) (drop (from + l) w) (n - l) (omega arith) (rw length-drop (omega arith)) in
    let td : take (from + j + k) d ≡ take (from + j + k) w =
    ap (take (from + j + k)) (append_assoc front (take (n - l) (drop (from + l) w)) (drop (to + l + (n - l)) w))
    ∙ take-append-le (from + j + k) front (take (n - l) (drop (from + l) w) ++ drop (to + l + (n - l)) w) (omega arith)
    ∙ take-take (from + j + k) (to + l) w (omega arith) in
    let read : take k (drop (from + j) d) ≡ take k (drop (from + j) w) = same_run d w (from + j) k (omega arith) (omega arith) td in
    let et : to + l ≡ to + j + k = omega arith in
    let ef : from + l ≡ from + j + k = omega arith in
    let en : k + (n - l) ≡ n - j = omega arith in
    ap (λ (r : List ℕ). take (to + j) d ++ r ++ drop (to + j + k) d) read
    ∙ rw (et, ef, ← drop-drop k (from + j) w, ← en) (paste_front w (to + j) (drop (from + j) w) k (n - l) (omega arith))

-- one word more of a list
pub put_turn : (w : List ℕ) (at : ℕ) (l : List ℕ) (i : ℕ) → at + length l ≤ length w → i < length l
    → set (paste w at l i) (at + i) (get_or l i 0) ≡ paste w at l (i + 1)
put_turn w at l i hl hi = rw (add-one i) (paste-suc w at l i 0 (omega arith) hi)

pub fill_turn : (w : List ℕ) (at n v i : ℕ) → at + n ≤ length w → i < n
    → set (paste w at (replicate n v) i) (at + i) v ≡ paste w at (replicate n v) (i + 1)
fill_turn w at n v i hl hi =
    let e : length (replicate n v) ≡ n = length-replicate n v in
    ap (set (paste w at (replicate n v) i) (at + i)) (sym (get_or-replicate n i v 0 hi))
    ∙ put_turn w at (replicate n v) i (omega arith) (omega arith)
