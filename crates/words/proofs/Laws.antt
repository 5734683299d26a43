-- Laws of words in bytes: a word read, a word written, parts, and the way there and back.
use mathlib.Core.Path.{◌≡◌, refl, sym, ap, ◌∙◌}
use mathlib.Core.List.{List, [], ◌∷◌, ◌++◌}
use Prim.Native.Nat.{ℕ, zero, suc, ◌+◌, ◌-◌, ◌*◌, ◌/◌, ◌%◌, ◌^◌, ◌≤◌, ◌<◌}
use native.Mathlib.Nat.{one-le-pow, div-div-eq-div-mul, pow-suc, div-lt_iff_lt-mul, not-suc-le-zero, le_of_suc-le-suc, zero-add, suc-add}
use native.Mathlib.Numerals.{add-one}
use native.Mathlib.Omega.{arith}
use lib.Dec.{lit<}
use lib.ListN.{length, length-take, take, drop, get_or, set, length-append, length-drop, take-append-drop, drop_of_length-le}
use lib.Seq.{drop-drop, take-append-le, drop-append-le, take_at, drop_at, length-take-le, set_split}
use Rattle.lists.specs.Runs.{run, on_run, Below, none, more}
use Rattle.lists.proofs.Runs.{below_take, below_drop, below_append}
use Rattle.std.specs.Simd.{first_chunks}
use Rattle.std.specs.Int.{w64, from_le_bytes, to_le_bytes}
use Rattle.words.specs.Words.{le_bytes, bytes_of, first_words, words, unwords}

pub length_first_words : (n : ℕ) (s : List ℕ) → length (first_words n s) ≡ n
unfolding first_words
length_first_words zero s = refl
length_first_words (suc n) s = ap suc (length_first_words n (drop 8 s))

pub length_words : (s : List ℕ) → length (words s) ≡ length s / 8
unfolding words
length_words s = length_first_words (length s / 8) s

first_words_at : (n i : ℕ) (s : List ℕ) → i < n → get_or (first_words n s) i 0 ≡ le_bytes (take 8 (drop (8 * i) s))
unfolding first_words
first_words_at zero i s h = absurd (not-suc-le-zero h)
first_words_at (suc n) zero s h = refl
first_words_at (suc n) (suc i) s h =
    let e : 8 + 8 * i ≡ 8 * suc i = omega arith in
    first_words_at n i (drop 8 s) (le_of_suc-le-suc h)
    ∙ ap (λ (l : List ℕ). le_bytes (take 8 l)) (drop-drop (8 * i) 8 s ∙ ap (λ (k : ℕ). drop k s) e)

pub words_at : (s : List ℕ) (i : ℕ) → 8 * i + 8 ≤ length s → get_or (words s) i 0 ≡ le_bytes (take 8 (drop (8 * i) s))
unfolding words
words_at s i h = first_words_at (length s / 8) i s (omega arith)

-- eight bytes as the library spells them
next : (bs : List ℕ) (k : ℕ) → le_bytes (drop k bs) ≡ get_or bs k 0 + 256 * le_bytes (drop (suc k) bs)
unfolding le_bytes
next [] zero = refl
next [] (suc k) = refl
next (b ∷ bs) zero = refl
next (b ∷ bs) (suc k) = next bs k

spelled : (bs : List ℕ) → length bs ≡ 8 → from_le_bytes w64 bs ≡ le_bytes bs
unfolding le_bytes
spelled bs e =
    let l : length bs ≤ 8 = omega arith in
    let end : le_bytes (drop 8 bs) ≡ 0 = ap le_bytes (drop_of_length-le bs l) in
    omega (arith, next bs 0, next bs 1, next bs 2, next bs 3, next bs 4, next bs 5, next bs 6, next bs 7)

chunk_at : (n i : ℕ) (s : List ℕ) → i < n → get_or (first_chunks 8 n s) i [] ≡ take 8 (drop (8 * i) s)
chunk_at zero i s h = absurd (not-suc-le-zero h)
chunk_at (suc n) zero s h = refl
chunk_at (suc n) (suc i) s h =
    let e : 8 + 8 * i ≡ 8 * suc i = omega arith in
    chunk_at n i (drop 8 s) (le_of_suc-le-suc h) ∙ ap (take 8) (drop-drop (8 * i) 8 s ∙ ap (λ (k : ℕ). drop k s) e)

-- a word read
pub word_read : (s : List ℕ) (i : ℕ) (l : List (List ℕ)) → 8 * i + 8 ≤ length s → l ≡ first_chunks 8 (length s / 8) s
    → from_le_bytes w64 (get_or l i []) ≡ get_or (words s) i 0
word_read s i l h e =
    let long : length (take 8 (drop (8 * i) s)) ≡ 8 = length-take-le 8 (drop (8 * i) s) (rw length-drop (omega arith)) in
    ap (from_le_bytes w64) (ap (λ (x : List (List ℕ)). get_or x i []) e ∙ chunk_at (length s / 8) i s (omega arith))
    ∙ spelled (take 8 (drop (8 * i) s)) long ∙ sym (words_at s i h)

-- words of two lists one after the other
skip : (n : ℕ) (s : List ℕ) → drop (8 * n) (drop 8 s) ≡ drop (8 * suc n) s
skip n s =
    let e : 8 + 8 * n ≡ 8 * suc n = omega arith in
    drop-drop (8 * n) 8 s ∙ ap (λ (k : ℕ). drop k s) e

first_words_add : (n m : ℕ) (s : List ℕ) → first_words (n + m) s ≡ first_words n s ++ first_words m (drop (8 * n) s)
unfolding first_words
first_words_add zero m s = rw zero-add
first_words_add (suc n) m s = rw (suc-add, first_words_add n m (drop 8 s), skip n s)

first_words_front : (n : ℕ) (a b : List ℕ) → 8 * n ≤ length a → first_words n (a ++ b) ≡ first_words n a
unfolding first_words
first_words_front zero a b h = refl
first_words_front (suc n) a b h =
    let h8 : 8 ≤ length a = omega arith in
    let hd : 8 * n ≤ length (drop 8 a) = rw (length-drop 8 a) (omega arith) in
    rw (take-append-le 8 a b h8, drop-append-le 8 a b h8, first_words_front n (drop 8 a) b hd)

pub words_append : (k : ℕ) (a b : List ℕ) → length a ≡ 8 * k → words (a ++ b) ≡ words a ++ words b
unfolding words
words_append k a b e =
    let ea : length a / 8 ≡ k = omega arith in
    let eab : length (a ++ b) / 8 ≡ k + length b / 8 = rw length-append (omega arith) in
    rw (eab, ea, first_words_add k (length b / 8) (a ++ b), first_words_front k a b (omega arith), drop_at a b (8 * k) e)

-- parts, where a start and a count are whole words
module _ (s : List ℕ) (k o : ℕ) (e : o ≡ 8 * k) (h : o ≤ length s) where
  split : words s ≡ words (take o s) ++ words (drop o s)
  split = ap words (sym (take-append-drop o s)) ∙ words_append k (take o s) (drop o s) (length-take-le o s h ∙ e)

  front_length : length (words (take o s)) ≡ k
  front_length = rw (length_words, length-take-le o s h) (omega arith)

  pub words_take : words (take o s) ≡ take k (words s)
  words_take = sym (ap (take k) split ∙ take_at (words (take o s)) (words (drop o s)) k front_length)

  pub words_drop : words (drop o s) ≡ drop k (words s)
  words_drop = sym (ap (drop k) split ∙ drop_at (words (take o s)) (words (drop o s)) k front_length)

-- a number that fits n bytes is what its bytes spell
pub le_bytes_of : (n x : ℕ) → x < 256 ^ n → le_bytes (bytes_of n x) ≡ x
unfolding le_bytes bytes_of
le_bytes_of zero x h = omega arith
le_bytes_of (suc n) x h =
    let q : x / 256 < 256 ^ n = (div-lt_iff_lt-mul (lit< tt)).1 (rw pow-suc at h) in
    rw (le_bytes_of n (x / 256) q) (omega arith)

length_bytes_of : (n x : ℕ) → length (bytes_of n x) ≡ n
unfolding bytes_of
length_bytes_of zero x = refl
length_bytes_of (suc n) x = ap suc (length_bytes_of n (x / 256))

words_one : (v : ℕ) → v < 2 ^ 64 → words (bytes_of 8 v) ≡ v ∷ []
unfolding words first_words bytes_of
words_one v h = ap (λ (x : ℕ). x ∷ []) (le_bytes_of 8 v h)

-- ---- there and back

pub bytes_of_le : {bs : List ℕ} → Below 256 bs → bytes_of (length bs) (le_bytes bs) ≡ bs
unfolding le_bytes bytes_of
bytes_of_le none = refl
bytes_of_le (more {b} {bs} h r) =
    let m : (b + 256 * le_bytes bs) % 256 ≡ b = omega arith in
    let q : (b + 256 * le_bytes bs) / 256 ≡ le_bytes bs = omega arith in
    rw (m, q, bytes_of_le r)

pub words_unwords : {ws : List ℕ} → Below (2 ^ 64) ws → words (unwords ws) ≡ ws
unfolding unwords words first_words
words_unwords none = refl
words_unwords (more {b} {bs} h r) =
    rw (words_append 1 (bytes_of 8 b) (unwords bs) (length_bytes_of 8 b), words_one b h, words_unwords r)

unwords_first : (n : ℕ) (s : List ℕ) → Below 256 s → length s ≡ 8 * n → unwords (first_words n s) ≡ s
unfolding unwords first_words
unwords_first zero [] h e = refl
unwords_first zero (x ∷ s) h e = let z : ◌≡◌ {A = ℕ} 0 1 = omega arith in absurd (omega arith)
unwords_first (suc n) s h e =
    let t8 : length (take 8 s) ≡ 8 = length-take-le 8 s (omega arith) in
    let dl : length (drop 8 s) ≡ 8 * n = length-drop 8 s ∙ omega arith in
    let first : bytes_of 8 (le_bytes (take 8 s)) ≡ take 8 s = rw t8 at (bytes_of_le (below_take 8 h)) in
    rw (first, unwords_first n (drop 8 s) (below_drop 8 h) dl, take-append-drop 8 s)

-- a word of bytes has 64 bits
le_bytes_below : (n : ℕ) {bs : List ℕ} → length bs ≤ n → Below 256 bs → le_bytes bs < 256 ^ n
unfolding le_bytes
le_bytes_below n h none = one-le-pow n 256 (lit< tt)
le_bytes_below zero h (more l r) = absurd (not-suc-le-zero h)
le_bytes_below (suc n) h (more l r) = let z = le_bytes_below n (le_of_suc-le-suc h) r in rw pow-suc (omega arith)

first_words_below : (n : ℕ) (s : List ℕ) → Below 256 s → Below (2 ^ 64) (first_words n s)
unfolding first_words
first_words_below zero s h = none
first_words_below (suc n) s h =
    more (le_bytes_below 8 (rw length-take (omega arith)) (below_take 8 h)) (first_words_below n (drop 8 s) (below_drop 8 h))

pub words_below : {s : List ℕ} → Below 256 s → Below (2 ^ 64) (words s)
unfolding words
words_below {s} h = first_words_below (length s / 8) s h

pub length_unwords : (ws : List ℕ) → length (unwords ws) ≡ 8 * length ws
unfolding unwords
length_unwords [] = refl
length_unwords (x ∷ ws) = rw (length-append, length_unwords ws, length_bytes_of 8 x) (omega arith)

bytes_below : (n x : ℕ) → Below 256 (bytes_of n x)
unfolding bytes_of
bytes_below zero x = none
bytes_below (suc n) x = more {b = x % 256} (omega arith) (bytes_below n (x / 256))

pub unwords_below : (ws : List ℕ) → Below 256 (unwords ws)
unfolding unwords
unwords_below [] = none
unwords_below (x ∷ ws) = below_append (bytes_below 8 x) (unwords_below ws)

-- bytes are determined by their words
pub unwords_words : (s : List ℕ) (n : ℕ) → Below 256 s → length s ≡ 8 * n → unwords (words s) ≡ s
unfolding words
unwords_words s n h e =
    let q : length s / 8 ≡ n = omega arith in
    rw q (unwords_first n s h e)

-- so many whole words are there
pub room : (s : List ℕ) (k : ℕ) → 8 * k ≤ length s → k ≤ length (words s)
room s k h = rw length_words (omega arith)

-- a part of n whole words from word a that is lent, &s[o..o + k]: what it holds, and the whole when it comes back
module _ (s : List ℕ) (o k a n : ℕ) (eo : o ≡ 8 * a) (ek : k ≡ 8 * n) (h : 8 * a + 8 * n ≤ length s) where
  inner : k ≤ length (drop o s)
  inner = rw length-drop (omega arith)

  pub words_part : words (take k (drop o s)) ≡ run a n (words s)
  words_part = rw (words_take (drop o s) n k ek inner, words_drop s a o eo (omega arith))

  pub words_back : (t : List ℕ) → length t ≡ 8 * n
      → words (take o s ++ (t ++ drop k (drop o s))) ≡ take a (words s) ++ (words t ++ drop n (drop a (words s)))
  words_back t e =
      words_append a (take o s) (t ++ drop k (drop o s)) (length-take-le o s (omega arith) ∙ eo)
      ∙ rw (words_append n t (drop k (drop o s)) e, words_take s a o eo (omega arith), words_drop (drop o s) n k ek inner, words_drop s a o eo (omega arith))

-- a word written: its bytes, as the library makes them, put in the place of another's
made : (v : ℕ) → to_le_bytes w64 v ≡ bytes_of 8 v
unfolding bytes_of
made v = simp div-div-eq-div-mul

pub word_written : (s t : List ℕ) (i v : ℕ) → 8 * i + 8 ≤ length s → v < 2 ^ 64 → t ≡ to_le_bytes w64 v
    → words (take (8 * i) s ++ (t ++ drop (8 * i + 8 - 8 * i) (drop (8 * i) s))) ≡ set (words s) i v
word_written s t i v h hv e =
    let et : t ≡ bytes_of 8 v = e ∙ made v in
    let l : i < length (words s) = rw length_words (omega arith) in
    words_back s (8 * i) (8 * i + 8 - 8 * i) i 1 refl (omega arith) (omega arith) t (ap length et ∙ length_bytes_of 8 v)
    ∙ rw (et, words_one v hv, drop-drop 1 i (words s), add-one i, set_split (words s) i v l) refl

-- part &mut s[o..o + k] lent to a callee that makes f of its words
pub lent_run : (s t : List ℕ) (o k a n : ℕ) (f : List ℕ → List ℕ) → o ≡ 8 * a → k ≡ 8 * n → 8 * a + 8 * n ≤ length s → length t ≡ 8 * n
    → words t ≡ f (words (take k (drop o s))) → words (take o s ++ (t ++ drop k (drop o s))) ≡ on_run a n f (words s)
unfolding on_run
lent_run s t o k a n f eo ek h lt et = rw (words_back s o k a n eo ek h t lt, et, words_part s o k a n eo ek h)
