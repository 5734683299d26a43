-- Runs of a list, a list with one run changed, and arrays of records of one size.
use Rattle.std.specs.Prelude.{◌≡◌, List, [], ◌∷◌, ◌++◌, ℕ, ◌*◌, ◌<◌, length, take, drop}

-- the n elements from a on
abbrev pub run : ℕ → ℕ → List ℕ → List ℕ
run a n ws = take n (drop a ws)

-- the list with that run changed: what lending a part to a writer does
unfoldable pub on_run : ℕ → ℕ → (List ℕ → List ℕ) → List ℕ → List ℕ
on_run a n f ws = take a ws ++ (f (run a n ws) ++ drop n (drop a ws))

-- part i of a list seen as parts of one size
abbrev pub nth_run : ℕ → ℕ → List ℕ → List ℕ
nth_run size i ws = run (i * size) size ws

-- an array of records: their encodings one after the other
unfoldable pub enc_all : {A : Type 0} → (A → List ℕ) → List A → List ℕ
enc_all enc [] = []
enc_all enc (x ∷ xs) = enc x ++ enc_all enc xs

-- each record's encoding has the size
pub data Sized {A : Type 0} (enc : A → List ℕ) (size : ℕ) : List A → Type 0 where
  none : Sized enc size []
  more : {x : A} {xs : List A} → length (enc x) ≡ size → Sized enc size xs → Sized enc size (x ∷ xs)

-- each element is below n
pub data Below (n : ℕ) : List ℕ → Type 0 where
  none : Below n []
  more : {b : ℕ} {bs : List ℕ} → b < n → Below n bs → Below n (b ∷ bs)
