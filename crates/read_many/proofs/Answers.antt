-- Answers one after the other: how many fit, how they are written, and the outcome of the call.
use mathlib.Core.Path.{◌≡◌, refl, sym, ap, ◌∙◌}
use mathlib.Core.List.{List, [], ◌∷◌, ◌++◌, append_assoc, append-nil}
use mathlib.Core.Bool.{true, false}
use Prim.Native.Nat.{ℕ, ◌+◌, ◌*◌, ◌-◌, ◌≤◌, ◌<◌}
use native.Mathlib.Nat.{suc-mul, mul-le-mul_right}
use native.Mathlib.Numerals.{add-one}
use native.Mathlib.Omega.{arith}
use lib.Dec.{leb}
use lib.ListN.{length, take, drop, get_or, length-append}
use lib.Seq.{length-take-le, take_all, take-suc, take_at, drop_at, drop-drop}
use borrow.Author.Tests.{le-leb, lt-leb, leb-true}
use Rattle.lists.specs.Runs.{enc_all, Sized, none, more}
use Rattle.lists.proofs.Runs.{fits_in, enc_all_append, sized_take, length_enc_all}
use Rattle.lists.proofs.Tests.{and_r, no_first, yes_first}
use Rattle.rules.specs.declared.settings.Settings.{Settings}
use Rattle.layout.specs.Store.{decode_bytes, sound_bytes}
use Rattle.lent.specs.Stores.{StoreOf}
use Rattle.calls.specs.Outcome.{outcome}
use Rattle.read_many.specs.Read.{head, answer_bytes, answer, get_call, get_answer, answers_to, fits, read, read_outcome}
use Rattle.read_many.proofs.Head.{head_length}
use Rattle.read_many.proofs.Gets.{get_area}

-- ---- at most 64 blocks, and room for their answers
pub too_many : (size blocks room : ℕ) → 64 < blocks → false ≡ fits size blocks room
unfolding fits
too_many size blocks room h = sym (no_first _ _ (lt-leb blocks 64 h))

pub few-enough : (size blocks room : ℕ) → blocks ≤ 64 → leb (blocks * (9 + size)) room ≡ fits size blocks room
unfolding fits
few-enough size blocks room h = sym (yes_first _ _ (le-leb blocks 64 h))

pub fits-room : (size blocks room : ℕ) → fits size blocks room ≡ true → blocks * answer_bytes size ≤ room
unfolding fits
fits-room size blocks room y = leb-true _ _ (and_r _ _ y)

pub room_small : (size blocks : ℕ) → size ≤ 8192 → blocks ≤ 64 → blocks * (9 + size) ≤ 64 * 8201
room_small size blocks h k = let most = mul-le-mul_right (9 + size) k in omega (arith, most)

-- ---- one after the other
-- those of the blocks
abbrev pub get_answers : ℕ → List ℕ → ℕ → List ℕ → List ℕ
get_answers size store proxy blocks = enc_all (get_answer size store proxy) blocks

-- after i blocks: their answers, and then what stood there
pub record Written (size : ℕ) (store : List ℕ) (proxy : ℕ) (blocks old now : List ℕ) (i at : ℕ) : Type 0 where
  pub within : i ≤ length blocks
  pub same : length now ≡ length old
  pub begins : at ≡ i * answer_bytes size
  pub holds : now ≡ get_answers size store proxy (take i blocks) ++ drop at old

pub written_none : (size : ℕ) (store : List ℕ) (proxy : ℕ) (blocks old : List ℕ) → Written size store proxy blocks old old 0 0
unfolding enc_all
written_none size store proxy blocks old = record { within = omega arith; same = refl; begins = omega arith; holds = refl }

answers-more : (size : ℕ) (store : List ℕ) (proxy : ℕ) (blocks : List ℕ) (i : ℕ) → i < length blocks
    → get_answers size store proxy (take (i + 1) blocks) ≡ get_answers size store proxy (take i blocks) ++ get_answer size store proxy (get_or blocks i 0)
unfolding enc_all
answers-more size store proxy blocks i h = rw (add-one, take-suc blocks i 0 h, enc_all_append, append-nil)

module _ (c : Settings) (bs : List ℕ) (v : StoreOf c bs) (p : ℕ) where
  pub answer_length : (b : ℕ) → length (get_answer c.size bs p b) ≡ answer_bytes c.size
  unfolding answer
  answer_length b =
      let o = outcome bs (get_call c.size p b) in
      length-append (head o.code o.key) o.area ∙ omega (arith, head_length o.code o.key, get_area c bs v p b)

  pub answers-sized : (blocks : List ℕ) → Sized (get_answer c.size bs p) (answer_bytes c.size) blocks
  answers-sized [] = none
  answers-sized (b ∷ blocks) = more (answer_length b) (answers-sized blocks)

  module _ (blocks old now : List ℕ) (i at : ℕ) (w : Written c.size bs p blocks old now i at) where
    front_length : length (get_answers c.size bs p (take i blocks)) ≡ at
    front_length =
        length_enc_all (get_answer c.size bs p) (answer_bytes c.size) (sized_take (get_answer c.size bs p) (answer_bytes c.size) i (answers-sized blocks))
        ∙ ap (λ (n : ℕ). n * answer_bytes c.size) (length-take-le i blocks w.within) ∙ sym w.begins

    module _ (h : i < length blocks) (k : length blocks * answer_bytes c.size ≤ length old) where
      -- there is room for the next
      pub next_fits : at + answer_bytes c.size ≤ length now
      next_fits = omega (arith, fits_in (answer_bytes c.size) h, w.begins, w.same)

      pub written-more : (part new : List ℕ) → part ≡ get_answer c.size bs p (get_or blocks i 0)
          → new ≡ take at now ++ (part ++ drop (at + answer_bytes c.size - at) (drop at now)) → length new ≡ length now
          → Written c.size bs p blocks old new (i + 1) (at + answer_bytes c.size)
      written-more part new e q l =
          let done : List ℕ = get_answers c.size bs p (take i blocks) in
          let width : at + answer_bytes c.size - at ≡ answer_bytes c.size = omega arith in
          let before : take at now ≡ done = ap (take at) w.holds ∙ take_at done (drop at old) at front_length in
          let after : drop (answer_bytes c.size) (drop at now) ≡ drop (at + answer_bytes c.size) old =
          ap (λ (x : List ℕ). drop (answer_bytes c.size) (drop at x)) w.holds
          ∙ ap (drop (answer_bytes c.size)) (drop_at done (drop at old) at front_length) ∙ drop-drop (answer_bytes c.size) at old in
          record {
            within = omega arith;
            same = l ∙ w.same;
            begins = rw (add-one, suc-mul, ← w.begins) refl;
            holds = q ∙ rw (width, before, after, e, answers-more c.size bs p blocks i h, append_assoc) refl;
          }

    pub written_all : length blocks ≤ i → now ≡ answers_to c.size bs p blocks old
    unfolding answers_to
    written_all h =
        let all : i ≡ length blocks = omega (arith, w.within) in
        w.holds ∙ rw (take_all i blocks h, w.begins, all) refl

-- ---- the call
module _ (store : List ℕ) (proxy : ℕ) (blocks answers : List ℕ) where
  pub read_unsound : sound_bytes store ≡ false → read 2 answers ≡ read_outcome store proxy blocks answers
  unfolding read_outcome
  read_unsound n = rw n refl

  module _ (y : sound_bytes store ≡ true) (size : ℕ) (e : size ≡ (decode_bytes store).settings.size) where
    pub read_none : fits size (length blocks) (length answers) ≡ false → read 3 answers ≡ read_outcome store proxy blocks answers
    unfolding read_outcome
    read_none n = rw (y, ← e, n) refl

    pub read_all : fits size (length blocks) (length answers) ≡ true → (left : List ℕ) → left ≡ answers_to size store proxy blocks answers
        → read 0 left ≡ read_outcome store proxy blocks answers
    unfolding read_outcome
    read_all f left q = rw (y, ← e, f, q) refl
