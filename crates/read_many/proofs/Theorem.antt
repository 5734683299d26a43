-- A read leaves what the gets of its blocks leave one by one, and what a caller reads from its answers is what they are answered.
use mathlib.Core.Path.{◌≡◌, refl, sym, ap, subst, ◌∙◌}
use mathlib.Core.List.{List, [], ◌∷◌, ◌++◌, append_assoc}
use mathlib.Core.Bool.{Bool, true, false}
use Prim.Native.Nat.{ℕ, ◌*◌}
use native.Mathlib.Omega.{arith}
use lib.ListN.{length, take, drop}
use lib.Seq.{take_at, drop_at}
use Rattle.lists.specs.Runs.{enc_all, Below}
use Rattle.lists.proofs.Lists.{same_cons}
use Rattle.lists.proofs.Tests.{by}
use Rattle.words.specs.Words.{words}
use Rattle.rules.specs.declared.settings.Settings.{Settings}
use Rattle.layout.specs.Layout.{settings_of}
use Rattle.layout.specs.Store.{decode_bytes, sound_bytes}
use Rattle.lent.specs.Stores.{StoreOf}
use Rattle.lent.proofs.Stores as stores
use Rattle.calls.specs.Outcome.{outcomes, store_after}
use Rattle.calls.specs.Claim.{answered_calls}
use Rattle.calls.proofs.Performed.{sound_store, store_sound}
use Rattle.reads.proofs.Outcomes.{size_is}
use Rattle.read_many.specs.Read.{answer_bytes, answer, get_answer, answers_to, fits, Read, read, read_outcome}
use Rattle.read_many.specs.Claim.{gets_of, OneByOne, ReadTheorem, answered_block, answered_blocks}
use Rattle.read_many.proofs.Answers.{get_answers, answer_length, read_unsound, read_none, read_all}
use Rattle.read_many.proofs.Gets.{get_keeps, get_answer_read}

-- ---- all blocks, on a sound store
module _ (c : Settings) (bs : List ℕ) (v : StoreOf c bs) (b : Below 256 bs) (proxy : ℕ) where
  abbrev answers : List ℕ → List ℕ
  answers blocks = get_answers c.size bs proxy blocks

  pub gets_keep : (blocks : List ℕ) → store_after bs (gets_of c.size proxy blocks) ≡ bs
  unfolding store_after
  gets_keep [] = refl
  gets_keep (block ∷ blocks) = ap (λ (s : List ℕ). store_after s (gets_of c.size proxy blocks)) (get_keeps c bs v proxy block b) ∙ gets_keep blocks

  gets_answered : (blocks : List ℕ) → answers blocks ≡ enc_all answer (outcomes bs (gets_of c.size proxy blocks))
  unfolding outcomes enc_all
  gets_answered [] = refl
  gets_answered (block ∷ blocks) =
      ap (λ (l : List ℕ). get_answer c.size bs proxy block ++ l)
      (gets_answered blocks ∙ ap (λ (s : List ℕ). enc_all answer (outcomes s (gets_of c.size proxy blocks))) (sym (get_keeps c bs v proxy block b)))

  -- whatever follows the answers
  answers_read : (blocks rest : List ℕ) → answered_blocks c.size bs proxy blocks (answers blocks ++ rest) ≡ answered_calls c.size bs (gets_of c.size proxy blocks)
  unfolding answered_blocks answered_calls enc_all
  answers_read [] rest = refl
  answers_read (block ∷ blocks) rest =
      let first : List ℕ = get_answer c.size bs proxy block in
      let more : List ℕ = answers blocks ++ rest in
      let parted : (first ++ answers blocks) ++ rest ≡ first ++ more = append_assoc first (answers blocks) rest in
      let n = answer_length c bs v proxy block in
      same_cons
      (ap (λ (l : List ℕ). answered_block bs proxy block (take (answer_bytes c.size) l)) parted
      ∙ ap (answered_block bs proxy block) (take_at first more (answer_bytes c.size) n)
      ∙ get_answer_read c bs v proxy block)
      (ap (λ (l : List ℕ). answered_blocks c.size bs proxy blocks (drop (answer_bytes c.size) l)) parted
      ∙ ap (answered_blocks c.size bs proxy blocks) (drop_at first more (answer_bytes c.size) n)
      ∙ answers_read blocks rest
      ∙ ap (λ (s : List ℕ). answered_calls c.size s (gets_of c.size proxy blocks)) (sym (get_keeps c bs v proxy block b)))

  one_by_one : (blocks lent : List ℕ) → OneByOne c.size bs proxy blocks lent (answers_to c.size bs proxy blocks lent)
  unfolding answers_to
  one_by_one blocks lent = record {
    kept = gets_keep blocks;
    answered = ap (λ (l : List ℕ). l ++ drop (length blocks * answer_bytes c.size) lent) (gets_answered blocks);
  }

-- ---- code 0 says that both questions were answered yes
module _ (bs : List ℕ) (proxy : ℕ) (blocks lent : List ℕ) where
  abbrev r : Read
  r = read_outcome bs proxy blocks lent

  abbrev room : Bool
  room = fits (decode_bytes bs).settings.size (length blocks) (length lent)

  zero_sound : r.code ≡ 0 → sound_bytes bs ≡ true
  zero_sound z =
      by (sound_bytes bs) (λ y. y) (λ n. let e : 2 ≡ r.code = ap (λ (x : Read). x.code) (read_unsound bs proxy blocks lent n) in absurd (omega (arith, e, z)))

  zero_fits : r.code ≡ 0 → room ≡ true
  zero_fits z =
      by room (λ y. y)
      (λ n. let e : 3 ≡ r.code = ap (λ (x : Read). x.code) (read_none bs proxy blocks lent (zero_sound z) _ refl n) in absurd (omega (arith, e, z)))

-- ---- the outcome of a read on a sound store
module _ (c : Settings) (bs : List ℕ) (v : StoreOf c bs) (proxy : ℕ) (blocks lent : List ℕ) where
  passes : sound_bytes bs ≡ true
  passes = sound_store bs (stores.sound_store c bs v)

  pub none_read : fits c.size (length blocks) (length lent) ≡ false → read 3 lent ≡ read_outcome bs proxy blocks lent
  unfolding decode_bytes
  none_read n = read_none bs proxy blocks lent passes c.size (size_is c bs v) n

  module _ (f : fits c.size (length blocks) (length lent) ≡ true) where
    pub all_read : read 0 (answers_to c.size bs proxy blocks lent) ≡ read_outcome bs proxy blocks lent
    unfolding decode_bytes
    all_read = read_all bs proxy blocks lent passes c.size (size_is c bs v) f _ refl

    -- what a caller reads from the answers is what the gets are answered
    pub read_answered : Below 256 bs
        → answered_blocks c.size bs proxy blocks (read_outcome bs proxy blocks lent).left ≡ answered_calls c.size bs (gets_of c.size proxy blocks)
    unfolding answers_to
    read_answered b = ap (λ (x : Read). answered_blocks c.size bs proxy blocks x.left) (sym all_read) ∙ answers_read c bs v b proxy blocks _

pub read_theorem : ReadTheorem
unfolding decode_bytes
read_theorem bs proxy blocks lent b z =
    let c : Settings = settings_of (words bs) in
    let y = zero_sound bs proxy blocks lent z in
    let v : StoreOf c bs = stores.store_of bs (store_sound bs y) c refl in
    let size = size_is c bs v in
    let f : fits c.size (length blocks) (length lent) ≡ true =
    ap (λ (n : ℕ). fits n (length blocks) (length lent)) size ∙ zero_fits bs proxy blocks lent z in
    subst (λ (n : ℕ). OneByOne n bs proxy blocks lent (read_outcome bs proxy blocks lent).left) size
    (subst (λ (x : Read). OneByOne c.size bs proxy blocks lent x.left) (all_read c bs v proxy blocks lent f) (one_by_one c bs v b proxy blocks lent))
