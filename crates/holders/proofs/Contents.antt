-- The bytes of a chunk: where they lie in its log, and how many they are.
use mathlib.Core.Path.{◌≡◌, sym, ap, subst, ◌∙◌}
use mathlib.Core.List.{List}
use mathlib.Core.Bool.{true}
use Prim.Native.Nat.{ℕ, ◌<◌}
use lib.ListN.{length}
use borrow.Author.Tests.{eqb-true}
use Rattle.lists.proofs.Tests.{and_l}
use Rattle.words.specs.Words.{words}
use Rattle.rules.specs.declared.settings.Settings.{Settings}
use Rattle.rules.specs.Numbers.{is_data, home_of}
use Rattle.rules.specs.Chunks.{Chunk, held, bytes_in}
use Rattle.rules.specs.Derived.{members_from, holder}
use Rattle.rules.specs.Sound.{keys_apart}
use Rattle.rules.proofs.Chunks.{held_in}
use Rattle.rules.proofs.Derived.{first_holder_held}
use Rattle.chunk_log.specs.Log.{chunk_at}
use Rattle.chunk_log.specs.Answers.{FoundAt}
use Rattle.chunk_log.proofs.Rules.{found_bytes}
use Rattle.layout.specs.Layout.{log_codec}
use Rattle.layout.specs.Store.{decode}
use Rattle.lent.specs.Parts.{LogPart}
use Rattle.lent.specs.Stores.{StoreOf}
use Rattle.lent.proofs.Stores.{settings_are, facts}
use Rattle.holders.specs.Members.{LiesAt}

-- those of the row that look-up has found
pub row_bytes : (c : Settings) (l : List Chunk) (bs : List ℕ) → LogPart c l bs → (k row : ℕ) → FoundAt ((log_codec c).dec (words bs)) k row → keys_apart l ≡ true
    → (chunk_at ((log_codec c).dec (words bs)) row).bytes ≡ bytes_in l k
row_bytes c l bs h k row f y =
    let g : FoundAt l k row = subst (λ (x : List Chunk). FoundAt x k row) h.same f in
    ap (λ (x : List Chunk). (chunk_at x row).bytes) h.same ∙ sym (found_bytes k l row y g.in_use g.same)

-- what a reader of a row asks for, of the row where the brick with an id has it
pub row_lies : {c : Settings} {bs : List ℕ} {id k place row : ℕ} → StoreOf c bs → LiesAt c (decode (words bs)) id k place row
    → StoreOf c bs × (place < c.places) × (0 < (decode (words bs)).ids place)
    × (row < length ((decode (words bs)).bricks.log ((decode (words bs)).ids place)))
row_lies v at = (v, at.stands.inside, rw at.stands.here at.stands.some, rw at.stands.here at.found.in_use)

-- the bytes of that row
pub bytes_at_holder : (c : Settings) (bs : List ℕ) → StoreOf c bs → (id k place row : ℕ) → LiesAt c (decode (words bs)) id k place row
    → (chunk_at ((decode (words bs)).bricks.log ((decode (words bs)).ids place)) row).bytes ≡ bytes_in ((decode (words bs)).bricks.log id) k
bytes_at_holder c bs v id k place row at =
    let s = decode (words bs) in
    ap (λ (i : ℕ). (chunk_at (s.bricks.log i) row).bytes) at.stands.here
    ∙ sym (found_bytes k (s.bricks.log id) row ((facts c bs v).logs id).apart at.found.in_use at.found.same)

-- those of a chunk that is held are a block's
held_size : (c : Settings) (bs : List ℕ) → StoreOf c bs → (id key : ℕ) → held ((decode (words bs)).bricks.log id) key ≡ true
    → length (bytes_in ((decode (words bs)).bricks.log id) key) ≡ c.size
unfolding is_data
held_size c bs so id key y =
    let s = decode (words bs) in
    let found = held_in (s.bricks.log id) key y in
    let sized = eqb-true (length found.0.bytes) s.settings.size (and_l _ _ (((facts c bs so).logs id).each found.0 found.1).bytes) in
    ap length found.3 ∙ sized ∙ ap (λ (d : Settings). d.size) (settings_are c bs so)

pub holder_size : (c : Settings) (bs : List ℕ) → StoreOf c bs → (key : ℕ) → 0 < holder (decode (words bs)) key
    → length (bytes_in ((decode (words bs)).bricks.log (holder (decode (words bs)) key)) key) ≡ c.size
holder_size c bs so key o =
    let s = decode (words bs) in
    held_size c bs so (holder s key) key (unfold holder in first_holder_held s.bricks key (members_from s (home_of key)) o)
