-- A brick's log changed: in the state, and in the words of its place.
use mathlib.Core.Path.{◌≡◌, refl, ap, ◌∙◌}
use mathlib.Core.List.{List}
use Prim.Native.Nat.{ℕ, ◌/◌, ◌<◌}
use native.Mathlib.Omega.{arith}
use lib.ListN.{length, get_or}
use Rattle.lists.specs.Runs.{run, on_run}
use Rattle.lists.proofs.Columns.{upd_same, upd_other}
use Rattle.words.specs.Words.{words}
use Rattle.rules.specs.declared.settings.Settings.{Settings}
use Rattle.rules.specs.Chunks.{Chunk}
use Rattle.rules.specs.State.{State, set_bricks, with_log}
use Rattle.chunk_log.proofs.Codec.{dec_length}
use Rattle.codec.specs.Codec.{change}
use Rattle.codec.proofs.Focus.{part_length}
use Rattle.codec.proofs.Changes.{part_stays, value_changed}
use Rattle.layout.specs.Contents.{Place}
use Rattle.layout.specs.Layout.{log_codec, place_codec, log_words, log_at}
use Rattle.layout.specs.Store.{decode}
use Rattle.layout.proofs.Foci.{log_of}
use Rattle.lent.specs.Places.{HoldsBrick, on_log}
use Rattle.lent.proofs.LentPlace.{ChangesPlace, Filled, brick_changes, LentPlace, part, part_read, part_brick}
use Rattle.lent.proofs.PlaceSteps.{place_wide}
use Rattle.writes.specs.Logs.{AppendFits}

pub log_changes : (s : State) (p : ℕ) → Filled s p → (f : List Chunk → List Chunk)
    → ChangesPlace s (set_bricks s (with_log s.bricks (s.ids p) (f (s.bricks.log (s.ids p))))) p (on_log f)
log_changes s p at f =
    let id = s.ids p in
    let new = f (s.bricks.log id) in
    brick_changes s (set_bricks s (with_log s.bricks id new)) p (on_log f) at refl
    (record {
      head = refl;
      agreed = refl;
      proxy = refl;
      bag = refl;
      ids = refl;
      others = λ i n. rw (upd_other s.bricks.log id i new n);
    })
    (rw (upd_same s.bricks.log id new))

-- ---- a place whose brick is s in words, and a after some steps that left the log; v are the bytes then
module _ (c : Settings) (s : List ℕ) (k : HoldsBrick c (words s) (length s)) (a : Place) (z : 0 < a.fst)
    (left : a.snd.log ≡ ((place_codec c).dec (words s)).snd.log) (v : List ℕ) (same : words v ≡ (place_codec c).enc a (words s))
    (long : length v ≡ length s) where
  there : (log_of c).Else ((place_codec c).dec (words s)) ((place_codec c).dec (words s))
  there = ((refl, k.filled), ((refl, refl), refl))

  still : run (log_at c) (log_words c) (words v) ≡ run (log_at c) (log_words c) (words s)
  still =
      ap (run (log_at c) (log_words c)) same ∙ part_stays (log_of c) (words s) (place_wide c s k) k.clean there a ((refl, z), ((refl, refl), refl)) left

  pub append_fits : (bytes : List ℕ) → get_or (run (log_at c) (log_words c) (words s)) 0 0 < c.chunks → length bytes ≡ c.size
      → AppendFits c (words v) (length v) bytes
  append_fits bytes room size = record {
    log = record { place = record { limits = k.limits; size = long ∙ k.size; log = rw still k.log }; room = rw still room };
    whole = size;
  }

  pub log_grown : (f : List Chunk → List Chunk) → on_run (log_at c) (log_words c) (change (log_codec c) f) (words v) ≡ (place_codec c).enc (on_log f a) (words s)
  log_grown f =
      ap (on_run (log_at c) (log_words c) (change (log_codec c) f)) same
      ∙ value_changed (log_of c) (words s) (place_wide c s k) k.clean there a (on_log f a) ((refl, z), ((refl, refl), refl)) left f (ap f left)

-- ---- how many chunks the words of a lent place count
pub room_left : {bs : List ℕ} {c : Settings} {p from to : ℕ} (l : LentPlace bs c p from to) → 0 < (decode (words bs)).ids p
    → length ((decode (words bs)).bricks.log ((decode (words bs)).ids p)) < c.chunks
    → get_or (run (log_at c) (log_words c) (words (part l))) 0 0 < c.chunks
room_left {c = c} l o room =
    let brick = part_brick l o in
    let wide = place_wide c (part l) brick in
    let count : length ((place_codec c).dec (words (part l))).snd.log ≡ get_or (run (log_at c) (log_words c) (words (part l))) 0 0 =
    ap length ((log_of c).read (words (part l)) wide ((refl, brick.filled), ((refl, refl), refl)))
    ∙ dec_length c.chunks (c.size / 8) (run (log_at c) (log_words c) (words (part l))) (part_length (log_of c) (words (part l)) wide) in
    let same = ap (λ (v : Place). length v.snd.log) (part_read l) in
    omega arith
