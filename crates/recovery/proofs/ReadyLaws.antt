-- What the writes of ready leave: the words of the state that it makes.
use mathlib.Core.Path.{◌≡◌, refl, sym, ap, ap₂, subst, ◌∙◌, fun_ext}
use mathlib.Core.List.{List, []}
use mathlib.Core.Bool.{Bool, false, not, cond}
use Prim.Native.Nat.{ℕ, ◌≤◌, ◌<◌}
use native.Mathlib.Omega.{arith}
use lib.Dec.{eqb}
use lib.ListN.{length, get_or}
use borrow.Author.Tests.{ne_eqb}
use Rattle.lists.specs.Tests.{◌and◌, only}
use Rattle.lists.specs.Runs.{on_run}
use Rattle.lists.specs.Columns.{upd}
use Rattle.lists.proofs.Tests.{by, by_eq, either}
use Rattle.lists.proofs.Columns.{upd_same, upd_other}
use Rattle.words.specs.Words.{words}
use Rattle.rules.specs.declared.settings.Settings.{Settings}
use Rattle.rules.specs.Limits.{buckets}
use Rattle.rules.specs.Entries.{Entry, is_of_bucket, drain}
use Rattle.rules.specs.State.{State, Bucket, set_bricks, set_bucket, with_buffer, with_copies}
use Rattle.rules.specs.Views.{dropped, ready_bucket, ready_effect}
use Rattle.codec.specs.Codec.{◌&◌}
use Rattle.layout.specs.Contents.{Agreed, Copies, Place}
use Rattle.layout.specs.Layout.{agreed_codec, agreed_words, agreed_at}
use Rattle.layout.specs.Store.{brick_in, agreed_in, contents_of, decode, render}
use Rattle.lent.specs.Stores.{StoreOf}
use Rattle.lent.specs.Places.{Stands}
use Rattle.lent.proofs.Stores.{settings_are, facts}
use Rattle.recovery.specs.Copies.{memory_word, replaced_words, moved_words, Moves}
use Rattle.recovery.specs.Ready.{outside, dropped_copies, ready_record}
use Rattle.recovery.proofs.OneBucket.{same_bucket, records_same, see_memory}
use Rattle.recovery.proofs.PlaceLaws.{outside_primary, outside_backup}
use Rattle.recovery.proofs.Tables.{bucket_in, memory_sorted, waiting_few}
use Rattle.recovery.proofs.Replaced.{source_few, replaced, recorded}
use Rattle.recovery.proofs.Moved.{moved}

module _ (c : Settings) (bs : List ℕ) (v : StoreOf c bs) (g : ℕ) (hg : g < buckets c) where
  abbrev s : State
  s = decode (words bs)

  abbrev old : Bucket
  old = s.bucket g

  -- an up brick outside the pair
  abbrev out : ℕ → Bool
  out i = outside old.primary old.backup (s.bricks.up i) i

  abbrev kept : (ℕ → List Entry) → ℕ → List Entry
  kept f i = cond (out i) [] (f i)

  kept_as : (f : ℕ → List Entry) (i : ℕ) → out i ≡ false → kept f i ≡ f i
  kept_as f i n = ap (λ (b : Bool). cond b [] (f i)) n

  pair_apart : old.primary ≡ old.backup → ⊥
  pair_apart = ((facts c bs v).buckets_ok g (bucket_in c bs v g hg)).pair.apart

  -- ---- the others drop their copies
  abbrev one : Bucket
  one = with_copies old (kept old.memory) (kept old.disk)

  abbrev pub others_drop : State
  others_drop = set_bucket s g one

  pub place_dropped : (i : ℕ) → ◌≡◌ {A = Place} (i & brick_in others_drop i) (dropped_copies g old.primary old.backup (i & brick_in s i))
  unfolding upd
  place_dropped i =
      either (λ (x : Place). (i & brick_in others_drop i) ≡ x) (out i)
      (λ y. ap made (fun_ext (λ h. by (eqb h g) (λ q. rw (q, y) refl) (λ q. rw q refl))))
      (λ n. ap made (fun_ext (λ h. by_eq h g (λ q e. rw (q, n, e) refl) (λ q _. rw q refl))))
    where
      made : (ℕ → Copies) → Place
      made copies =
          i & record { present = s.bricks.present i; status = (brick_in s i).status; buffer = s.bricks.buffer i; copies = copies; log = s.bricks.log i }

  pub records_kept : (contents_of s).agreed ≡ (contents_of others_drop).agreed
  records_kept = ap (λ (t : State). (contents_of t).agreed) (sym (same_bucket s g)) ∙ records_same s g old one refl

  -- ---- with the pair at places p and b
  module _ (p b : ℕ) (sp : Stands c s old.primary p) (sb : Stands c s old.backup b) where
    op : 0 < s.ids p
    op = omega (arith, sp.some, sp.here)

    ob : 0 < s.ids b
    ob = omega (arith, sb.some, sb.here)

    at_primary : (f : ℕ → List Entry) → kept f (s.ids p) ≡ f (s.ids p)
    at_primary f = kept_as f (s.ids p) (outside_primary old.primary old.backup (s.bricks.up (s.ids p)) (s.ids p) sp.here)

    at_backup : (f : ℕ → List Entry) → kept f (s.ids b) ≡ f (s.ids b)
    at_backup f = kept_as f (s.ids b) (outside_backup old.primary old.backup (s.bricks.up (s.ids b)) (s.ids b) sb.here)

    -- the primary's copy goes to the backup, in memory and on disk
    abbrev shared : List Entry
    shared = old.memory (s.ids p)

    abbrev memory_two : ℕ → List Entry
    memory_two = upd (kept old.memory) (s.ids b) shared

    abbrev disk_two : ℕ → List Entry
    disk_two = upd (kept old.disk) (s.ids b) shared

    abbrev two : Bucket
    two = with_copies one memory_two disk_two

    places_apart : s.ids p ≡ s.ids b → ⊥
    places_apart e = pair_apart (sym sp.here ∙ e ∙ sb.here)

    primary_two : memory_two (s.ids p) ≡ old.memory (s.ids p)
    primary_two = upd_other (kept old.memory) (s.ids b) (s.ids p) shared places_apart ∙ at_primary old.memory

    pub ready_few : (w1 : List ℕ) → w1 ≡ render others_drop (words bs) → get_or w1 (memory_word c g p) 0 ≤ c.entries
    ready_few w1 e =
        subst (λ (w : List ℕ). get_or w (memory_word c g p) 0 ≤ c.entries) (sym e)
        (source_few c bs v g hg one p b sp.inside sb.inside op ob (at_primary old.memory) (at_backup old.memory) (at_backup old.disk))

    shared_steps : (w1 w2 : List ℕ) → w1 ≡ render others_drop (words bs) → w2 ≡ replaced_words c g p b w1 → w2 ≡ render (set_bucket s g two) (words bs)
    shared_steps w1 w2 e1 e2 =
        e2 ∙ ap (replaced_words c g p b) e1
        ∙ replaced c bs v g hg one p b sp.inside sb.inside op ob (at_primary old.memory) (at_backup old.memory) (at_backup old.disk)

    pub ready_moves : (w1 w2 : List ℕ) → w1 ≡ render others_drop (words bs) → w2 ≡ replaced_words c g p b w1 → (len : ℕ) → len ≡ length bs → Moves c g p w2 len
    ready_moves w1 w2 e1 e2 len el =
        subst (λ (w : List ℕ). Moves c g p w len) (sym (shared_steps w1 w2 e1 e2)) (record {
          limits = v.limits;
          size = el ∙ v.size;
          bucket = hg;
          inside = sp.inside;
          few = waiting_few c bs v (set_bucket s g two) refl refl p sp.inside op refl;
          sorted = memory_sorted c bs v (set_bucket s g two) refl refl p sp.inside op g hg (see_memory c p sp.inside g hg s two ∙ primary_two);
        })

    -- ---- the columns of copies as the rules have them, whatever the primary's is
    as_dropped : (f : ℕ → List Entry) (i : ℕ) → (i ≡ old.primary → ⊥) → (i ≡ old.backup → ⊥) → kept f i ≡ dropped s.bricks.up f i
    unfolding dropped outside ◌and◌
    as_dropped f i n m = by (s.bricks.up i) (λ q. rw (q, ne_eqb i old.primary n, ne_eqb i old.backup m) refl) (λ q. rw q refl)

    others_new : (f : ℕ → List Entry) (i : ℕ) → (i ≡ old.primary → ⊥) → upd (kept f) (s.ids b) shared i
        ≡ upd (dropped s.bricks.up f) old.backup (old.memory old.primary) i
    others_new f i n =
        let new : List Entry = old.memory old.primary in
        ap₂ (λ (x y : ℕ). upd (kept f) x (old.memory y) i) sb.here sp.here
        ∙ by_eq i old.backup
        (λ _ e. ap (upd (kept f) old.backup new) e ∙ upd_same (kept f) old.backup new
        ∙ sym (ap (upd (dropped s.bricks.up f) old.backup new) e ∙ upd_same (dropped s.bricks.up f) old.backup new))
        (λ _ m. upd_other (kept f) old.backup i new m ∙ as_dropped f i n m ∙ sym (upd_other (dropped s.bricks.up f) old.backup i new m))

    as_ready : (f h : ℕ → List Entry) (l : List Entry) → h (s.ids p) ≡ l
        → ((i : ℕ) → (i ≡ old.primary → ⊥) → h i ≡ upd (dropped s.bricks.up f) old.backup (old.memory old.primary) i)
        → (i : ℕ) → h i ≡ upd (upd (dropped s.bricks.up f) old.backup (old.memory old.primary)) old.primary l i
    as_ready f h l own rest i =
        let to : ℕ → List Entry = upd (dropped s.bricks.up f) old.backup (old.memory old.primary) in
        by_eq i old.primary (λ _ e. ap h (e ∙ sym sp.here) ∙ own ∙ sym (ap (upd to old.primary l) e ∙ upd_same to old.primary l))
        (λ _ n. rest i n ∙ sym (upd_other to old.primary i l n))

    -- ---- the entries that wait move in, and the record is written
    abbrev drained : Settings → ℕ → List Entry
    drained x i = drain x.entries (old.memory i) (only (is_of_bucket (buckets x) g) (s.bricks.buffer i))

    abbrev made : Settings → ℕ → State
    made x i =
        set_bucket (set_bricks s (with_buffer s.bricks i (only (λ e. not (is_of_bucket (buckets x) g e)) (s.bricks.buffer i)))) g
        (ready_bucket s.bricks.up (drained x i) old)

    pub ready_steps : (w1 w2 w3 w4 : List ℕ) (agreed : Agreed) → agreed ≡ ready_record (agreed_in old) → w1 ≡ render others_drop (words bs)
        → w2 ≡ replaced_words c g p b w1 → w3 ≡ moved_words c g p w2 → w4 ≡ on_run (agreed_at g) agreed_words (agreed_codec.enc agreed) w3
        → w4 ≡ render (ready_effect s g) (words bs)
    unfolding ready_effect
    ready_steps w1 w2 w3 w4 agreed ea e1 e2 e3 e4 =
        let id : ℕ = s.ids p in
        let own : List Entry = drained c id in
        let rest : List Entry = only (λ e. not (is_of_bucket (buckets c) g e)) (s.bricks.buffer id) in
        e4 ∙ ap (on_run (agreed_at g) agreed_words (agreed_codec.enc agreed))
        (e3 ∙ ap (moved_words c g p) (shared_steps w1 w2 e1 e2) ∙ moved c bs v g hg two p sp.inside op primary_two)
        ∙ recorded c bs v g hg (with_buffer s.bricks id rest) (with_copies two (upd memory_two id own) disk_two) (ready_bucket s.bricks.up own old) refl
        (as_ready old.memory (upd memory_two id own) own (upd_same memory_two id own)
        (λ i n. upd_other memory_two id i own (λ z. n (z ∙ sp.here)) ∙ others_new old.memory i n))
        (as_ready old.disk disk_two (old.disk old.primary)
        (upd_other (kept old.disk) (s.ids b) id shared places_apart ∙ at_primary old.disk ∙ ap old.disk sp.here) (others_new old.disk))
        agreed (sym ea)
        ∙ ap₂ (λ (x : Settings) (i : ℕ). render (made x i) (words bs)) (sym (settings_are c bs v)) sp.here
