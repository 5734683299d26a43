-- Marks on the keys that the primaries' memories name, and a sweep: the effect of collect.
use mathlib.Core.Path.{◌≡◌, refl, sym, ap, subst, ◌∙◌}
use mathlib.Core.Bool.{Bool, true}
use mathlib.Core.List.{List, [], ◌∷◌}
use Rattle.std.specs.Prelude.{Option, None}
use Prim.Native.Nat.{ℕ, ◌+◌, ◌*◌, ◌/◌, ◌≤◌, ◌<◌}
use native.Mathlib.Omega.{arith}
use lib.ListN.{length, get_or}
use Rattle.lists.specs.Tests.{only}
use Rattle.lists.specs.Runs.{run, on_run, Below}
use Rattle.lists.proofs.Tests.{all_at}
use Rattle.lists.proofs.Runs.{on_by, on_twice, below_take, below_drop}
use Rattle.words.specs.Words.{words}
use Rattle.words.proofs.Laws.{room}
use Rattle.rules.specs.declared.settings.Settings.{Settings}
use Rattle.rules.specs.Limits.{buckets}
use Rattle.rules.specs.Entries.{Entry, names}
use Rattle.rules.specs.Chunks.{Chunk, only_named}
use Rattle.rules.specs.State.{State}
use Rattle.rules.specs.Derived.{nothing_pending}
use Rattle.rules.specs.Upkeep.{pair_names, is_named, collect_effect}
use Rattle.rules.proofs.Derived.{nothing_pending_agrees}
use Rattle.chunk_log.specs.Log.{IsLog}
use Rattle.chunk_log.proofs.Check.{looser}
use Rattle.sweep.specs.Marks.{with_marks, swept}
use Rattle.sweep.proofs.Marks.{keep_named_leaves}
use Rattle.layout.specs.Layout.{word_bytes, log_codec, log_words}
use Rattle.layout.specs.Store.{decode, render}
use Rattle.lent.specs.Stores.{StoreOf}
use Rattle.lent.proofs.Stores.{settings_are, facts}
use Rattle.named.specs.Tables.{CopyAt, EntriesAt, named, AllNamed, names_at}
use Rattle.named.proofs.Copies.{named_is, beside_log, inside_store, entry_names}
use Rattle.lent.specs.Places.{log_from}
use Rattle.lent.proofs.Logs.{log_inside, log_bytes, log_run, log_length, log_lies, log_changed}
use Rattle.collect.specs.Marked.{marks, named_first, LogIn, TableIn, TablesIn, sweeps}
use Rattle.collect.specs.Collect.{Collects}
use Rattle.collect.proofs.SameCopies.{Tables, nothing_pending_names}
use Rattle.collect.proofs.Marking.{keeps, some_same, marks_log}

-- tests that agree leave the same chunks
only_same : (f g : ℕ → Bool) → ((k : ℕ) → f k ≡ g k) → (l : List Chunk) → only_named f l ≡ only_named g l
unfolding only_named only
only_same f g e [] = refl
only_same f g e (x ∷ l) = rw (e x.key, only_same f g e l)

-- ---- what the tables name is what the pairs' copies name
module _ (c : Settings) (bs : List ℕ) (v : StoreOf c bs) where
  abbrev s : State
  s = decode (words bs)

  pub bucket_tables : (g : ℕ) → g < buckets c → Tables (s.bucket g)
  bucket_tables g p =
      let ok = (facts c bs v).buckets_ok g (rw (settings_are c bs v) p) in
      record {
        sorted_memory = λ i. (ok.memory i).sorted;
        sorted_disk = λ i. (ok.disk i).sorted;
        mapped_memory = λ i e m. let z = ((ok.memory i).each e m).key.home in omega arith;
        mapped_disk = λ i e m. let z = ((ok.disk i).each e m).key.home in omega arith;
      }

  module _ (g : ℕ) (p : g < buckets c) where
    nothing_pending_name : (from : Option ℕ) → EntriesAt c (words bs) g (named s g) from → (k : ℕ) → nothing_pending (s.bucket g) ≡ true → names_at (words bs) from k ≡ pair_names (s.bucket g) k
    nothing_pending_name from a k y =
        entry_names c bs v g p from a k ∙ ap (λ (l : List Entry). names l k) (named_is s g (nothing_pending_agrees (s.bucket g) y).0)
        ∙ sym (nothing_pending_names (s.bucket g) (bucket_tables g p) y k)

    pub table_in : (from : ℕ) → CopyAt c (words bs) g (named s g) from → (at q : ℕ) → q < c.places → at ≡ log_from c q → TableIn c at from (words bs) (length bs)
    table_in from a at q l e = record {
      inside = omega (arith, inside_store c g from p a.lies, v.size);
      few = a.table.few;
      apart = rw e (beside_log c g q from p l a.lies);
    }

-- ---- what is known where the log begins at word `at`, and the named entries at those of the array
pub record Lies (c : Settings) (bs : List ℕ) (p : ℕ) (tables : List (Option ℕ)) (at : ℕ) : Type 0 where
  pub there : Collects c bs p
  pub known : AllNamed c bs tables
  pub begins : at ≡ log_from c p

module _ (c : Settings) (bs : List ℕ) (p : ℕ) (tables : List (Option ℕ)) (at : ℕ) (o : Lies c bs p tables at) where
  h : Collects c bs p
  h = o.there

  each_nothing_pending : (g : ℕ) → g < buckets c → nothing_pending ((decode (words bs)).bucket g) ≡ true
  each_nothing_pending = all_at (buckets c) _ h.nothing_pending

  all_names : (k : ℕ) → named_first (words bs) tables (buckets c) k ≡ is_named (decode (words bs)) k
  unfolding named_first is_named
  all_names k =
      rw (settings_are c bs h.store)
      (some_same (buckets c) _ _ (λ g q. nothing_pending_name c bs h.store g q (get_or tables g None) (o.known.lie g q) k (each_nothing_pending g q)))

  pub tables_in : TablesIn c at tables (words bs) (length bs)
  tables_in = record {
    many = o.known.many;
    each = λ g q from e. table_in c bs h.store g q from (subst (EntriesAt c (words bs) g (named (decode (words bs)) g)) e (o.known.lie g q)) at p h.inside o.begins;
  }

  abbrev log : List ℕ
  log = run (log_from c p) (log_words c) (words bs)

  is_a_log : IsLog c.chunks (c.size / word_bytes) (words (log_bytes c p bs)) (length (log_bytes c p bs))
  is_a_log = (log_lies c bs h.store p h.inside h.some).log

  log_here : LogIn c (log_from c p) (words bs) (length bs)
  log_here = record {
    small = h.store.limits;
    inside = omega (arith, log_inside c p h.inside, h.store.size);
    log = looser (omega arith)
        (rw (log_run c bs h.store p h.inside, log_length c bs h.store p h.inside) at is_a_log);
  }

  pub log_in : LogIn c at (words bs) (length bs)
  log_in = rw o.begins log_here

  fits : log_from c p + log_words c ≤ length (words bs)
  fits = room bs (log_from c p + log_words c) log_here.inside

  -- marks leave the log one
  pub log_still : (vs : List ℕ) (len : ℕ) (f : ℕ → Bool) → vs ≡ marks c at f (words bs) → len ≡ length bs → LogIn c at vs len
  log_still vs len f e n = rw (e, n) (marks_log c at (words bs) (length bs) (room bs (at + log_words c) log_in.inside) log_in f)

  module _ (b : Below 256 bs) where
    left : (f : ℕ → Bool) → swept c.chunks (c.size / word_bytes) (with_marks c.chunks (c.size / word_bytes) (λ x. f x.key) log)
        ≡ (log_codec c).enc (only_named f ((decode (words bs)).bricks.log ((decode (words bs)).ids p))) log
    left f =
        subst (λ (w : List ℕ). swept c.chunks (c.size / word_bytes) (with_marks c.chunks (c.size / word_bytes) (λ x. f x.key) w)
        ≡ (log_codec c).enc (only_named f ((decode (words bs)).bricks.log ((decode (words bs)).ids p))) w) (log_run c bs h.store p h.inside)
        (keep_named_leaves c.chunks (c.size / word_bytes) (log_bytes c p bs) is_a_log (below_take (8 * log_words c) (below_drop (8 * log_from c p) b)) f
        ∙ ap (λ (l : List Chunk). (log_codec c).enc (only_named f l) (words (log_bytes c p bs)))
        (log_lies c bs h.store p h.inside h.some).same)

    pub collected : (vs us : List ℕ) → vs ≡ marks c at (named_first (words bs) tables (buckets c)) (words bs) → us ≡ sweeps c at vs
        → us ≡ render (collect_effect (decode (words bs)) ((decode (words bs)).ids p)) (words bs)
    unfolding marks sweeps collect_effect
    collected vs us ev eu =
        let f : ℕ → Bool = named_first (words bs) tables (buckets c) in
        let n : ℕ = log_words c in
        let mark : List ℕ → List ℕ = with_marks c.chunks (c.size / word_bytes) (λ x. f x.key) in
        let old : List Chunk = (decode (words bs)).bricks.log ((decode (words bs)).ids p) in
        eu ∙ ap (on_run at n (swept c.chunks (c.size / word_bytes))) ev
        ∙ rw o.begins (sym (on_twice (log_from c p) n mark (swept c.chunks (c.size / word_bytes)) (words bs) fits
        (keeps c (log_from c p) (words bs) (length bs) fits log_here f))
        ∙ on_by (log_from c p) n _ ((log_codec c).enc (only_named f old)) (words bs) (left f)
        ∙ ap (λ (l : List Chunk). on_run (log_from c p) n ((log_codec c).enc l) (words bs)) (only_same f (is_named (decode (words bs))) all_names old)
        ∙ sym (log_changed c bs h.store p h.inside h.some (only_named (is_named (decode (words bs))) old)))
