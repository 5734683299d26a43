-- Where a brick's copies lie, and where its log does not.
use mathlib.Core.Path.{◌≡◌, refl, sym, ap, subst, ◌∙◌}
use mathlib.Core.Logic.{◌⊎◌, inl, inr}
use mathlib.Core.List.{List}
use Rattle.std.specs.Prelude.{Option, Some, None}
use mathlib.Core.Bool.{true, false}
use Prim.Native.Nat.{ℕ, ◌+◌, ◌*◌, ◌≤◌, ◌<◌}
use native.Mathlib.Nat.{add-zero}
use native.Mathlib.Omega.{arith}
use lib.Dec.{eqb}
use lib.ListN.{length, get_or, set, drop}
use lib.Seq.{get_or-set_same, get_or-set_other}
use Rattle.lists.specs.Runs.{run}
use Rattle.lists.specs.Tests.{any_below}
use Rattle.lists.specs.Rows.{table_dec}
use Rattle.lists.proofs.Tests.{by_eq, by_lt}
use Rattle.lists.proofs.Rows.{length_rows}
use Rattle.lists.proofs.Runs.{fits_in, run_length, run_at}
use Rattle.words.specs.Words.{words}
use Rattle.rules.specs.declared.settings.Settings.{Settings}
use Rattle.rules.specs.Limits.{buckets}
use Rattle.rules.specs.Entries.{Entry, names}
use Rattle.rules.specs.State.{State}
use Rattle.rules.specs.Derived.{primary_memory}
use Rattle.codec.proofs.Focus.{◌through◌}
use Rattle.layout.specs.Contents.{entry_row, Brick, blank_brick}
use Rattle.layout.specs.Layout.{entries_codec, copy_codec, settings_of, copy_words, copies_words, log_words, place_words, store_words, place_at, copies_at}
use Rattle.layout.specs.Layout.{log_at}
use Rattle.layout.specs.Store.{brick_in, decode}
use Rattle.layout.proofs.Sound.{SoundWords}
use Rattle.layout.proofs.Changes.{seen}
use Rattle.layout.proofs.Foci.{place_focus, copies_of, memory_in}
use Rattle.entries.specs.Entries.{entry_at}
use Rattle.entries.proofs.Words.{key_word}
use Rattle.lent.specs.Stores.{StoreOf}
use Rattle.lent.specs.Places.{Stands}
use Rattle.lent.proofs.Stores.{settings_are, facts}
use Rattle.named.specs.Tables.{TableAt, AtCopies, CopyAt, EntriesAt, named, key_in, names_first, names_at}
use Rattle.named.proofs.Names.{names_none, names_all}

-- ---- a copy in memory at a place
memory_words : (ws : List ℕ) (sd : SoundWords ws) (p : ℕ) (l : p < (settings_of ws).places) → 0 < (decode ws).ids p → (g : ℕ) (m : g < buckets (settings_of ws))
    → ((decode ws).bucket g).memory ((decode ws).ids p)
    ≡ (copy_codec (settings_of ws)).dec (run (place_at (settings_of ws) p + copies_at (settings_of ws) g) (copy_words (settings_of ws)) ws)
memory_words ws sd p l o g m =
    let c : Settings = settings_of ws in
    let e : place_at c p + (copies_at c g + 0) ≡ place_at c p + copies_at c g = omega arith in
    seen ws sd (place_focus c p l through (copies_of c g m through memory_in c))
    (((((refl, refl), refl), refl), λ j z q. refl), (((refl, o), (((refl, refl), refl), λ j z q. refl)), refl))
    ∙ ap (λ (k : ℕ). (copy_codec c).dec (run k (copy_words c) ws)) e

-- a table has as many entries as its count says
pub count_is : (most : ℕ) (w : List ℕ) → length ((entries_codec most).dec w) ≡ get_or w 0 0
unfolding table_dec
count_is most w = length_rows 2 entry_row.read (get_or w 0 0) (drop 1 w)

pub table_count : (c : Settings) (ws : List ℕ) (at : ℕ) → length ((copy_codec c).dec (run at (copy_words c) ws)) ≡ get_or ws at 0
table_count c ws at =
    count_is c.entries (run at (copy_words c) ws) ∙ run_at at (copy_words c) 0 ws (omega arith) ∙ ap (λ (k : ℕ). get_or ws k 0) (add-zero at)

pub named_is : (s : State) (g : ℕ) → (s.bucket g).ready ≡ true → named s g ≡ primary_memory (s.bucket g)
unfolding named
named_is s g r = rw r

module _ (c : Settings) (bs : List ℕ) (v : StoreOf c bs) (g : ℕ) (m : g < buckets c) where
  abbrev s : State
  s = decode (words bs)

  pub memory_lies : (id p at : ℕ) → Stands c s id p → at ≡ place_at c p + copies_at c g → EntriesAt c (words bs) g ((s.bucket g).memory id) (Some at)
  memory_lies id p at h e = record {
    lies = record { place = p; inside = h.inside; begins = e };
    table = let same = ap (s.bucket g).memory (sym h.here) ∙ held ∙ ap (λ (k : ℕ). (copy_codec c).dec (run k (copy_words c) (words bs))) (sym e) in
        record { same = same; few = omega (arith, ap length same, table_count c (words bs) at, room) };
  }
    where
      held : (s.bucket g).memory (s.ids p) ≡ (copy_codec c).dec (run (place_at c p + copies_at c g) (copy_words c) (words bs))
      held = subst (λ (x : Settings). p < x.places → g < buckets x → (s.bucket g).memory (s.ids p)
          ≡ (copy_codec x).dec (run (place_at x p + copies_at x g) (copy_words x) (words bs))) (sym v.same)
          (λ l k. memory_words (words bs) v.sound p l (rw h.here h.some) g k) h.inside m

      room : length ((s.bucket g).memory id) ≤ c.entries
      room = rw (settings_are c bs v) at (((facts c bs v).buckets_ok g (rw (settings_are c bs v) m)).memory id).room

  pub memory_none : (id : ℕ) → brick_in s id ≡ blank_brick → EntriesAt c (words bs) g ((s.bucket g).memory id) None
  memory_none id e = ap (λ (b : Brick). (b.copies g).memory) e

  -- the entries that count are those of the primary, or none
  pub named_ready : (primary : ℕ) (at : Option ℕ) → (s.bucket g).ready ≡ true → (s.bucket g).primary ≡ primary
      → EntriesAt c (words bs) g ((s.bucket g).memory primary) at → EntriesAt c (words bs) g (named s g) at
  named_ready primary at r e o = subst (λ (l : List Entry). EntriesAt c (words bs) g l at) (sym (named_is s g r ∙ ap (s.bucket g).memory e)) o

  pub named_none : (s.bucket g).ready ≡ false → EntriesAt c (words bs) g (named s g) None
  unfolding named
  named_none r = rw r

-- one bucket more
pub named_more : (c : Settings) (ws : List ℕ) (t : State) (tables : List (Option ℕ)) (n : ℕ) (at : Option ℕ) → n < length tables
    → ((g : ℕ) → g < n → EntriesAt c ws g (named t g) (get_or tables g None)) → EntriesAt c ws n (named t n) at
    → (g : ℕ) → g < n + 1 → EntriesAt c ws g (named t g) (get_or (set tables n at) g None)
named_more c ws t tables n at h old new g p =
    by_eq g n
    (λ _ e. rw (e, get_or-set_same tables n at None) new)
    (λ _ e. rw (get_or-set_other tables n g at None e) (old g (omega arith)))

-- ---- no copy lies in a log
pub beside_log : (c : Settings) (g p at : ℕ) → g < buckets c → p < c.places → AtCopies c g at
    → (at + copy_words c ≤ place_at c p + log_at c) ⊎ (place_at c p + log_at c + log_words c ≤ at)
beside_log c g p at m l h =
    let a = fits_in (copies_words c) m in
    let e = h.begins in
    by_lt p h.place
    (λ _ q. inr (omega (arith, fits_in (place_words c) q)))
    (λ _ q. by_lt h.place p (λ _ r. inl (omega (arith, fits_in (place_words c) r))) (λ _ r. let z : h.place ≡ p = omega arith in inl
    (omega (arith, ap (λ (k : ℕ). k * place_words c) z))))

pub inside_store : (c : Settings) (g at : ℕ) → g < buckets c → AtCopies c g at → at + copy_words c ≤ store_words c
inside_store c g at m h = let a = fits_in (copies_words c) m in let b = fits_in (place_words c) h.inside in omega (arith, h.begins)

-- ---- the keys of a table, in the words of the store
module _ (c : Settings) (ws : List ℕ) (l : List Entry) (at : ℕ) (t : TableAt c ws l at) (h : at + copy_words c ≤ length ws) where
  pub table_length : length l ≡ get_or ws at 0
  table_length = ap length t.same ∙ table_count c ws at

  pub table_key : (i : ℕ) → i < length l → (entry_at l i).key ≡ get_or ws (at + (2 + i * 2)) 0
  table_key i p =
      let w : List ℕ = run at (copy_words c) ws in
      let e : get_or w 0 0 ≡ get_or ws at 0 = run_at at (copy_words c) 0 ws (omega arith) ∙ ap (λ (k : ℕ). get_or ws k 0) (add-zero at) in
      let few = t.few in
      let many = table_length in
      ap (λ (m : List Entry). (entry_at m i).key) t.same
      ∙ key_word c.entries w (run_length at (copy_words c) ws h) (omega arith) i (omega arith)
      ∙ run_at at (copy_words c) (2 + i * 2) ws (omega arith)

-- ---- what a table of named entries names
module _ (c : Settings) (bs : List ℕ) (v : StoreOf c bs) (g : ℕ) (p : g < buckets c) where
  abbrev es : List Entry
  es = named (decode (words bs)) g

  pub entries_inside : (from : ℕ) → CopyAt c (words bs) g es from → from + copy_words c ≤ length (words bs)
  entries_inside from a = let long = v.sound.size ∙ ap store_words (sym v.same) in omega (arith, inside_store c g from p a.lies)

  pub entry_names : (from : Option ℕ) → EntriesAt c (words bs) g es from → (k : ℕ) → names_at (words bs) from k ≡ names es k
  unfolding names_at names_first
  entry_names (Some from) a k =
      let h = entries_inside from a in
      ap (λ (n : ℕ). any_below n (λ i. eqb k (key_in (words bs) from i))) (sym (table_length c (words bs) es from a.table h))
      ∙ sym (names_all es (key_in (words bs) from) (table_key c (words bs) es from a.table h) k)
  entry_names None a k = sym (ap (λ (l : List Entry). names l k) a ∙ names_none k)
