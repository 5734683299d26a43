-- The keys of a table mended in turn.
use mathlib.Core.Path.{◌≡◌, refl, sym, ap, ◌∙◌}
use mathlib.Core.Logic.{inl, inr}
use mathlib.Core.Bool.{Bool, false}
use mathlib.Core.List.{List, [], ◌∷◌}
use Prim.Native.Nat.{ℕ, zero, suc, ◌+◌, ◌*◌, ◌/◌, ◌≤◌, ◌<◌}
use native.Mathlib.Nat.{le_refl}
use native.Mathlib.Numerals.{add-one}
use native.Mathlib.Omega.{arith}
use lib.ListN.{length, take, drop, get_or}
use lib.Seq.{take-length}
use Rattle.lists.specs.Runs.{run, Below}
use Rattle.lists.proofs.Runs.{run_length, on_before, on_after, on_at_before}
use Rattle.words.specs.Words.{words}
use Rattle.rules.specs.declared.settings.Settings.{Settings}
use Rattle.rules.specs.Limits.{buckets}
use Rattle.rules.specs.Entries.{Entry}
use Rattle.rules.specs.Chunks.{Chunk}
use Rattle.rules.specs.State.{State}
use Rattle.rules.specs.Upkeep.{mend_key, mend_keys}
use Rattle.chunk_log.proofs.Codec.{log_keeps}
use Rattle.layout.specs.Layout.{word_bytes, log_codec, copy_codec, copy_words, log_words, store_words}
use Rattle.layout.specs.Store.{decode}
use Rattle.entries.specs.Entries.{entry_at}
use Rattle.lent.proofs.Stores.{facts}
use Rattle.named.specs.Tables.{TableAt, AtCopies}
use Rattle.named.proofs.Runs.{on_at_after}
use Rattle.named.proofs.Copies.{beside_log, inside_store, table_length, table_key}
use Rattle.lent.specs.Places.{log_from}
use Rattle.lent.proofs.Logs.{log_inside}
use Rattle.mend.specs.Fit.{with_log_at, log_of, Mends, MendsTable, key_mended, table_of, table_mended}
use Rattle.mend.proofs.Mending.{key_length, Sofar, sofar_start, sofar_turn, keys_more}
use Rattle.mend.proofs.OnStore.{store_long, log_still}
use Rattle.mend.proofs.OnTheWay.{keys_ok, Way, way, still_up, mended_now, log_over}

-- ---- entries in turn
module _ (s : State) (id : ℕ) where
  pub keys_sofar : (es : List Entry) (l : List Chunk) (seen : ℕ → Bool) → Sofar s id l seen → (next : ℕ → Bool) × Sofar s id (mend_keys s id l es) next
  unfolding mend_keys
  keys_sofar [] l seen o = (seen, o)
  keys_sofar (e ∷ es) l seen o = keys_sofar es (mend_key s id l e.key) _ (sofar_turn s id l seen o e.key)

  pub keys_grow : (es : List Entry) (l : List Chunk) → length l ≤ length (mend_keys s id l es)
  unfolding mend_keys
  keys_grow [] l = le_refl _
  keys_grow (e ∷ es) l = omega (arith, keys_grow es (mend_key s id l e.key), key_length s id l e.key)

  keys_split : (es : List Entry) (l : List Chunk) (i : ℕ) → mend_keys s id (mend_keys s id l (take i es)) (drop i es) ≡ mend_keys s id l es
  unfolding mend_keys
  keys_split es l zero = refl
  keys_split [] l (suc i) = refl
  keys_split (e ∷ es) l (suc i) = keys_split es (mend_key s id l e.key) i

  pub keys_within : (es : List Entry) (l : List Chunk) (i : ℕ) → length (mend_keys s id l (take i es)) ≤ length (mend_keys s id l es)
  keys_within es l i = omega (arith, keys_grow (drop i es) (mend_keys s id l (take i es)), ap length (keys_split es l i))

-- ---- what lies beside the log stays
module _ (c : Settings) (p : ℕ) (l : p < c.places) (g from : ℕ) (m : g < buckets c) (a : AtCopies c g from) (ws : List ℕ) (h : length ws ≡ store_words c)
    (log : List Chunk) where
  fits : log_from c p + log_words c ≤ length ws
  fits = omega (arith, log_inside c p l)

  keeps : length ((log_codec c).enc log (run (log_from c p) (log_words c) ws)) ≡ log_words c
  keeps = log_keeps c.chunks (c.size / word_bytes) log _ (run_length (log_from c p) (log_words c) ws fits)

  pub table_beside : table_of c from (with_log_at c p log ws) ≡ table_of c from ws
  table_beside = elim (beside_log c g p from m l a) [
    | inl q ↦ ap (copy_codec c).dec (on_before (log_from c p) (log_words c) ((log_codec c).enc log) from (copy_words c) ws fits q)
    | inr q ↦ ap (copy_codec c).dec (on_after (log_from c p) (log_words c) ((log_codec c).enc log) from (copy_words c) ws fits keeps q)
  ]

  pub word_beside : (j : ℕ) → j < copy_words c → get_or (with_log_at c p log ws) (from + j) 0 ≡ get_or ws (from + j) 0
  word_beside j q = elim (beside_log c g p from m l a) [
    | inl z ↦ on_at_before (log_from c p) (log_words c) ((log_codec c).enc log) ws (from + j) (omega (arith, fits)) (omega arith)
    | inr z ↦ on_at_after (log_from c p) (log_words c) ((log_codec c).enc log) ws (from + j) fits keeps (omega arith)
  ]

-- ---- the loop over the rows of a table
module _ (c : Settings) (bs : List ℕ) (p from : ℕ) (t : MendsTable c bs p from) where
  abbrev s : State
  s = decode (words bs)

  abbrev id : ℕ
  id = s.ids p

  abbrev es : List Entry
  es = table_of c from (words bs)

  abbrev upto : ℕ → List Chunk
  upto i = mend_keys s id (log_of p (words bs)) (take i es)

  long : length (words bs) ≡ store_words c
  long = store_long c bs p t.there

  inside : from + copy_words c ≤ length (words bs)
  inside = omega (arith, inside_store c t.bucket from t.in_bucket t.lies, long)

  pub table_inside : 8 * (from + copy_words c) ≤ length bs
  table_inside = omega (arith, inside_store c t.bucket from t.in_bucket t.lies, t.there.store.size)

  at : TableAt c (words bs) es from
  at = record { same = refl; few = t.few }

  pub rows_start : Below 256 bs → words bs ≡ with_log_at c p (upto 0) (words bs)
  unfolding mend_keys
  rows_start b = log_still c bs p t.there b

  pub rows_end : (n : ℕ) → n ≡ get_or (words bs) from 0 → upto n ≡ table_mended c p from (words bs)
  rows_end n e =
      ap upto (e ∙ sym (table_length c (words bs) es from at inside)) ∙ ap (mend_keys s id (log_of p (words bs))) (take-length es)

  module _ (i : ℕ) (q : i < get_or (words bs) from 0) (now : List ℕ) (n : length now ≡ length bs) (e : words now ≡ with_log_at c p (upto i) (words bs)) where
    in_use : i < length es
    in_use = omega (arith, table_length c (words bs) es from at inside)

    here : Way c bs p (upto i) now
    here =
        way c bs p t.there (upto i) (keys_ok (facts c bs t.there.store) id (take i es) _ ((facts c bs t.there.store).logs id))
        (omega (arith, keys_within s id es (log_of p (words bs)) i, t.room)) now n e

    sofar : (next : ℕ → Bool) × Sofar s id (upto i) next
    sofar = keys_sofar s id (take i es) _ (λ _. false) (sofar_start s id (λ _. false) (λ _. refl))

    pub row_key : get_or (words now) (from + (2 + i * 2)) 0 ≡ (entry_at es i).key
    row_key =
        ap (λ (v : List ℕ). get_or v (from + (2 + i * 2)) 0) e
        ∙ word_beside c p t.there.inside t.bucket from t.in_bucket t.lies (words bs) long (upto i) (2 + i * 2) (omega (arith, t.few))
        ∙ sym (table_key c (words bs) es from at inside i in_use)

    next_is : (k : ℕ) → k ≡ get_or (words now) (from + (2 + i * 2)) 0 → mend_key s id (upto i) k ≡ upto (i + 1)
    next_is k f = ap (mend_key s id (upto i)) (f ∙ row_key) ∙ sym (ap upto (add-one i) ∙ keys_more s id (log_of p (words bs)) es i in_use)

    module _ (k : ℕ) (f : k ≡ get_or (words now) (from + (2 + i * 2)) 0) where
      mended : (key_mended p k (words now)) ≡ upto (i + 1)
      mended = mended_now c bs p t.there (upto i) now here sofar.0 sofar.1 k ∙ next_is k f

      pub row_mends : Mends c now p k
      row_mends = record {
        there = still_up c bs p t.there (upto i) now here;
        room = omega (arith, ap length mended, keys_within s id es (log_of p (words bs)) (i + 1), t.room);
      }

      pub rows_turn : (vs : List ℕ) → vs ≡ with_log_at c p (key_mended p k (words now)) (words now) → vs ≡ with_log_at c p (upto (i + 1)) (words bs)
      rows_turn vs r =
          r ∙ ap (λ (l : List Chunk). with_log_at c p l (words now)) mended ∙ ap (with_log_at c p (upto (i + 1))) e
          ∙ log_over c p (upto i) (upto (i + 1)) (words bs) (omega (arith, log_inside c p t.there.inside, long))
          (omega (arith, key_length s id (upto i) k, ap length (next_is k f))) (omega (arith, keys_within s id es (log_of p (words bs)) (i + 1), t.room))
