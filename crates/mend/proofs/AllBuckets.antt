-- Bucket by bucket: the effect of mend.
use mathlib.Core.Path.{◌≡◌, refl, sym, ap, subst, ◌∙◌}
use mathlib.Core.List.{List, []}
use Rattle.std.specs.Prelude.{Option, Some, None}
use Prim.Native.Nat.{ℕ, zero, suc, ◌+◌, ◌≤◌, ◌<◌}
use native.Mathlib.Nat.{add-zero}
use native.Mathlib.Numerals.{add-one}
use native.Mathlib.Omega.{arith}
use lib.ListN.{length, get_or}
use Rattle.lists.specs.Runs.{Below}
use Rattle.lists.proofs.Tests.{by_eq, and_l}
use Rattle.words.specs.Words.{words}
use Rattle.rules.specs.declared.settings.Settings.{Settings}
use Rattle.rules.specs.Limits.{buckets}
use Rattle.rules.specs.Entries.{Entry}
use Rattle.rules.specs.Chunks.{Chunk}
use Rattle.rules.specs.State.{State}
use Rattle.rules.specs.Upkeep.{mend_keys, mend_buckets, mended, mend_effect}
use Rattle.rules.proofs.Sound.{Sound, LogOk, KeyOf}
use Rattle.layout.specs.Layout.{log_words, store_words}
use Rattle.layout.specs.Store.{decode, render}
use Rattle.lent.proofs.Stores.{settings_are, facts}
use Rattle.named.specs.Tables.{CopyAt, EntriesAt, named}
use Rattle.lent.specs.Places.{log_from}
use Rattle.lent.proofs.Logs.{log_inside, log_changed}
use Rattle.mend.specs.Fit.{with_log_at, log_of, MendsTable, table_of, table_mended, Mended, MendsAll}
use Rattle.mend.specs.Keys.{before}
use Rattle.mend.proofs.Mending.{bucket_more, mended_start, sofar_at, mended_grows}
use Rattle.mend.proofs.Decided.{keys_now}
use Rattle.mend.proofs.OnStore.{stands, store_long, log_still}
use Rattle.mend.proofs.OnTheWay.{keys_ok, Way, way, still_up, log_now, log_over}
use Rattle.mend.proofs.InTurn.{keys_grow, table_beside, word_beside}

buckets_ok : {s : State} (v : Sound s) (id n : ℕ) → LogOk (KeyOf s) s.settings.size (mend_buckets s id n)
buckets_ok {s} v id zero = unfold mend_buckets in v.logs id
buckets_ok {s} v id (suc n) = rw (bucket_more s id n) (keys_ok v id (named s n) (mend_buckets s id n) (buckets_ok v id n))

module _ (c : Settings) (bs : List ℕ) (p : ℕ) (tables : List (Option ℕ)) (t : MendsAll c bs p tables) where
  abbrev s : State
  s = decode (words bs)

  abbrev id : ℕ
  id = s.ids p

  abbrev upto : ℕ → List Chunk
  upto n = mend_buckets s id n

  same : s.settings ≡ c
  same = settings_are c bs t.there.store

  long : length (words bs) ≡ store_words c
  long = store_long c bs p t.there

  fits : log_from c p + log_words c ≤ length (words bs)
  fits = omega (arith, log_inside c p t.there.inside, long)

  grows : (n : ℕ) → n < buckets c → length (upto n) ≤ length (mended s id)
  grows n q =
      subst (λ (l : List Chunk). length l ≤ length (mended s id)) (mended_start s id n)
      (mended_grows s id n 0 (buckets s.settings) (omega arith) (rw same q))

  room : (n : ℕ) → n ≤ buckets c → length (upto n) ≤ c.chunks
  room n q =
      by_eq n (buckets c) (λ _ e. subst (λ (k : ℕ). length (upto k) ≤ c.chunks) (sym (e ∙ ap buckets (sym same))) t.room)
      (λ _ e. omega (arith, grows n (omega arith), t.room))

  pub buckets_start : Below 256 bs → words bs ≡ with_log_at c p (upto 0) (words bs)
  unfolding mend_buckets
  buckets_start b = log_still c bs p t.there b

  pub buckets_end : (n : ℕ) (vs : List ℕ) → n ≡ buckets c → vs ≡ with_log_at c p (upto n) (words bs) → vs ≡ render (mend_effect s id) (words bs)
  unfolding mend_effect
  buckets_end n vs e r =
      r ∙ ap (λ (k : ℕ). with_log_at c p (mend_buckets s id k) (words bs)) (e ∙ ap buckets (sym same))
      ∙ sym (log_changed c bs t.there.store p t.there.inside (stands c bs p t.there) (mended s id))

  module _ (n : ℕ) (q : n < buckets c) (now : List ℕ) (h : length now ≡ length bs) (e : words now ≡ with_log_at c p (upto n) (words bs)) where
    here : Way c bs p (upto n) now
    here = way c bs p t.there (upto n) (buckets_ok (facts c bs t.there.store) id n) (room n (omega arith)) now h e

    more : upto (n + 1) ≡ mend_keys s id (upto n) (named s n)
    more = ap upto (add-one n) ∙ bucket_more s id n

    module _ (from : ℕ) (at : CopyAt c (words bs) n (named s n) from) where
      table_now : table_of c from (words now) ≡ named s n
      table_now =
          ap (table_of c from) e ∙ table_beside c p t.there.inside n from q at.lies (words bs) long (upto n) ∙ sym at.table.same

      mended_is : table_mended c p from (words now) ≡ upto (n + 1)
      mended_is =
          ap (λ (l : List Entry). mend_keys (decode (words now)) ((decode (words now)).ids p) (log_of p (words now)) l) table_now
          ∙ ap (λ (l : List Chunk). mend_keys (decode (words now)) ((decode (words now)).ids p) l (named s n)) (log_now c bs p t.there (upto n) now here)
          ∙ ap (λ (x : State). mend_keys x (x.ids p) (upto n) (named s n)) here.state
          ∙ keys_now s id (and_l _ _ t.there.up) (upto n) (before s n 0) (rw (mended_start s id n) at (sofar_at s id n 0 (omega arith))) (named s n)
          (upto n)
          (λ k y. y)
          ∙ sym more

      table_mends : MendsTable c now p from
      table_mends = record {
        there = still_up c bs p t.there (upto n) now here;
        bucket = n;
        in_bucket = q;
        lies = at.lies;
        few = subst (λ (k : ℕ). k ≤ c.entries) (sym count) at.table.few;
        room = subst (λ (l : List Chunk). length l ≤ c.chunks) (sym mended_is) (room (n + 1) (omega arith));
      }
        where
          count : get_or (words now) from 0 ≡ get_or (words bs) from 0
          count =
              ap (λ (v : List ℕ). get_or v from 0) e
              ∙ ap (λ (k : ℕ). get_or (with_log_at c p (upto n) (words bs)) k 0) (sym (add-zero from))
              ∙ word_beside c p t.there.inside n from q at.lies (words bs) long (upto n) 0 (omega arith)
              ∙ ap (λ (k : ℕ). get_or (words bs) k 0) (add-zero from)

    pub bucket_mends : (from : ℕ) → get_or tables n None ≡ Some from → MendsTable c now p from
    bucket_mends from e = table_mends from (subst (EntriesAt c (words bs) n (named s n)) e (t.known.lie n q))

    longer : length (upto n) ≤ length (upto (n + 1))
    longer = omega (arith, keys_grow s id (named s n) (upto n), ap length more)

    turn : (vs : List ℕ) (from : Option ℕ) → EntriesAt c (words bs) n (named s n) from → Mended c p from (words now) vs
        → vs ≡ with_log_at c p (upto (n + 1)) (words bs)
    turn vs (Some from) at m =
        m ∙ ap (λ (l : List Chunk). with_log_at c p l (words now)) (mended_is from at) ∙ ap (with_log_at c p (upto (n + 1))) e
        ∙ log_over c p (upto n) (upto (n + 1)) (words bs) fits longer (room (n + 1) (omega arith))
    turn vs None at m = m ∙ e ∙ ap (λ (l : List Chunk). with_log_at c p l (words bs)) (sym (more ∙ ap (mend_keys s id (upto n)) at ∙ none))
      where
        none : mend_keys s id (upto n) [] ≡ upto n
        none = unfold mend_keys in refl

    pub buckets_turn : (vs : List ℕ) → Mended c p (get_or tables n None) (words now) vs → vs ≡ with_log_at c p (upto (n + 1)) (words bs)
    buckets_turn vs m = turn vs (get_or tables n None) (t.known.lie n q) m
