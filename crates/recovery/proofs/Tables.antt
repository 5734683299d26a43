-- The tables of a brick that a state leaves as they were, in the words of that state: a copy of a bucket in memory, and the append buffer.
use mathlib.Core.Path.{◌≡◌, refl, sym, ap, subst, ◌∙◌}
use mathlib.Core.List.{List}
use Prim.Native.Nat.{ℕ, ◌+◌, ◌*◌, ◌≤◌, ◌<◌}
use native.Mathlib.Nat.{add-zero}
use native.Mathlib.Omega.{arith}
use lib.ListN.{length, get_or}
use Rattle.lists.specs.Runs.{run}
use Rattle.lists.proofs.Runs.{run_at, run_length}
use Rattle.words.specs.Words.{words}
use Rattle.words.proofs.Laws.{length_words}
use Rattle.rules.specs.declared.settings.Settings.{Settings}
use Rattle.rules.specs.Limits.{buckets, max_waiting}
use Rattle.rules.specs.State.{State}
use Rattle.codec.proofs.Focus.{Focus, ◌through◌}
use Rattle.layout.specs.Contents.{entry_row}
use Rattle.layout.specs.Layout.{copy_codec, buffer_codec, store_codec, copy_words, place_at, buffer_at}
use Rattle.layout.specs.Store.{contents_of, decode, render}
use Rattle.layout.proofs.Foci.{place_focus, buffer_of}
use Rattle.tables.specs.Tables.{Sorted}
use Rattle.entries.specs.Entries.{entry_words}
use Rattle.entries.proofs.Tables.{few_of, sorted_table}
use Rattle.lent.specs.Stores.{StoreOf}
use Rattle.lent.proofs.Stores.{settings_are, facts}
use Rattle.lent.proofs.Effects.{seen_in, still}
use Rattle.recovery.specs.Copies.{memory_word}
use Rattle.recovery.proofs.OneBucket.{memory_at, memory_self}

-- the count of a table, in the words that hold it
pub table_count : (at n : ℕ) (w : List ℕ) → 0 < n → get_or (run at n w) 0 0 ≡ get_or w at 0
table_count at n w o = run_at at n 0 w o ∙ ap (λ (i : ℕ). get_or w i 0) (add-zero at)

-- where a place's buffer lies
abbrev pub waiting_at : (c : Settings) (p : ℕ) → p < c.places → Focus (store_codec c) buffer_codec
waiting_at c p hp = place_focus c p hp through buffer_of c

pub waiting_self : (c : Settings) (p : ℕ) (hp : p < c.places) (s : State) → 0 < s.ids p → (waiting_at c p hp).Else (contents_of s) (contents_of s)
waiting_self c p hp s o = (((((refl, refl), refl), refl), λ j z n. refl), ((refl, o), (refl, refl)))

module _ (c : Settings) (bs : List ℕ) (v : StoreOf c bs) where
  abbrev s : State
  s = decode (words bs)

  pub bucket_in : (g : ℕ) → g < buckets c → g < buckets s.settings
  bucket_in g h = subst (λ (x : Settings). g < buckets x) (sym (settings_are c bs v)) h

  module _ (t : State) (a : t.settings ≡ s.settings) (ei : t.ids ≡ s.ids) (p : ℕ) (hp : p < c.places) (o : 0 < s.ids p) where
    there_too : 0 < t.ids p
    there_too = subst (λ (f : ℕ → ℕ). 0 < f p) (sym ei) o

    -- ---- the copy in memory
    module _ (g : ℕ) (hg : g < buckets c) (e : (memory_at c p hp g hg).see (contents_of t) ≡ (s.bucket g).memory (s.ids p)) where
      abbrev φ : Focus (store_codec c) (copy_codec c)
      φ = memory_at c p hp g hg

      memory_still : run (memory_word c g p) (copy_words c) (render t (words bs)) ≡ run (memory_word c g p) (copy_words c) (words bs)
      memory_still = still c bs v φ (memory_self c p hp g hg s o) t a e (memory_self c p hp g hg t there_too)

      pub memory_sorted : Sorted entry_words c.entries (run (memory_word c g p) (copy_words c) (render t (words bs))) (8 * copy_words c)
      memory_sorted =
          let ok = ((facts c bs v).buckets_ok g (bucket_in g hg)).memory (s.ids p) in
          let most : s.settings.entries ≡ c.entries = ap (λ (x : Settings). x.entries) (settings_are c bs v) in
          let long : length (words bs) ≡ (store_codec c).size = length_words bs ∙ omega (arith, v.size) in
          sorted_table c.entries ((s.bucket g).memory (s.ids p)) (omega (arith, ok.room, most)) ok.sorted
          (run (memory_word c g p) (copy_words c) (render t (words bs))) (8 * copy_words c)
          (ap length memory_still ∙ run_length (memory_word c g p) (copy_words c) (words bs) (omega (arith, long, φ.inside))) refl
          (ap (copy_codec c).dec memory_still ∙ sym (seen_in c bs v φ (memory_self c p hp g hg s o)))

      pub memory_few : get_or (render t (words bs)) (memory_word c g p) 0 ≤ c.entries
      memory_few =
          subst (λ (n : ℕ). n ≤ c.entries) (table_count (memory_word c g p) (copy_words c) (render t (words bs)) (omega arith)) memory_sorted.few

    -- ---- the buffer
    module _ (e : t.bricks.buffer (t.ids p) ≡ s.bricks.buffer (s.ids p)) where
      pub waiting_seen : buffer_codec.dec (run (place_at c p + buffer_at) buffer_codec.size (render t (words bs))) ≡ s.bricks.buffer (s.ids p)
      waiting_seen =
          ap buffer_codec.dec (still c bs v (waiting_at c p hp) (waiting_self c p hp s o) t a e (waiting_self c p hp t there_too))
          ∙ sym (seen_in c bs v (waiting_at c p hp) (waiting_self c p hp s o))

      pub waiting_few : get_or (render t (words bs)) (place_at c p + buffer_at) 0 ≤ max_waiting
      waiting_few =
          subst (λ (n : ℕ). n ≤ max_waiting) (table_count (place_at c p + buffer_at) buffer_codec.size (render t (words bs)) (omega arith))
          (few_of entry_row max_waiting (s.bricks.buffer (s.ids p)) ((facts c bs v).buffers (s.ids p)).room
          (run (place_at c p + buffer_at) buffer_codec.size (render t (words bs))) waiting_seen)
