-- Laws of sound lists: copies and items, buffers, logs, relays.
use mathlib.Core.Path.{◌≡◌, refl}
use mathlib.Core.List.Memᴰ
use mathlib.Core.List.{List, [], ◌∷◌, ◌++◌, map, Memᴰ}
use mathlib.Core.Bool.{Bool, true, false}
use mathlib.Core.Logic.{inl, inr}
use Prim.Native.Nat.{ℕ, zero, suc, ◌≤◌, ◌<◌}
use native.Mathlib.Omega.{arith}
use lib.ListN.{length, length-append}
use Rattle.lists.specs.Tests.{only}
use Rattle.lists.proofs.Tests.{either, only_in, length_only, one_more}
use Rattle.rules.specs.Limits.{max_waiting}
use Rattle.rules.specs.Entries.{Entry, entry, insert, takes, drain}
use Rattle.rules.specs.Chunks.{Chunk, held, append, save}
use Rattle.rules.specs.State.{Relay}
use Rattle.rules.specs.Maps.{remove_at}
use Rattle.rules.proofs.Entries.{insert_in, ascending_insert, length_insert, ascending_only}
use Rattle.rules.proofs.Chunks.{append_apart, save_from, apart_save, apart_only}
use Rattle.rules.proofs.Sound.{EntryOk, TableOk, BufferOk, ChunkOk, LogOk, RelayOk}

-- ---- what is asked of keys may be weakened
module _ {K L : ℕ → Type 0} (f : (k : ℕ) → K k → L k) where
  pub entry_map : {P : ℕ → Type 0} {e : Entry} → EntryOk K P e → EntryOk L P e
  entry_map v = record { mine = v.mine; small = v.small; key = f _ v.key }

  pub table_map : {P : ℕ → Type 0} {most : ℕ} {l : List Entry} → TableOk K P most l → TableOk L P most l
  table_map v = record { sorted = v.sorted; room = v.room; each = λ e m. entry_map (v.each e m) }

  pub buffer_map : {l : List Entry} → BufferOk K l → BufferOk L l
  buffer_map v = record { room = v.room; each = λ e m. entry_map (v.each e m) }

  pub log_map : {size : ℕ} {l : List Chunk} → LogOk K size l → LogOk L size l
  log_map v = record { apart = v.apart; each = λ c m. record { key = f _ (v.each c m).key; bytes = (v.each c m).bytes } }

  pub relay_map : {count : ℕ} {r : Relay} → RelayOk K count r → RelayOk L count r
  relay_map v = record { view = v.view; bucket = v.bucket; order = v.order; small = v.small; key = f _ v.key }

-- ---- copies and items
module _ {K P : ℕ → Type 0} {most : ℕ} where
  pub table_insert : {l : List Entry} (b k : ℕ) → TableOk K P most l → takes most l b ≡ true → EntryOk K P (entry b k) → TableOk K P most (insert l b k)
  table_insert {l} b k v y new = record {
    sorted = ascending_insert 0 l b k (omega arith) v.sorted;
    room = length_insert 0 l b k most v.sorted v.room y;
    each = λ e i. elim (insert_in l b k e i) [ inl u ↦ v.each e u | inr u ↦ rw u new ];
  }

  pub table_only : {l : List Entry} (test : Entry → Bool) → TableOk K P most l → TableOk K P most (only test l)
  table_only {l} test v = record {
    sorted = ascending_only 0 test l v.sorted;
    room = omega (arith, length_only test l, v.room);
    each = λ e i. v.each e (only_in test l i).0;
  }

  pub table_drain : (l : List Entry) {c : List Entry} → TableOk K P most c → ((e : Entry) → Memᴰ e l → EntryOk K P e) → TableOk K P most (drain most c l)
  unfolding drain
  table_drain [] v f = v
  table_drain (e ∷ l) {c} v f =
      table_drain l (either (TableOk K P most) (takes most c e.block) (λ q. table_insert e.block e.key v q (f e (Memᴰ.head refl))) (λ _. v))
      (λ x i. f x (Memᴰ.tail i))

-- ---- buffers
pub buffer_append : {K : ℕ → Type 0} {l : List Entry} (e : Entry) → BufferOk K l → length l < max_waiting → EntryOk K (λ b. Unit {0}) e
    → BufferOk K (l ++ (e ∷ []))
buffer_append {K} {l} e v u new = record {
  room = omega (arith, length-append l (e ∷ []));
  each = one_more l v.each new;
}

pub buffer_only : {K : ℕ → Type 0} {l : List Entry} (test : Entry → Bool) → BufferOk K l → BufferOk K (only test l)
buffer_only {K} {l} test v = record { room = omega (arith, length_only test l, v.room); each = λ e m. v.each e (only_in test l m).0 }

-- ---- logs
module _ {K : ℕ → Type 0} {size : ℕ} {l : List Chunk} (v : LogOk K size l) where
  pub log_append : (c : Chunk) → held l c.key ≡ false → ChunkOk K size c → LogOk K size (append l c)
  log_append c n new = record { apart = append_apart l c v.apart n; each = one_more l v.each new }

  pub log_save : (test : ℕ → Bool) → LogOk K size (map (save test) l)
  log_save test = record {
    apart = apart_save test l v.apart;
    each = λ c m. let f = save_from test l m in let u = v.each f.0 f.1 in record { key = rw (← f.2) u.key; bytes = rw (← f.3) u.bytes };
  }

  pub log_only : (test : Chunk → Bool) → LogOk K size (only test l)
  log_only test = record { apart = apart_only test l v.apart; each = λ c m. v.each c (only_in test l m).0 }

-- ---- relays
pub remove_at_in : (l : List Relay) (n : ℕ) {r : Relay} → Memᴰ r (remove_at l n) → Memᴰ r l
unfolding remove_at
remove_at_in [] n m = m
remove_at_in (x ∷ l) zero m = Memᴰ.tail m
remove_at_in (x ∷ l) (suc n) m = elim (Memᴰ.cases_cons m) [ inl e ↦ Memᴰ.head e | inr t ↦ Memᴰ.tail (remove_at_in l n t) ]

pub length_remove_at : (l : List Relay) (n : ℕ) → length (remove_at l n) ≤ length l
unfolding remove_at
length_remove_at [] n = omega arith
length_remove_at (r ∷ l) zero = omega arith
length_remove_at (r ∷ l) (suc n) = omega (arith, length_remove_at l n)
