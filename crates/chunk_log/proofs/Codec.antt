-- The log as a list of the rules' chunks: it keeps its length, is written twice as once, is read back, and is a log's words just where no key stands twice.
use mathlib.Core.Path.{◌≡◌, refl, sym, ap, ◌∙◌}
use mathlib.Core.Logic.{inl, inr}
use mathlib.Core.Bool.{Bool, true, false, cond}
use mathlib.Core.List.Memᴰ
use mathlib.Core.List.{List, [], ◌∷◌, ◌++◌, map, Memᴰ}
use Prim.Native.Nat.{ℕ, zero, suc, ◌+◌, ◌*◌, ◌^◌, ◌≤◌, ◌<◌, suc-le-suc}
use native.Mathlib.Nat.{le_refl, suc-mul, mul-le-mul_right}
use native.Mathlib.Omega.{arith}
use lib.Dec.{lit<, eqb}
use lib.ListN.{length, take, drop, get_or, replicate, length-append, length-take, length-drop, length-map, length-replicate}
use lib.Seq.{take_all, take_at, get_or-drop, length-take-le}
use borrow.Author.Tests.{eq-eqb, eqb-true}
use Rattle.lists.specs.Runs.{Sized, none, more, Below}
use Rattle.lists.proofs.Tests.{by, by_eq, and_l, and_r, both}
use Rattle.lists.proofs.Lists.{same_cons, get_or_map_in}
use Rattle.lists.proofs.Runs.{below_append, below_take, below_drop, below_replicate, below_enc_all, below_every, every_below}
use Rattle.words.specs.Words.{words}
use Rattle.words.proofs.Laws.{length_words, words_below, words_unwords, unwords_words, length_unwords, unwords_below}
use Rattle.rules.specs.Numbers.{is_data}
use Rattle.rules.specs.Chunks.{Chunk, new_chunk}
use Rattle.rules.specs.Sound.{keys_apart}
use Rattle.chunk_log.specs.Log.{Stored, stored, row_of, cell_of, stored_at, key_at, positions_of, rows_in, cells_in, lay, over, write_log, read_rows, read_log}
use Rattle.chunk_log.specs.Log.{log_size, to_chunk, from_chunk, fixed, chunk_at, log_dec, log_enc, good_log, Ordered, IsLog, Fits, Good}
use Rattle.chunk_log.proofs.Positions as order
use Rattle.chunk_log.proofs.Rules.{apart_at, apart_of}
use Rattle.chunk_log.proofs.Regions.{length_cells, row_word}
use Rattle.chunk_log.proofs.Chunks.{length_read_rows, length_write, read_write, write_read, write_write, write_as, distinct_read}
use Rattle.chunk_log.proofs.Check.{good_write}

-- ---- a cell of its size
pub length_fixed : (w : ℕ) (ws : List ℕ) → length (fixed w ws) ≡ w
unfolding fixed
length_fixed w ws = length-take-le w (ws ++ replicate w 0) (rw (length-append, length-replicate) (omega arith))

pub fixed_same : (w : ℕ) (ws : List ℕ) → length ws ≡ w → fixed w ws ≡ ws
unfolding fixed
fixed_same w ws e = take_at ws (replicate w 0) w e

-- ---- any chunks, cut to what a log can hold, fit it
pub sized_from : (w : ℕ) (cs : List Chunk) → Sized cell_of w (map (from_chunk w) cs)
sized_from w [] = none
sized_from w (c ∷ cs) = more (length_fixed w (words c.bytes)) (sized_from w cs)

pub fits_from : (L w : ℕ) (cs : List Chunk) → Fits L w (map (from_chunk w) (take L cs))
fits_from L w cs = record { few = rw (length-map, length-take) (omega arith); sized = sized_from w (take L cs) }

module _ (L w : ℕ) (cs : List Chunk) (ws : List ℕ) (hl : length ws ≡ log_size L w) where
  pub log_keeps : length (log_enc L w cs ws) ≡ log_size L w
  unfolding log_enc
  log_keeps = length_write L w (map (from_chunk w) (take L cs)) ws hl (fits_from L w cs)

  pub log_idem : log_enc L w cs (log_enc L w cs ws) ≡ log_enc L w cs ws
  unfolding log_enc
  log_idem =
      let f = fits_from L w cs in
      let xs = map (from_chunk w) (take L cs) in
      write_write L w xs xs ws hl f f (le_refl (length xs))

-- so many as fit are all written
pub log_enc_is : (L w : ℕ) (cs : List Chunk) (ws : List ℕ) → length cs ≤ L → log_enc L w cs ws ≡ write_log L (map (from_chunk w) cs) ws
unfolding log_enc
log_enc_is L w cs ws h = rw (take_all L cs h)

-- ---- chunks of words, as the rules' chunks and back
flag_back : (s : ℕ) → s ≤ 1 → cond (eqb s 1) 1 0 ≡ s
flag_back s h = by_eq s 1 (λ q e. rw (q, e)) (λ q e. rw q (omega arith))

pub from_to : (w : ℕ) (x : Stored) → x.saved ≤ 1 → length x.cell ≡ w → Below (2 ^ 64) x.cell → from_chunk w (to_chunk x) ≡ x
from_to w x f l b = rw (flag_back x.saved f, words_unwords b, fixed_same w x.cell l)

rows_back : (w n : ℕ) (r c : List ℕ) → n * w ≤ length c → ((i : ℕ) → i < n → get_or r (2 * i + 1) 0 ≤ 1) → Below (2 ^ 64) c
    → map (from_chunk w) (map to_chunk (read_rows w n r c)) ≡ read_rows w n r c
unfolding read_rows
rows_back w zero r c h f b = refl
rows_back w (suc n) r c h f b =
    let g : n * w + w ≤ length c = rw suc-mul at h in
    let one = from_to w (stored (get_or r 0 0) (get_or r 1 0) (take w c)) (f 0 (omega arith)) (length-take-le w c (omega arith)) (below_take w b) in
    let next : (i : ℕ) → i < n → get_or (drop 2 r) (2 * i + 1) 0 ≤ 1 =
    λ i q. let e : 2 + (2 * i + 1) ≡ 2 * suc i + 1 = omega arith in rw (get_or-drop 2 r (2 * i + 1) 0, e) (f (suc i) (suc-le-suc q)) in
    same_cons one (rows_back w n (drop 2 r) (drop w c) (rw length-drop (omega arith)) next (below_drop w b))

module _ (L w : ℕ) (ws : List ℕ) (hl : length ws ≡ log_size L w) where
  pub dec_length : length (log_dec L w ws) ≡ get_or ws 0 0
  unfolding log_dec read_log
  dec_length = length-map (read_log L w ws) to_chunk ∙ length_read_rows w (get_or ws 0 0) (rows_in L ws) (cells_in L ws)

  module _ (len : ℕ) (o : IsLog L w ws len) (b : Below (2 ^ 64) ws) where
    pub back_read : map (from_chunk w) (log_dec L w ws) ≡ read_log L w ws
    unfolding log_dec read_log
    back_read =
        rows_back w (get_or ws 0 0) (rows_in L ws) (cells_in L ws)
        (rw (length_cells L w ws hl) (mul-le-mul_right w o.few))
        (λ i h. let e : 1 + (2 * i + 1) ≡ 2 + 2 * i = omega arith in
        rw (row_word L w ws hl (2 * i + 1) (omega (arith, o.few)), e) (o.flags i h))
        (below_drop (1 + 3 * L) b)

    -- the words of a log are its chunks written over them
    pub log_clean : log_enc L w (log_dec L w ws) ws ≡ ws
    log_clean =
        log_enc_is L w (log_dec L w ws) ws (rw dec_length o.few)
        ∙ ap (λ (xs : List Stored). write_log L xs ws) back_read ∙ write_read L w ws hl o.few o.order

-- ---- the rules' chunks, written and read back
to_from : (w : ℕ) (c : Chunk) → is_data (8 * w) c.bytes ≡ true → to_chunk (from_chunk w c) ≡ c
unfolding is_data
to_from w c d =
    let l : length c.bytes ≡ 8 * w = eqb-true _ _ (and_l _ _ d) in
    let b : Below 256 c.bytes = below_every 256 c.bytes (and_r _ _ d) in
    rw (fixed_same w (words c.bytes) (length_words c.bytes ∙ omega arith), unwords_words c.bytes w b l, flag_read c.saved)
  where
    flag_read : (s : Bool) → eqb (cond s 1 0) 1 ≡ s
    flag_read true = refl
    flag_read false = refl

to_from_all : (w : ℕ) (cs : List Chunk) → ((c : Chunk) → Memᴰ c cs → is_data (8 * w) c.bytes ≡ true)
    → map to_chunk (map (from_chunk w) cs) ≡ cs
to_from_all w [] d = refl
to_from_all w (c ∷ cs) d =
    rw (to_from_all w cs (λ x m. d x (Memᴰ.tail m))) (ap (λ (x : Chunk). x ∷ cs) (to_from w c (d c (Memᴰ.head refl))))

module _ (L w : ℕ) (cs : List Chunk) (ws : List ℕ) (hl : length ws ≡ log_size L w) (few : length cs ≤ L)
    (each : (c : Chunk) → Memᴰ c cs → is_data (8 * w) c.bytes ≡ true) where
  pub log_back : log_dec L w (log_enc L w cs ws) ≡ cs
  unfolding log_dec log_enc
  log_back =
      rw (read_write L w (map (from_chunk w) (take L cs)) ws hl (fits_from L w cs), take_all L cs few) (to_from_all w cs each)

-- ---- what is written are words
module _ (w : ℕ) (c : Chunk) (hk : c.key < 2 ^ 64) (d : is_data (8 * w) c.bytes ≡ true) where
  row_small : Below (2 ^ 64) (row_of (from_chunk w c))
  row_small = by c.saved (λ q. rw q (more hk (more (lit< tt) none))) (λ q. rw q (more hk (more (lit< tt) none)))

  cell_small : Below (2 ^ 64) (cell_of (from_chunk w c))
  unfolding fixed is_data
  cell_small = below_take w (below_append (words_below (below_every 256 c.bytes (and_r _ _ d))) (below_replicate w 0 (lit< tt)))

all_below_of : {n m : ℕ} {xs : List ℕ} → n ≤ m → order.All (λ q. q < n) xs → Below m xs
all_below_of h order.none = none
all_below_of h (order.more {x} l r) = more {b = x} (omega arith) (all_below_of h r)

positions_small : (xs : List Stored) (m : ℕ) → length xs ≤ m → Below m (positions_of xs)
unfolding positions_of
positions_small xs m h = all_below_of h (order.positions_below (key_at xs) (length xs))

over_small : {n : ℕ} {front region : List ℕ} → Below n front → Below n region → Below n (over front region)
unfolding over
over_small {front = front} f r = below_append f (below_drop (length front) r)

pub log_small : (L w : ℕ) (cs : List Chunk) (ws : List ℕ) → L < 2 ^ 64 → length cs ≤ L
    → ((c : Chunk) → Memᴰ c cs → (c.key < 2 ^ 64) × (is_data (8 * w) c.bytes ≡ true))
    → Below (2 ^ 64) ws → Below (2 ^ 64) (log_enc L w cs ws)
unfolding lay
log_small L w cs ws top few each b =
    let xs : List Stored = map (from_chunk w) cs in
    let le : length xs ≡ length cs = length-map cs (from_chunk w) in
    let from : (x : Stored) → Memᴰ x xs → Below (2 ^ 64) (row_of x) × Below (2 ^ 64) (cell_of x) = λ x m.
    let s = Memᴰ.of_map (from_chunk w) cs m in
    let q = each s.0 s.1 in
    rw (← s.2) (row_small w s.0 q.0 q.1, cell_small w s.0 q.0 q.1) in
    rw (log_enc_is L w cs ws few, write_as L xs ws)
    (more {b = length xs} (omega arith) (below_append
    (over_small (below_enc_all row_of xs (λ x m. (from x m).0)) (below_take (2 * L) (below_drop 1 b)))
    (below_append (over_small (positions_small xs (2 ^ 64) (omega arith)) (below_take L (below_drop (1 + 2 * L) b)))
    (over_small (below_enc_all cell_of xs (λ x m. (from x m).1)) (below_drop (1 + 3 * L) b)))))

-- ---- which words are a log's: the count is in range, they are their chunks written over them, and no key stands twice
good_from : (w : ℕ) (cs : List Chunk) → keys_apart cs ≡ true → Good (map (from_chunk w) cs)
good_from w cs a =
    record {
      flags = λ i h. rw (at i (rw length-map at h)) (flag_small (chunk_at cs i).saved);
      distinct = λ i j p q e. let q2 : j < length cs = rw length-map at q in
          apart_at cs a i j p q2 (sym (ap (λ (x : Stored). x.key) (at i (omega arith))) ∙ e ∙ ap (λ (x : Stored). x.key) (at j q2));
    }
  where
    flag_small : (s : Bool) → cond s 1 0 ≤ 1
    flag_small true = omega arith
    flag_small false = omega arith

    at : (i : ℕ) → i < length cs → stored_at (map (from_chunk w) cs) i ≡ from_chunk w (chunk_at cs i)
    at i h = get_or_map_in (from_chunk w) cs i (stored 0 0 []) (new_chunk 0 false []) h

pub log_good : (L w : ℕ) (cs : List Chunk) (ws : List ℕ) → length ws ≡ log_size L w → length cs ≤ L → keys_apart cs ≡ true
    → good_log L (log_enc L w cs ws) ≡ true
log_good L w cs ws hl few a =
    rw (log_enc_is L w cs ws few)
    (good_write L w (map (from_chunk w) cs) ws hl (record { few = rw length-map few; sized = sized_from w cs }) (good_from w cs a))

module _ (L w : ℕ) (ws : List ℕ) (hl : length ws ≡ log_size L w) (few : get_or ws 0 0 ≤ L) where
  pub good_of_clean : log_enc L w (log_dec L w ws) ws ≡ ws → keys_apart (log_dec L w ws) ≡ true → good_log L ws ≡ true
  good_of_clean e a = rw e at (log_good L w (log_dec L w ws) ws hl (rw (dec_length L w ws hl) few) a)

  pub dec_apart : Ordered L (get_or ws 0 0) ws → keys_apart (log_dec L w ws) ≡ true
  unfolding log_dec
  dec_apart o =
      apart_of (map to_chunk (read_log L w ws)) (λ i j p q e. let q2 : j < length (read_log L w ws) = rw length-map at q in
      distinct_read L w ws hl few o i j p q2 (sym (key i (omega arith)) ∙ e ∙ key j q2))
    where
      key : (i : ℕ) → i < length (read_log L w ws) → (chunk_at (map to_chunk (read_log L w ws)) i).key ≡ key_at (read_log L w ws) i
      key i h = ap (λ (c : Chunk). c.key) (get_or_map_in to_chunk (read_log L w ws) i (new_chunk 0 false []) (stored 0 0 []) h)

-- each chunk read has data of its size
rows_data : (w n : ℕ) (r c : List ℕ) → n * w ≤ length c → (x : Chunk) → Memᴰ x (map to_chunk (read_rows w n r c)) → is_data (8 * w) x.bytes ≡ true
unfolding read_rows is_data
rows_data w zero r c h x m = absurd (Memᴰ.not-nil m)
rows_data w (suc n) r c h x m =
    let g : n * w + w ≤ length c = rw suc-mul at h in
    elim (Memᴰ.cases_cons m) [
      | inl e ↦ rw e (both _ _ (eq-eqb _ _ (length_unwords (take w c) ∙ rw (length-take-le w c (omega arith)))) (every_below (unwords_below (take w c))))
      | inr t ↦ rows_data w n (drop 2 r) (drop w c) (rw length-drop (omega arith)) x t
    ]

pub dec_data : (L w : ℕ) (ws : List ℕ) → length ws ≡ log_size L w → get_or ws 0 0 ≤ L → (x : Chunk) → Memᴰ x (log_dec L w ws)
    → is_data (8 * w) x.bytes ≡ true
unfolding log_dec read_log
dec_data L w ws hl few x m =
    rows_data w (get_or ws 0 0) (rows_in L ws) (cells_in L ws) (rw (length_cells L w ws hl) (mul-le-mul_right w few)) x m
