-- copy and savelog keep the invariant of the ageing rule. (put stands in a file of its own.)
use mathlib.Core.Path.{◌≡◌, sym}
use mathlib.Core.List.{List, map, Memᴰ}
use mathlib.Core.Bool.{Bool, true}
use Prim.Native.Nat.{ℕ}
use Rattle.lists.proofs.Tests.{either, one_more}
use Rattle.lists.proofs.Columns.{upd_all}
use Rattle.rules.specs.Numbers.{home_of}
use Rattle.rules.specs.Chunks.{Chunk, held, bytes_in, save, save_all}
use Rattle.rules.specs.Event.{Event}
use Rattle.rules.specs.State.{State, Bricks, set_bricks, with_log}
use Rattle.rules.specs.Writes.{target, nothing_to_copy, copy_effect, savelog_effect}
use Rattle.rules.specs.Step.{rule}
use Rattle.rules.proofs.Step.{Yes}
use Rattle.rules.proofs.Chunks.{held_in, save_from}
use Rattle.history.specs.Claim.{History}
use Rattle.history.proofs.AgeingInvariant.{Writes, BytesOfWrite, AgeingInvariant}

write_bytes_same : (w : Writes) {j k : ℕ} {c d : List ℕ} → j ≡ k → c ≡ d → BytesOfWrite w j c → BytesOfWrite w k d
write_bytes_same w e f o = rw (← e, ← f) o

-- ---- a log in which every chunk has the bytes of its write
module _ (s : State) (h : History) (v : AgeingInvariant s h) where
  abbrev pub HonestLog : List Chunk → Type 0
  HonestLog l = (c : Chunk) → Memᴰ c l → BytesOfWrite h.writes c.key c.bytes

  pub log_ageing : (x : ℕ) (l : List Chunk) → HonestLog l → AgeingInvariant (set_bricks s (with_log s.bricks x l)) h
  log_ageing x l o = record {
    keys = v.keys;
    marked = v.marked;
    items = v.items;
    relays = v.relays;
    buckets = v.buckets;
    logs = upd_all (λ _. HonestLog) s.bricks.log x l v.logs o;
  }

  -- the bytes that are read of a held key
  pub write_bytes_held : (x k : ℕ) → held (s.bricks.log x) k ≡ true → BytesOfWrite h.writes k (bytes_in (s.bricks.log x) k)
  write_bytes_held x k y = let t = held_in (s.bricks.log x) k y in write_bytes_same h.writes t.2 (sym t.3) (v.logs x t.0 t.1)

  pub write_bytes_save : (test : ℕ → Bool) (l : List Chunk) → HonestLog l → HonestLog (map (save test) l)
  write_bytes_save test l o c m = let f = save_from test l m in write_bytes_same h.writes f.2 f.3 (o f.0 f.1)

  pub savelog_ageing : (i : ℕ) → AgeingInvariant (rule s (Event.savelog i)).after h
  unfolding rule savelog_effect save_all
  savelog_ageing i = log_ageing _ _ (write_bytes_save _ _ (v.logs _))

  pub copy_ageing : (k : ℕ) → Yes s (Event.copy k) → AgeingInvariant (rule s (Event.copy k)).after h
  unfolding rule copy_effect
  copy_ageing k y =
      either (λ (c : Bricks). AgeingInvariant (set_bricks s c) h) (nothing_to_copy s k) (λ _. v)
      (λ _. log_ageing (target s k) _ (one_more _ (v.logs _) (write_bytes_held (home_of k) k (search))))
