-- What becomes of one key, as the code decides it.
use mathlib.Core.Path.{◌≡◌, sym, ap, ◌∙◌}
use mathlib.Core.Bool.{true, false}
use mathlib.Core.List.{List, [], ◌∷◌}
use Prim.Native.Nat.{ℕ, ◌<◌}
use native.Mathlib.Omega.{arith}
use lib.ListN.{length, length-append}
use Rattle.lists.specs.Runs.{Below}
use Rattle.words.specs.Words.{words}
use Rattle.rules.specs.declared.settings.Settings.{Settings}
use Rattle.rules.specs.Chunks.{Chunk, new_chunk, held, bytes_in, append, save_key}
use Rattle.rules.specs.State.{State}
use Rattle.rules.specs.Derived.{holder}
use Rattle.chunk_log.specs.Log.{chunk_at}
use Rattle.layout.specs.Store.{decode}
use Rattle.holders.proofs.Contents.{bytes_at_holder, holder_size}
use Rattle.mend.specs.Fit.{with_log_at, log_of, Mends, key_mended}
use Rattle.mend.specs.Keys.{wants}
use Rattle.mend.specs.Acts.{Lacking}
use Rattle.mend.proofs.Mending.{key_none, key_saved, key_added}
use Rattle.mend.proofs.OnStore.{log_still}

module _ (c : Settings) (bs : List ℕ) (p k : ℕ) (m : Mends c bs p k) where
  abbrev s : State
  s = decode (words bs)

  abbrev log : List Chunk
  log = log_of p (words bs)

  pub unmended : Below 256 bs → wants s (s.ids p) k ≡ false → words bs ≡ with_log_at c p (key_mended p k (words bs)) (words bs)
  unmended b n =
      log_still c bs p m.there b ∙ ap (λ (l : List Chunk). with_log_at c p l (words bs)) (sym (key_none s (s.ids p) log k n))

  pub saved : wants s (s.ids p) k ≡ true → held log k ≡ true → (vs : List ℕ) → vs ≡ with_log_at c p (save_key log k) (words bs)
      → vs ≡ with_log_at c p (key_mended p k (words bs)) (words bs)
  saved w h vs q = q ∙ ap (λ (l : List Chunk). with_log_at c p l (words bs)) (sym (key_saved s (s.ids p) log k w h))

  -- the chunk comes from the place and row where it lies with its holder
  module _ (from row : ℕ) (o : Lacking c s (s.ids p) k from row) where
    abbrev bytes : List ℕ
    bytes = bytes_in (s.bricks.log (holder s k)) k

    grown : key_mended p k (words bs) ≡ append log (new_chunk k true bytes)
    grown = key_added s (s.ids p) log k o.wanted o.missing

    pub some_room : length log < c.chunks
    some_room = omega (arith, m.room, ap length grown ∙ length-append log (new_chunk k true bytes ∷ []))

    row_bytes : (chunk_at (log_of from (words bs)) row).bytes ≡ bytes
    row_bytes = bytes_at_holder c bs m.there.store (holder s k) k from row o.from

    pub row_whole : length (chunk_at (log_of from (words bs)) row).bytes ≡ c.size
    row_whole = ap length row_bytes ∙ holder_size c bs m.there.store k o.from.stands.some

    pub added : (d vs : List ℕ) → d ≡ (chunk_at (log_of from (words bs)) row).bytes → vs ≡ with_log_at c p (append log (new_chunk k true d)) (words bs)
        → vs ≡ with_log_at c p (key_mended p k (words bs)) (words bs)
    added d vs e q =
        q ∙ ap (λ (l : List Chunk). with_log_at c p l (words bs)) (ap (λ (x : List ℕ). append log (new_chunk k true x)) (e ∙ row_bytes) ∙ sym grown)
