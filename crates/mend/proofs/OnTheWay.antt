-- A store whose log is partly mended is sound, and its state is the old one with that log.
use mathlib.Core.Path.{◌≡◌, sym, ap, subst, ◌∙◌}
use mathlib.Core.Bool.{Bool, true}
use mathlib.Core.List.{List, [], ◌∷◌, map}
use Prim.Native.Nat.{ℕ, ◌+◌, ◌/◌, ◌≤◌}
use native.Mathlib.Omega.{arith}
use lib.ListN.{length, take, length-map, length-take}
use borrow.Author.Tests.{ltb-true}
use Rattle.lists.specs.Runs.{run}
use Rattle.lists.proofs.Tests.{by, and_l, and_r}
use Rattle.lists.proofs.Columns.{upd_same}
use Rattle.lists.proofs.Runs.{run_length, on_by, on_twice}
use Rattle.words.specs.Words.{words}
use Rattle.rules.specs.declared.settings.Settings.{Settings}
use Rattle.rules.specs.Numbers.{home_of}
use Rattle.rules.specs.Entries.{Entry}
use Rattle.rules.specs.Chunks.{Chunk, held, save_key}
use Rattle.rules.specs.State.{State}
use Rattle.rules.specs.Derived.{up_member, members_from, holder}
use Rattle.rules.specs.Upkeep.{mend_key, mend_keys}
use Rattle.rules.proofs.Derived.{first_holder_held}
use Rattle.rules.proofs.Sound.{Sound, LogOk, KeyOf}
use Rattle.history.proofs.Sound.Groups.{log_sound}
use Rattle.history.proofs.Sound.Lists.{log_append, log_save}
use Rattle.history.proofs.Sound.Writes.{held_ok}
use Rattle.chunk_log.proofs.Codec.{fits_from, log_keeps}
use Rattle.chunk_log.proofs.Chunks.{write_write}
use Rattle.chunk_log.specs.Log.{log_enc, from_chunk}
use Rattle.layout.specs.Layout.{word_bytes, log_codec, settings_of, log_words, store_words}
use Rattle.layout.specs.Store.{decode, render}
use Rattle.layout.proofs.Sound.{SoundWords}
use Rattle.layout.proofs.Fit.{read_back, settings_kept, render_sound}
use Rattle.lent.specs.Stores.{StoreOf}
use Rattle.lent.proofs.Stores.{settings_are, facts}
use Rattle.lent.specs.Places.{with_chunks, log_from}
use Rattle.lent.proofs.Logs.{log_changed}
use Rattle.mend.specs.Fit.{with_log_at, log_of, UpAt, key_mended}
use Rattle.mend.specs.Keys.{wants}
use Rattle.mend.proofs.Mending.{key_none, key_saved, key_added, Sofar}
use Rattle.mend.proofs.Decided.{key_now}
use Rattle.mend.proofs.OnStore.{stands, store_long}

-- ---- a log that is mended stays one
module _ {s : State} (v : Sound s) (id : ℕ) where
  abbrev Ok : List Chunk → Type 0
  Ok = LogOk (KeyOf s) s.settings.size

  pub key_ok : (l : List Chunk) (k : ℕ) → Ok l → Ok (mend_key s id l k)
  key_ok l k o =
      by (wants s id k)
      (λ w. by (held l k)
      (λ h. subst Ok (sym (key_saved s id l k w h)) (unfold save_key in log_save o _))
      (λ n. subst Ok (sym (key_added s id l k w n)) (log_append o _ n (held_ok v (holder s k) k true (it w)))))
      (λ w. subst Ok (sym (key_none s id l k w)) o)
    where
      it : wants s id k ≡ true → held (s.bricks.log (holder s k)) k ≡ true
      it w = unfold wants holder in first_holder_held s.bricks k (members_from s (home_of k)) (ltb-true 0 _ (and_r _ _ w))

  pub keys_ok : (es : List Entry) (l : List Chunk) → Ok l → Ok (mend_keys s id l es)
  unfolding mend_keys
  keys_ok [] l o = o
  keys_ok (e ∷ es) l o = keys_ok es (mend_key s id l e.key) (key_ok l e.key o)

-- ---- the store on the way
pub record Way (c : Settings) (bs : List ℕ) (p : ℕ) (log : List Chunk) (now : List ℕ) : Type 0 where
  pub store : StoreOf c now
  pub state : decode (words now) ≡ with_chunks (decode (words bs)) ((decode (words bs)).ids p) log

module _ (c : Settings) (bs : List ℕ) (p : ℕ) (u : UpAt c bs p) where
  abbrev s : State
  s = decode (words bs)

  abbrev id : ℕ
  id = s.ids p

  pub way : (log : List Chunk) → LogOk (KeyOf s) s.settings.size log → length log ≤ c.chunks → (now : List ℕ) → length now ≡ length bs
      → words now ≡ with_log_at c p log (words bs) → Way c bs p log now
  way log ok room now n e =
      let t : State = with_chunks s id log in
      let v = facts c bs u.store in
      let same : s.settings ≡ c = settings_are c bs u.store in
      let fits : length log ≤ s.settings.chunks = rw same room in
      let sound : Sound t = log_sound v id u.up ok fits in
      let long : length (words bs) ≡ store_words s.settings = store_long c bs p u ∙ ap store_words (sym same) in
      let is : words now ≡ render t (words bs) = e ∙ sym (log_changed c bs u.store p u.inside (stands c bs p u) log) in
      record {
        store = record {
          limits = u.store.limits;
          size = n ∙ u.store.size;
          same = sym (ap settings_of is ∙ settings_kept t sound (words bs) long ∙ same);
          sound = subst SoundWords (sym is) (render_sound t sound (words bs) long);
        };
        state = ap decode is ∙ read_back t sound (words bs) long;
      }

  module _ (log : List Chunk) (now : List ℕ) (w : Way c bs p log now) where
    pub same_id : (decode (words now)).ids p ≡ id
    same_id = ap (λ (t : State). t.ids p) w.state

    pub still_up : UpAt c now p
    still_up = record {
      store = w.store;
      inside = u.inside;
      up = ap (λ (t : State). up_member t (t.ids p)) w.state ∙ u.up;
    }

    pub log_now : log_of p (words now) ≡ log
    log_now = ap (λ (t : State). t.bricks.log (t.ids p)) w.state ∙ upd_same s.bricks.log id log

    pub mended_now : (seen : ℕ → Bool) → Sofar s id log seen → (k : ℕ) → key_mended p k (words now) ≡ mend_key s id log k
    mended_now seen o k =
        ap (λ (l : List Chunk). mend_key (decode (words now)) ((decode (words now)).ids p) l k) log_now
        ∙ ap (λ (t : State). mend_key t (t.ids p) log k) w.state
        ∙ key_now s id (and_l _ _ u.up) log seen o k log (λ y. y)

-- ---- one log over another that is not longer
enc_over : (c : Settings) (k m : List Chunk) (w : List ℕ) → length w ≡ log_words c → length k ≤ length m → length m ≤ c.chunks
    → (log_codec c).enc m ((log_codec c).enc k w) ≡ (log_codec c).enc m w
unfolding log_enc
enc_over c k m w h g r =
    write_write c.chunks (c.size / word_bytes) (map (from_chunk (c.size / word_bytes)) (take c.chunks m))
    (map (from_chunk (c.size / word_bytes)) (take c.chunks k)) w h (fits_from c.chunks (c.size / word_bytes) m)
    (fits_from c.chunks (c.size / word_bytes) k) (rw (length-map, length-map, length-take, length-take) (omega arith))

pub log_over : (c : Settings) (p : ℕ) (k m : List Chunk) (ws : List ℕ) → log_from c p + log_words c ≤ length ws → length k ≤ length m → length m ≤ c.chunks
    → with_log_at c p m (with_log_at c p k ws) ≡ with_log_at c p m ws
log_over c p k m ws h g r =
    let w : List ℕ = run (log_from c p) (log_words c) ws in
    let n : length w ≡ log_words c = run_length (log_from c p) (log_words c) ws h in
    sym (on_twice (log_from c p) (log_words c) ((log_codec c).enc k) ((log_codec c).enc m) ws h (log_keeps c.chunks (c.size / word_bytes) k w n))
    ∙ on_by (log_from c p) (log_words c) _ ((log_codec c).enc m) ws (enc_over c k m w n g r)
