-- A bucket's copy in a brick's memory takes an entry: what that makes of a lent store.
use mathlib.Core.Path.{◌≡◌, refl, sym, ap, ◌∙◌, fun_ext}
use mathlib.Core.List.{List, ◌++◌}
use Prim.Native.Nat.{ℕ, ◌+◌, ◌*◌, ◌-◌, ◌<◌}
use native.Mathlib.Omega.{arith}
use lib.ListN.{length, take, drop}
use Rattle.lists.proofs.Columns.{upd_same, upd_other, upd_all}
use Rattle.lists.specs.Columns.{upd}
use Rattle.words.specs.Words.{words}
use Rattle.rules.specs.declared.settings.Settings.{Settings}
use Rattle.rules.specs.Limits.{buckets}
use Rattle.rules.specs.Entries.{Entry, insert}
use Rattle.rules.specs.State.{State, Bucket, with_copies}
use Rattle.codec.specs.Codec.{change}
use Rattle.codec.proofs.Focus.{Focus, ◌through◌}
use Rattle.layout.specs.Contents.{Copies, Brick}
use Rattle.layout.specs.Layout.{brick_codec, copy_codec, copy_words, copies_at, place_at}
use Rattle.layout.specs.Store.{brick_in, agreed_in, decode, render}
use Rattle.layout.proofs.Changes.{OneBrick}
use Rattle.layout.proofs.Foci.{copies_in, memory_in}
use Rattle.lent.specs.Parts.{CopyPart}
use Rattle.lent.specs.Stores.{StoreOf}
use Rattle.lent.proofs.Stores.{facts, settings_are}
use Rattle.lent.proofs.Parts.{copy_part}
use Rattle.mappings.specs.Copies.{with_entry}
use Rattle.lent.proofs.Effects.{brick_value, brick_effect}

-- a bucket's copies at a brick
abbrev pub both_copies : Bucket → ℕ → Copies
both_copies k i = record { memory = k.memory i; disk = k.disk i }

-- a brick with other copies, the rest as it is
abbrev pub set_brick_copies : Brick → (ℕ → Copies) → Brick
set_brick_copies b f = record { present = b.present; status = b.status; buffer = b.buffer; copies = f; log = b.log }

-- ---- the change is one of that brick's copy alone
module _ (s : State) (g id block key : ℕ) where
  abbrev new : Bucket
  new = with_copies (s.bucket g) (upd (s.bucket g).memory id (insert ((s.bucket g).memory id) block key)) (s.bucket g).disk

  pub entered_one : OneBrick s (with_entry s g id block key) id
  unfolding with_entry
  entered_one = record {
    head = refl;
    agreed = fun_ext (upd_all (λ j k. agreed_in (s.bucket j) ≡ agreed_in k) s.bucket g new (λ j. refl) refl);
    proxy = refl;
    bag = refl;
    ids = refl;
    others = λ i q. ap (set_brick_copies (brick_in s i)) (fun_ext (upd_all (λ j k. both_copies (s.bucket j) i ≡ both_copies k i) s.bucket g new (λ j. refl)
        (ap (λ (l : List Entry). record { memory = l; disk = (s.bucket g).disk i })
        (sym (upd_other (s.bucket g).memory id i (insert ((s.bucket g).memory id) block key) q)))));
  }

  entered_else : (j : ℕ) → (j ≡ g → ⊥) → (brick_in s id).copies j ≡ (brick_in (with_entry s g id block key) id).copies j
  unfolding with_entry
  entered_else j q = ap (λ (k : Bucket). both_copies k id) (sym (upd_other s.bucket g j new q))

  entered_disk : ((brick_in s id).copies g).disk ≡ ((brick_in (with_entry s g id block key) id).copies g).disk
  unfolding with_entry
  entered_disk = ap (λ (k : Bucket). k.disk id) (sym (upd_same s.bucket g new))

  entered_memory : ((brick_in (with_entry s g id block key) id).copies g).memory ≡ insert ((s.bucket g).memory id) block key
  unfolding with_entry
  entered_memory =
      ap (λ (k : Bucket). k.memory id) (upd_same s.bucket g new) ∙ upd_same (s.bucket g).memory id (insert ((s.bucket g).memory id) block key)

-- ---- the copy, lent
module _ (c : Settings) (bs : List ℕ) (v : StoreOf c bs) (p : ℕ) (h : p < c.places) (z : 0 < (decode (words bs)).ids p) (g : ℕ) (l : g < buckets c)
    (o e : ℕ) (eo : o ≡ 8 * (place_at c p + copies_at c g)) (ee : e ≡ o + 8 * copy_words c) where
  abbrev copy : Focus (brick_codec c) (copy_codec c)
  copy = copies_in c g l through memory_in c

  pub memory_lent : length (take (e - o) (drop o bs)) ≡ 8 * copy_words c
      → CopyPart c.entries (((decode (words bs)).bucket g).memory ((decode (words bs)).ids p)) (take (e - o) (drop o bs))
  memory_lent n =
      let ok = ((facts c bs v).buckets_ok g (rw (settings_are c bs v) l)).memory ((decode (words bs)).ids p) in
      let most : (decode (words bs)).settings.entries ≡ c.entries = ap (λ (x : Settings). x.entries) (settings_are c bs v) in
      copy_part c.entries (((decode (words bs)).bucket g).memory ((decode (words bs)).ids p)) (take (e - o) (drop o bs)) n
      (brick_value c bs v p h z copy ((((refl, refl), refl), λ j m q. refl), refl) o e (omega arith) ee) (omega (arith, ok.room, most)) ok.sorted

  pub entered : (block key : ℕ) (part : List ℕ) → length part ≡ 8 * copy_words c
      → words part ≡ change (copy_codec c) (λ m. insert m block key) (words (take (e - o) (drop o bs)))
      → words (take o bs ++ (part ++ drop (e - o) (drop o bs)))
      ≡ render (with_entry (decode (words bs)) g ((decode (words bs)).ids p) block key) (words bs)
  unfolding with_entry
  entered block key part lp ep =
      let s = decode (words bs) in
      brick_effect c bs v p h z copy (with_entry s g (s.ids p) block key) refl (entered_one s g (s.ids p) block key)
      ((((refl, refl), refl), λ j m q. entered_else s g (s.ids p) block key j q), entered_disk s g (s.ids p) block key)
      (λ m. insert m block key) (entered_memory s g (s.ids p) block key) part o e (omega arith) ee lp ep
