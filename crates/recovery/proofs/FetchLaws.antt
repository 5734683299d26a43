-- What the writes of fetch leave: the words of the state that it makes.
use mathlib.Core.Path.{◌≡◌, refl, sym, ap, ap₂, subst, ◌∙◌}
use mathlib.Core.List.{List}
use Prim.Native.Nat.{ℕ, ◌≤◌, ◌<◌}
use native.Mathlib.Omega.{arith}
use lib.ListN.{get_or}
use Rattle.lists.specs.Runs.{on_run}
use Rattle.lists.specs.Columns.{upd}
use Rattle.words.specs.Words.{words}
use Rattle.rules.specs.declared.settings.Settings.{Settings}
use Rattle.rules.specs.Limits.{buckets}
use Rattle.rules.specs.Entries.{Entry}
use Rattle.rules.specs.State.{State, Bucket, with_copies}
use Rattle.rules.specs.Views.{source, fetched_bucket, fetch_effect}
use Rattle.layout.specs.Contents.{Agreed}
use Rattle.layout.specs.Layout.{agreed_codec, agreed_words, agreed_at}
use Rattle.layout.specs.Store.{agreed_in, decode, render}
use Rattle.lent.specs.Stores.{StoreOf}
use Rattle.lent.specs.Places.{Stands}
use Rattle.recovery.specs.Copies.{memory_word, replaced_words}
use Rattle.recovery.specs.Fetch.{fetched_record}
use Rattle.recovery.proofs.Replaced.{begin, source_few, replaced, recorded}

module _ (c : Settings) (bs : List ℕ) (v : StoreOf c bs) (g : ℕ) (hg : g < buckets c) (p q : ℕ)
    (from : Stands c (decode (words bs)) (source (decode (words bs)) g) p) (to : Stands c (decode (words bs)) ((decode (words bs)).bucket g).primary q) where
  abbrev s : State
  s = decode (words bs)

  abbrev old : Bucket
  old = s.bucket g

  op : 0 < s.ids p
  op = omega (arith, from.some, from.here)

  oq : 0 < s.ids q
  oq = omega (arith, to.some, to.here)

  pub fetch_few : get_or (words bs) (memory_word c g p) 0 ≤ c.entries
  fetch_few =
      subst (λ (w : List ℕ). get_or w (memory_word c g p) 0 ≤ c.entries) (sym (begin c bs v g hg))
      (source_few c bs v g hg old p q from.inside to.inside op oq refl refl refl)

  -- the column of copies as the rules have it
  fetched : (f : ℕ → List Entry) (i : ℕ) → upd f (s.ids q) (old.memory (s.ids p)) i ≡ upd f old.primary (old.memory (source s g)) i
  fetched f i = ap₂ (λ (x y : ℕ). upd f x (old.memory y) i) to.here from.here

  pub fetch_steps : (w1 w2 : List ℕ) (agreed : Agreed) → agreed ≡ fetched_record (agreed_in old) → w1 ≡ replaced_words c g p q (words bs)
      → w2 ≡ on_run (agreed_at g) agreed_words (agreed_codec.enc agreed) w1 → w2 ≡ render (fetch_effect s g) (words bs)
  unfolding fetch_effect
  fetch_steps w1 w2 agreed ea e1 e2 =
      let both : Bucket = with_copies old (upd old.memory (s.ids q) (old.memory (s.ids p))) (upd old.disk (s.ids q) (old.memory (s.ids p))) in
      e2 ∙ ap (on_run (agreed_at g) agreed_words (agreed_codec.enc agreed))
      (e1 ∙ ap (replaced_words c g p q) (begin c bs v g hg) ∙ replaced c bs v g hg old p q from.inside to.inside op oq refl refl refl)
      ∙ recorded c bs v g hg s.bricks both (fetched_bucket (source s g) old) refl (fetched old.memory) (fetched old.disk) agreed (sym ea)
