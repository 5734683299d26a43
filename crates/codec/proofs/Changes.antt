-- Clean words with several parts of their value changed, one after the other: values a, b, .. written over the words w.
use mathlib.Core.Path.{◌≡◌, sym, ap, ◌∙◌}
use mathlib.Core.List.{List}
use Prim.Native.Nat.{ℕ}
use lib.ListN.{length}
use Rattle.lists.specs.Runs.{run, on_run}
use Rattle.lists.proofs.Runs.{on_by}
use Rattle.codec.specs.Codec.{Codec, Clean, change}
use Rattle.codec.proofs.Focus.{Focus, part_of, clean_part}

module _ {A B : Type 0} {c : Codec A} {d : Codec B} (φ : Focus c d) (w : List ℕ) (h : length w ≡ c.size) (k : Clean c w)
    (here : φ.Else (c.dec w) (c.dec w)) where
  abbrev old : List ℕ
  old = run φ.off d.size w

  -- a part that no change touched holds the words that it held
  pub part_stays : (a : A) → φ.Else a a → φ.see a ≡ φ.see (c.dec w) → run φ.off d.size (c.enc a w) ≡ old
  part_stays a e same = part_of φ a w h e ∙ ap (λ (b : B). d.enc b old) (same ∙ φ.read w h here) ∙ clean_part φ w h here k

  -- such a part is written by any function that makes the new value's words of the old ones
  module _ (a b : A) (e : φ.Else a b) (same : φ.see a ≡ φ.see (c.dec w)) where
    pub part_written : (g : List ℕ → List ℕ) → g old ≡ d.enc (φ.see b) old → on_run φ.off d.size g (c.enc a w) ≡ c.enc b w
    part_written g q =
        on_by φ.off d.size g (λ _. d.enc (φ.see b) old) (c.enc a w) (ap g (part_stays a (φ.same a b e) same) ∙ q) ∙ sym (φ.write a b w h e)

    -- or its value is changed
    pub value_changed : (f : B → B) → φ.see b ≡ f (φ.see (c.dec w)) → on_run φ.off d.size (change d f) (c.enc a w) ≡ c.enc b w
    value_changed f new = part_written (change d f) (ap (λ (x : B). d.enc x old) (ap f (sym (φ.read w h here)) ∙ sym new))
