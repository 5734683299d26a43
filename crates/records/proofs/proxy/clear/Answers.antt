use mathlib.Core.Path.{◌≡◌, refl, ◌∙◌}
use mathlib.Core.List.{List, [], ◌∷◌}
use Prim.Native.Nat.{ℕ}
use native.Mathlib.Omega.{arith}
use lib.ListN.{length, set}
use Rattle.lists.specs.Runs.{enc_all}
use Rattle.words.specs.Words.{words}
use Rattle.words.proofs.Laws.{length_words}
use Rattle.codec.specs.Codec.{enc_two}
use Rattle.layout.specs.Contents.{blank_proxy}
use Rattle.layout.specs.Layout.{proxy_codec, proxy_words}
use Rattle.records.proofs.proxy.clear.Goals as goal

cleared : (w : List ℕ) → length w ≡ proxy_words → set (set w 0 0) 1 0 ≡ proxy_codec.enc blank_proxy w
unfolding enc_two enc_all
cleared [] h = absurd (omega arith)
cleared (a ∷ []) h = absurd (omega arith)
cleared (a ∷ b ∷ w) h = refl

pub returns : goal.returns
returns c =
    cc (cleared (words c.args.part.now) (length_words c.args.part.now ∙ omega (arith, c.requires)))
