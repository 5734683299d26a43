use mathlib.Core.Path.{◌≡◌, refl, sym, ap, ◌∙◌}
use mathlib.Core.List.{List}
use mathlib.Core.Bool.{Bool}
use Prim.Native.Nat.{ℕ, ◌+◌, ◌*◌}
use borrow.Author.Count.{below_more}
use Rattle.lists.proofs.Tests.{all_true, all_false}
use Rattle.words.specs.Words.{words}
use Rattle.rules.specs.Sound.{sound_proxy}
use Rattle.layout.specs.Layout.{proxy_codec, proxy_words, proxy_at}
use Rattle.row_checks.specs.Rows.{key_below}
use Rattle.part_checks.specs.Proxies.{proxy_sound}
use Rattle.layout.proofs.Lent.{lent}
use native.Mathlib.Omega.{arith}
use Rattle.part_checks.proofs.proxies.proxies_good.Goals as goal
use Rattle.part_checks.proofs.proxies.proxies_good.Goals.{After-proxy_good}

-- a proxy, in its words
abbrev test : (ℕ → Bool) → ℕ → List ℕ → Bool
test keys p w = sound_proxy keys p (proxy_codec.dec w).known (proxy_codec.dec w).items

-- the code's test of a proxy is the rules'
tested : (c : After-proxy_good) → proxy_sound c.args.settings (key_below c.args.bounds.now) (words c.args.store.now) c.loop-p.p ≡ c.proxy_good.result
unfolding proxy_sound
tested c =
    let a = c.args in
    let at = c.proxy_at-a in
    ap (test (key_below a.bounds.now) c.loop-p.p) (sym (lent a.store.now (8 * at.result) (8 * at.result + 8 * proxy_words)
    (proxy_at a.settings c.loop-p.p) proxy_words (omega (arith, at.ensures.0)) refl (omega (arith, at.ensures, c.requires.size))))
    ∙ sym c.proxy_good.ensures

pub returns-then-not-proxy_good : goal.returns-then-not-proxy_good
returns-then-not-proxy_good c = sym (all_false _ _ c.loop-p.p (omega arith) (tested (goal.at.returns-then-not-proxy_good c).After-proxy_good ∙ c.if-not-proxy_good.true))

pub loop-p-preserved : goal.loop-p-preserved
loop-p-preserved c = below_more _ c.loop-p.p c.loop-p.invariant (tested (goal.at.loop-p-preserved c).After-proxy_good ∙ c.if-not-proxy_good.false)

pub returns : goal.returns
returns c = sym (all_true _ _ (λ k p. c.loop-p.invariant k (omega arith)))
