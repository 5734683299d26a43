use mathlib.Core.Path.{refl, sym, ◌∙◌}
use Prim.Native.Nat.{◌*◌}
use borrow.Author.Tests.{lt-leb, le-leb}
use Rattle.words.specs.Words.{words}
use Rattle.words.proofs.Laws.{length_words}
use Rattle.layout.specs.Layout.{items_at, items_codec, proxy_words}
use Rattle.row_checks.specs.Rows.{key_below}
use Rattle.lists.proofs.Tests.{no_first, yes_first}
use Rattle.layout.proofs.Lent.{lent}
use Rattle.part_checks.proofs.ProxyLaws.{proxy_is}
use native.Mathlib.Omega.{arith}
use Rattle.part_checks.proofs.proxies.proxy_good.Goals as goal

pub returns-then-read-gt-MAX_VIEW_OR_ORDER : goal.returns-then-read-gt-MAX_VIEW_OR_ORDER
returns-then-read-gt-MAX_VIEW_OR_ORDER c =
    let s = c.args.proxy.now in
    sym (proxy_is (key_below c.args.bounds.now) c.args.p (words s) _ (length_words s ∙ omega arith) refl ∙ no_first _ _
    (rw (sym c.read.ensures) (lt-leb _ _ c.if-read-gt-MAX_VIEW_OR_ORDER.true)))

pub returns : goal.returns
returns c =
    let s = c.args.proxy.now in
    c.table_good.ensures ∙ sym (proxy_is (key_below c.args.bounds.now) c.args.p (words s) _ (length_words s ∙ omega arith)
    (lent s (8 * items_at) (8 * proxy_words) items_at items_codec.size refl refl (omega arith)) ∙ yes_first _ _
    (rw (sym c.read.ensures) (le-leb _ _ c.if-read-gt-MAX_VIEW_OR_ORDER.false)))
