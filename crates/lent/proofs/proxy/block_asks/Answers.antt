use mathlib.Core.Path.{sym, ◌∙◌}
use Rattle.lent.proofs.Proxies.{no_proxy, no_block, is_own, not_own}
use Rattle.lent.proofs.proxy.block_asks.Goals as goal

pub returns-then-proxy : goal.returns-then-proxy
returns-then-proxy c = no_proxy c.args.proxy c.args.block c.if-proxy.true

pub returns-then-block-ge-BLOCKS : goal.returns-then-block-ge-BLOCKS
returns-then-block-ge-BLOCKS c = no_block c.args.proxy c.args.block c.if-proxy.false c.if-block-ge-BLOCKS.true

pub returns-then-proxy-2 : goal.returns-then-proxy-2
returns-then-proxy-2 c =
    let if1 = c.if-proxy in
    let if2 = c.if-block-ge-BLOCKS in
    is_own c.args.proxy c.args.block if1.false if2.false (sym c.proxy.ensures ∙ c.if-proxy-2.true)

pub returns-else-proxy-2 : goal.returns-else-proxy-2
returns-else-proxy-2 c =
    let if1 = c.if-proxy in
    let if2 = c.if-block-ge-BLOCKS in
    not_own c.args.proxy c.args.block if1.false if2.false (λ e. c.if-proxy-2.false (c.proxy.ensures ∙ e))
