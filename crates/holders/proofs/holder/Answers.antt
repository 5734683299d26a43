use Rattle.std.proofs.Common.{ℕ, sym, subst, rules, tests}
use Rattle.words.specs.Words.{words}
use Rattle.rules.specs.Derived.{holder, first_holder}
use Rattle.layout.specs.Store.{decode}
use Rattle.holders.specs.Members.{ids, between, LiesWith}
use Rattle.holders.proofs.Sought.{holder_above, holder_below}
use Rattle.holders.proofs.Cases.{by_location}
use Rattle.holders.proofs.holder.Goals as goal

pub returns : goal.returns
returns c =
    let s = decode (words c.args.store.now) in
    let k = c.args.key.0 in
    let home = c.home-home.result in
    by_location c.args.settings s (first_holder s.bricks k (between s home ids)) k c.first_holder.result _ _ c.first_holder.ensures c.or_else.ensures
    (λ at h e. subst (LiesWith c.args.settings s (holder s k) k) (sym e) (holder_above _ c.args.store.now c.requires k home c.home-home.ensures _ _ h))
    (λ z q. let n : LiesWith c.args.settings s (first_holder s.bricks k (between s 0 home)) k c.or_else.result = search (rules, tests) in
    subst (λ (i : ℕ). LiesWith c.args.settings s i k c.or_else.result) (holder_below _ c.args.store.now c.requires k home c.home-home.ensures z) n)
