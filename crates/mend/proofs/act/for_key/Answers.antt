use Rattle.std.proofs.Common.{◌≡◌, ℕ, Bool, true, false, sym, ap, subst, ◌∙◌, rules, tests}
use Rattle.lists.proofs.Tests.{and_l}
use Rattle.words.specs.Words.{words}
use Rattle.rules.specs.Numbers.{home_of}
use Rattle.rules.specs.State.{State}
use Rattle.rules.specs.Derived.{members_from, holder}
use Rattle.rules.specs.Upkeep.{of_first_two}
use Rattle.layout.specs.Store.{decode}
use Rattle.holders.proofs.Cases.{by_location}
use Rattle.mend.specs.declared.act.Act.TheVariants.{Bring}
use Rattle.mend.specs.Acts.{ActOf}
use Rattle.mend.proofs.OnStore.{stands}
use Rattle.mend.proofs.Decided.{wants_not, wants_none, wants_some, wants_held}
use Rattle.mend.proofs.act.for_key.Goals as goal

-- what was asked of the id that was read is asked of the brick at the place
turn : (s : State) (i id key : ℕ) (r b : Bool) → i ≡ id → r ≡ of_first_two i (members_from s (home_of key)) → r ≡ b → of_first_two id (members_from s (home_of key)) ≡ b
turn s i id key r b e h f = ap (λ (j : ℕ). of_first_two j (members_from s (home_of key))) (sym e) ∙ sym h ∙ f

pub returns-then-not-of_first_two : goal.returns-then-not-of_first_two
returns-then-not-of_first_two c =
    let a = c.args in
    wants_not (decode (words a.store.now)) _ a.key.0 (turn _ _ _ a.key.0 _ false c.id-id.ensures c.of_first_two.ensures (search (rules, tests)))

pub holds_at-requires : goal.holds_at-requires
holds_at-requires c =
    (c.requires.store, c.requires.inside, stands c.args.settings c.args.store.now c.args.place c.requires)

pub returns-then-holds_at : goal.returns-then-holds_at
returns-then-holds_at c =
    let a = c.args in
    let first = turn _ _ _ a.key.0 _ true c.id-id.ensures c.of_first_two.ensures (search (rules, tests)) in
    let h = sym c.holds_at.ensures ∙ c.if-holds_at.true in
    (wants_held (decode (words a.store.now)) _ a.key.0 first (and_l _ _ c.requires.up) h, h)

pub returns : goal.returns
returns c =
    let a = c.args in
    let s = decode (words a.store.now) in
    let first = turn _ _ _ a.key.0 _ true c.id-id.ensures c.of_first_two.ensures (search (rules, tests)) in
    by_location a.settings s (holder s a.key.0) a.key.0 c.holder.result _ _ c.holder.ensures c.map_or.ensures
    (λ at h q. let e : c.map_or.result ≡ Bring at = search (rules, tests) in
    subst (ActOf a.settings s (s.ids a.place) a.key.0) (sym e)
    (record { wanted = wants_some s _ a.key.0 first h.stands.some; missing = sym c.holds_at.ensures ∙ c.if-holds_at.false; from = h }))
    (λ z e. subst (ActOf a.settings s (s.ids a.place) a.key.0) (sym e) (wants_none s _ a.key.0 z))
