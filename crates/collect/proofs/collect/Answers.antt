use mathlib.Core.Path.{refl, sym, ap, ◌∙◌}
use Rattle.std.proofs.lemmas.Result.{err_from_is_err_and}
use Rattle.lists.specs.Tests.{◌and◌, all_below}
use Rattle.words.specs.Words.{words}
use Rattle.rules.specs.declared.settings.Settings.{Settings}
use Rattle.rules.specs.Event.{Event}
use Rattle.rules.specs.Limits.{buckets}
use Rattle.rules.specs.Derived.{nothing_pending}
use Rattle.rules.specs.Step.{rule}
use Rattle.rules.specs.Upkeep.{collect_asks}
use Rattle.rules.proofs.Questions.{all_yes, front_none}
use Rattle.layout.specs.Store.{decode}
use Rattle.lent.specs.Asks.{place_asks}
use Rattle.lent.proofs.Performs.{refused, accepted}
use Rattle.lent.proofs.Places.{place_yes}
use Rattle.lent.proofs.Stores.{settings_are}
use Rattle.collect.proofs.collect.Goals as goal

pub returns-in_err-asks : goal.returns-in_err-asks
unfolding rule
returns-in_err-asks c =
    let p = err_from_is_err_and c.from_residual.result c.from_residual.ensures.1 in
    rw (p.1, p.2) (refused (Event.collect c.args.place) (words c.args.store.now) c.requires.sound _ c.in_err-asks.ensures)

pub collect_log-requires : goal.collect_log-requires
unfolding ◌and◌
collect_log-requires c =
    let k = c.args.settings in
    let bs = c.args.store.now in
    let s = decode (words bs) in
    let none = sym c.in_ok-asks.ensures in
    let y = place_yes k bs c.requires c.args.place (front_none (place_asks s c.args.place) _ none) in
    record {
      store = c.requires;
      inside = y.inside;
      some = y.filled;
      nothing_pending = ap (λ (d : Settings). all_below (buckets d) (λ g. nothing_pending (s.bucket g))) (sym (settings_are k bs c.requires))
          ∙ (all_yes (collect_asks s c.args.place) refl none).1.1.1.0;
    }

pub returns : goal.returns
unfolding rule
returns c = accepted (Event.collect c.args.place) (words c.args.store.now) (words c.collect_log.new.store) (sym c.in_ok-asks.ensures) c.collect_log.ensures
