-- One batch on a sound store, by the calls that it makes.
use mathlib.Core.Path.{◌≡◌, sym, ap, ◌∙◌}
use mathlib.Core.List.{List, []}
use mathlib.Core.Bool.{true, cond}
use Prim.Native.Nat.{ℕ}
use Rattle.lists.specs.Runs.{Below}
use Rattle.lists.proofs.Tests.{by}
use Rattle.rules.specs.declared.settings.Settings.{Settings}
use Rattle.layout.specs.Store.{decode_bytes, sound_bytes}
use Rattle.lent.specs.Stores.{StoreOf}
use Rattle.lent.proofs.Stores as stores
use Rattle.history.specs.Claim.{Answered}
use Rattle.calls.proofs.Performed.{sound_store}
use Rattle.reads.proofs.Outcomes.{size_is}
use Rattle.batch.specs.Batch.{Batch, Lent, lent, turns, count, is_batch, Ran, ran, batch_outcome}
use Rattle.batch.specs.Claim.{calls_of, answered_from}
use Rattle.batch.proofs.Turns.{ran_none, ran_all}
use Rattle.batch.proofs.Theorem.{held_after, bytes_after, one_by_one, all_answered}
use Rattle.requests.specs.Claim.{answered_by}
use Rattle.requests.proofs.Made.{Made, none_made}

module _ (c : Settings) (bs : List ℕ) (v : StoreOf c bs) (b : Below 256 bs) (batch : Batch) (area answers : List ℕ) where
  abbrev l : Lent
  l = lent bs area answers

  abbrev answered : Ran → List Answered
  answered r = answered_by r.code bs (answered_from c.size batch r.left 0 (count batch) l)

  passes : sound_bytes bs ≡ true
  passes = sound_store bs (stores.sound_store c bs v)

  all_run : is_batch batch l ≡ true → batch_outcome batch l ≡ ran 0 (turns c.size batch (count batch) l)
  unfolding decode_bytes
  all_run y = ran_all batch l passes y ∙ ap (λ (n : ℕ). ran 0 (turns n batch (count batch) l)) (sym (size_is c bs v))

  all_made : is_batch batch l ≡ true → let left = turns c.size batch (count batch) l in
      Made c bs (calls_of c.size batch l) (answered (ran 0 left)) left.store
  unfolding answered_by
  all_made y = record {
    answered = all_answered c batch l v b y;
    left = (one_by_one c batch l v b y).store;
    held = held_after c batch l v b y;
    bytes = bytes_after c batch l v b y;
  }

  refused_made : Made c bs [] (answered (ran 3 l)) bs
  unfolding answered_by
  refused_made = none_made c bs v b

  pub several_made : Made c bs (cond (is_batch batch l) (calls_of c.size batch l) []) (answered (batch_outcome batch l)) (batch_outcome batch l).left.store
  several_made =
      by (is_batch batch l)
      (λ y. rw (y, all_run y) (all_made y))
      (λ n. rw (n, ran_none batch l passes n) refused_made)
