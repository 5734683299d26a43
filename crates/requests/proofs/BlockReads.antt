-- One read of many blocks on a sound store, by the gets that it makes.
use mathlib.Core.Path.{◌≡◌, sym, ap, ◌∙◌}
use mathlib.Core.List.{List, []}
use mathlib.Core.Bool.{true, cond}
use Prim.Native.Nat.{ℕ}
use lib.ListN.{length}
use Rattle.lists.specs.Runs.{Below}
use Rattle.lists.proofs.Tests.{by}
use Rattle.rules.specs.declared.settings.Settings.{Settings}
use Rattle.lent.specs.Stores.{StoreOf}
use Rattle.history.specs.Claim.{Answered}
use Rattle.read_many.specs.Read.{fits, Read, read, read_outcome}
use Rattle.read_many.specs.Claim.{gets_of, answered_blocks}
use Rattle.read_many.proofs.Theorem.{gets_keep, none_read, all_read, read_answered}
use Rattle.requests.specs.Claim.{answered_by}
use Rattle.requests.proofs.Made.{Made, none_made}

module _ (c : Settings) (bs : List ℕ) (v : StoreOf c bs) (b : Below 256 bs) (proxy : ℕ) (numbers answers : List ℕ) where
  abbrev answered : Read → List Answered
  answered r = answered_by r.code bs (answered_blocks c.size bs proxy numbers r.left)

  all_made : fits c.size (length numbers) (length answers) ≡ true
      → Made c bs (gets_of c.size proxy numbers) (answered (read_outcome bs proxy numbers answers)) bs
  unfolding answered_by
  all_made y = record {
    answered = ap (λ (r : Read). answered_by r.code bs (answered_blocks c.size bs proxy numbers (read_outcome bs proxy numbers answers).left))
        (sym (all_read c bs v proxy numbers answers y)) ∙ read_answered c bs v proxy numbers answers y b;
    left = sym (gets_keep c bs v b proxy numbers);
    held = v;
    bytes = b;
  }

  refused_made : Made c bs [] (answered (read 3 answers)) bs
  unfolding answered_by
  refused_made = none_made c bs v b

  pub blocks_made : Made c bs (cond (fits c.size (length numbers) (length answers)) (gets_of c.size proxy numbers) [])
      (answered (read_outcome bs proxy numbers answers)) bs
  blocks_made =
      by (fits c.size (length numbers) (length answers))
      (λ y. rw y (all_made y))
      (λ n. rw (n, ← none_read c bs v proxy numbers answers n) refused_made)
