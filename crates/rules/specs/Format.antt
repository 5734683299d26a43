-- Format: bricks with ids 1 to N, all up, at places 0 to N - 1; all buckets empty and ready.
use Rattle.std.specs.Prelude.{[], Bool, true, false, cond, ℕ, suc, ◌+◌, ◌*◌, ltb, leb, replicate}
use Rattle.lists.specs.Tests.{◌and◌}
use Rattle.rules.specs.declared.settings.Settings.{Settings}
use Rattle.rules.specs.Limits.{buckets}
use Rattle.rules.specs.State.{State, Bucket, blank_bucket}
use Rattle.rules.specs.Pairs.{Assignments, id_in, ids_of, pairs}

unfoldable pub first_id : ℕ → ℕ → ℕ
first_id places place = cond (ltb place places) (suc place) 0

unfoldable pub is_first : ℕ → ℕ → Bool
is_first places id = ltb 0 id and leb id places

-- no last ready pairs while format makes its pairs, which from then on are the last ready ones
unfoldable pub first_pairs : Settings → Assignments
first_pairs settings = pairs (buckets settings) (ids_of settings.places (λ i. true)) (replicate (2 * buckets settings) 0)

abbrev pub first_bucket : ℕ → ℕ → Bucket
first_bucket primary backup = record {
  primary = primary;
  backup = backup;
  last_primary = primary;
  last_backup = backup;
  ready = true;
  fetched = false;
  last_sent = 0;
  taken = 0;
  memory = λ i. [];
  disk = λ i. [];
}

unfoldable pub format : Settings → State
format settings =
    let places = settings.places in
    let assigned = first_pairs settings in
    record {
      settings = settings;
      ids = first_id places;
      given = places;
      view = 1;
      started = places;
      bricks = record {
        present = is_first places;
        up = is_first places;
        member = is_first places;
        began = is_first places;
        next = λ i. 0;
        ceiling = λ i. 0;
        log = λ i. [];
        buffer = λ i. [];
      };
      bucket = λ g. cond (ltb g (buckets settings)) (first_bucket (id_in assigned (2 * g)) (id_in assigned (2 * g + 1))) blank_bucket;
      bag = [];
      items = λ p. [];
      known = λ p. 0;
    }
