-- The examples hold: each table is one statement, computed.
use mathlib.Core.Path.{◌≡◌, refl}
use mathlib.Core.Bool.{true}
use Prim.Native.Nat.{ℕ}
use Rattle.lists.specs.Tests.{◌and◌, ◌or◌, all_below, any_below, count_below, every, any, same_numbers, only}
use Rattle.lists.specs.Columns.{upd}
use Rattle.rules.specs.Limits.{in_range, in_limits, buckets}
use Rattle.rules.specs.Numbers.{proxy_of, bucket_of, is_data}
use Rattle.rules.specs.Entries.{key_for, has, names, insert, remove, takes, is_of_bucket, drain}
use Rattle.rules.specs.Chunks.{held, saved_in, bytes_in, save_all, save_key, only_saved, only_named}
use Rattle.rules.specs.Pairs.{ids_of, among, load, preferred, choose, least_loaded, kept_of_pair, keep_at, fill_position, give_way, in_order, filled, walked, share}
use Rattle.rules.specs.Pairs.{pairs, assignments_of}
use Rattle.rules.specs.Format.{first_id, is_first, first_pairs, format}
use Rattle.rules.specs.Derived.{members_from, first_holder, holder, saved_at, saved_twice, agree, pending, none_pending, nothing_pending}
use Rattle.rules.specs.Question.{first_no}
use Rattle.rules.specs.Writes.{raised, put_effect, other_than, target, copy_effect, savelog_effect}
use Rattle.rules.specs.Maps.{map_effect, send_effect, is_taken, remove_at, deliver_effect, drop_effect, savemap_effect, item_goes, learn_effect}
use Rattle.rules.specs.Maps.{reset_effect}
use Rattle.rules.specs.Reads.{zeros, get_bytes}
use Rattle.rules.specs.Membership.{crash_effect, lose_effect, rise_effect, join_effect}
use Rattle.rules.specs.Views.{last_pairs, view_pairs, view_effect, source, fetch_effect, dropped, ready_effect}
use Rattle.rules.specs.Upkeep.{of_first_two, mend_key, mend_keys, mend_buckets, mend_effect, is_named, collect_effect}
use Rattle.rules.specs.Step.{rule, step, after_all}
use Rattle.rules.specs.Whole.{whole, all_up_and_ready}
use Rattle.rules.specs.Sound.{same_entries}
use Rattle.rules.specs.Alike.{same_flag, same_settings, alike}
use Rattle.rules.specs.Examples.{pairs_in, last_of, chunks_in, entries_in, orders_in, value, all_right, a1, b2, again, for_each}
use Rattle.rules.specs.Examples.{marked, slips}

unfoldable lists_open : ℕ
unfolding ◌and◌ ◌or◌ all_below any_below count_below every any only upd
lists_open = 0

unfoldable parts_open : ℕ
unfolding lists_open in_range in_limits buckets proxy_of bucket_of is_data key_for has names insert remove takes is_of_bucket drain held saved_in bytes_in save_all save_key only_saved only_named members_from first_holder holder saved_at saved_twice agree pending none_pending nothing_pending
parts_open = 0

unfoldable pairs_open : ℕ
unfolding ids_of among load preferred choose least_loaded kept_of_pair keep_at fill_position give_way in_order filled walked share pairs assignments_of first_id is_first first_pairs format last_pairs view_pairs
pairs_open = 0

unfoldable events_open : ℕ
unfolding raised put_effect other_than target copy_effect savelog_effect map_effect send_effect is_taken remove_at deliver_effect drop_effect savemap_effect item_goes learn_effect reset_effect zeros get_bytes crash_effect lose_effect rise_effect join_effect view_effect source fetch_effect dropped ready_effect of_first_two mend_key mend_keys mend_buckets mend_effect is_named collect_effect
events_open = 0

-- to unfold this is to unfold all the rules
unfoldable pub rules_open : ℕ
unfolding parts_open pairs_open events_open first_no rule step after_all whole all_up_and_ready
rules_open = 0

unfoldable tables_open : ℕ
unfolding rules_open same_entries same_flag same_settings alike pairs_in last_of chunks_in entries_in orders_in value same_numbers all_right a1 b2 again for_each
tables_open = 0

pub marked_right : all_right marked ≡ true
unfolding tables_open marked
marked_right = refl

pub slips_right : all_right slips ≡ true
unfolding tables_open slips
slips_right = refl
