-- The step: what each event asks, and what it answers and does where every answer is yes.
use Rattle.std.specs.Prelude.{List, [], ◌∷◌, false, cond, ℕ, zero, suc}
use Rattle.rules.specs.Event.{Event}
use Rattle.rules.specs.State.{State}
use Rattle.rules.specs.Question.{Question, ◌asks◌, first_no}
use Rattle.rules.specs.Writes.{put_asks, put_effect, new_key, copy_asks, copy_effect, savelog_asks, savelog_effect}
use Rattle.rules.specs.Maps.{map_asks, map_effect, send_asks, send_effect, is_taken, deliver_asks, deliver_effect, drop_asks, drop_effect}
use Rattle.rules.specs.Maps.{savemap_asks, savemap_effect, done_asks, abandon_asks, item_goes, proxy_asks, learn_effect, reset_effect}
use Rattle.rules.specs.Reads.{mapped, get_asks, get_bytes}
use Rattle.rules.specs.Membership.{crash_asks, crash_effect, lose_asks, lose_effect, rise_asks, rise_effect, join_asks, join_effect}
use Rattle.rules.specs.Views.{view_asks, view_effect, fetch_asks, fetch_effect, ready_asks, ready_effect}
use Rattle.rules.specs.Upkeep.{mend_asks, mend_effect, collect_asks, collect_effect}

-- a key (put, get; for deliver 1 taken, 0 set aside; else 0) and data (get)
pub record Answer : Type 0 where
  pub key : ℕ
  pub bytes : List ℕ

abbrev pub only_key : ℕ → Answer
only_key k = record { key = k; bytes = [] }

-- the questions, asked in the order of the list, and what an accepted event answers and leaves
pub record Rule : Type 0 where
  pub questions : List Question
  pub said : Answer
  pub after : State

abbrev without_answer : List Question → State → Rule
without_answer qs t = record { questions = qs; said = only_key 0; after = t }

unfoldable pub rule : State → Event → Rule
rule s (Event.put proxy place block bytes) =
    let id = s.ids place in
    record { questions = put_asks s proxy place block bytes; said = only_key (new_key s id); after = put_effect s proxy id block bytes }
rule s (Event.copy key) = without_answer (copy_asks s key) (copy_effect s key)
rule s (Event.savelog place) = without_answer (savelog_asks s place) (savelog_effect s (s.ids place))
rule s (Event.map proxy block) = without_answer (map_asks s proxy block) (map_effect s proxy block)
rule s (Event.send block) = without_answer (send_asks s block) (send_effect s block)
rule s (Event.deliver index) = record { questions = deliver_asks s index; said = only_key (cond (is_taken s index) 1 0); after = deliver_effect s index }
rule s (Event.drop index) = without_answer (drop_asks s index) (drop_effect s index)
rule s (Event.savemap place) = without_answer (savemap_asks s place) (savemap_effect s (s.ids place))
rule s (Event.done proxy block) = without_answer (done_asks s proxy block) (item_goes s proxy block)
rule s (Event.get proxy block) = record { questions = get_asks s proxy block; said = record { key = mapped s block; bytes = get_bytes s block }; after = s }
rule s (Event.abandon proxy block) = without_answer (abandon_asks s proxy block) (item_goes s proxy block)
rule s (Event.learn proxy) = without_answer (proxy_asks proxy) (learn_effect s proxy)
rule s (Event.reset proxy) = without_answer (proxy_asks proxy) (reset_effect s proxy)
rule s (Event.crash place) = without_answer (crash_asks s place) (crash_effect s (s.ids place))
rule s (Event.lose place) = without_answer (lose_asks s place) (lose_effect s place (s.ids place))
rule s (Event.rise place) = without_answer (rise_asks s place) (rise_effect s (s.ids place))
rule s (Event.join place) = without_answer (join_asks s place) (join_effect s place)
rule s Event.view = without_answer (view_asks s) (view_effect s)
rule s (Event.fetch bucket) = without_answer (fetch_asks s bucket) (fetch_effect s bucket)
rule s (Event.ready bucket) = without_answer (ready_asks s bucket) (ready_effect s bucket)
rule s (Event.mend place) = without_answer (mend_asks s place) (mend_effect s (s.ids place))
rule s (Event.collect place) = without_answer (collect_asks s place) (collect_effect s (s.ids place))
rule s Event.unknown = without_answer ((3 asks false) ∷ []) s

-- ---- the step: code, key and data, state. A refusal has key 0 and no data, and changes nothing
pub record Outcome : Type 0 where
  pub code : ℕ
  pub said : Answer
  pub after : State

abbrev pub finish : State → Rule → ℕ → Outcome
finish s r zero = record { code = 0; said = r.said; after = r.after }
finish s r (suc c) = record { code = suc c; said = only_key 0; after = s }

unfoldable pub step : State → Event → Outcome
step s e = finish s (rule s e) (first_no (rule s e).questions)

-- the store that a list of events leaves
unfoldable pub after_all : State → List Event → State
after_all s [] = s
after_all s (e ∷ es) = after_all (step s e).after es
