-- map, send, deliver, drop, savemap and done: the way of a mapping from an item to both copies of its pair. abandon, learn and reset: the proxy's own steps.
use Rattle.std.specs.Prelude.{List, [], ◌∷◌, ◌++◌, Bool, not, cond, ℕ, zero, suc, ltb, eqb, length, get_or}
use Rattle.lists.specs.Tests.{◌and◌, ◌or◌}
use Rattle.lists.specs.Columns.{upd}
use Rattle.rules.specs.Limits.{max_relays, max_waiting, max_view_or_order}
use Rattle.rules.specs.Entries.{entry, key_for, has, insert, remove, takes}
use Rattle.rules.specs.State.{State, Bucket, Relay, blank_relay, set_bricks, set_buckets, set_bucket, set_bag, set_items, set_known}
use Rattle.rules.specs.State.{with_buffer, with_copies, with_last_sent, with_taken}
use Rattle.rules.specs.Derived.{up_member, saved_twice, bucket_no, bucket_at, primary_memory, backup_memory, item}
use Rattle.rules.specs.Question.{Question, ◌asks◌, is_proxy, is_place, is_block, belongs, knows_view, primary_up}
use Rattle.rules.specs.Question.{is_ready, not_pending, not_waiting, has_item}

-- ---- map,proxy,block: the item's key goes into the primary's memory; if the bucket isn't ready, into the primary's append buffer
abbrev pub map_asks : State → ℕ → ℕ → List Question
map_asks s proxy block =
    let bucket = bucket_at s block in
    (3 asks is_proxy proxy)
    ∷ (3 asks is_block block)
    ∷ (4 asks belongs proxy block)
    ∷ (5 asks knows_view s proxy)
    ∷ (6 asks primary_up s block)
    ∷ (8 asks not_pending s block)
    ∷ (8 asks not_waiting s block)
    ∷ (9 asks has_item s proxy block)
    ∷ (10 asks not bucket.ready or takes s.settings.entries (primary_memory bucket) block)
    ∷ (10 asks bucket.ready or ltb (length (s.bricks.buffer bucket.primary)) max_waiting)
    ∷ (11 asks saved_twice s (item s proxy block))
    ∷ []

unfoldable pub map_effect : State → ℕ → ℕ → State
map_effect s proxy block =
    let bucket = bucket_at s block in
    let id = bucket.primary in
    let key = item s proxy block in
    cond bucket.ready (set_bucket s (bucket_no s block) (with_copies bucket (upd bucket.memory id (insert (bucket.memory id) block key)) bucket.disk))
    (set_bricks s (with_buffer s.bricks id (s.bricks.buffer id ++ (entry block key ∷ []))))

-- ---- send,block: a relay of the primary's entry, with the bucket's next order number in this view (from 1)
abbrev pub send_asks : State → ℕ → List Question
send_asks s block =
    (3 asks is_block block)
    ∷ (6 asks primary_up s block)
    ∷ (7 asks is_ready s block)
    ∷ (10 asks ltb (length s.bag) max_relays)
    ∷ (12 asks ltb (bucket_at s block).last_sent max_view_or_order)
    ∷ (13 asks has (primary_memory (bucket_at s block)) block)
    ∷ []

abbrev pub new_relay : State → ℕ → Relay
new_relay s block = record {
  view = s.view;
  bucket = bucket_no s block;
  order = suc (bucket_at s block).last_sent;
  block = block;
  key = key_for (primary_memory (bucket_at s block)) block;
}

unfoldable pub send_effect : State → ℕ → State
send_effect s block =
    let bucket = bucket_at s block in
    set_bucket (set_bag s (s.bag ++ (new_relay s block ∷ []))) (bucket_no s block) (with_last_sent bucket (suc bucket.last_sent))

-- ---- deliver,index: if the relay's view is the present one and its number exceeds the highest taken for the bucket in this view, the backup's
-- memory takes it; else it is set aside. It leaves the bag either way
abbrev pub relay_at : State → ℕ → Relay
relay_at s index = get_or s.bag index blank_relay

abbrev pub relay_bucket : State → ℕ → Bucket
relay_bucket s index = s.bucket (relay_at s index).bucket

unfoldable pub is_taken : State → ℕ → Bool
is_taken s index = eqb (relay_at s index).view s.view and ltb (relay_bucket s index).taken (relay_at s index).order

abbrev pub deliver_asks : State → ℕ → List Question
deliver_asks s index =
    let bucket = relay_bucket s index in
    (3 asks ltb index (length s.bag))
    ∷ (6 asks not (is_taken s index) or up_member s bucket.backup)
    ∷ (14 asks not (is_taken s index) or takes s.settings.entries (backup_memory bucket) (relay_at s index).block)
    ∷ []

unfoldable pub remove_at : List Relay → ℕ → List Relay
remove_at [] index = []
remove_at (relay ∷ rest) zero = rest
remove_at (relay ∷ rest) (suc index) = relay ∷ remove_at rest index

unfoldable pub deliver_effect : State → ℕ → State
deliver_effect s index =
    let without = set_bag s (remove_at s.bag index) in
    let relay = relay_at s index in
    let bucket = relay_bucket s index in
    let id = bucket.backup in
    let memory = upd bucket.memory id (insert (bucket.memory id) relay.block relay.key) in
    cond (is_taken s index) (set_bucket without relay.bucket (with_taken bucket relay.order memory)) without

-- ---- drop,index: the relay is lost
abbrev pub drop_asks : State → ℕ → List Question
drop_asks s index = (3 asks ltb index (length s.bag)) ∷ []

unfoldable pub drop_effect : State → ℕ → State
drop_effect s index = set_bag s (remove_at s.bag index)

-- ---- savemap,place: memory copies go to disk
abbrev pub savemap_asks : State → ℕ → List Question
savemap_asks s place = (3 asks is_place s place) ∷ (6 asks up_member s (s.ids place)) ∷ []

abbrev pub saved_bucket : ℕ → Bucket → Bucket
saved_bucket id bucket = with_copies bucket bucket.memory (upd bucket.disk id (bucket.memory id))

unfoldable pub savemap_effect : State → ℕ → State
savemap_effect s id = set_buckets s (λ g. saved_bucket id (s.bucket g))

-- ---- done,proxy,block: the write is confirmed; its item goes
abbrev pub done_asks : State → ℕ → ℕ → List Question
done_asks s proxy block =
    (3 asks is_proxy proxy)
    ∷ (3 asks is_block block)
    ∷ (4 asks belongs proxy block)
    ∷ (5 asks knows_view s proxy)
    ∷ (6 asks primary_up s block)
    ∷ (7 asks is_ready s block)
    ∷ (8 asks not_pending s block)
    ∷ (8 asks not_waiting s block)
    ∷ (9 asks has_item s proxy block)
    ∷ (15 asks eqb (key_for (primary_memory (bucket_at s block)) block) (item s proxy block))
    ∷ []

-- ---- abandon,proxy,block: the item goes; its mapping may still land
abbrev pub abandon_asks : State → ℕ → ℕ → List Question
abandon_asks s proxy block = (3 asks is_proxy proxy) ∷ (3 asks is_block block) ∷ (4 asks belongs proxy block) ∷ (9 asks has_item s proxy block) ∷ []

-- done and abandon
unfoldable pub item_goes : State → ℕ → ℕ → State
item_goes s proxy block = set_items s proxy (remove (s.items proxy) block)

-- ---- learn,proxy: takes the view number. reset,proxy: items go, known view 0
abbrev pub proxy_asks : ℕ → List Question
proxy_asks proxy = (3 asks is_proxy proxy) ∷ []

unfoldable pub learn_effect : State → ℕ → State
learn_effect s proxy = set_known s proxy s.view

unfoldable pub reset_effect : State → ℕ → State
reset_effect s proxy = set_known (set_items s proxy []) proxy 0
