-- Worked examples: what is asked, and the numbers that are the answer. `marked` are 01's examples with a star; `slips` would catch a wrong rule or a wrong
-- order of questions.
use Rattle.std.specs.Prelude.{List, [], ◌∷◌, ◌++◌, Bool, cond, ℕ, zero, suc, ◌+◌, ◌*◌, ◌^◌, replicate}
use Rattle.lists.specs.Tests.{every, same_numbers}
use Rattle.lists.specs.Columns.{upd}
use Rattle.rules.specs.declared.settings.Settings.{Settings}
use Rattle.rules.specs.Limits.{in_limits, buckets}
use Rattle.rules.specs.Numbers.{bucket_of, key_of}
use Rattle.rules.specs.Event.{Event}
use Rattle.rules.specs.Entries.{Entry, entry}
use Rattle.rules.specs.Chunks.{Chunk}
use Rattle.rules.specs.State.{Relay, State, set_bucket, with_copies}
use Rattle.rules.specs.Format.{format}
use Rattle.rules.specs.Step.{step, after_all}
use Rattle.rules.specs.Whole.{whole}
use Rattle.rules.specs.Alike.{alike}

pub data Asked : Type 0 where
  -- whether the settings are in their limits, as format's code: 0 or 1
  settings_code : Settings → Asked
  -- the bucket of a block
  bucket : Settings → ℕ → Asked
  -- after a list of events from format: some buckets' primaries and backups
  pairs_after : Settings → List Event → List ℕ → Asked
  -- the last event's code, key and data
  last_answer : Settings → List Event → Asked
  -- 1 where the store is whole
  is_whole : Settings → List Event → Asked
  -- 1 where the stores after two lists are alike
  are_alike : Settings → List Event → List Event → Asked
  -- what is seen of the state
  seen_after : Settings → List Event → (State → List ℕ) → Asked

unfoldable pub pairs_in : State → List ℕ → List ℕ
pairs_in s [] = []
pairs_in s (g ∷ l) = (s.bucket g).primary ∷ (s.bucket g).backup ∷ pairs_in s l

unfoldable pub last_of : State → List Event → List ℕ
last_of s [] = []
last_of s (e ∷ []) = let o = step s e in o.code ∷ o.said.key ∷ o.said.bytes
last_of s (e ∷ f ∷ es) = last_of (step s e).after (f ∷ es)

-- ---- what is seen of a state: a brick's chunks, each with its key and whether it is saved; the blocks and keys of a table; the order numbers in the bag
unfoldable pub chunks_in : List Chunk → List ℕ
chunks_in [] = []
chunks_in (c ∷ l) = c.key ∷ cond c.saved 1 0 ∷ chunks_in l

unfoldable pub entries_in : List Entry → List ℕ
entries_in [] = []
entries_in (e ∷ l) = e.block ∷ e.key ∷ entries_in l

unfoldable pub orders_in : List Relay → List ℕ
orders_in [] = []
orders_in (r ∷ l) = r.order ∷ orders_in l

abbrev log_of : ℕ → State → List ℕ
log_of id s = chunks_in (s.bricks.log id)

abbrev items_of : ℕ → State → List ℕ
items_of proxy s = entries_in (s.items proxy)

abbrev copies_of : ℕ → ℕ → State → List ℕ
copies_of g id s = entries_in ((s.bucket g).memory id) ++ entries_in ((s.bucket g).disk id)

abbrev orders : State → List ℕ
orders s = orders_in s.bag

unfoldable pub value : Asked → List ℕ
value (settings_code c) = cond (in_limits c) 0 1 ∷ []
value (bucket c b) = bucket_of (buckets c) b ∷ []
value (pairs_after c es l) = pairs_in (after_all (format c) es) l
value (last_answer c es) = last_of (format c) es
value (is_whole c es) = cond (whole (after_all (format c) es)) 1 0 ∷ []
value (are_alike c es fs) = cond (alike (after_all (format c) es) (after_all (format c) fs)) 1 0 ∷ []
value (seen_after c es seen) = seen (after_all (format c) es)

pub record Row : Type 0 where
  pub asked : Asked
  pub answer : List ℕ

infix 20 ◌gives◌
abbrev pub ◌gives◌ : Asked → List ℕ → Row
a gives n = record { asked = a; answer = n }

-- every row gives its answer
unfoldable pub all_right : List Row → Bool
all_right rows = every (λ r. same_numbers (value r.asked) r.answer) rows

-- ---- settings and lists that the rows share
abbrev places : ℕ → Settings
places n = record { places = n; size = 8; entries = 2; chunks = 4 }

abbrev small : Settings
small = places 3

abbrev refused : ℕ → List ℕ
refused c = c ∷ 0 ∷ []

abbrev done_with : ℕ → List ℕ
done_with key = 0 ∷ key ∷ []

unfoldable pub a1 : List ℕ
a1 = replicate 8 161

unfoldable pub b2 : List ℕ
b2 = replicate 8 178

-- a block of a bucket whose pair is (1, 2): put at brick 1, and saved there and at brick 2
abbrev put_of : ℕ → List Event
put_of b = Event.learn 0 ∷ Event.put 0 0 b a1 ∷ Event.copy (key_of 1 0) ∷ Event.savelog 0 ∷ Event.savelog 1 ∷ []

abbrev mapped : ℕ → List Event
mapped b = put_of b ++ (Event.map 0 b ∷ [])

-- all four copies have it
abbrev settled : ℕ → List Event
settled b = mapped b ++ (Event.send b ∷ Event.deliver 0 ∷ Event.savemap 0 ∷ Event.savemap 1 ∷ [])

-- block 5 in bucket 0; written: it is confirmed too
abbrev put_5 : List Event
put_5 = put_of 5

abbrev mapped_5 : List Event
mapped_5 = mapped 5

abbrev settled_5 : List Event
settled_5 = settled 5

abbrev pub written_5 : List Event
written_5 = settled_5 ++ (Event.done 0 5 ∷ [])

-- a new view, with bucket 0 ready and proxy 0 knowing it
abbrev next_view : List Event
next_view = Event.view ∷ Event.fetch 0 ∷ Event.ready 0 ∷ Event.learn 0 ∷ []

unfoldable pub again : ℕ → List Event → List Event
again zero l = []
again (suc n) l = l ++ again n l

-- an event for each of 0 to n - 1
unfoldable pub for_each : ℕ → (ℕ → Event) → List Event
for_each zero f = []
for_each (suc n) f = for_each n f ++ (f n ∷ [])

-- a new view, with every bucket ready
abbrev pub all_ready : List Event
all_ready = Event.view ∷ for_each 16 Event.fetch ++ for_each 16 Event.ready

-- block 5 is written and brick 2 lost, with its chunk; a new brick, 4, has come
abbrev replaced : List Event
replaced = written_5 ++ (Event.lose 1 ∷ Event.join 1 ∷ all_ready)

-- a block of bucket 15, whose pair is (1, 2) too
abbrev in_15 : ℕ
in_15 = 15 * 1024

abbrev settled_15 : List Event
settled_15 = settled in_15

-- a view without brick 1, in which bucket 15 comes to be ready
abbrev without_1 : List Event
without_1 = Event.crash 0 ∷ Event.view ∷ Event.fetch 15 ∷ Event.ready 15 ∷ []

-- 32 blocks wait in the primary's buffer; proxy 1 has one more
abbrev waiting : List Event
waiting = Event.view ∷ Event.learn 0 ∷ Event.learn 1 ∷ for_each 32 (λ b. Event.put 0 0 b a1)
    ++ (Event.put 1 0 (2 ^ 49) a1 ∷ for_each 33 (λ n. Event.copy (key_of 1 n)) ++ (Event.savelog 0 ∷ Event.savelog 1 ∷ for_each 32 (λ b. Event.map 0 b)))

abbrev long_log : Settings
long_log = record { places = 3; size = 8; entries = 2; chunks = 33 }

-- a state that no list of events gives: the backup's copy of bucket 0 is full with two blocks that the primary does not have
abbrev crowded : State → State
crowded s = let k = s.bucket 0 in set_bucket s 0 (with_copies k (upd k.memory k.backup (entry 8 (key_of 1 0) ∷ entry 9 (key_of 1 0) ∷ [])) k.disk)

-- ---- 01's marked examples
unfoldable pub marked : List Row
marked =
    (settings_code (places 2) gives (1 ∷ []))
    ∷ (settings_code (places 9) gives (1 ∷ []))
    ∷ (settings_code (places 3) gives (0 ∷ []))
    ∷ (settings_code (places 8) gives (0 ∷ []))
    ∷ (last_answer small (Event.get 0 (2 ^ 51) ∷ []) gives refused 3)
    ∷ (last_answer small (Event.put 0 0 (2 ^ 49) a1 ∷ []) gives refused 4)
    ∷ (bucket small 1023 gives (0 ∷ []))
    ∷ (bucket small 1024 gives (1 ∷ []))
    ∷ (bucket small 16384 gives (0 ∷ []))
    ∷ (pairs_after small [] (0 ∷ 1 ∷ 2 ∷ 3 ∷ 4 ∷ 5 ∷ 6 ∷ 7 ∷ 8 ∷ 9 ∷ 10 ∷ 11 ∷ 12 ∷ 13 ∷ 14 ∷ 15 ∷ [])
    gives (1 ∷ 2 ∷ 3 ∷ 1 ∷ 2 ∷ 3 ∷ 1 ∷ 2 ∷ 3 ∷ 1 ∷ 2 ∷ 3 ∷ 1 ∷ 2 ∷ 3 ∷ 1 ∷ 2 ∷ 3 ∷ 1 ∷ 2 ∷ 3 ∷ 1 ∷ 2 ∷ 3 ∷ 1 ∷ 2 ∷ 3 ∷ 1 ∷ 2 ∷ 3 ∷ 1 ∷ 2 ∷ []))
    ∷ (pairs_after small (Event.lose 1 ∷ Event.view ∷ []) (0 ∷ 1 ∷ 2 ∷ []) gives (1 ∷ 3 ∷ 3 ∷ 1 ∷ 3 ∷ 1 ∷ []))
    ∷ (last_answer small (Event.put 0 0 5 a1 ∷ Event.crash 0 ∷ Event.rise 0 ∷ Event.view ∷ Event.put 0 0 6 a1 ∷ []) gives done_with (key_of 1 1024))
    ∷ (last_answer small (Event.learn 0 ∷ Event.put 0 0 5 a1 ∷ Event.map 0 5 ∷ []) gives refused 11)
    ∷ (last_answer small (Event.learn 0 ∷ for_each 3 (λ n. Event.put 0 0 (5 + n) a1) ++ for_each 3 (λ n. Event.copy (key_of 1 n))
    ++ (Event.savelog 0 ∷ Event.savelog 1 ∷ for_each 3 (λ n. Event.map 0 (5 + n)))) gives refused 10)
    ∷ []

-- ---- what a slip would change
unfoldable pub slips : List Row
slips =
    -- useless stores: what is stored is read, an empty log has room, a relay is taken, a read of nothing shows zeros
    (last_answer small (written_5 ++ (Event.get 0 5 ∷ [])) gives (done_with (key_of 1 0) ++ a1))
    ∷ (last_answer small (Event.put 0 0 5 a1 ∷ []) gives done_with (key_of 1 0))
    ∷ (last_answer small (mapped_5 ++ (Event.send 5 ∷ Event.deliver 0 ∷ [])) gives done_with 1)
    ∷ (last_answer small (Event.learn 0 ∷ Event.get 0 5 ∷ []) gives (done_with 0 ++ replicate 8 0))
    -- a pending block is not shown: before the relay, and before the backup has saved it
    ∷ (last_answer small (mapped_5 ++ (Event.get 0 5 ∷ [])) gives refused 8)
    ∷ (last_answer small (mapped_5 ++ (Event.send 5 ∷ Event.deliver 0 ∷ Event.savemap 0 ∷ Event.get 0 5 ∷ [])) gives refused 8)
    -- a relay that comes late is set aside
    ∷ (last_answer small (mapped_5 ++ (Event.send 5 ∷ Event.send 5 ∷ Event.deliver 1 ∷ Event.deliver 0 ∷ [])) gives done_with 0)
    -- both of the last ready pair are lost: no other brick is a source
    ∷ (last_answer (places 5) (Event.lose 0 ∷ Event.lose 1 ∷ Event.view ∷ Event.fetch 0 ∷ []) gives refused 13)
    -- after a crash, a return, a new view, fetch, ready and mend the block is there
    ∷ (last_answer small (written_5 ++ (Event.crash 0 ∷ Event.rise 0 ∷ next_view) ++ (Event.mend 0 ∷ Event.get 0 5 ∷ [])) gives (done_with (key_of 1 0) ++ a1))
    -- what waited in the buffer while the bucket was not ready is mapped by ready
    ∷ (last_answer small ((Event.view ∷ put_5) ++ (Event.map 0 5 ∷ Event.fetch 0 ∷ Event.ready 0 ∷ Event.send 5 ∷ []))
    gives done_with 0)
    -- order of the questions: 3 before 4, 4 before 5, 5 before 6, 6 before 7
    ∷ (last_answer small (Event.put 0 0 (2 ^ 49) (replicate 7 161) ∷ []) gives refused 3)
    ∷ (last_answer small (Event.get 1 5 ∷ []) gives refused 4)
    ∷ (last_answer small (Event.crash 0 ∷ Event.get 0 5 ∷ []) gives refused 5)
    ∷ (last_answer small (Event.view ∷ Event.learn 0 ∷ Event.crash 0 ∷ Event.get 0 5 ∷ []) gives refused 6)
    ∷ (last_answer small (Event.view ∷ Event.learn 0 ∷ Event.get 0 5 ∷ []) gives refused 7)
    -- 6 before 13: fetch and ready of a ready bucket without its primary
    ∷ (last_answer small (Event.crash 0 ∷ Event.fetch 0 ∷ []) gives refused 6)
    ∷ (last_answer small (Event.crash 0 ∷ Event.ready 0 ∷ []) gives refused 6)
    -- 8 before 9: a pending block without an item
    ∷ (last_answer small (mapped_5 ++ (Event.abandon 0 5 ∷ Event.map 0 5 ∷ [])) gives refused 8)
    -- 9 before 10: a second put of a block into a full log; a map without an item into a full bucket
    ∷ (last_answer small (Event.put 0 0 5 a1 ∷ Event.put 0 0 6 a1 ∷ Event.put 0 0 7 a1 ∷ Event.put 0 0 8 a1 ∷ Event.put 0 0 5 a1 ∷ []) gives refused 9)
    ∷ (last_answer small (put_5 ++ (Event.put 0 0 6 a1 ∷ Event.copy (key_of 1 1) ∷ Event.savelog 0 ∷ Event.savelog 1 ∷ for_each 3 (λ n. Event.map 0 (5 + n))))
    gives refused 9)
    -- 10: a fifth chunk; 10 before 11: a copy of a key that is not held into a full log
    ∷ (last_answer small (Event.put 0 0 5 a1 ∷ Event.put 0 0 6 a1 ∷ Event.put 0 0 7 a1 ∷ Event.put 0 0 8 a1 ∷ Event.put 0 0 9 a1 ∷ []) gives refused 10)
    ∷ (last_answer small (Event.put 0 1 5 a1 ∷ Event.put 0 1 6 a1 ∷ Event.put 0 1 7 a1 ∷ Event.put 0 1 8 a1 ∷ Event.copy (key_of 1 0) ∷ []) gives refused 10)
    ∷ (last_answer small (Event.copy (key_of 1 0) ∷ []) gives refused 11)
    -- 11: a chunk saved at its home alone is not mapped, nor with a copy not saved there, nor with a saved copy at a brick that is down; two members are enough
    ∷ (last_answer small (Event.learn 0 ∷ Event.put 0 0 5 a1 ∷ Event.savelog 0 ∷ Event.map 0 5 ∷ []) gives refused 11)
    ∷ (last_answer small (Event.learn 0 ∷ Event.put 0 0 5 a1 ∷ Event.savelog 0 ∷ Event.copy (key_of 1 0) ∷ Event.map 0 5 ∷ []) gives refused 11)
    ∷ (last_answer small (put_5 ++ (Event.crash 1 ∷ Event.map 0 5 ∷ [])) gives refused 11)
    ∷ (last_answer small mapped_5 gives done_with 0)
    -- 10 before 13: a block that is not mapped, with a full bag
    ∷ (last_answer small (mapped_5 ++ again 64 (Event.send 5 ∷ []) ++ (Event.send 6 ∷ [])) gives refused 10)
    ∷ (last_answer small (mapped_5 ++ (Event.send 6 ∷ [])) gives refused 13)
    -- 12 before 13: no id is left, and the place is not empty
    ∷ (last_answer small (again 252 (Event.lose 0 ∷ Event.join 0 ∷ []) ++ (Event.join 0 ∷ [])) gives refused 12)
    ∷ (last_answer small (Event.join 0 ∷ []) gives refused 13)
    -- 13: crash, rise, lose; ready waits for the fetch; the view's majority counts risen bricks and not joined ones
    ∷ (last_answer small (Event.crash 1 ∷ Event.crash 1 ∷ []) gives refused 13)
    ∷ (last_answer small (Event.rise 1 ∷ []) gives refused 13)
    ∷ (last_answer small (Event.lose 1 ∷ Event.lose 1 ∷ []) gives refused 13)
    ∷ (last_answer small (Event.view ∷ Event.ready 0 ∷ []) gives refused 13)
    ∷ (last_answer small (Event.lose 0 ∷ Event.crash 1 ∷ Event.join 0 ∷ Event.view ∷ []) gives refused 13)
    ∷ (last_answer small (Event.lose 0 ∷ Event.crash 1 ∷ Event.join 0 ∷ Event.rise 1 ∷ Event.view ∷ []) gives done_with 0)
    -- collect waits until nothing is pending; a block not mapped is not confirmed
    ∷ (last_answer small (mapped_5 ++ (Event.abandon 0 5 ∷ Event.collect 0 ∷ [])) gives refused 13)
    ∷ (last_answer small (put_5 ++ (Event.done 0 5 ∷ [])) gives refused 15)
    ∷ (last_answer small (Event.unknown ∷ []) gives refused 3)
    -- 13: more than half; 14: room at the backup, and not at the primary; 10: a buffer of 32
    ∷ (last_answer (places 4) (Event.lose 0 ∷ Event.lose 1 ∷ Event.view ∷ []) gives refused 13)
    ∷ (seen_after small (mapped_5 ++ (Event.send 5 ∷ [])) (λ s. last_of (crowded s) (Event.deliver 0 ∷ [])) gives refused 14)
    ∷ (last_answer long_log waiting gives done_with 0)
    ∷ (last_answer long_log (waiting ++ (Event.map 1 (2 ^ 49) ∷ [])) gives refused 10)
    -- a copy goes to the next brick by id, circularly
    ∷ (seen_after small (Event.put 0 1 5 a1 ∷ Event.copy (key_of 2 0) ∷ []) (log_of 3) gives (key_of 2 0 ∷ 0 ∷ []))
    ∷ (seen_after small (Event.put 0 2 5 a1 ∷ Event.copy (key_of 3 0) ∷ []) (log_of 1) gives (key_of 3 0 ∷ 0 ∷ []))
    -- mend: the second member from the home on gets the chunk saved, the third does not, and none in a bucket that is not ready
    ∷ (seen_after small (replaced ++ (Event.mend 2 ∷ [])) (log_of 3) gives (key_of 1 0 ∷ 1 ∷ []))
    ∷ (seen_after small (replaced ++ (Event.mend 1 ∷ [])) (log_of 4) gives [])
    ∷ (seen_after small (replaced ++ (Event.view ∷ Event.mend 2 ∷ [])) (log_of 3) gives [])
    -- collect: what no copy names goes, and nothing else
    ∷ (seen_after small (written_5 ++ (Event.put 0 0 6 b2 ∷ Event.abandon 0 6 ∷ Event.collect 0 ∷ [])) (log_of 1) gives (key_of 1 0 ∷ 1 ∷ []))
    -- done, abandon, reset, drop: an item goes, all items go, one relay goes
    ∷ (seen_after small written_5 (items_of 0) gives [])
    ∷ (seen_after small (put_5 ++ (Event.put 0 0 6 a1 ∷ Event.abandon 0 5 ∷ [])) (items_of 0) gives (6 ∷ key_of 1 1 ∷ []))
    ∷ (seen_after small (put_5 ++ (Event.reset 0 ∷ [])) (items_of 0) gives [])
    ∷ (seen_after small (mapped_5 ++ (Event.send 5 ∷ Event.send 5 ∷ Event.drop 0 ∷ [])) orders gives (2 ∷ []))
    -- ready: a down brick keeps its copies, an up one outside the pair drops them
    ∷ (seen_after small (settled_15 ++ without_1) (copies_of 15 1) gives (in_15 ∷ key_of 1 0 ∷ in_15 ∷ key_of 1 0 ∷ []))
    ∷ (seen_after small (settled_15 ++ without_1 ++ (Event.rise 0 ∷ Event.view ∷ Event.fetch 15 ∷ Event.ready 15 ∷ [])) (copies_of 15 1) gives [])
    -- pairs: brick 1 comes back to buckets that the two others have; backups give way before primaries, down to 11 = 32 / 3 rounded up
    ∷ (pairs_after small (Event.crash 0 ∷ all_ready ++ (Event.rise 0 ∷ Event.view ∷ []))
    (0 ∷ 1 ∷ 2 ∷ 3 ∷ 4 ∷ 5 ∷ 6 ∷ 7 ∷ 8 ∷ 9 ∷ 10 ∷ 11 ∷ 12 ∷ 13 ∷ 14 ∷ 15 ∷ [])
    gives (2 ∷ 1 ∷ 3 ∷ 1 ∷ 2 ∷ 1 ∷ 2 ∷ 1 ∷ 3 ∷ 1 ∷ 2 ∷ 1 ∷ 2 ∷ 1 ∷ 3 ∷ 1 ∷ 2 ∷ 3 ∷ 2 ∷ 3 ∷ 3 ∷ 1 ∷ 2 ∷ 3 ∷ 2 ∷ 3 ∷ 3 ∷ 1 ∷ 2 ∷ 3 ∷ 2 ∷ 3 ∷ []))
    -- pairs: of a pair whose primary is lost the backup becomes primary, and counts with all its assignments before any empty position is filled
    ∷ (pairs_after (places 5) (Event.lose 0 ∷ Event.view ∷ []) (0 ∷ 2 ∷ 7 ∷ []) gives (2 ∷ 3 ∷ 5 ∷ 4 ∷ 5 ∷ 2 ∷ []))
    -- alike: the primary's memory, not its disk; the view; the members
    ∷ (are_alike small mapped_5 (mapped_5 ++ (Event.savemap 0 ∷ [])) gives (1 ∷ []))
    ∷ (are_alike small mapped_5 put_5 gives (0 ∷ []))
    ∷ (are_alike small (Event.view ∷ []) [] gives (0 ∷ []))
    ∷ (are_alike small (Event.crash 2 ∷ []) [] gives (0 ∷ []))
    -- whole asks for two saved chunks: one is left of two, until a mend
    ∷ (is_whole small written_5 gives (1 ∷ []))
    ∷ (is_whole small replaced gives (0 ∷ []))
    ∷ (is_whole small (replaced ++ (Event.mend 2 ∷ [])) gives (1 ∷ []))
    ∷ []
