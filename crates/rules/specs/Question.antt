-- The questions, asked in the order of the list: a no answers with its number.
use Rattle.std.specs.Prelude.{◌≡◌, List, [], ◌∷◌, Bool, true, not, cond, ℕ, ltb, eqb}
use Rattle.rules.specs.Limits.{proxies, buckets}
use Rattle.rules.specs.Numbers.{block_count, proxy_of}
use Rattle.rules.specs.Entries.{has}
use Rattle.rules.specs.State.{State}
use Rattle.rules.specs.Derived.{up_member, bucket_at, pending}

pub record Question : Type 0 where
  pub code : ℕ
  pub yes : Bool

infix 20 ◌asks◌
abbrev pub ◌asks◌ : ℕ → Bool → Question
◌asks◌ code answer = record { code = code; yes = answer }

-- the number of the first question that is answered no: 0 if none is
unfoldable pub first_no : List Question → ℕ
first_no [] = 0
first_no (q ∷ qs) = cond q.yes (first_no qs) q.code

abbrev pub AllYes : List Question → Type 0
AllYes [] = Unit {0}
AllYes (q ∷ qs) = (q.yes ≡ true) × AllYes qs

-- ---- what several kinds ask
-- 3: each field in range
abbrev pub is_proxy : ℕ → Bool
is_proxy proxy = ltb proxy proxies

abbrev pub is_block : ℕ → Bool
is_block block = ltb block block_count

abbrev pub is_place : State → ℕ → Bool
is_place s place = ltb place s.settings.places

abbrev pub is_bucket : State → ℕ → Bool
is_bucket s number = ltb number (buckets s.settings)

-- 4: does the block belong to the proxy?
abbrev pub belongs : ℕ → ℕ → Bool
belongs proxy block = eqb (proxy_of block) proxy

-- 5: does the proxy know the present view?
abbrev pub knows_view : State → ℕ → Bool
knows_view s proxy = eqb (s.known proxy) s.view

-- 6: is the primary an up member?
abbrev pub primary_up : State → ℕ → Bool
primary_up s block = up_member s (bucket_at s block).primary

-- 7: bucket ready?
abbrev pub is_ready : State → ℕ → Bool
is_ready s block = (bucket_at s block).ready

-- 8: block not pending, nor in the buffer?
abbrev pub not_pending : State → ℕ → Bool
not_pending s block = not (pending (bucket_at s block) block)

abbrev pub not_waiting : State → ℕ → Bool
not_waiting s block = not (has (s.bricks.buffer (bucket_at s block).primary) block)

-- 9: an item?
abbrev pub has_item : State → ℕ → ℕ → Bool
has_item s proxy block = has (s.items proxy) block
