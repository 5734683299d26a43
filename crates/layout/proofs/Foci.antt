-- Where each part lies in the store.
use mathlib.Core.Path.{◌≡◌, refl}
use Prim.Native.Nat.{ℕ, ◌<◌}
use native.Mathlib.Omega.{arith}
use Rattle.rules.specs.declared.settings.Settings.{Settings}
use Rattle.rules.specs.Limits.{proxies, buckets}
use Rattle.codec.specs.Codec.{word, flag, fixed, ◌then◌}
use Rattle.codec.proofs.Laws.{Lawful, word_law, flag_law, fixed_law, then_law}
use Rattle.codec.proofs.Focus.{Focus, ◌through◌, seen_as, at_offset, first, second, nth, filled}
use Rattle.layout.specs.Contents.{blank_agreed, blank_proxy, blank_copies, blank_brick, blank_place}
use Rattle.layout.specs.Contents.{head_reading, agreed_reading, proxy_reading, status_reading, copies_reading, brick_reading, contents_reading}
use Rattle.layout.specs.Layout.{layout_version, settings_codec, head_codec, agreed_codec, items_codec, proxy_codec, bag_codec, status_codec, buffer_codec}
use Rattle.layout.specs.Layout.{copy_codec, copies_codec, all_copies_codec, log_codec, brick_codec, place_codec}
use Rattle.layout.specs.Layout.{all_agreed_codec, all_proxies_codec, all_places_codec, store_codec}
use Rattle.layout.specs.Layout.{agreed_at, proxies_at, proxy_at, bag_at, place_at, items_at, up_at, member_at, began_at, next_at, ceiling_at}
use Rattle.layout.specs.Layout.{buffer_at, copies_at, log_at}
use Rattle.layout.proofs.Codecs.{settings_law, head_law, agreed_law, items_law, proxy_law, bag_law, status_law, buffer_law, copy_law, copies_law}
use Rattle.layout.proofs.Codecs.{all_copies_law, log_law, brick_law, place_law, all_agreed_law, all_proxies_law, all_places_law}

-- Names: `x-in` is where x lies in what holds it next, `x-of` where it lies in a place that holds a brick, `x-focus` where it lies in the store.

-- ---- the laws of what follows in a row of words
pub two_words : Lawful (word then word)
two_words = then_law word_law word_law

pub three_words : Lawful (word then word then word)
three_words = then_law word_law two_words

pub flag_words : Lawful (flag then word then word)
flag_words = then_law flag_law two_words

pub flags_words : Lawful (flag then flag then word then word)
flags_words = then_law flag_law flag_words

-- ---- in the header
pub from_settings : Lawful (settings_codec then word then word then word)
from_settings = then_law settings_law three_words

abbrev pub version_in : Focus head_codec (fixed layout_version)
version_in = seen_as head_reading (λ t. refl) (first (fixed_law layout_version) from_settings)

abbrev pub view_in : Focus head_codec word
view_in =
    seen_as head_reading (λ t. refl)
    (second (fixed_law layout_version) from_settings through second settings_law three_words through first word_law two_words)

abbrev pub given_in : Focus head_codec word
given_in =
    seen_as head_reading (λ t. refl)
    (second (fixed_law layout_version) from_settings through second settings_law three_words through second word_law two_words
    through first word_law word_law)

abbrev pub started_in : Focus head_codec word
started_in =
    seen_as head_reading (λ t. refl)
    (second (fixed_law layout_version) from_settings through second settings_law three_words through second word_law two_words
    through second word_law word_law)

-- ---- in the store
module _ (c : Settings) where
  pub from_bag : Lawful (bag_codec then all_places_codec c)
  from_bag = then_law bag_law (all_places_law c)

  pub from_proxies : Lawful (all_proxies_codec then bag_codec then all_places_codec c)
  from_proxies = then_law all_proxies_law from_bag

  pub from_agreed : Lawful (all_agreed_codec c then all_proxies_codec then bag_codec then all_places_codec c)
  from_agreed = then_law (all_agreed_law c) from_proxies

  abbrev pub head_in : Focus (store_codec c) head_codec
  head_in = seen_as contents_reading (λ t. refl) (first head_law from_agreed)

  abbrev pub all_agreed_in : Focus (store_codec c) (all_agreed_codec c)
  all_agreed_in = seen_as contents_reading (λ t. refl) (second head_law from_agreed through first (all_agreed_law c) from_proxies)

  abbrev pub all_proxies_in : Focus (store_codec c) all_proxies_codec
  all_proxies_in =
      at_offset (proxies_at c)
      (seen_as contents_reading (λ t. refl)
      (second head_law from_agreed through second (all_agreed_law c) from_proxies through first all_proxies_law from_bag)) (omega arith)

  abbrev pub bag_in : Focus (store_codec c) bag_codec
  bag_in =
      at_offset (bag_at c)
      (seen_as contents_reading (λ t. refl)
      (second head_law from_agreed through second (all_agreed_law c) from_proxies through second all_proxies_law from_bag
      through first bag_law (all_places_law c))) (omega arith)

  abbrev pub all_places_in : Focus (store_codec c) (all_places_codec c)
  all_places_in =
      seen_as contents_reading (λ t. refl)
      (second head_law from_agreed through second (all_agreed_law c) from_proxies through second all_proxies_law from_bag
      through second bag_law (all_places_law c))

-- ---- in a bucket's record
pub from_last_backup : Lawful (word then flag then flag then word then word)
from_last_backup = then_law word_law flags_words

pub from_last_primary : Lawful (word then word then flag then flag then word then word)
from_last_primary = then_law word_law from_last_backup

pub from_backup : Lawful (word then word then word then flag then flag then word then word)
from_backup = then_law word_law from_last_primary

abbrev pub ready_in : Focus agreed_codec flag
ready_in =
    seen_as agreed_reading (λ t. refl)
    (second word_law from_backup through second word_law from_last_primary through second word_law from_last_backup through second word_law flags_words
    through first flag_law flag_words)

abbrev pub fetched_in : Focus agreed_codec flag
fetched_in =
    seen_as agreed_reading (λ t. refl)
    (second word_law from_backup through second word_law from_last_primary through second word_law from_last_backup through second word_law flags_words
    through second flag_law flag_words through first flag_law two_words)

abbrev pub order_in : Focus agreed_codec word
order_in =
    seen_as agreed_reading (λ t. refl)
    (second word_law from_backup through second word_law from_last_primary through second word_law from_last_backup through second word_law flags_words
    through second flag_law flag_words through second flag_law two_words through first word_law word_law)

abbrev pub taken_in : Focus agreed_codec word
taken_in =
    seen_as agreed_reading (λ t. refl)
    (second word_law from_backup through second word_law from_last_primary through second word_law from_last_backup through second word_law flags_words
    through second flag_law flag_words through second flag_law two_words through second word_law word_law)

-- ---- in a proxy
abbrev pub known_in : Focus proxy_codec word
known_in = seen_as proxy_reading (λ t. refl) (first word_law items_law)

abbrev pub items_in : Focus proxy_codec items_codec
items_in = seen_as proxy_reading (λ t. refl) (second word_law items_law)

-- ---- in a brick's status
abbrev pub up_in : Focus status_codec flag
up_in = seen_as status_reading (λ t. refl) (first flag_law flags_words)

abbrev pub member_in : Focus status_codec flag
member_in = seen_as status_reading (λ t. refl) (second flag_law flags_words through first flag_law flag_words)

abbrev pub began_in : Focus status_codec flag
began_in =
    seen_as status_reading (λ t. refl) (second flag_law flags_words through second flag_law flag_words through first flag_law two_words)

abbrev pub next_in : Focus status_codec word
next_in =
    seen_as status_reading (λ t. refl)
    (second flag_law flags_words through second flag_law flag_words through second flag_law two_words through first word_law word_law)

abbrev pub ceiling_in : Focus status_codec word
ceiling_in =
    seen_as status_reading (λ t. refl)
    (second flag_law flags_words through second flag_law flag_words through second flag_law two_words through second word_law word_law)

-- ---- in a brick
module _ (c : Settings) where
  pub from_copies : Lawful (all_copies_codec c then log_codec c)
  from_copies = then_law (all_copies_law c) (log_law c)

  pub from_buffer : Lawful (buffer_codec then all_copies_codec c then log_codec c)
  from_buffer = then_law buffer_law from_copies

  abbrev pub status_in : Focus (brick_codec c) status_codec
  status_in = seen_as brick_reading (λ t. refl) (first status_law from_buffer)

  abbrev pub buffer_in : Focus (brick_codec c) buffer_codec
  buffer_in = seen_as brick_reading (λ t. refl) (second status_law from_buffer through first buffer_law from_copies)

  abbrev pub all_copies_in : Focus (brick_codec c) (all_copies_codec c)
  all_copies_in =
      seen_as brick_reading (λ t. refl)
      (second status_law from_buffer through second buffer_law from_copies through first (all_copies_law c) (log_law c))

  abbrev pub log_in : Focus (brick_codec c) (log_codec c)
  log_in =
      seen_as brick_reading (λ t. refl)
      (second status_law from_buffer through second buffer_law from_copies through second (all_copies_law c) (log_law c))

  abbrev pub memory_in : Focus (copies_codec c) (copy_codec c)
  memory_in = seen_as copies_reading (λ t. refl) (first (copy_law c) (copy_law c))

  abbrev pub disk_in : Focus (copies_codec c) (copy_codec c)
  disk_in = seen_as copies_reading (λ t. refl) (second (copy_law c) (copy_law c))

  abbrev pub copies_in : (g : ℕ) → g < buckets c → Focus (brick_codec c) (copies_codec c)
  copies_in g h = all_copies_in through nth (copies_law c) (buckets c) blank_copies g h

  -- ---- in a place that holds a brick
  abbrev pub brick_in_place : Focus (place_codec c) (brick_codec c)
  brick_in_place = filled blank_brick (brick_law c)

  abbrev pub up_of : Focus (place_codec c) flag
  up_of = brick_in_place through (status_in through up_in)

  abbrev pub member_of : Focus (place_codec c) flag
  member_of = brick_in_place through (status_in through member_in)

  abbrev pub began_of : Focus (place_codec c) flag
  began_of = brick_in_place through (status_in through began_in)

  abbrev pub next_of : Focus (place_codec c) word
  next_of = brick_in_place through (status_in through next_in)

  abbrev pub ceiling_of : Focus (place_codec c) word
  ceiling_of = brick_in_place through (status_in through ceiling_in)

  abbrev pub buffer_of : Focus (place_codec c) buffer_codec
  buffer_of = brick_in_place through buffer_in

  abbrev pub copies_of : (g : ℕ) → g < buckets c → Focus (place_codec c) (copies_codec c)
  copies_of g h = at_offset (copies_at c g) (brick_in_place through copies_in g h) (omega arith)

  abbrev pub log_of : Focus (place_codec c) (log_codec c)
  log_of = at_offset (log_at c) (brick_in_place through log_in) (omega arith)

  -- ---- in the store
  abbrev pub agreed_focus : (g : ℕ) → g < buckets c → Focus (store_codec c) agreed_codec
  agreed_focus g h = all_agreed_in c through nth agreed_law (buckets c) blank_agreed g h

  abbrev pub proxy_focus : (p : ℕ) → p < proxies → Focus (store_codec c) proxy_codec
  proxy_focus p h = all_proxies_in c through nth proxy_law proxies blank_proxy p h

  abbrev pub known_focus : (p : ℕ) → p < proxies → Focus (store_codec c) word
  known_focus p h = at_offset (proxy_at c p) (proxy_focus p h through known_in) (omega arith)

  abbrev pub items_focus : (p : ℕ) → p < proxies → Focus (store_codec c) items_codec
  items_focus p h = proxy_focus p h through items_in

  abbrev pub place_focus : (p : ℕ) → p < c.places → Focus (store_codec c) (place_codec c)
  place_focus p h = all_places_in c through nth (place_law c) c.places blank_place p h

  abbrev pub brick_focus : (p : ℕ) → p < c.places → Focus (store_codec c) (brick_codec c)
  brick_focus p h = place_focus p h through brick_in_place

-- ---- the offsets of the parts are those that the layout names
pub offsets : (c : Settings) (g p q : ℕ) (hg : g < buckets c) (hp : p < proxies) (hq : q < c.places)
    → ((agreed_focus c g hg).off ≡ agreed_at g) × ((proxy_focus c p hp).off ≡ proxy_at c p) × ((bag_in c).off ≡ bag_at c)
    × ((place_focus c q hq).off ≡ place_at c q)
    × ((up_of c).off ≡ up_at) × ((member_of c).off ≡ member_at) × ((began_of c).off ≡ began_at) × ((next_of c).off ≡ next_at) × ((ceiling_of c).off ≡ ceiling_at)
    × ((buffer_of c).off ≡ buffer_at) × ((copies_of c g hg).off ≡ copies_at c g) × ((log_of c).off ≡ log_at c) × (items_in.off ≡ items_at)
offsets c g p q hg hp hq = (refl, refl, refl, refl, refl, refl, refl, refl, refl, refl, refl, refl, refl)
