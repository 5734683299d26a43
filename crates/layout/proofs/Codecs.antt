-- Each codec of the layout keeps the number of words, and writing a value twice is writing it once.
use mathlib.Core.Path.{◌≡◌, refl}
use mathlib.Core.List.{List, [], ◌∷◌}
use Prim.Native.Nat.{ℕ, ◌/◌}
use native.Mathlib.Omega.{arith}
use lib.ListN.{length}
use Rattle.rules.specs.declared.settings.Settings.{Settings}
use Rattle.rules.specs.Limits.{proxies, buckets, max_relays, max_items, max_waiting}
use Rattle.chunk_log.proofs.Codec.{log_keeps, log_idem}
use Rattle.codec.proofs.Laws.{Lawful, Exact, word_law, flag_law, fixed_law, via_law, then_law, many_law, table_law, if_present_law}
use Rattle.layout.specs.Layout.{layout_version, settings_codec, head_codec, agreed_codec, items_codec, proxy_codec, bag_codec}
use Rattle.layout.specs.Layout.{status_codec, buffer_codec, copy_codec, copies_codec, all_copies_codec, log_codec, brick_codec, place_codec}
use Rattle.layout.specs.Layout.{all_agreed_codec, all_proxies_codec, all_places_codec, store_codec}
use Rattle.layout.specs.Contents.{blank_agreed, blank_proxy, blank_copies, blank_brick, blank_place}
use Rattle.layout.specs.Contents.{entry_row, relay_row, settings_reading, head_reading, agreed_reading, proxy_reading, status_reading}
use Rattle.layout.specs.Contents.{copies_reading, brick_reading, contents_reading}

-- ---- rows fill their words
two_exact : (w : List ℕ) → length w ≡ 2 → entry_row.write (entry_row.read w) ≡ w
two_exact [] h = absurd (omega arith)
two_exact (a ∷ []) h = absurd (omega arith)
two_exact (a ∷ b ∷ []) h = refl
two_exact (a ∷ b ∷ c ∷ w) h = absurd (omega arith)

pub entry_exact : Exact entry_row
entry_exact = record { sized = λ e. refl; back = λ e. refl; exact = two_exact }

five_exact : (w : List ℕ) → length w ≡ 5 → relay_row.write (relay_row.read w) ≡ w
five_exact [] h = absurd (omega arith)
five_exact (a ∷ []) h = absurd (omega arith)
five_exact (a ∷ b ∷ []) h = absurd (omega arith)
five_exact (a ∷ b ∷ c ∷ []) h = absurd (omega arith)
five_exact (a ∷ b ∷ c ∷ d ∷ []) h = absurd (omega arith)
five_exact (a ∷ b ∷ c ∷ d ∷ e ∷ []) h = refl
five_exact (a ∷ b ∷ c ∷ d ∷ e ∷ f ∷ w) h = absurd (omega arith)

pub relay_exact : Exact relay_row
relay_exact = record { sized = λ r. refl; back = λ r. refl; exact = five_exact }

-- ---- the parts
pub settings_law : Lawful settings_codec
settings_law = via_law settings_reading (then_law word_law (then_law word_law (then_law word_law word_law)))

pub head_law : Lawful head_codec
head_law = via_law head_reading (then_law (fixed_law layout_version) (then_law settings_law (then_law word_law (then_law word_law word_law))))

pub agreed_law : Lawful agreed_codec
agreed_law =
    via_law agreed_reading (then_law word_law (then_law word_law (then_law word_law (then_law word_law
    (then_law flag_law (then_law flag_law (then_law word_law word_law)))))))

pub items_law : Lawful items_codec
items_law = table_law entry_exact max_items

pub proxy_law : Lawful proxy_codec
proxy_law = via_law proxy_reading (then_law word_law items_law)

pub bag_law : Lawful bag_codec
bag_law = table_law relay_exact max_relays

pub status_law : Lawful status_codec
status_law = via_law status_reading (then_law flag_law (then_law flag_law (then_law flag_law (then_law word_law word_law))))

pub buffer_law : Lawful buffer_codec
buffer_law = table_law entry_exact max_waiting

module _ (c : Settings) where
  pub copy_law : Lawful (copy_codec c)
  copy_law = table_law entry_exact c.entries

  pub copies_law : Lawful (copies_codec c)
  copies_law = via_law copies_reading (then_law copy_law copy_law)

  pub all_copies_law : Lawful (all_copies_codec c)
  all_copies_law = many_law (buckets c) blank_copies copies_law

  pub log_law : Lawful (log_codec c)
  log_law = record { keeps = log_keeps c.chunks (c.size / 8); idem = log_idem c.chunks (c.size / 8) }

  pub brick_law : Lawful (brick_codec c)
  brick_law = via_law brick_reading (then_law status_law (then_law buffer_law (then_law all_copies_law log_law)))

  pub place_law : Lawful (place_codec c)
  place_law = if_present_law blank_brick brick_law

  pub all_agreed_law : Lawful (all_agreed_codec c)
  all_agreed_law = many_law (buckets c) blank_agreed agreed_law

pub all_proxies_law : Lawful all_proxies_codec
all_proxies_law = many_law proxies blank_proxy proxy_law

module _ (c : Settings) where
  pub all_places_law : Lawful (all_places_codec c)
  all_places_law = many_law c.places blank_place (place_law c)

  pub disk_law : Lawful (store_codec c)
  disk_law = via_law contents_reading (then_law head_law (then_law (all_agreed_law c) (then_law all_proxies_law (then_law bag_law all_places_law))))
