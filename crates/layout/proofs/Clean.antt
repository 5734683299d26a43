-- Clean words, part by part: the version is the layout's, flags are 0 or 1, and logs are clean. All else may hold any words.
use mathlib.Core.Path.{◌≡◌, refl, sym, ap, subst, ◌∙◌}
use mathlib.Core.List.{List}
use Prim.Native.Nat.{ℕ, ◌+◌, ◌*◌, ◌≤◌, ◌<◌}
use native.Mathlib.Omega.{arith}
use lib.ListN.{length, take, drop, get_or, length-drop}
use lib.Seq.{drop-drop, get_or-drop, get_or-take}
use Rattle.lists.specs.Runs.{run}
use Rattle.lists.proofs.Runs.{fits_in, run_length, run_front, run_rest, run_all}
use Rattle.rules.specs.declared.settings.Settings.{Settings}
use Rattle.rules.specs.Limits.{proxies, buckets, max_relays, max_items, max_waiting}
use Rattle.codec.specs.Codec.{Codec, Clean, word, ◌then◌, many}
use Rattle.codec.proofs.Focus.{◌through◌, clean_part}
use Rattle.codec.proofs.Round.{CleanIf, Any, clean_word, clean_flag, clean_fixed, clean_via, clean_two, flag_part, fixed_part, clean_many, clean_table, clean_if_present}
use Rattle.layout.specs.Contents.{blank_agreed, blank_proxy, blank_copies, blank_brick, blank_place}
use Rattle.layout.specs.Contents.{settings_reading, head_reading, agreed_reading, proxy_reading, status_reading, copies_reading, brick_reading, contents_reading}
use Rattle.layout.specs.Layout.{layout_version, head_codec, agreed_codec, proxy_codec, bag_codec, status_codec, buffer_codec, copies_codec}
use Rattle.layout.specs.Layout.{all_copies_codec, log_codec, place_codec, all_agreed_codec, all_proxies_codec, store_codec}
use Rattle.layout.specs.Layout.{head_words, agreed_words, log_words, place_words, store_words, agreed_at, proxies_at, bag_at, places_at, place_at}
use Rattle.layout.specs.Layout.{agreed_part, place_part, version_at, ready_at, fetched_at, up_at, member_at, began_at, log_at}
use Rattle.layout.proofs.Codecs.{entry_exact, relay_exact}
use Rattle.layout.proofs.Foci.{version_in, head_in, ready_in, fetched_in, up_of, member_of, began_of, log_of, agreed_focus, place_focus}

-- ---- the settings, a proxy, the bag, buffers and copies: any words
any_two : {A B : Type 0} {c : Codec A} {d : Codec B} → CleanIf c Any → CleanIf d Any → CleanIf (c then d) Any
any_two k l = record { clean = λ w h _. (clean_two k l).clean w h (tt, tt) }

any_many : {A : Type 0} {c : Codec A} (n : ℕ) (blank : A) → CleanIf c Any → CleanIf (many n blank c) Any
any_many n blank k = record { clean = λ w h _. (clean_many n blank k).clean w h (λ i p. tt) }

words_two : CleanIf (word then word) Any
words_two = any_two clean_word clean_word

words_four : CleanIf (word then word then word then word) Any
words_four = any_two clean_word (any_two clean_word words_two)

pub proxy_any : CleanIf proxy_codec Any
proxy_any = clean_via proxy_reading (λ t. refl) (any_two clean_word (clean_table entry_exact max_items))

copies_any : (c : Settings) → CleanIf (copies_codec c) Any
copies_any c = clean_via copies_reading (λ t. refl) (any_two (clean_table entry_exact c.entries) (clean_table entry_exact c.entries))

log_if : (c : Settings) → CleanIf (log_codec c) (Clean (log_codec c))
log_if c = record { clean = λ w h k. k }

first_of : (w : List ℕ) → get_or (take 1 w) 0 0 ≡ get_or w 0 0
first_of w = get_or-take 1 w 0 0 (omega arith)

-- ---- the header: its version
head_if : CleanIf head_codec (λ w. get_or w version_at 0 ≡ layout_version)
head_if = record {
  clean = λ w h v.
      (clean_via head_reading (λ t. refl)
      (clean_two (clean_fixed layout_version) (any_two (clean_via settings_reading (λ t. refl) words_four) (any_two clean_word words_two)))).clean w h
      (first_of w ∙ v, tt);
}

-- ---- a bucket's record: its two flags
pub record AgreedClean (w : List ℕ) : Type 0 where
  pub ready : get_or w ready_at 0 ≤ 1
  pub fetched : get_or w fetched_at 0 ≤ 1

module _ (w : List ℕ) (h : length w ≡ agreed_words) where
  pub clean_agreed : Clean agreed_codec w → AgreedClean w
  clean_agreed k = record {
    ready = flag_part ready_in w h (((((refl, refl), refl), refl), refl)) k;
    fetched = flag_part fetched_in w h ((((((refl, refl), refl), refl), refl), refl)) k;
  }

  pub agreed_clean : AgreedClean w → Clean agreed_codec w
  agreed_clean k =
      let ready : get_or (take 1 (drop 1 (drop 1 (drop 1 (drop 1 w))))) 0 0 ≤ 1 =
      rw (first_of (drop 1 (drop 1 (drop 1 (drop 1 w))))) (simp get_or-drop k.ready) in
      let fetched : get_or (take 1 (drop 1 (drop 1 (drop 1 (drop 1 (drop 1 w)))))) 0 0 ≤ 1 =
      rw (first_of (drop 1 (drop 1 (drop 1 (drop 1 (drop 1 w)))))) (simp get_or-drop k.fetched) in
      (clean_via agreed_reading (λ t. refl)
      (clean_two clean_word (clean_two clean_word (clean_two clean_word (clean_two clean_word
      (clean_two clean_flag (clean_two clean_flag words_two))))))).clean w h
      (tt, (tt, (tt, (tt, (ready, (fetched, tt))))))

-- ---- a place that holds a brick: three flags, and its log
pub record PlaceClean (c : Settings) (w : List ℕ) : Type 0 where
  pub up : get_or w up_at 0 ≤ 1
  pub member : get_or w member_at 0 ≤ 1
  pub began : get_or w began_at 0 ≤ 1
  pub log : Clean (log_codec c) (run (log_at c) (log_words c) w)

module _ (c : Settings) (w : List ℕ) (h : length w ≡ place_words c) where
  pub clean_place : Clean (place_codec c) w → 0 < get_or w 0 0 → PlaceClean c w
  clean_place k z = record {
    up = flag_part (up_of c) w h ((refl, z), (refl, refl)) k;
    member = flag_part (member_of c) w h ((refl, z), (refl, (refl, refl))) k;
    began = flag_part (began_of c) w h ((refl, z), (refl, ((refl, refl), refl))) k;
    log = clean_part (log_of c) w h ((refl, z), ((refl, refl), refl)) k;
  }

  log_words_of : drop (all_copies_codec c).size (drop buffer_codec.size (drop status_codec.size (drop 1 w))) ≡ run (log_at c) (log_words c) w
  log_words_of =
      let l : length (drop (log_at c) w) ≡ log_words c = length-drop (log_at c) w ∙ omega arith in
      rw (drop-drop 5 1 w, drop-drop 65 6 w, drop-drop (all_copies_codec c).size 71 w) (sym (run_all (log_words c) (drop (log_at c) w) l))

  pub place_clean : (0 < get_or w 0 0 → PlaceClean c w) → Clean (place_codec c) w
  place_clean k =
      (clean_if_present blank_brick
      (clean_via brick_reading (λ t. refl)
      (clean_two (clean_via status_reading (λ t. refl) (clean_two clean_flag (clean_two clean_flag (clean_two clean_flag words_two))))
      (clean_two (clean_table entry_exact max_waiting) (clean_two (any_many (buckets c) blank_copies (copies_any c)) (log_if c)))))).clean w h
      (λ z. let p = k z in
      let front : List ℕ = take 5 (drop 1 w) in
      let one : get_or (take 1 front) 0 0 ≤ 1 = rw (first_of front, get_or-take 5 (drop 1 w) 0 0 (omega arith), get_or-drop 1 w 0 0) p.up in
      let two : get_or (take 1 (drop 1 front)) 0 0 ≤ 1 =
      rw (first_of (drop 1 front), get_or-drop 1 front 0 0, get_or-take 5 (drop 1 w) 1 0 (omega arith), get_or-drop 1 w 1 0) p.member in
      let three : get_or (take 1 (drop 1 (drop 1 front))) 0 0 ≤ 1 =
      rw (first_of (drop 1 (drop 1 front)), drop-drop 1 1 front, get_or-drop 2 front 0 0, get_or-take 5 (drop 1 w) 2 0 (omega arith), get_or-drop 1 w 2 0)
      p.began in
      ((one, (two, (three, tt))), (tt, (tt, subst (Clean (log_codec c)) (sym log_words_of) p.log))))

-- ---- the store: its version, each bucket's record, and each place that holds a brick
pub record CleanParts (c : Settings) (ws : List ℕ) : Type 0 where
  pub version : get_or ws version_at 0 ≡ layout_version
  pub agreed : (g : ℕ) → g < buckets c → AgreedClean (agreed_part g ws)
  pub place : (p : ℕ) → p < c.places → 0 < get_or (place_part c p ws) 0 0 → PlaceClean c (place_part c p ws)

agreed_if : CleanIf agreed_codec AgreedClean
agreed_if = record { clean = agreed_clean }

place_if : (c : Settings) → CleanIf (place_codec c) (λ w. 0 < get_or w 0 0 → PlaceClean c w)
place_if c = record { clean = place_clean c }

-- part i of n parts of one size that lie from a on
part_in : (a n i size : ℕ) (w : List ℕ) → i < n → a + n * size ≤ length w → run (i * size) size (take (n * size) (drop a w)) ≡ run (a + i * size) size w
part_in a n i size w p h = run_front (i * size) size (n * size) (drop a w) (rw length-drop (omega arith)) (fits_in size p) ∙ run_rest a (i * size) size w

module _ (c : Settings) (ws : List ℕ) (h : length ws ≡ store_words c) where
  agreed_long : (g : ℕ) → g < buckets c → length (agreed_part g ws) ≡ agreed_words
  agreed_long g l = run_length (agreed_at g) agreed_words ws (omega (arith, fits_in agreed_words l))

  place_long : (p : ℕ) → p < c.places → length (place_part c p ws) ≡ place_words c
  place_long p l = run_length (place_at c p) (place_words c) ws (omega (arith, fits_in (place_words c) l))

  pub clean_parts : Clean (store_codec c) ws → CleanParts c ws
  clean_parts k = record {
    version = fixed_part (head_in c through version_in) ws h (refl, refl) k;
    agreed = λ g l. clean_agreed _ (agreed_long g l) (clean_part (agreed_focus c g l) ws h ((refl, refl), λ j m z. refl) k);
    place = λ p l. clean_place c _ (place_long p l) (clean_part (place_focus c p l) ws h ((((refl, refl), refl), refl), λ j m z. refl) k);
  }

  from_places : drop bag_codec.size (drop all_proxies_codec.size (drop (all_agreed_codec c).size (drop head_codec.size ws))) ≡ drop (places_at c) ws
  from_places = rw (drop-drop (all_agreed_codec c).size 8 ws, drop-drop 264 (proxies_at c) ws, drop-drop 321 (bag_at c) ws)

  pub parts_clean : CleanParts c ws → Clean (store_codec c) ws
  parts_clean k =
      (clean_via contents_reading (λ t. refl)
      (clean_two head_if
      (clean_two (clean_many (buckets c) blank_agreed agreed_if)
      (clean_two (any_many proxies blank_proxy proxy_any)
      (clean_two (clean_table relay_exact max_relays) (clean_many c.places blank_place (place_if c))))))).clean ws h (
        get_or-take head_words ws version_at 0 (omega arith) ∙ k.version,
        (
          λ g l. subst AgreedClean (sym (part_in head_words (buckets c) g agreed_words ws l (omega arith))) (k.agreed g l),
          (
            tt,
            (
              tt,
              λ p l. subst (λ (v : List ℕ). 0 < get_or v 0 0 → PlaceClean c v)
                  (sym (ap (run (p * place_words c) (place_words c)) from_places ∙ run_rest (places_at c) (p * place_words c) (place_words c) ws))
                  (k.place p l),
            ),
          ),
        ),
      )
