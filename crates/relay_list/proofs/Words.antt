-- Records and the bag's flat words.
use mathlib.Core.Path.{◌≡◌, refl, sym, ◌∙◌, ap}
use mathlib.Core.List.{List, [], ◌∷◌, ◌++◌}
use Prim.Native.Nat.{ℕ, zero, suc, ◌+◌, ◌<◌, ◌≤◌}
use native.Mathlib.Omega.{arith}
use lib.ListN.{length, get_or, set, take, length-append}
use lib.Seq.{take_all}
use Rattle.rules.specs.Limits.{max_relays}
use Rattle.rules.specs.State.{Relay as Held, blank_relay}
use Rattle.layout.specs.Layout.{bag_codec, bag_words}
use Rattle.codec.specs.Codec.{change}
use Rattle.codec.proofs.Loops.{table_is}
use Rattle.layout.specs.Contents.{relay_row}
use Rattle.layout.proofs.Codecs.{relay_exact}
use Rattle.tables.proofs.Typed.{map_set, typed_length, typed_back, typed_over}
use Rattle.lists.specs.Rows.{table_enc}
use Rattle.bag.specs.declared.Relay.{Relay}
use Rattle.relay_list.specs.Relays.{relay_of, relays_of, over, Loads}

-- ---- records are filled one after the other with the relays that are held
fills : (i : ℕ) (held : List Held) (list : List Relay) → i < length held → length held ≤ length list → set (over (take i held) list) i
    (get_or held i blank_relay) ≡ over (take (suc i) held) list
fills i [] list h g = absurd (omega (arith, h))
fills i (x ∷ held) [] h g = absurd (omega (arith, g))
fills zero (x ∷ held) (r ∷ list) h g = refl
fills (suc i) (x ∷ held) (r ∷ list) h g = ap (λ (k : List Held). x ∷ k) (fills i held list (omega (arith, h)) (omega (arith, g)))

pub one_more : (i : ℕ) (r : Relay) (list before : List Relay) (held : List Held) → i < length held → length held ≤ length before
    → relays_of list ≡ over (take i held) before → relay_of r ≡ get_or held i blank_relay → relays_of (set list i r) ≡ over (take (suc i) held) before
one_more i r list before held here room e same = map_set relay_of i r list ∙ ap (λ (l : List Held). set l i (relay_of r)) e ∙ ap
    (set (over (take i held) before) i) same ∙ fills i held before here room

pub held_count : (ws : List ℕ) → length ws ≡ bag_words → get_or ws 0 0 ≤ max_relays → length (bag_codec.dec ws) ≡ get_or ws 0 0
held_count ws hl few = typed_length relay_exact max_relays ws hl few

pub loaded : (ws : List ℕ) (before after : List Relay) → length ws ≡ bag_words → get_or ws 0 0 ≤ max_relays → relays_of after ≡ over
    (take (get_or ws 0 0) (bag_codec.dec ws)) before
    → Loads ws before (get_or ws 0 0) after
loaded ws before after hl few e =
    let count = held_count ws hl few in
    record { number = sym count; records = e ∙ ap (λ (l : List Held). over l before) (take_all (get_or ws 0 0) (bag_codec.dec ws) (omega (arith, count))) }

-- ---- the relays that are held are written one after the other
abbrev in_words : List Held → List ℕ → List ℕ
in_words = table_enc relay_row.size relay_row.write

pub written_next : (held : List Held) (r : Held) (ws v : List ℕ) → length ws ≡ bag_words → length held < max_relays → v ≡ bag_codec.enc held ws
    → change bag_codec (λ l. l ++ r ∷ []) v ≡ bag_codec.enc (held ++ r ∷ []) ws
written_next held r ws v hl few e =
    let one : length (held ++ r ∷ []) ≡ length held + 1 = length-append held (r ∷ []) in
    let fits : length (held ++ r ∷ []) ≤ max_relays = omega (arith, one, few) in
    ap (λ (w : List ℕ). bag_codec.enc (bag_codec.dec w ++ r ∷ []) w) (e ∙ table_is relay_row max_relays held ws (omega (arith, few)))
    ∙ ap (λ (l : List Held). bag_codec.enc (l ++ r ∷ []) (in_words held ws)) (typed_back relay_exact max_relays ws hl held)
    ∙ table_is relay_row max_relays (held ++ r ∷ []) (in_words held ws) fits
    ∙ typed_over relay_exact max_relays ws hl held (held ++ r ∷ []) (omega (arith, one))
    ∙ sym (table_is relay_row max_relays (held ++ r ∷ []) ws fits)
