-- What learn and reset leave.
use mathlib.Core.Path.{◌≡◌, refl, sym, ap, ◌∙◌}
use mathlib.Core.List.{List, [], ◌++◌}
use Prim.Native.Nat.{ℕ, ◌+◌, ◌*◌, ◌-◌, ◌<◌}
use lib.ListN.{length, take, drop}
use Rattle.lists.proofs.Columns.{upd_same, upd_other}
use Rattle.words.specs.Words.{words}
use Rattle.rules.specs.declared.settings.Settings.{Settings}
use Rattle.rules.specs.Limits.{proxies}
use Rattle.rules.specs.Entries.{Entry}
use Rattle.rules.specs.Maps.{learn_effect, reset_effect}
use Rattle.codec.specs.Codec.{change}
use Rattle.layout.specs.Contents.{Proxy, blank_proxy}
use Rattle.layout.specs.Layout.{proxy_codec, proxy_words, proxy_at}
use Rattle.layout.specs.Store.{decode, render}
use Rattle.layout.proofs.Foci.{proxy_focus}
use Rattle.records.specs.Records.{with_known}
use Rattle.lent.specs.Stores.{StoreOf}
use Rattle.lent.proofs.Effects.{effect}

-- ---- a proxy's part, lent and changed
module _ (c : Settings) (bs : List ℕ) (v : StoreOf c bs) (p : ℕ) (h : p < proxies) (part : List ℕ) (o e : ℕ) (eo : o ≡ 8 * proxy_at c p)
    (ee : e ≡ o + 8 * proxy_words) (lp : length part ≡ 8 * proxy_words) where
  pub learned : (view : ℕ) → view ≡ (decode (words bs)).view → words part ≡ change proxy_codec (with_known view) (words (take (e - o) (drop o bs)))
      → words (take o bs ++ (part ++ drop (e - o) (drop o bs))) ≡ render (learn_effect (decode (words bs)) p) (words bs)
  unfolding learn_effect
  learned view w ep =
      let s = decode (words bs) in
      effect c bs v (proxy_focus c p h) (learn_effect s p) refl
      (((refl, refl), refl), λ j l z. ap (λ (n : ℕ). record { known = n; items = s.items j }) (sym (upd_other s.known p j s.view z)))
      part o e eo ee lp (with_known view)
      (ap (λ (n : ℕ). record { known = n; items = s.items p }) (upd_same s.known p s.view ∙ sym w)) ep

  pub cleared : words part ≡ proxy_codec.enc blank_proxy (words (take (e - o) (drop o bs)))
      → words (take o bs ++ (part ++ drop (e - o) (drop o bs))) ≡ render (reset_effect (decode (words bs)) p) (words bs)
  unfolding reset_effect
  cleared ep =
      let s = decode (words bs) in
      effect c bs v (proxy_focus c p h) (reset_effect s p) refl
      (((refl, refl), refl), λ j l z. both_same (sym (upd_other s.known p j 0 z)) (sym (upd_other s.items p j [] z)))
      part o e eo ee lp (λ _. blank_proxy) (both_same (upd_same s.known p 0) (upd_same s.items p [])) ep
    where
      both_same : {a b : ℕ} {l m : List Entry} → a ≡ b → l ≡ m → ◌≡◌ {A = Proxy} (record { known = a; items = l }) (record { known = b; items = m })
      both_same q r = cc
