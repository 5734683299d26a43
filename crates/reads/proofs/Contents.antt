-- What get's look-up finds: what it says of get's questions, and the block's bytes.
use mathlib.Core.Path.{◌≡◌, refl, sym, ap, ◌∙◌}
use mathlib.Core.List.{List}
use mathlib.Core.Bool.{true}
use Prim.Native.Nat.{ℕ}
use lib.Dec.{ltb, eqb}
use lib.ListN.{length, length-replicate}
use borrow.Author.Tests.{eq-eqb, ne_eqb, lt-ltb, ltb-true}
use Rattle.lists.specs.Tests.{◌and◌, ◌or◌}
use Rattle.lists.proofs.Tests.{by_eq, or_l, or_r, or_no, or_second}
use Rattle.std.specs.Prelude.{None, Ok, Err}
use Rattle.words.specs.Words.{words}
use Rattle.rules.specs.declared.refusal.Refusal.TheVariants.{NoChunk}
use Rattle.rules.specs.declared.settings.Settings.{Settings}
use Rattle.rules.specs.Chunks.{bytes_in}
use Rattle.rules.specs.State.{State}
use Rattle.rules.specs.Derived.{holder}
use Rattle.rules.specs.Question.{first_no, AllYes}
use Rattle.rules.specs.Reads.{mapped, get_asks, get_bytes, zeros}
use Rattle.rules.proofs.Questions.{first_yes, first_stop, none_asked, goes_on, all_yes}
use Rattle.chunk_log.specs.Log.{chunk_at}
use Rattle.layout.specs.Store.{decode}
use Rattle.lent.specs.Stores.{StoreOf}
use Rattle.lent.proofs.Stores.{settings_are}
use Rattle.mappings.specs.Asks.{served_asks}
use Rattle.holders.specs.Members.{LiesAt}
use Rattle.holders.proofs.Contents.{bytes_at_holder, holder_size}
use Rattle.reads.specs.Get.{Located, LooksUp}

-- ---- question 11, after the others are answered yes: no mapping, or an up member holds the chunk
module _ (c : Settings) (s : State) (p b : ℕ) (e : 0 ≡ first_no (served_asks s p b)) where
  all_asked : (eqb (mapped s b) 0 or ltb 0 (holder s (mapped s b))) ≡ true → first_no (get_asks s p b) ≡ 0
  unfolding ◌and◌
  all_asked found = sym (goes_on (served_asks s p b) _ refl e refl (sym (first_yes 11 _ found ∙ none_asked)))

  module _ {k : ℕ} (m : k ≡ mapped s b) where
    pub no_mapping : k ≡ 0 → LooksUp c s p b (Ok None)
    no_mapping z = (all_asked (or_l _ _ (eq-eqb (mapped s b) 0 (sym m ∙ z))), sym m ∙ z)

    module _ (some : k ≡ 0 → ⊥) where
      pub located : (place row : ℕ) → LiesAt c s (holder s k) k place row → Located c s p b k place row
      located place row at = record {
        accepted = all_asked (or_r _ _ (lt-ltb 0 (holder s (mapped s b)) (rw m at at.stands.some)));
        key_mapped = m;
        some = some;
        lies = at;
      }

      pub lost : holder s k ≡ 0 → LooksUp c s p b (Err NoChunk)
      unfolding ◌and◌
      lost none =
          goes_on (served_asks s p b) _ refl e refl
          (sym (first_stop 11 _ (or_no _ _ (ne_eqb (mapped s b) 0 (λ z. some (m ∙ z))) ∙ ap (λ (i : ℕ). ltb 0 i) (ap (holder s) (sym m) ∙ none))))

-- ---- the block's bytes
mapped_bytes : (s : State) (b : ℕ) → (mapped s b ≡ 0 → ⊥) → bytes_in (s.bricks.log (holder s (mapped s b))) (mapped s b) ≡ get_bytes s b
unfolding get_bytes
mapped_bytes s b z = rw (ne_eqb (mapped s b) 0 z)

module _ (c : Settings) (bs : List ℕ) (v : StoreOf c bs) (p b : ℕ) where
  abbrev s : State
  s = decode (words bs)

  pub unmapped_bytes : mapped (decode (words bs)) b ≡ 0 → zeros c.size ≡ get_bytes (decode (words bs)) b
  unfolding get_bytes
  unmapped_bytes z = rw (eq-eqb (mapped s b) 0 z) (ap (λ (x : Settings). zeros x.size) (sym (settings_are c bs v)))

  -- the row in which the chunk lies has them
  pub located_bytes : {k place row : ℕ} → Located c (decode (words bs)) p b k place row
      → (chunk_at ((decode (words bs)).bricks.log ((decode (words bs)).ids place)) row).bytes ≡ get_bytes (decode (words bs)) b
  located_bytes {k} {place} {row} l =
      bytes_at_holder c bs v (holder s k) k place row l.lies
      ∙ ap (λ (x : ℕ). bytes_in (s.bricks.log (holder s x)) x) l.key_mapped
      ∙ mapped_bytes s b (λ z. l.some (l.key_mapped ∙ z))

  -- as many as a block has
  pub bytes_size : first_no (get_asks (decode (words bs)) p b) ≡ 0 → length (get_bytes (decode (words bs)) b) ≡ c.size
  unfolding zeros ◌and◌
  bytes_size e =
      by_eq (mapped s b) 0 (λ _ z. ap length (sym (unmapped_bytes z)) ∙ length-replicate c.size 0)
      (λ n z. ap length (sym (mapped_bytes s b z)) ∙ holder_size c bs v (mapped s b) (ltb-true 0 (holder s (mapped s b)) (or_second _ _ found n)))
    where
      found : (eqb (mapped s b) 0 or ltb 0 (holder s (mapped s b))) ≡ true
      found = let yes : AllYes (get_asks s p b) = all_yes (get_asks s p b) refl e in search
