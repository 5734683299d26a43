-- The get of a block on a sound store: the outcome of its call, the bytes of the answer, and what a caller reads from them.
use mathlib.Core.Path.{◌≡◌, refl, sym, ap, subst, ◌∙◌}
use mathlib.Core.List.{List, ◌++◌}
use mathlib.Core.Bool.{cond}
use mathlib.Core.Logic.{inl, inr}
use Prim.Native.Nat.{ℕ, suc, ◌<◌, ◌^◌}
use native.Mathlib.Omega.{arith}
use lib.Dec.{eqb}
use lib.ListN.{length, length-replicate}
use borrow.Author.Tests.{eq-eqb, ne_eqb}
use Rattle.std.specs.Prelude.{Ok, Err}
use Rattle.rules.specs.declared.refusal.Refusal.{Refusal}
use Rattle.rules.specs.Refusals.{number}
use Rattle.rules.proofs.Refusals.{never_zero}
use Rattle.lists.specs.Tests.{◌and◌}
use Rattle.lists.specs.Runs.{Below}
use Rattle.lists.proofs.Tests.{by_eq, both}
use Rattle.words.specs.Words.{bytes_of, words}
use Rattle.words.proofs.Laws.{le_bytes_of}
use Rattle.rules.specs.declared.settings.Settings.{Settings}
use Rattle.rules.specs.State.{State}
use Rattle.rules.specs.Event.{Event}
use Rattle.rules.specs.Call.{Call, event_called}
use Rattle.rules.specs.Derived.{bucket_no, bucket_at, primary_memory}
use Rattle.rules.specs.Reads.{mapped, zeros}
use Rattle.rules.specs.Step.{Outcome as Stepped, rule, step}
use Rattle.rules.proofs.Call.{get_called}
use Rattle.rules.proofs.Derived.{bucket_below}
use Rattle.rules.proofs.Sound.{Sound}
use Rattle.rules.proofs.Step.{Stepped as IsStepped, refused, accepted, stepped, Numbered, step_numbers}
use Rattle.layout.specs.Store.{decode, decode_bytes}
use Rattle.history.proofs.Facts.{key_for_key}
use Rattle.lent.specs.Stores.{StoreOf}
use Rattle.lent.proofs.Stores as stores
use Rattle.reads.specs.Get.{Fills}
use Rattle.reads.proofs.Outcomes.{size_is, said_size}
use Rattle.reads.proofs.Zeros.{zeros_test}
use Rattle.calls.specs.Outcome.{Outcome, filled, performed, event_on, outcome}
use Rattle.calls.proofs.Performed.{sound_store}
use Rattle.calls.proofs.Calls.{get_still}
use Rattle.read_many.specs.Read.{head, answer, get_call, get_answer}
use Rattle.read_many.specs.Claim.{answered_block}

-- the key that a sound store has for a block is a word
mapped_word : (s : State) → Sound s → (block : ℕ) → mapped s block < 2 ^ 64
mapped_word s o block =
    elim (key_for_key (primary_memory (bucket_at s block)) block ((o.buckets_ok (bucket_no s block) (bucket_below s.settings block)).memory _)) [
      | inl z ↦ omega (arith, z)
      | inr k ↦ omega (arith, k.born, o.bricks.few)
    ]

module _ (c : Settings) (bs : List ℕ) (v : StoreOf c bs) (proxy block : ℕ) where
  abbrev call : Call
  call = get_call c.size proxy block

  abbrev result : Stepped
  result = step (decode_bytes bs) (Event.get proxy block)

  -- ---- the event and the outcome
  get_event : event_called c.size call ≡ Event.get proxy block
  unfolding zeros
  get_event = get_called c.size call refl (both _ _ (zeros_test c.size) (eq-eqb _ _ (length-replicate c.size 0)))

  event_got : event_on bs call ≡ Event.get proxy block
  unfolding decode_bytes
  event_got = ap (λ (n : ℕ). event_called n call) (sym (size_is c bs v)) ∙ get_event

  get_performed : outcome bs call ≡ performed bs call result
  unfolding outcome
  get_performed = rw (sound_store bs (stores.sound_store c bs v), event_got) refl

  -- it leaves the store
  pub get_keeps : Below 256 bs → (outcome bs call).store ≡ bs
  get_keeps b = rw get_performed (sym (get_still bs b (sound_store bs (stores.sound_store c bs v)) proxy block))

  -- its area has as many bytes as a block
  pub get_area : length (outcome bs call).area ≡ c.size
  unfolding filled ◌and◌ decode_bytes zeros
  get_area = rw get_performed (by_eq result.code 0 (λ y z. rw y (said_size c bs v proxy block z)) (λ n _. rw n (length-replicate c.size 0)))

  -- its code is a byte, its key a word
  code_small : result.code < 256
  code_small = small (step_numbers (decode_bytes bs) (Event.get proxy block))
    where
      small : {n : ℕ} → Numbered n → n < 256
      small (inl z) = omega arith
      small (inr z) = omega (arith, z.1)

  key_word : (outcome bs call).key < 2 ^ 64
  unfolding rule decode_bytes
  key_word = subst (λ (o : Outcome). o.key < 2 ^ 64) (sym get_performed) (go result (stepped (decode_bytes bs) (Event.get proxy block)))
    where
      go : (o : Stepped) → IsStepped (decode_bytes bs) (Event.get proxy block) o → o.said.key < 2 ^ 64
      go o (refused n) = omega arith
      go o (accepted y) = mapped_word (decode_bytes bs) (stores.facts c bs v) block

  -- ---- the bytes of the answer, as they are written
  module _ (got part : List ℕ) where
    pub answer_yes : (key : ℕ) → Fills (decode (words bs)) (Event.get proxy block) got (Ok key) part → head 0 key ++ part ≡ get_answer c.size bs proxy block
    unfolding answer filled ◌and◌ decode_bytes
    answer_yes key f = rw get_performed (go result f.code f.key f.fills)
      where
        go : (o : Stepped) → 0 ≡ o.code → key ≡ o.said.key → part ≡ cond (eqb o.code 0) o.said.bytes got
            → head 0 key ++ part ≡ head o.code o.said.key ++ filled call o
        go o n k e = rw (e, sym n, sym k) refl

    pub answer_no : (r : Refusal) → Fills (decode (words bs)) (Event.get proxy block) got (Err r) part
        → (number r < 256) × (head (number r) 0 ++ zeros c.size ≡ get_answer c.size bs proxy block)
    unfolding answer filled ◌and◌ decode_bytes
    answer_no r f = (omega (arith, f.code, code_small), rw get_performed (go result f.code f.key))
      where
        go : (o : Stepped) → number r ≡ o.code → 0 ≡ o.said.key → head (number r) 0 ++ zeros c.size ≡ head o.code o.said.key ++ filled call o
        go o n k = rw (sym n, sym k, ne_eqb (number r) 0 (never_zero r)) refl

  -- ---- and as a caller reads them
  pub get_answer_read : answered_block bs proxy block (get_answer c.size bs proxy block) ≡ record {
    event = event_called c.size call;
    code = (outcome bs call).code;
    said = record { key = (outcome bs call).key; bytes = (outcome bs call).area };
    found = decode_bytes bs;
  }
  unfolding answer head bytes_of
  get_answer_read = rw (get_event, le_bytes_of 8 (outcome bs call).key key_word) refl
