-- A change of a place's log, in the words of the store.
use mathlib.Core.Path.{◌≡◌, sym, ap, ◌∙◌}
use mathlib.Core.List.{List, ◌++◌}
use Prim.Native.Nat.{ℕ, ◌+◌, ◌*◌, ◌-◌, ◌/◌, ◌≤◌, ◌<◌}
use native.Mathlib.Omega.{arith}
use lib.ListN.{length, take, drop, get_or, length-drop}
use lib.Seq.{length-take-le}
use Rattle.lists.specs.Runs.{run, Below}
use Rattle.lists.proofs.Tests.{and_l}
use Rattle.lists.proofs.Runs.{fits_in, run_length, run_of_run, on_by, on_id, on_within, below_take, below_drop}
use Rattle.words.specs.Words.{words}
use Rattle.words.proofs.Laws.{lent_run}
use Rattle.rules.specs.declared.settings.Settings.{Settings}
use Rattle.rules.specs.Chunks.{Chunk}
use Rattle.codec.specs.Codec.{change}
use Rattle.chunk_log.proofs.Steps.{clean}
use Rattle.chunk_log.proofs.Codec.{dec_length}
use Rattle.layout.specs.Layout.{word_bytes, log_codec, log_words, place_words, store_words, place_at, log_at}
use Rattle.layout.specs.Store.{decode}
use Rattle.layout.proofs.Lent.{lent}
use Rattle.lent.proofs.Stores.{facts}
use Rattle.lent.specs.Places.{SpanOf, PlaceLog, log_from}
use Rattle.lent.proofs.Logs.{log_inside, log_bytes, log_run, log_lies, log_good, log_read}
use Rattle.mend.specs.Fit.{change_log, with_log_at, log_of, UpAt}

module _ (c : Settings) (bs : List ℕ) (p : ℕ) (u : UpAt c bs p) where
  pub stands : 0 < (decode (words bs)).ids p
  stands = let b = (facts c bs u.store).bricks in b.first _ (b.up_present _ (and_l _ _ u.up))

  pub store_long : length (words bs) ≡ store_words c
  store_long = u.store.sound.size ∙ ap store_words (sym u.store.same)

  place_inside : place_at c p + place_words c ≤ store_words c
  place_inside = let b = fits_in (place_words c) u.inside in omega arith

  log_is : (log_codec c).dec (run (log_from c p) (log_words c) (words bs)) ≡ log_of p (words bs)
  log_is = log_read c bs u.store p u.inside stands

  in_place : run (log_at c) (log_words c) (run (place_at c p) (place_words c) (words bs)) ≡ run (log_from c p) (log_words c) (words bs)
  in_place =
      run_of_run (place_at c p) (place_words c) (log_at c) (log_words c) (words bs) (omega (arith, place_inside, store_long)) (omega arith)

  -- ---- the place's part lent
  module _ (o e : ℕ) (span : SpanOf c p o e) where
    part_is : words (take (e - o) (drop o bs)) ≡ run (place_at c p) (place_words c) (words bs)
    part_is = lent bs o e (place_at c p) (place_words c) span.start span.size (omega (arith, place_inside, u.store.size))

    pub lent_place : PlaceLog c (words (take (e - o) (drop o bs))) (length (take (e - o) (drop o bs)))
    lent_place =
        let i = place_inside in
        let z = u.store.size in
        let room : e - o ≤ length (drop o bs) = rw length-drop (omega arith) in
        record {
          limits = u.store.limits;
          size = length-take-le (e - o) (drop o bs) room ∙ omega arith;
          log = rw (part_is, in_place) (log_good c bs u.store p u.inside stands);
        }

    pub lent_room : length (log_of p (words bs)) < c.chunks → get_or (run (log_at c) (log_words c) (words (take (e - o) (drop o bs)))) 0 0 < c.chunks
    lent_room r =
        let log : List ℕ = run (log_from c p) (log_words c) (words bs) in
        let long = run_length (log_from c p) (log_words c) (words bs) (omega (arith, log_inside c p u.inside, store_long)) in
        rw (part_is, in_place) (omega (arith, ap length log_is, dec_length c.chunks (c.size / word_bytes) log long))

    pub place_back : (f : List Chunk → List Chunk) (t : List ℕ) → length t ≡ e - o → words t ≡ change_log c f (words (take (e - o) (drop o bs)))
        → words (take o bs ++ (t ++ drop (e - o) (drop o bs))) ≡ with_log_at c p (f (log_of p (words bs))) (words bs)
    place_back f t lt et =
        let i = place_inside in
        let z = u.store.size in
        let y = store_long in
        lent_run bs t o (e - o) (place_at c p) (place_words c) (change_log c f) span.start (omega arith) (omega arith) (omega arith) et
        ∙ on_within (place_at c p) (place_words c) (log_at c) (log_words c) (change (log_codec c) f) (words bs) (omega arith) (omega arith)
        ∙ on_by (log_from c p) (log_words c) (change (log_codec c) f) ((log_codec c).enc (f (log_of p (words bs)))) (words bs)
        (ap (λ (l : List Chunk). (log_codec c).enc (f l) (run (log_from c p) (log_words c) (words bs))) log_is)

  -- ---- the log as it is
  pub log_still : Below 256 bs → words bs ≡ with_log_at c p (log_of p (words bs)) (words bs)
  log_still b =
      let lie = log_lies c bs u.store p u.inside stands in
      let still = clean c.chunks (c.size / word_bytes) (log_bytes c p bs) lie.log (below_take (8 * log_words c) (below_drop (8 * log_from c p) b)) in
      sym (on_id (log_from c p) (log_words c) ((log_codec c).enc (log_of p (words bs))) (words bs)
      (ap (λ (l : List Chunk). (log_codec c).enc l (run (log_from c p) (log_words c) (words bs))) (sym log_is)
      ∙ (rw (log_run c bs u.store p u.inside) at still)))
