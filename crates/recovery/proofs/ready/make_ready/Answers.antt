use mathlib.Core.Path.{◌≡◌, refl, sym, ap, subst, ◌∙◌, fun_ext}
use mathlib.Core.List.{List, ◌++◌}
use Prim.Native.Nat.{ℕ, ◌*◌, ◌-◌}
use native.Mathlib.Omega.{arith}
use lib.ListN.{length, take, drop}
use Rattle.lists.proofs.Runs.{run_length}
use Rattle.words.specs.Words.{words}
use Rattle.codec.specs.Codec.{change}
use Rattle.layout.specs.Contents.{Agreed}
use Rattle.layout.specs.Layout.{all_places_codec}
use Rattle.layout.specs.Store.{decode, render}
use Rattle.layout.proofs.Lent.{lent_length}
use Rattle.lent.specs.Places.{Stands}
use Rattle.lent.proofs.AllPlaces.{places_lent, places_changed}
use Rattle.recovery.specs.Ready.{dropped_copies, ready_record}
use Rattle.recovery.proofs.ReadyLaws.{others_drop, place_dropped, records_kept, ready_few, ready_moves, ready_steps}
use Rattle.recovery.proofs.ready.make_ready.Goals as goal
use Rattle.recovery.proofs.ready.make_ready.Goals.{After-drop_all, After-place-backup}

-- where the pair stands
stands : (c : After-place-backup) → let s = decode (words c.args.store.now) in
    Stands c.args.settings s (s.bucket c.args.bucket).primary c.place-primary.result × Stands c.args.settings s (s.bucket c.args.bucket).backup c.place-backup.result
stands c =
    let s = decode (words c.args.store.now) in (
      subst (λ (k : Agreed). Stands c.args.settings s k.primary c.place-primary.result) c.agreed-agreed.ensures c.place-primary.ensures,
      subst (λ (k : Agreed). Stands c.args.settings s k.backup c.place-backup.result) c.agreed-agreed.ensures c.place-backup.ensures,
    )

-- the bytes once the others dropped their copies
abbrev after : After-drop_all → List ℕ
after c =
    let bs = c.args.store.now in
    let o = 8 * c.places_at-places.result in take o bs ++ (c.drop_all.new.part ++ drop (length bs - o) (drop o bs))

record Dropped (c : After-drop_all) : Type 0 where
  long : length (after c) ≡ length c.args.store.now
  same : words (after c) ≡ render (others_drop c.args.settings c.args.store.now c.requires.0 c.args.bucket c.requires.1.inside) (words c.args.store.now)

drops : (c : After-drop_all) → Dropped c
drops c =
    let bs = c.args.store.now in
    let v = c.requires.0 in
    let s = decode (words bs) in
    let t = c.args.settings in
    let g = c.args.bucket in
    let e = c.places_at-places.ensures in
    let o = 8 * c.places_at-places.result in
    let long : length c.drop_all.new.part ≡ length bs - o = c.drop_all.auto.part ∙ run_length o (length bs - o) bs (omega (arith, e, v.size)) in
    record {
      long = lent_length bs c.drop_all.new.part o (length bs - o) (omega (arith, e, v.size)) long;
      same = places_changed t bs v s refl refl bs (sym v.sound.still) refl o (length bs) (omega (arith, e)) (omega (arith, e, v.size))
          (others_drop t bs v g c.requires.1.inside) refl refl (records_kept t bs v g c.requires.1.inside) refl refl
          (dropped_copies g (s.bucket g).primary (s.bucket g).backup) (fun_ext (λ p. place_dropped t bs v g c.requires.1.inside (s.ids p)))
          c.drop_all.new.part long
          (c.drop_all.ensures ∙ ap (λ (k : Agreed). change (all_places_codec t) (λ places p. dropped_copies g k.primary k.backup (places p))
          (words (take (length bs - o) (drop o bs)))) c.agreed-agreed.ensures);
    }

pub drop_all-requires : goal.drop_all-requires
drop_all-requires c =
    let bs = c.args.store.now in
    let v = c.requires.0 in
    let e = c.places_at-places.ensures in (
      places_lent c.args.settings bs v (decode (words bs)) refl refl bs (sym v.sound.still) refl (8 * c.places_at-places.result) (length bs)
          (omega (arith, e)) (omega (arith, e, v.size)),
      c.requires.1.inside,
    )

pub replace-requires : goal.replace-requires
replace-requires c =
    let at = goal.at.replace-requires c in
    let pair = stands at.After-place-backup in
    let dropped = drops at.After-drop_all in
    let v = c.requires.0 in
    record {
      limits = v.limits;
      size = dropped.long ∙ v.size;
      bucket = c.requires.1.inside;
      from_in = pair.0.inside;
      to_in = pair.1.inside;
      few = ready_few c.args.settings c.args.store.now v c.args.bucket c.requires.1.inside _ _ pair.0 pair.1 _ dropped.same;
    }

pub drain-requires : goal.drain-requires
drain-requires c =
    let at = goal.at.drain-requires c in
    let pair = stands at.After-place-backup in
    let dropped = drops at.After-drop_all in
    ready_moves c.args.settings c.args.store.now c.requires.0 c.args.bucket c.requires.1.inside _ _ pair.0 pair.1 _ _ dropped.same
    c.replace.ensures _ (c.replace.auto.store ∙ dropped.long)

pub returns : goal.returns
returns c =
    let at = goal.at.returns c in
    let pair = stands at.After-place-backup in
    ready_steps c.args.settings c.args.store.now c.requires.0 c.args.bucket c.requires.1.inside _ _ pair.0 pair.1 _ _ _ _ _
    (c.readied.ensures ∙ ap (λ (k : Agreed). ready_record k) c.agreed-agreed.ensures) (drops at.After-drop_all).same
    c.replace.ensures c.drain.ensures c.write.ensures
