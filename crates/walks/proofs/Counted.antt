-- A loop whose turns are counted down.
--     At x         what is had at the start of a turn, where the loop has come to x.        Facts t x    what is known there, t turns before the last
--     counted      the loop runs from x, where the turn at which nothing is left leaves it, and any other turn comes to some y, one turn nearer to the end
-- Assumes `Logic`.
use Prim.Native.Nat.{ℕ, zero, suc, ◌<◌}
use native.Mathlib.Nat.{lt-suc_self}
use mathlib.Core.List.{List}
use lib.WfN.{lt-wf_rel}
use seplogic.Ra.Ura.{Ura}
use mir.Syntax.{Body, loop}
use base.Logic.{SProp, ent, ex, guard, via, ex_i, ex_e, guard_i, guard_e}
use prog.Wp.{Out, Env, after_turn, Wp, Tables}
use types.Logic.{Logic}
use sound.Loop.{loop_rule}
use types.Kit.{Item, ⋆}

module _ {M : Type 1} {𝓤 : Ura M} (𝓛 : Logic 𝓤) (𝓣 : Tables 𝓤 𝓛.H) (En : Env 𝓤 𝓛.H) (turn : Body) (Left : Out → SProp 𝓤) (X : Type 0)
    (At : X → List (Item 𝓤)) (Facts : ℕ → X → Type 0) where
  open 𝓛 use {H}

  abbrev had : X → SProp 𝓤
  had x = ⋆ 𝓛 (At x)

  -- a turn from x, after which P holds if the loop goes on
  abbrev pub Turn : X → SProp 𝓤 → Type 1
  Turn x P = ent 𝓤 (had x) (Wp 𝓤 H 𝓣.C 𝓣.Λ En turn (after_turn 𝓤 H P Left))

  abbrev Inv : ℕ → SProp 𝓤
  Inv t = ex 𝓤 (λ (x : X). guard 𝓤 (Facts t x) (had x))

  into : (t : ℕ) (x : X) → Facts t x → ent 𝓤 (had x) (Inv t)
  into t x f = via 𝓤 (guard 𝓤 (Facts t x) (had x)) (guard_i 𝓤 (Facts t x) (had x) f) (ex_i 𝓤 (λ (y : X). guard 𝓤 (Facts t y) (had y)) x)

  abbrev Below : ℕ → SProp 𝓤
  Below t = ex 𝓤 (λ (u : ℕ). guard 𝓤 (u < t) (Inv u))

  below : (t : ℕ) (x : X) → Facts t x → ent 𝓤 (had x) (Below (suc t))
  below t x f = via 𝓤 (Inv t) (into t x f) (via 𝓤 (guard 𝓤 (t < suc t) (Inv t)) (guard_i 𝓤 (t < suc t) (Inv t) (lt-suc_self t))
      (ex_i 𝓤 (λ (u : ℕ). guard 𝓤 (u < suc t) (Inv u)) t))

  module _ (ends : (x : X) → Facts zero x → (P : SProp 𝓤) → Turn x P)
      (more : (t : ℕ) (x : X) → Facts (suc t) x → (P : SProp 𝓤) → ((y : X) → Facts t y → ent 𝓤 (had y) P) → Turn x P) where
    turn_at : (t : ℕ) (x : X) → Facts t x → Turn x (Below t)
    turn_at zero x f = ends x f (Below zero)
    turn_at (suc t) x f = more t x f (Below (suc t)) (below t)

    turns : (t : ℕ) → ent 𝓤 (Inv t) (Wp 𝓤 H 𝓣.C 𝓣.Λ En turn (after_turn 𝓤 H (Below t) Left))
    turns t = ex_e 𝓤 (λ (x : X). guard 𝓤 (Facts t x) (had x)) (λ x. guard_e 𝓤 (Facts t x) (had x) (turn_at t x))

    pub counted : (t : ℕ) (x : X) → Facts t x → ent 𝓤 (had x) (Wp 𝓤 H 𝓣.C 𝓣.Λ En (loop turn) Left)
    counted t x f = via 𝓤 (Inv t) (into t x f) (loop_rule 𝓤 H 𝓛.laws 𝓣 ◌<◌ lt-wf_rel.wf En turn Left Inv turns t)
