use Rattle.std.proofs.Common.{◌≡◌, ℕ, ◌+◌, ◌*◌, ◌-◌, ◌≤◌, length, ◌∙◌, refl, sym, arith}
use Rattle.lists.proofs.Runs.{fits_in, run_length}
use Rattle.lists.proofs.Tests.{by_eq}
use Rattle.layout.proofs.Each.{part_is, part_here, part_apart}
use Rattle.layout.proofs.Lent.{lent_length}
use Rattle.layout.proofs.lend.each_part.Goals as goal

pub loop-i-init : goal.loop-i-init
loop-i-init g c = record { long = c.requires.whole; done = λ j m. absurd (omega arith); rest = λ j a b. refl }

pub step-requires : goal.step-requires
step-requires g c =
    let l = c.loop-i in
    let o : ℕ = 8 * c.offset-at.result in
    let k : ℕ = o + 8 * c.args.size - o in
    c.requires.callable l.i _ c.loop-i-test.true
    (part_is c.args.size l.i l.s o k (omega (arith, c.offset-at.ensures)) (omega arith) ∙ l.invariant.rest l.i (omega arith) c.loop-i-test.true)

pub loop-i-preserved : goal.loop-i-preserved
loop-i-preserved g c =
    let l = c.loop-i in
    let size = c.args.size in
    let o : ℕ = 8 * c.offset-at.result in
    let k : ℕ = o + 8 * size - o in
    let t = c.step.new.arg3 in
    let eo : o ≡ 8 * (l.i * size) = omega (arith, c.offset-at.ensures) in
    let ek : k ≡ 8 * size = omega arith in
    let within : o + k ≤ length l.s = omega (arith, fits_in size c.loop-i-test.true, l.invariant.long) in
    let lt : length t ≡ k = c.step.auto.arg3 ∙ run_length o k l.s within in
    let here = part_here size c.args.count l.i c.loop-i-test.true l.s t l.invariant.long o k eo ek lt in
    let apart = part_apart size c.args.count l.i c.loop-i-test.true l.s t l.invariant.long o k eo ek lt in
    record {
      long = lent_length l.s t o k within lt ∙ l.invariant.long;
      done = λ j m.
          by_eq j l.i
          (λ _ e. rw e (_, (_, (part_is size l.i l.s o k eo ek ∙ l.invariant.rest l.i (omega arith) c.loop-i-test.true, sym here, c.step.ensures))))
          (λ _ n. let d = l.invariant.done j (omega arith) in (d.0, (d.1.0, (d.1.1.0, d.1.1.1 ∙ sym (apart j n), d.1.1.2))));
      rest = λ j a b. apart j (λ e. omega arith) ∙ l.invariant.rest j (omega arith) b;
    }

pub returns : goal.returns
returns g c = λ i h. c.loop-i.invariant.done i (omega arith)
