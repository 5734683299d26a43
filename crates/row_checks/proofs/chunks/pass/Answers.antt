use mathlib.Core.Path.{◌≡◌, sym, subst, ◌∙◌}
use Prim.Native.Nat.{◌-◌}
use native.Mathlib.Omega.{arith}
use Rattle.lists.proofs.Tests.{all_false}
use Rattle.words.specs.Words.{words}
use Rattle.chunk_log.proofs.Check.{row_fine, row_key_by}
use Rattle.row_checks.specs.Rows.{key_below}
use Rattle.row_checks.proofs.RowLaws.{zero_not_below}
use Rattle.row_checks.proofs.ChunkLaws.{passes_down, has_home, Passing, pass_far, pass_flag, pass_key, pass_start, pass_high, pass_dirty, pass_turn, pass_end}
use Rattle.row_checks.proofs.chunks.pass.Goals as goal

-- src/chunks.rt:75:5

pub loop-i-init : goal.loop-i-init
loop-i-init c = pass_start _ _ _ _

-- src/chunks.rt:79:13

pub returns-then-n-at : goal.returns-then-n-at
returns-then-n-at c =
    let l = c.loop-i in
    sym (all_false _ _ (l.i - 1) (omega (arith, l.invariant.inside)) (pass_far _ _ _ _ (l.i - 1) c.read-at.result c.read-at.ensures c.if-n-at.true))

-- src/chunks.rt:83:13

pub returns-then-read-gt1 : goal.returns-then-read-gt1
returns-then-read-gt1 c =
    let l = c.loop-i in
    let r = c.read-at in
    sym (all_false _ _ (l.i - 1) (omega (arith, l.invariant.inside)) (pass_flag _ _ _ _ (l.i - 1) r.result r.ensures c.if-n-at.false _
    c.read.ensures c.if-read-gt1.true))

-- src/chunks.rt:87:13

pub returns-then-top-key : goal.returns-then-top-key
returns-then-top-key c =
    let l = c.loop-i in
    let a = c.args in
    let ws = words a.log.now in
    let r = c.read-at in
    let k = c.read-key.result in
    sym (pass_high (key_below a.bounds.now) a.chunks a.n ws l.top l.i l.invariant (omega arith) k
    (row_key_by a.chunks a.n ws (l.i - 1) r.result r.ensures k c.read-key.ensures) (omega arith) c.if-top-key.true)

-- src/chunks.rt:90:13

pub returns-then-not-key_below : goal.returns-then-not-key_below
returns-then-not-key_below c =
    let l = c.loop-i in
    let r = c.read-at in
    sym (all_false _ _ (l.i - 1) (omega (arith, l.invariant.inside)) (pass_key _ _ _ _ (l.i - 1) r.result r.ensures _ c.read-key.ensures
    (sym c.key_below.ensures ∙ c.if-not-key_below.true)))

-- src/chunks.rt:92:21

pub overflow_sub-floor : goal.overflow_sub-floor
overflow_sub-floor c =
    let y = sym c.key_below.ensures ∙ c.if-not-key_below.false in
    omega (arith, c.home.ensures, has_home c.args.bounds.now c.read-key.result y c.requires.none)

-- src/chunks.rt:93:13

pub descend-reached-requires : goal.descend-reached-requires
descend-reached-requires c =
    let a = c.args in
    let l = c.loop-i in
    let r = c.read-at in
    let k = c.read-key in
    let y = sym c.key_below.ensures ∙ c.if-not-key_below.false in
    let home = has_home a.bounds.now k.result y c.requires.none in
    record {
      few = c.requires.few;
      small = c.requires.small;
      room = c.requires.room;
      inside = omega (arith, l.invariant.inside);
      here = row_key_by a.chunks a.n (words a.log.now) (l.i - 1) r.result r.ensures k.result k.ensures;
      above = omega (arith, c.home.ensures, home);
    }

-- src/chunks.rt:95:13

pub returns-then-reached-gt1 : goal.returns-then-reached-gt1
returns-then-reached-gt1 c =
    let l = c.loop-i in
    let a = c.args in
    let ws = words a.log.now in
    let r = c.read-at in
    let k = c.read-key in
    let e = row_key_by a.chunks a.n ws (l.i - 1) r.result r.ensures k.result k.ensures in
    sym (pass_dirty (key_below a.bounds.now) a.chunks a.n ws l.top l.i l.invariant (omega arith) k.result e _ _ _ _
    c.descend-reached.ensures c.if-reached-gt1.true)

-- src/chunks.rt:98:15

pub loop-i-preserved : goal.loop-i-preserved
loop-i-preserved c =
    let l = c.loop-i in
    let a = c.args in
    let ws = words a.log.now in
    let r = c.read-at in
    let k = c.read-key in
    let e = row_key_by a.chunks a.n ws (l.i - 1) r.result r.ensures k.result k.ensures in
    let y = sym c.key_below.ensures ∙ c.if-not-key_below.false in
    let home = c.home.ensures in
    pass_turn (key_below a.bounds.now) a.chunks a.n ws l.top l.i l.invariant (omega arith) k.result e _ _ _ _ c.descend-reached.ensures
    (row_fine a.chunks a.n ws (l.i - 1) r.result r.ensures c.if-n-at.false (rw (← c.read.ensures) c.if-read-gt1.false))
    c.if-top-key.false (λ m h b. passes_down a.bounds.now k.result y m (omega (arith, home)) b) c.if-reached-gt1.false

-- src/chunks.rt:69:1

pub returns : goal.returns
returns c =
    let l = c.loop-i in
    let e : l.i ≡ 0 = omega arith in
    sym (pass_end (key_below c.args.bounds.now) c.args.chunks c.args.n (words c.args.log.now) l.top
    (subst (Passing (key_below c.args.bounds.now) c.args.chunks c.args.n (words c.args.log.now) l.top) e l.invariant)
    (zero_not_below c.args.bounds.now c.requires.none))
