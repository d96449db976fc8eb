use native.Mathlib.Omega.{arith}
use Rattle.numbers.proofs.Digits.{start, root-small, one, zero, last, down, up}
use Rattle.numbers.proofs.slow_root.Goals as goal
use Rattle.numbers.proofs.slow_root.Goals.{then-t-d, else-t-d}

pub loop-init : goal.loop-init
loop-init c = start c.args.n c.requires.1

pub overflow_mul-t : goal.overflow_mul-t
overflow_mul-t c = omega (arith, root-small c.loop.invariant)

pub overflow_add-t : goal.overflow_add-t
overflow_add-t c = omega (arith, root-small c.loop.invariant)

pub overflow_mul-d : goal.overflow_mul-d
overflow_mul-d c = omega (arith, root-small c.loop.invariant)

pub overflow_add-d : goal.overflow_add-d
overflow_add-d c = omega (arith, root-small c.loop.invariant)

pub overflow_mul-s : goal.overflow_mul-s
overflow_mul-s c = omega (arith, root-small c.loop.invariant)

pub overflow_add-s : goal.overflow_add-s
overflow_add-s c = omega (arith, root-small c.loop.invariant)

pub overflow_mul-s-else-t-d : goal.overflow_mul-s-else-t-d
overflow_mul-s-else-t-d c = omega (arith, root-small c.loop.invariant)

pub loop-preserved : goal.loop-preserved
loop-preserved c =
    elim c.if-t-d.branch [
      | then-t-d w ↦ rw (w.s-is, w.r-is) (one _ _ _ _ _ c.loop.invariant c.loop-test.true w.if-t-d.true)
      | else-t-d w ↦ rw (w.s-is, w.r-is) (zero _ _ _ _ _ c.loop.invariant c.loop-test.true w.if-t-d.false)
    ]

pub overflow_add-result : goal.overflow_add-result
overflow_add-result c = omega (arith, root-small c.loop.invariant)

pub returns-then-s-r : goal.returns-then-s-r
returns-then-s-r c =
    let at-loop = c.before.before in
    let pre = at-loop.requires in
    up _ _ _ pre.0 pre.1 (last at-loop.loop.invariant c.loop-test.false) at-loop.loop.invariant.over c.if-s-r.true

pub returns : goal.returns
returns c =
    let at-loop = c.before.before in
    let pre = at-loop.requires in
    down _ _ _ pre.0 pre.1 (last at-loop.loop.invariant c.loop-test.false) at-loop.loop.invariant.over c.if-s-r.false
