use mathlib.Core.Path.{◌≡◌, refl}
use Prim.Native.Nat.{◌*◌, ◌<◌, ◌+◌}
use native.Mathlib.Omega.{arith}
use Rattle.eigen_pair.proofs.TurnLaws.{line-none, line-more}
use lib.Arith.{digits_lt}
use Rattle.eigen_pair.proofs.turn_columns.Goals as goal

pub loop-k-init : goal.loop-k-init
loop-k-init c = (omega arith, refl, refl, line-none _ _ _ _ _ _)

pub overflow_mul-k : goal.overflow_mul-k
overflow_mul-k c =
    let at_p : let a = c.args in c.loop-k.k * a.n + a.p < a.n * a.n = digits_lt c.loop-k-test.true c.requires.1 in
    omega (arith, at_p)

pub overflow_add-k : goal.overflow_add-k
overflow_add-k c =
    let at_p : let a = c.args in c.loop-k.k * a.n + a.p < a.n * a.n = digits_lt c.loop-k-test.true c.requires.1 in
    omega (arith, at_p)

pub overflow_mul-k-in-loop-k : goal.overflow_mul-k-in-loop-k
overflow_mul-k-in-loop-k c =
    let at-q : let a = c.args in c.loop-k.k * a.n + a.q < a.n * a.n = digits_lt c.loop-k-test.true c.requires.2 in
    omega (arith, at-q)

pub overflow_add-k-in-loop-k : goal.overflow_add-k-in-loop-k
overflow_add-k-in-loop-k c =
    let at-q : let a = c.args in c.loop-k.k * a.n + a.q < a.n * a.n = digits_lt c.loop-k-test.true c.requires.2 in
    omega (arith, at-q)

pub turn_two-requires : goal.turn_two-requires
turn_two-requires c =
    let at_p : let a = c.args in c.loop-k.k * a.n + a.p < a.n * a.n = digits_lt c.loop-k-test.true c.requires.1 in
    let at-q : let a = c.args in c.loop-k.k * a.n + a.q < a.n * a.n = digits_lt c.loop-k-test.true c.requires.2 in
    (omega arith, at_p, at-q)

pub loop-k-preserved : goal.loop-k-preserved
loop-k-preserved c = (omega arith, omega arith, c.loop-k.invariant.2, line-more _ _ _ _ _ _ _ c.loop-k.invariant.3 c.turn_two.ensures)

pub returns : goal.returns
returns c = let e : c.loop-k.k ≡ c.args.n = omega arith in rw e at c.loop-k.invariant.3
