-- `qr::check_lengths` meets its contract: four lengths, one after the other. Assumes nothing.
use native.Mathlib.Omega.{arith}
use Rattle.qr.proofs.CallLaws.{q-cells, r-cells, rows-within}
use Rattle.qr.proofs.check_lengths.Goals as goal

pub overflow_mul-rows : goal.overflow_mul-rows
overflow_mul-rows c = omega (arith, c.requires)

pub overflow_mul-rows-2 : goal.overflow_mul-rows-2
overflow_mul-rows-2 c = omega (arith, c.requires)

pub overflow_mul-cap : goal.overflow_mul-cap
overflow_mul-cap c = omega (arith, q-cells c.args.rows c.args.cols c.min-cap.ensures, c.requires)

pub overflow_mul-cap-2 : goal.overflow_mul-cap-2
overflow_mul-cap-2 c = omega (arith, q-cells c.args.rows c.args.cols c.min-cap.ensures, c.requires)

pub overflow_mul-cap-3 : goal.overflow_mul-cap-3
overflow_mul-cap-3 c = omega (arith, r-cells c.args.rows c.args.cols c.min-cap.ensures, c.requires)

pub overflow_mul-cap-4 : goal.overflow_mul-cap-4
overflow_mul-cap-4 c = omega (arith, r-cells c.args.rows c.args.cols c.min-cap.ensures, c.requires)

pub overflow_mul-rows-3 : goal.overflow_mul-rows-3
overflow_mul-rows-3 c = omega (arith, rows-within c.args.rows c.args.cols c.requires.some-columns, c.requires)
