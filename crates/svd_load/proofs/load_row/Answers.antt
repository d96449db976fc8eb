use mathlib.Core.Path.{◌∙◌}
use Prim.Native.Nat.{◌+◌, ◌*◌, ◌<◌}
use native.Mathlib.Nat.{mul_comm}
use native.Mathlib.Omega.{arith}
use lib.Arith.{digits_lt}
use Rattle.whole_numbers.proofs.WholeLaws.{column_fits}
use Rattle.svd_load.proofs.LoadingLaws.{planes-none, planes-more, transposed-at}
use Rattle.svd_load.proofs.load_row.Goals as goal

pub overflow_mul-to : goal.overflow_mul-to
overflow_mul-to c = omega (arith, column_fits c.args.col c.args.m c.args.n c.requires.0)

pub loop-r-init : goal.loop-r-init
loop-r-init c = planes-none _ _ _ _

pub overflow_mul-r : goal.overflow_mul-r
overflow_mul-r c = let source : c.loop-r.r * c.args.m + c.args.col < c.args.m * c.args.n = rw (mul_comm c.args.m c.args.n) (digits_lt c.loop-r-test.true c.requires.0) in omega arith

pub overflow_add-r : goal.overflow_add-r
overflow_add-r c = let source : c.loop-r.r * c.args.m + c.args.col < c.args.m * c.args.n = rw (mul_comm c.args.m c.args.n) (digits_lt c.loop-r-test.true c.requires.0) in omega arith

pub read_cell-z-requires : goal.read_cell-z-requires
read_cell-z-requires c = let source : c.loop-r.r * c.args.m + c.args.col < c.args.m * c.args.n = rw (mul_comm c.args.m c.args.n) (digits_lt c.loop-r-test.true c.requires.0) in omega arith

pub overflow_add-to : goal.overflow_add-to
overflow_add-to c = let goal : c.args.col * c.args.n + c.loop-r.r < c.args.m * c.args.n = digits_lt c.requires.0 c.loop-r-test.true in omega arith

pub write_plane-requires : goal.write_plane-requires
write_plane-requires c = let goal : c.args.col * c.args.n + c.loop-r.r < c.args.m * c.args.n = digits_lt c.requires.0 c.loop-r-test.true in omega arith

pub loop-r-preserved : goal.loop-r-preserved
loop-r-preserved c = planes-more _ _ _ _ _ c.loop-r.invariant (c.conj.ensures ∙ rw c.read_cell-z.ensures (transposed-at _ _ _ _ _ c.loop-r-test.true)) c.write_plane.ensures
