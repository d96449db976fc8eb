-- `qr_factor::add_column` meets its contract: a column worked and then judged is `add_column`. Assumes nothing.
use native.Mathlib.Omega.{arith}
use Rattle.whole_numbers.proofs.WholeLaws.{column_fits}
use Rattle.qr_passes.proofs.GramSchmidtLaws.{column-added}
use native.Mathlib.Nat.{mul-le-mul_right}
use Rattle.qr_factor.proofs.add_column.Goals as goal

pub work_column-norms-requires : goal.work_column-norms-requires
work_column-norms-requires c = omega (arith, column_fits c.args.j c.args.cols c.args.rows c.requires.j_lt_cols.0, mul-le-mul_right c.args.rows c.requires.j_lt_cols.1, mul-le-mul_right c.args.cols c.requires.j_lt_cols.1)

pub returns : goal.returns
returns c = record { is = column-added _ _ _ _ _ _ _ _ c.work_column-norms.ensures c.judge.ensures.is; within = c.judge.ensures.within }
