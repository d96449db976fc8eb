-- `eigen_pair::turn_pair` meets its contract: the columns with the conjugate phase and then the rows. Assumes nothing.
use Prim.Native.Nat.{◌+◌, ◌*◌, ◌≤◌}
use native.Mathlib.Omega.{arith}
use Rattle.whole_numbers.proofs.WholeLaws.{column_fits}
use Rattle.eigen_pair.proofs.TurnLaws.{turned-made}
use Rattle.eigen_pair.proofs.turn_pair.Goals as goal

pub overflow_mul-p : goal.overflow_mul-p
overflow_mul-p c =
    let row-p : c.args.p * c.args.n + c.args.n ≤ c.args.n * c.args.n = column_fits _ _ _ c.requires.1 in
    omega (arith, row-p)

pub overflow_mul-q : goal.overflow_mul-q
overflow_mul-q c =
    let row-q : c.args.q * c.args.n + c.args.n ≤ c.args.n * c.args.n = column_fits _ _ _ c.requires.2 in
    omega (arith, row-q)

pub turn_rows-requires : goal.turn_rows-requires
turn_rows-requires c =
    let row-p : c.args.p * c.args.n + c.args.n ≤ c.args.n * c.args.n = column_fits _ _ _ c.requires.1 in
    let row-q : c.args.q * c.args.n + c.args.n ≤ c.args.n * c.args.n = column_fits _ _ _ c.requires.2 in
    (omega (arith, c.turn_columns.auto.xs, c.requires.0), row-p, row-q)

pub returns : goal.returns
returns c = turned-made _ _ _ _ _ c.conj-back.ensures c.turn_columns.ensures c.turn_rows.ensures
