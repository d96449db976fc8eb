-- `svd_sweeps::turn_v` meets its contract: the columns of V are within it, and to no V nothing is done. Assumes nothing.
use Prim.Native.Nat.{◌+◌, ◌*◌, ◌≤◌}
use native.Mathlib.Nat.{mul-le-mul}
use native.Mathlib.Omega.{arith}
use Rattle.whole_numbers.proofs.WholeLaws.{column_fits}
use Rattle.svd_sweeps.proofs.SweepingLaws.{v-none}
use Rattle.svd_sweeps.proofs.turn_v.Goals as goal

pub overflow_mul-n : goal.overflow_mul-n
overflow_mul-n c =
    let small : c.args.n * c.args.n ≤ 64 * 64 = mul-le-mul c.requires.1 c.requires.1 in
    omega (arith, small)

pub overflow_mul-p : goal.overflow_mul-p
overflow_mul-p c =
    let p-fits : c.args.p * c.args.n + c.args.n ≤ c.args.q * c.args.n = column_fits _ _ _ c.requires.2 in
    let q-fits : c.args.q * c.args.n + c.args.n ≤ c.args.n * c.args.n = column_fits _ _ _ c.requires.3 in
    let small : c.args.n * c.args.n ≤ 64 * 64 = mul-le-mul c.requires.1 c.requires.1 in
    omega (arith, small, p-fits, q-fits)

pub overflow_mul-q : goal.overflow_mul-q
overflow_mul-q c =
    let q-fits : c.args.q * c.args.n + c.args.n ≤ c.args.n * c.args.n = column_fits _ _ _ c.requires.3 in
    let small : c.args.n * c.args.n ≤ 64 * 64 = mul-le-mul c.requires.1 c.requires.1 in
    omega (arith, small, q-fits)

pub turn_columns-requires : goal.turn_columns-requires
turn_columns-requires c =
    let p-fits : c.args.p * c.args.n + c.args.n ≤ c.args.q * c.args.n = column_fits _ _ _ c.requires.2 in
    let q-fits : c.args.q * c.args.n + c.args.n ≤ c.args.n * c.args.n = column_fits _ _ _ c.requires.3 in
    (c.requires.0.full (grind (arith, c.is_empty.ensures)), p-fits, q-fits)

pub returns-else-not-is_empty : goal.returns-else-not-is_empty
returns-else-not-is_empty c = v-none _ _ _ _ _ _ _ (grind (arith, c.is_empty.ensures))
