-- `qubits::insert_zero_bit` meets its contract: the power is not 0, and what is doubled is no more than x. Assumes nothing.
use Prim.Native.Nat.{◌≤◌, ◌^◌}
use native.Mathlib.Nat.{div-mul-le_self, mod-le}
use native.Mathlib.Omega.{arith}
use lib.Pow.{pow_mono}
use Rattle.qubits.proofs.SpreadLaws.{insert-code}
use Rattle.qubits.proofs.insert_zero_bit.Goals as goal

pub overflow_mul-result : goal.overflow_mul-result
overflow_mul-result c =
    let q = c.args.q in
    let g : q ≤ 32 = omega (arith, c.requires) in
    let h : 2 ^ q ≤ 4294967296 = pow_mono g in
    omega (arith, c.bit-power.ensures, h)

pub overflow_mul-result-2 : goal.overflow_mul-result-2
overflow_mul-result-2 c = omega (arith, c.requires, div-mul-le_self c.args.x c.bit-power.result)

pub overflow_add-result : goal.overflow_add-result
overflow_add-result c = omega (arith, c.requires, div-mul-le_self c.args.x c.bit-power.result, mod-le c.args.x c.bit-power.result)

pub returns : goal.returns
returns c = insert-code _ _ _ c.bit-power.ensures
