use mathlib.Core.Path.{sym, ◌∙◌, ap}
use Prim.Native.Nat.{ℕ, ◌+◌, ◌<◌, ◌^◌, ◌/◌}
use native.Mathlib.Omega.{arith}
use lib.ListN.{drop, get_or}
use lib.Bits.{bit_or}
use Rattle.qubits.specs.Spread.{spread}
use Rattle.qubits.proofs.SpreadLaws.{spread-step, bit-code, offset-end}
use Rattle.qubits.proofs.row_offset.Goals as goal

pub loop-i-preserved : goal.loop-i-preserved
loop-i-preserved c =
    let k = c.loop-i in
    let h = c.loop-i-test.true in
    let q = get_or c.args.list.now k.i 0 in
    let l : q < 64 = omega (arith, c.requires.below k.i h, c.requires.small) in
    k.invariant ∙ spread-step _ k.i k.offset _ h
    ∙ ap (λ (b : ℕ). bit_or (bit_or k.offset b) (spread (drop (k.i + 1) c.args.list.now) (c.args.t / 2 ^ (k.i + 1))))
    (sym (bit-code (c.args.t / 2 ^ k.i) q l))

pub returns : goal.returns
returns c = sym (c.loop-i.invariant ∙ offset-end _ _ _ _ c.loop-i-test.false)
