-- `hermitian_eigen::factor` meets its contract: its three steps in a row. Assumes nothing.
use mathlib.Core.Path.{sym, ◌∙◌}
use native.Mathlib.Nat.{mul-le-mul}
use native.Mathlib.Omega.{arith}
use lib.Seq.{length-take-le}
use Rattle.hermitian_eigen.proofs.StepsLaws.{rising-places, factored-made}
use borrow.Author.Rules.{rules}
use Rattle.hermitian_eigen.proofs.factor.Goals as goal

pub overflow_mul-w : goal.overflow_mul-w
overflow_mul-w c = omega (arith, mul-le-mul c.requires.side c.requires.side)

pub overflow_mul-w-2 : goal.overflow_mul-w-2
overflow_mul-w-2 c = omega (arith, mul-le-mul c.requires.side c.requires.side)

pub slice_bounds-sweep-end : goal.slice_bounds-sweep-end
slice_bounds-sweep-end c = omega (arith, c.requires.scratch-is)

pub slice_bounds-sweep-end-2 : goal.slice_bounds-sweep-end-2
slice_bounds-sweep-end-2 c = sym (length-take-le _ _ (omega (arith, c.requires.scratch-is)))

pub sweep-sweeps-requires : goal.sweep-sweeps-requires
sweep-sweeps-requires c = (c.requires.side, c.requires.a-is, length-take-le _ _ (omega (arith, c.requires.scratch-is)))

pub rank_rising-requires : goal.rank_rising-requires
rank_rising-requires c = let e = c.requires in record { tall = omega arith; columns = e.side; cells = omega (arith, mul-le-mul e.side e.side); s-is = e.values-are; other-is = e.vectors-are; scratch-is = search rules }

pub write_vectors-requires : goal.write_vectors-requires
write_vectors-requires c = let e = c.requires in (record { tall = omega arith; columns = e.side; cells = omega (arith, mul-le-mul e.side e.side); s-is = search rules; other-is = search rules; scratch-is = search rules }, rising-places _ _ _ _ c.rank_rising.ensures)

pub returns : goal.returns
returns c = let e = c.requires in factored-made _ _ _ _ e.side (c.sweep-sweeps.auto.work ∙ length-take-le _ _ (omega (arith, e.scratch-is))) c.sweep-sweeps.ensures c.rank_rising.ensures c.write_vectors.ensures
