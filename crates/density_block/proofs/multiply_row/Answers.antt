use mathlib.Core.Path.{ap, ap₂, ◌∙◌}
use Prim.Native.Nat.{ℕ, ◌+◌, ◌*◌}
use native.Mathlib.Omega.{arith}
use Rattle.complex.specs.Arithmetic.{product}
use Rattle.complex.specs.Cells.{cell_at}
use Rattle.density_block.proofs.FactorLaws.{factor-in, factor-small, factored-square, row_step}
use Rattle.density_block.proofs.multiply_row.Goals as goal

pub overflow_mul-row : goal.overflow_mul-row
overflow_mul-row c = omega (arith, factor-small _ _ _ _ c.args.side c.args.t 0 c.requires.0, ap (λ (x : ℕ). x * c.args.side) c.block_index.ensures)

pub overflow_add-row : goal.overflow_add-row
overflow_add-row c = omega (arith, factor-small _ _ _ _ c.args.side c.args.t c.loop-u.u c.requires.0, ap (λ (x : ℕ). x * c.args.side) c.block_index.ensures, c.block_index-in-loop-u.ensures)

pub read_cell-y-requires : goal.read_cell-y-requires
read_cell-y-requires c = omega (arith, factor-in _ _ _ _ c.args.side c.args.t c.loop-u.u c.requires.0, ap (λ (x : ℕ). x * c.args.side) c.block_index.ensures, c.block_index-in-loop-u.ensures)

pub loop-u-preserved : goal.loop-u-preserved
loop-u-preserved c = row_step _ _ _ _ _ _ _ _ (factored-square _ _ _ _ _ c.requires.0) c.requires.1 c.loop-u.invariant c.loop-u-test.true (c.mul.ensures ∙ ap₂ product c.read_cell-x.ensures (c.read_cell-y.ensures ∙ ap₂ (λ (a b : ℕ). cell_at c.args.factor.now (a * c.args.side + b)) c.block_index.ensures c.block_index-in-loop-u.ensures)) c.write_cell.ensures
