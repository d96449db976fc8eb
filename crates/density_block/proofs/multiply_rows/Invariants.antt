-- `density_block::multiply_rows` meets its contract. The loop's invariant and its step are those of `FactorLaws`. Assumes nothing.
use Rattle.density_block.specs.Factor.{factor_entry}
use Rattle.density_block.proofs.FactorLaws.{AllSteps}
use Rattle.density_block.proofs.multiply_rows.Given as goal

abbrev pub invariant-loop-t : goal.invariant-loop-t
invariant-loop-t l = AllSteps l.dim (factor_entry l.positions l.factor l.side) l.initial.rho l.rho l.t
