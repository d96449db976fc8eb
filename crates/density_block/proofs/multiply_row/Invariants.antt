-- `density_block::multiply_row` meets its contract. The loop's invariant and its step are those of `FactorLaws`. Assumes nothing.
use Rattle.density_block.specs.Factor.{factor_entry}
use Rattle.density_block.specs.FactorLoops.{FactorSteps}
use Rattle.density_block.proofs.multiply_row.Given as goal

abbrev pub invariant-loop-u : goal.invariant-loop-u
invariant-loop-u l = FactorSteps l.dim l.t (factor_entry l.positions l.factor l.side l.t) l.initial.rho l.rho l.u
