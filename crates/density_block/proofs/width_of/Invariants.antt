-- `density_block::width_of` meets its contract. The loop's invariant: no larger power was found. Assumes nothing.
use mathlib.Core.Path.{◌≡◌}
use Prim.Native.Nat.{◌-◌}
use Rattle.density_block.specs.Factor.{width_of}
use Rattle.density_block.proofs.width_of.Given as goal

abbrev pub invariant-loop-q : goal.invariant-loop-q
invariant-loop-q l = width_of 6 l.dim ≡ width_of (l.q - 1) l.dim
