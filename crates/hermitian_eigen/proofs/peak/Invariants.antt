-- `hermitian_eigen::peak` meets its contract. The invariant: the largest modulus of the first i cells. Assumes nothing.
use mathlib.Core.Path.{◌≡◌}
use Prim.Native.Nat.{◌-◌, ◌≤◌}
use Rattle.hermitian_eigen.specs.Shifted.{peak_to}
use Rattle.hermitian_eigen.proofs.peak.Given as goal

abbrev pub invariant-loop-i : goal.invariant-loop-i
invariant-loop-i l = (l.i ≤ l.c) × (l.most ≡ peak_to l.matrix l.i)

abbrev pub decreases-loop-i : goal.decreases-loop-i
decreases-loop-i l = l.c - l.i
