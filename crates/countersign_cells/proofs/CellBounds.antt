-- How large the numbers and cells are at most, and how a cell is made. Assumes nothing.
use mathlib.Core.List.{List}
use Prim.Native.Nat.{ℕ, ◌+◌, ◌*◌, ◌^◌, ◌≤◌}
use native.Mathlib.Omega.{arith}
use lib.Ieee.{Float, nan}
use lib.ListN.{get_or}
use Rattle.std.specs.Option.{IfSome}
use Rattle.std.proofs.Common.{Option, Some, None}
use Rattle.countersign_grid.specs.Grid.{grid_of}
use Rattle.countersign_grid.specs.declared.Grid.{Grid}
use Rattle.countersign_grid.proofs.Bounds.{grid-small}
use Rattle.countersign_sums.specs.Wholes.{weight}
use Rattle.countersign_sums.specs.Gaussians.{heft}
use Rattle.countersign_cells.specs.Cells.{whole_grid, whole_float, value_at, whole_cell}

pub value-small : (s : List Float) (i : ℕ) → weight (value_at s i) ≤ 2 ^ 18
unfolding value_at whole_float
value-small s i = by_grid (grid_of (get_or s i nan)) (grid-small (get_or s i nan))
  where
    by_grid : (g : Option Grid) → IfSome g (λ x. x.over + x.under ≤ 2 ^ 18) → weight (whole_grid g) ≤ 2 ^ 18
    by_grid None h = omega arith
    by_grid (Some g) h = h

pub cell-small : (s : List Float) (x : ℕ) → heft (whole_cell s x) ≤ 2 ^ 19
unfolding whole_cell heft
cell-small s x = omega (arith, value-small s (2 * x), value-small s (2 * x + 1))
