-- A number of the grid is at most 2^18 of 2^-18. Assumes nothing.
use mathlib.Core.Path.{◌≡◌, refl}
use mathlib.Core.Bool.{Bool, true, false, ◌&&◌}
use Prim.Native.Nat.{ℕ, ◌+◌, ◌/◌, ◌%◌, ◌^◌, ◌≤◌}
use native.Mathlib.Omega.{arith}
use lib.Dec.{leb, eqb}
use lib.Pow.{shr_mono}
use borrow.Author.Tests.{leb-true}
use lib.Ieee.{Float, nan, inf, fin}
use Rattle.std.specs.Option.{option_map, IfSome}
use Rattle.numbers.specs.Root.{units_of}
use Rattle.countersign_grid.specs.Grid.{gridded, grid_units, under_of, over_of, grid_of}
use Rattle.countersign_grid.specs.declared.Grid.{Grid}
use Rattle.countersign_grid.proofs.Units.{units-no, units-yes}

right-true : (a b : Bool) → (a && b) ≡ true → b ≡ true
right-true true b e = e
right-true false b e = cc

at_most_one : (s : ℕ) → gridded s ≡ true → s ≤ 2 ^ 1074
unfolding gridded
at_most_one s e = leb-true s (2 ^ 1074) (right-true (eqb (s % 2 ^ 1056) 0) (leb s (2 ^ 1074)) e)

-- a number of units of the grid, where there is one
units_small : (f : ℕ → Grid) → ((k : ℕ) → (f k).over + (f k).under ≡ k) → (s : ℕ) → IfSome (option_map f (grid_units s)) (λ g. g.over + g.under ≤ 2 ^ 18)
units_small f h s = go (gridded s) refl
  where
    go : (b : Bool) → gridded s ≡ b → IfSome (option_map f (grid_units s)) (λ g. g.over + g.under ≤ 2 ^ 18)
    go true e = rw (units-yes s e) (omega (arith, h (s / 2 ^ 1056), shr_mono {a = s} {b = 2 ^ 1074} 1056 (at_most_one s e)))
    go false e = rw (units-no s e) tt

-- THE LARGEST NUMBER OF THE GRID: whatever the float, what is over and what is under are together at most 2^18
pub grid-small : (x : Float) → IfSome (grid_of x) (λ g. g.over + g.under ≤ 2 ^ 18)
unfolding grid_of
grid-small nan = tt
grid-small (inf s) = tt
grid-small (fin true m e) = units_small under_of (λ k. omega arith) (units_of (fin true m e))
grid-small (fin false m e) = units_small over_of (λ k. omega arith) (units_of (fin false m e))
