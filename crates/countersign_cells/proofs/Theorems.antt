-- What a reader may want to know of this crate's definitions. Assumes nothing.
use mathlib.Core.Path.{◌≡◌, refl, sym, ap, ◌∙◌}
use mathlib.Core.Bool.{Bool, true, false, ◌&&◌, true≢false}
use Prim.Native.Nat.{ℕ, ◌+◌, ◌*◌, ◌/◌, ◌%◌, ◌^◌}
use native.Mathlib.Nat.{div-add-mod', add-zero}
use lib.Dec.{leb, eqb}
use borrow.Author.Tests.{eqb-true}
use lib.IntN.{ℤ, neg_ℤ}
use lib.Ieee.{fin}
use Rattle.numbers.specs.Root.{units_of}
use Rattle.std.specs.Option.{option_map, is_some}
use Rattle.std.proofs.Common.{Option, Some}
use Rattle.countersign_grid.specs.declared.Grid.{Grid}
use Rattle.countersign_grid.specs.Grid.{gridded, grid_units, grid_of, over_of, under_of}
use Rattle.countersign_grid.proofs.Units.{units-yes, units-no}
use Rattle.countersign_sums.specs.Wholes.{whole_of}
use Rattle.countersign_sums.specs.Integers.{value}
use Rattle.countersign_sums.proofs.Integers.{value_pos, value-opposite}
use Rattle.countersign_cells.specs.Cells.{whole_float, signed}

and_left : (a b : Bool) → (a && b) ≡ true → a ≡ true
and_left true b e = refl
and_left false b e = e

no-rest : (s d : ℕ) → s % d ≡ 0 → s ≡ s / d * d
no-rest s d e = sym (div-add-mod' s d) ∙ ap (λ (x : ℕ). s / d * d + x) e ∙ add-zero (s / d * d)

whole : (s : ℕ) → gridded s ≡ true → s % 2 ^ 1056 ≡ 0
unfolding gridded
whole s e = eqb-true (s % 2 ^ 1056) 0 (and_left (eqb (s % 2 ^ 1056) 0) (leb s (2 ^ 1074)) e)

units-exact : (s : ℕ) → gridded s ≡ true → s ≡ s / 2 ^ 1056 * 2 ^ 1056
units-exact s e = no-rest s (2 ^ 1056) (whole s e)

-- a number of the grid is its count of units
on-grid : (f : ℕ → Grid) (s : ℕ) → is_some (option_map f (grid_units s)) ≡ true → (s ≡ s / 2 ^ 1056 * 2 ^ 1056) × (grid_units s ≡ Some (s / 2 ^ 1056))
on-grid f s h = go (gridded s) refl
  where
    go : (b : Bool) → gridded s ≡ b → (s ≡ s / 2 ^ 1056 * 2 ^ 1056) × (grid_units s ≡ Some (s / 2 ^ 1056))
    go true e = (units-exact s e, units-yes s e)
    go false e = absurd (true≢false (sym h ∙ ap (λ (r : Option ℕ). is_some (option_map f r)) (units-no s e)))

-- A number that is not refused is exactly its whole number of 2^-18: in units of 2^-1074 its size is that number
-- times 2^1056, with its sign.
pub number-exact : (s : Bool) (m : ℕ) (e : ℤ) → is_some (grid_of (fin s m e)) ≡ true
    → (k : ℕ) × (units_of (fin s m e) ≡ k * 2 ^ 1056) × (value (whole_float (fin s m e)) ≡ signed s k)
unfolding grid_of whole_float
number-exact true m e h =
    let u = units_of (fin true m e) in
    let g = on-grid under_of u h in
    (u / 2 ^ 1056, g.0, rw g.1 (value-opposite (whole_of (u / 2 ^ 1056) 0) ∙ ap neg_ℤ (value_pos (u / 2 ^ 1056))))
number-exact false m e h =
    let u = units_of (fin false m e) in
    let g = on-grid over_of u h in
    (u / 2 ^ 1056, g.0, rw g.1 (value_pos (u / 2 ^ 1056)))
