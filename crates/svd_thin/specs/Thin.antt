-- The thin SVD of a work matrix of `side` columns of `rows` cells. Assumes nothing.
use Rattle.std.specs.Prelude.{◌≡◌, Bool, List, ℕ, ◌+◌, ◌-◌, ◌*◌, ◌≤◌, take, drop, Float}
use Rattle.sweeps.specs.declared.Sweeps.{Sweeps}
use Rattle.sweeps.specs.Sweeping.{State}
use Rattle.svd_sweeps.specs.Sweeping.{settled}
use Rattle.svd_load.specs.Loading.{unit_planes}
use Rattle.stable_order.specs.Places.{places_of}
use Rattle.stable_order.specs.Order.{order_to}
use Rattle.svd_columns.specs.Columns.{norms_of, sorted_of, directions_of, v_columns_of}

-- the work matrix and V after the sweeps, and how the sweeps went
unfoldable pub swept : ℕ → ℕ → List Float → State
swept rows side work = settled rows side work (unit_planes side)

-- the stable downward order of the norms of its columns, and the norms in that order
unfoldable pub order_of : ℕ → ℕ → List Float → List ℕ
order_of rows side work = order_to (norms_of work rows side) side

unfoldable pub values_of : ℕ → ℕ → List Float → List Float
values_of rows side work = sorted_of (norms_of work rows side) (order_of rows side work) side

-- the part of scratch behind the work matrix, which holds the order
abbrev pub order_part : ℕ → ℕ → List Float → List Float
order_part rows side scratch = take (2 * (side * rows) + side - 2 * (side * rows)) (drop (2 * (side * rows)) scratch)

-- what each lent slice has to be long
pub record Lent (rows side s other scratch : ℕ) : Type 0 where
  pub tall : side ≤ rows
  pub columns : side ≤ 64
  pub cells : side * rows ≤ 4096
  pub s-is : s ≡ side
  pub other-is : other ≡ 2 * (side * side)
  pub scratch-is : scratch ≡ 6 * (side * rows) + 2 * side

pub record Written (rows side work order s main other : ℕ) : Type 0 where
  pub tall : side ≤ rows
  pub columns : side ≤ 64
  pub cells : side * rows ≤ 4096
  pub work-is : work ≡ 2 * (side * rows)
  pub order_is : order ≡ side
  pub s-is : s ≡ side
  pub main-is : main ≡ 2 * (side * rows)
  pub other-is : other ≡ 2 * (side * side)

-- after the ranking of the settled matrix `work`: the values, and in scratch the matrix and behind it the order
pub record ThinOrdered (rows side : ℕ) (work s scratch : List Float) : Type 0 where
  pub s-is : s ≡ values_of rows side work
  pub work-is : take (2 * (side * rows)) scratch ≡ work
  pub order_is : order_part rows side scratch ≡ places_of (order_of rows side work)

-- the sweeps and the three results for the matrix `work` before the sweeps
pub record Thin (rows side : ℕ) (wide : Bool) (work : List Float) (r : Sweeps) (main s other : List Float) : Type 0 where
  pub main-is : main
      ≡ directions_of (swept rows side work).work (values_of rows side (swept rows side work).work) (order_of rows side (swept rows side work).work) rows
      side
      wide
  pub s-is : s ≡ values_of rows side (swept rows side work).work
  pub other-is : other ≡ v_columns_of (swept rows side work).v (order_of rows side (swept rows side work).work) side wide
  pub sweeps-are : r ≡ (swept rows side work).sweeps
