-- The steps of the work, and their laws. Assumes nothing.
use Rattle.std.specs.Prelude.{◌≡◌, false, List, reverse, ℕ, ◌*◌, take, Float}
use Rattle.svd_load.specs.Loading.{planes_of}
use Rattle.stable_order.specs.Places.{places_of}
use Rattle.svd_columns.specs.Columns.{directions_of}
use Rattle.sweeps.specs.declared.Sweeps.{Sweeps}
use Rattle.sweeps.specs.Sweeping.{State}
use Rattle.svd_thin.specs.Thin.{swept, order_of, values_of, order_part}
use Rattle.hermitian_eigen.specs.Shifted.{shifted_at}

-- the values of the swept matrix `work` and, in scratch, the matrix and behind it the order of its columns, both rising
pub record Rising (dim : ℕ) (work values scratch : List Float) : Type 0 where
  pub values-are : values ≡ reverse (values_of dim dim work)
  pub work-is : take (2 * (dim * dim)) scratch ≡ work
  pub order_is : order_part dim dim scratch ≡ places_of (reverse (order_of dim dim work))

-- the end of the sweeps on the matrix that is shifted by `shift`, and the matrix there
abbrev pub swept_end : List Float → ℕ → Float → State
swept_end a dim shift = swept dim dim (planes_of (dim * dim) (shifted_at shift a dim))

abbrev pub swept_by : List Float → ℕ → Float → List Float
swept_by a dim shift = (swept_end a dim shift).work

pub record HermitianSwept (a : List Float) (dim : ℕ) (shift : Float) (r : Sweeps) (work : List Float) : Type 0 where
  pub work-is : work ≡ swept_by a dim shift
  pub sweeps-are : r ≡ (swept_end a dim shift).sweeps

-- its values and directions, rising
pub record HermitianFactored (a : List Float) (dim : ℕ) (shift : Float) (r : Sweeps) (values vectors : List Float) : Type 0 where
  pub values-are : values ≡ reverse (values_of dim dim (swept_by a dim shift))
  pub vectors-are : vectors
      ≡ directions_of (swept_by a dim shift) (reverse (values_of dim dim (swept_by a dim shift))) (reverse (order_of dim dim (swept_by a dim shift))) dim dim false
  pub sweeps-are : r ≡ (swept_end a dim shift).sweeps
