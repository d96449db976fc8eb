-- What a trial of the plain sweeps leaves. Definitions only.
use Rattle.std.specs.Prelude.{◌≡◌, Option, None, IfSome, List, ℕ, ◌*◌, ◌≤◌, take, drop, Float}
use Rattle.sweeps.specs.declared.Sweeps.{Sweeps}
use Rattle.sweeps.specs.Sweeping.{state}
use Rattle.svd_load.specs.Loading.{unit_planes}
use Rattle.svd_sweeps.specs.Sweeping.{settled}

-- a work matrix of `side` columns of `rows` cells at the front of scratch, as planes, room for a copy behind it, and V
pub record PlainRoom (rows side scratch v : ℕ) : Type 0 where
  pub columns : side ≤ 64
  pub cells : side * rows ≤ 4096
  pub scratch-fits : 4 * (side * rows) ≤ scratch
  pub v-is : v ≡ 2 * (side * side)

-- the sweeps of the work matrix `work` from the unit matrix on: the counts, what stands at the front of scratch, and V
pub record Swept (rows side : ℕ) (work : List Float) (s : Sweeps) (scratch v : List Float) : Type 0 where
  pub is : state (take (2 * (side * rows)) scratch) v s ≡ settled rows side work (unit_planes side)

-- a clean trial is the sweeps; after another one the work matrix stands behind what is left of it
pub record Tried (rows side : ℕ) (work : List Float) (trial : Option Sweeps) (scratch v : List Float) : Type 0 where
  pub done : IfSome trial (λ s. Swept rows side work s scratch v)
  pub kept : trial ≡ None → take (2 * (side * rows)) (drop (2 * (side * rows)) scratch) ≡ work
