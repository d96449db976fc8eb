-- What the chain of sites asks of its state, and the rows of its first step. Definitions only.
use Rattle.std.specs.Prelude.{◌≡◌, Bool, true, not, ◌&&◌, List, [], ◌∷◌, ℕ, zero, suc, ◌+◌, ◌*◌, ◌/◌, ◌%◌, ◌^◌, ◌≤◌, ◌<◌, length, get_or, Float}
use Rattle.std.specs.Float.Ieee as Ieee
use Rattle.std.specs.Float.{binary64}
use Rattle.std.specs.Float.Ieee.{of_bits}
use Rattle.answers.specs.Paper.{Reply, done, refuse}
use Rattle.numbers.specs.Numbers.{allowed_for}
use Rattle.complex.specs.declared.Complex.{Complex}
use Rattle.complex.specs.Cells.{cell_at, cells_of}

-- 7 at the first cell with a number that is not: the numbers from i on are left
unfoldable pub components_for : ℕ → ℕ → List Float → Reply
unfolding allowed_for
components_for k i [] = done
components_for k i (x ∷ l) = refuse (not (allowed_for k x)) (7, i / 2) (components_for k (suc i) l)

-- every number is 0.0 or -0.0
unfoldable pub state_zero : List Float → Bool
state_zero [] = true
state_zero (x ∷ l) = Ieee.eq x (of_bits binary64 0) && state_zero l

-- the n bits of x in the other order
unfoldable pub reversed : ℕ → ℕ → ℕ
reversed zero x = 0
reversed (suc n) x = x % 2 * 2 ^ n + reversed n (x / 2)

-- the cell x of the state with its bits in the other order
unfoldable pub cell_reversed : List Float → ℕ → ℕ → Complex
cell_reversed s n x = cell_at s (reversed n x)

-- the rows of the first step: the state with qubit 0 as the highest bit
unfoldable pub carried_first : List Float → ℕ → List Float
unfolding cell_reversed
carried_first s n = cells_of (2 ^ n) (cell_reversed s n)

-- ---- contracts

-- the first m of these are the numbers of `low` bits in the other order, as they stand above `high` bits
unfoldable pub TurnedTo : ℕ → ℕ → ℕ → List ℕ → Type 0
TurnedTo low high m backs = (x : ℕ) → x < m → get_or backs x 0 ≡ reversed low x * 2 ^ high

-- what a block of cells asks
pub record BlockRoom (low high y state : ℕ) (backs : List ℕ) (u : ℕ) : Type 0 where
  pub low-few : low ≤ 6
  pub high-few : high ≤ 6
  pub inside : y < 2 ^ high
  pub state-is : state ≡ 2 * 2 ^ (low + high)
  pub u-is : u ≡ 2 * 2 ^ (low + high)
  pub backs-long : length backs ≡ 64
  pub turned : TurnedTo low high (2 ^ low) backs
