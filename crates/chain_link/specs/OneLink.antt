-- One step of the chain over the lent slices. Definitions only.
use Rattle.std.specs.Prelude.{◌≡◌, List, ◌++◌, ℕ, ◌+◌, ◌-◌, ◌*◌, ◌/◌, ◌^◌, ◌≤◌, ◌<◌, min, length, take, drop, Float, Result}
use Rattle.answers.specs.declared.Refusal.{Refusal}
use Rattle.svd.specs.Svd.{side_of}
use Rattle.chain_step.specs.declared.Link.{Link}
use Rattle.chain_step.specs.Step.{columnwise, Stepped}

-- the rows of a step: bond·2 + bit
abbrev pub rows_at : ℕ → ℕ
rows_at bond = 2 * bond

-- the columns of step j of n: the qubits after it
abbrev pub columns_at : ℕ → ℕ → ℕ
columns_at n j = 2 ^ (n - 1 - j)

-- the cells of the step's matrix
abbrev pub cells_at : ℕ → ℕ → ℕ → ℕ
cells_at n j bond = rows_at bond * columns_at n j

-- what step j of n asks: the bond that comes in is at most 2^j, and the site fits
pub record LinkRoom (n j bond at limit sites u vt scratch : ℕ) : Type 0 where
  pub small : n ≤ 12
  pub inside : j + 1 < n
  pub bond-some : 1 ≤ bond
  pub bond-few : bond ≤ 2 ^ j
  pub site-fits : 2 * at + 2 * (rows_at bond * min (side_of (rows_at bond) (columns_at n j)) limit) ≤ sites
  pub u-is : u ≡ 2 * 2 ^ n
  pub vt_is : vt ≡ 2 * 2 ^ n
  pub scratch-is : scratch ≡ 6 * 2 ^ n + 2 * 2 ^ (n / 2)

-- the step that was taken: `tail` is what sites holds from cell `at` on, `front` what u holds where the rows were carried
pub record OneLink (n j bond at : ℕ) (epsilon : Float) (limit : ℕ) (sites u : List Float) (r : Result Link Refusal) (sites' u' : List Float) : Type 0 where
  pub tail : List Float
  pub front : List Float
  pub front_long : length front ≡ 2 * cells_at n j bond
  pub step : Stepped (columnwise (take (2 * cells_at n j bond) u) (rows_at bond) (columns_at n j)) (rows_at bond) (columns_at n j) epsilon limit (drop (2 * at) sites) r tail front
  pub sites-is : sites' ≡ take (2 * at) sites ++ tail
  pub u-is : u' ≡ front ++ drop (2 * cells_at n j bond) u
