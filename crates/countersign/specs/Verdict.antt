-- What the tests find: product, U, V†, S, in this order, each with its first failing cell. Definitions only.
use Rattle.std.specs.Prelude.{◌≡◌, Bool, true, false, cond, List, ℕ, ◌*◌, ◌≤◌, ltb, Float, Result, Ok, Err}
use Rattle.answers.specs.declared.Refusal.{Refusal}
use Rattle.answers.specs.Paper.{paper, if_done}
use Rattle.countersign_products.specs.Products.{product_fits}
use Rattle.countersign_grams.specs.Grams.{gram_fits}
use Rattle.countersign_scans.specs.Scans.{first_fail, value_fits}
use Rattle.matrix_sizes.specs.Sizes.{side_of}
use Rattle.countersign_checks.specs.Checks.{countersign_tests}
use Rattle.countersign.specs.declared.Finding.{Finding}
use Rattle.countersign.specs.declared.Finding.TheVariants.{Yes, Product, Left, Right, Values}

-- yes or no, the number of the test that failed, its first failing cell
abbrev pub Says : Type 0
Says = Bool × ℕ × ℕ

-- the numbers of each case
abbrev pub says : Finding → Says
says Yes = (true, 0, 0)
says (Product c) = (false, 1, c)
says (Left c) = (false, 2, c)
says (Right c) = (false, 3, c)
says (Values c) = (false, 4, c)

-- those of a call: a refused one says no, 0, 0
abbrev pub found : Result Finding Refusal → Says
found (Ok f) = says f
found (Err e) = (false, 0, 0)

-- a test fails where its first failing cell is one of its cells; else what the later tests say
unfoldable pub fails_at : ℕ → ℕ → ℕ → Says → Says
fails_at test cell cells rest = cond (ltb cell cells) (false, test, cell) rest

-- A m by n, column-major; U m by k, column-major; V† k by n, row-major
unfoldable pub verdict_of : List Float → ℕ → ℕ → ℕ → List Float → List Float → List Float → ℕ → Says
verdict_of a m n k u s vt tolerance =
    fails_at 1 (first_fail (product_fits a u s vt m n k tolerance) 0 (m * n)) (m * n)
    (fails_at 2 (first_fail (gram_fits u m k tolerance) 0 (k * k)) (k * k)
    (fails_at 3 (first_fail (gram_fits vt n k tolerance) 0 (k * k)) (k * k) (fails_at 4 (first_fail (value_fits s) 0 k) k (true, 0, 0))))

-- the answer, and the finding: on a refusal no, 0, 0
pub record Countersign (a : List Float) (m n : ℕ) (u s vt : List Float) (tolerance : ℕ) (r : Result Finding Refusal) : Type 0 where
  pub answer : paper r ≡ countersign_tests a m n u s vt
  pub finding : found r ≡ if_done (paper r).0 (verdict_of a m n (side_of m n) u s vt tolerance) (false, 0, 0)

-- the sizes and lengths of an accepted call
pub record Accepted (m n k a u s vt : ℕ) : Type 0 where
  pub side : k ≡ side_of m n
  pub most : k ≤ 16
  pub cells : m * n ≤ 4096
  pub a-is : a ≡ 2 * (m * n)
  pub u-is : u ≡ 2 * (m * k)
  pub s-is : s ≡ k
  pub vt_is : vt ≡ 2 * (k * n)
