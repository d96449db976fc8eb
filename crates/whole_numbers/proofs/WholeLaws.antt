-- Laws of whole numbers. Assumes nothing.
use mathlib.Core.Logic.{◌⊎◌, ⊎_elim, inl, inr}
use Prim.Native.Nat.{ℕ, zero, suc, ◌+◌, ◌*◌, ◌≤◌, ◌<◌}
use native.Mathlib.Nat.{suc-mul, mul-le-mul_right}
use native.Mathlib.Omega.{arith}

pub le-or-lt : (a b : ℕ) → (a ≤ b) ⊎ (b < a)
le-or-lt zero b = inl (omega arith)
le-or-lt (suc a) zero = inr (omega arith)
le-or-lt (suc a) (suc b) = ⊎_elim (λ h. inl (omega arith)) (λ h. inr (omega arith)) (le-or-lt a b)

-- the column p of n columns of m cells ends within n * m
pub column_fits : (p n m : ℕ) → p < n → p * m + m ≤ n * m
column_fits p n m h = omega (arith, suc-mul p m, mul-le-mul_right m h)
