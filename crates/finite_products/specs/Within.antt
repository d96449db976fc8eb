-- How large a float is, by whole numbers. Definitions only.
use Rattle.std.specs.Prelude.{ℕ, ◌*◌, ◌^◌, ◌≤◌, Float}
use Rattle.std.specs.Float.{nan, inf, fin}
use Rattle.std.specs.Float.Ieee.{up, down}

-- finite, and of magnitude at most b
abbrev pub Within : ℕ → Float → Type 0
Within b nan = ⊥
Within b (inf s) = ⊥
Within b (fin s m e) = m * up e ≤ b * down e

-- no part of a product of two complex numbers with allowed components is larger
abbrev pub product_most : ℕ
product_most = 2 ^ 401
