-- The submasks of a mask, in rising order.
-- Assumes nothing.
use Rattle.std.specs.Prelude.{ℕ, zero, suc, ◌+◌, ◌-◌, ◌*◌, ◌/◌, ◌%◌, ◌^◌, min, bit_and}

-- `submask_at n m j` lays the digits of j, lowest first, on the digits of m that are 1, among m's n lowest.
-- It is the j-th submask of m in rising order, counted from 0; j past the last starts again at 0.
unfoldable pub submask_at : ℕ → ℕ → ℕ → ℕ
submask_at zero m j = 0
submask_at (suc n) m j = submask_at n (m / 2) (j / 2 ^ (m % 2)) * 2 + min (m % 2) (j % 2)

-- the way back: the digits of x that stand where m has a 1, packed
unfoldable pub submask_number : ℕ → ℕ → ℕ → ℕ
submask_number zero m x = 0
submask_number (suc n) m x = submask_number n (m / 2) (x / 2) * 2 ^ (m % 2) + min (m % 2) (x % 2)

-- (x minus mask, wrapping at 64 bits) and mask
abbrev pub next_submask : ℕ → ℕ → ℕ
next_submask x m = bit_and ((x + (2 ^ 64 - m)) % 2 ^ 64) m

-- the digits, among the n lowest, that m has not
abbrev pub others : ℕ → ℕ → ℕ
others n m = 2 ^ n - 1 - m
