-- The last test of a guessed root in one comparison, as it was first proved (`is_nearest` of `root_guesses`). Assumes nothing.
use Rattle.std.proofs.Common.{◌≡◌, ℕ, ◌+◌, ◌-◌, ◌*◌, ◌%◌, ◌^◌, ◌<◌, ◌≤◌, arith}

-- with w = s - ll, r is w + q - 2^54 - 1, wrapped round where that is below 0
pub in-one-test : (s ll q r : ℕ) → q < 2 ^ 53 → ll ≤ q → (r + 0x40_0000_0000_0001) % 2 ^ 64 ≡ s + q - ll → r < 2 * q → (ll ≤ s) × (s - ll ≤ 2 ^ 54 + q) × (2 ^ 54 < s - ll + q)
in-one-test s ll q r h k e l = (omega arith, omega arith, omega arith)
