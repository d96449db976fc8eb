-- What a reader may want to know of this crate's definitions and calls. Assumes nothing.
use lib.Ieee as Ieee
use mathlib.Core.Path.{◌≡◌, ap, ◌∙◌, subst}
use Prim.Native.Nat.{ℕ, suc, ◌-◌, ◌*◌, ◌^◌, ◌≤◌, ◌<◌}
use native.Mathlib.Nat.{pow-succ', lt_of_not-le}
use native.Mathlib.Decide.{dec_le}
use native.Mathlib.Omega.{arith}
use lib.Ieee.Digits.{size-lt, size_reaches}
use Rattle.modulus.specs.Modulus.{leading}

has-digit : (n : ℕ) → 0 < n → 0 < Ieee.size n
has-digit n h = go (dec_le (Ieee.size n) 0)
  where
    go : Dec (Ieee.size n ≤ 0) → 0 < Ieee.size n
    go (yes k) =
        let z : Ieee.size n ≡ 0 = omega arith in
        let l : n < 2 ^ 0 = subst (λ (y : ℕ). n < 2 ^ y) z (size-lt n) in
        absurd (omega arith)
    go (no k) = lt_of_not-le k

-- What `leading` is for: n over `leading n` is at least 1 and under 2, so the larger part is scaled to there.
pub leading-between : (n : ℕ) → 0 < n → (leading n ≤ n) × (n < 2 * leading n)
unfolding leading
leading-between n h =
    let d = has-digit n h in
    let k = Ieee.size n - 1 in
    let e : Ieee.size n ≡ suc k = omega (arith, d) in
    let p : 2 ^ Ieee.size n ≡ 2 * 2 ^ k = ap (λ (z : ℕ). 2 ^ z) e ∙ pow-succ' 2 k in
    (size_reaches n k (omega (arith, d)), subst (λ (z : ℕ). n < z) p (size-lt n))
