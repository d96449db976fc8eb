-- A number times k is within t where the number is within t / k. Assumes nothing.
use mathlib.Core.Path.{◌≡◌, refl, sym, ap₂}
use mathlib.Core.Bool.{Bool, true, false, ◌&&◌}
use Prim.Native.Nat.{ℕ, ◌*◌, ◌/◌, ◌<◌}
use native.Mathlib.Nat.{le-div_iff_mul-le}
use borrow.Author.Tests.{le-leb, leb-true}
use lib.Dec.{leb}
use Rattle.countersign_sums.specs.declared.Gaussian.{Gaussian}
use Rattle.countersign_sums.specs.Wholes.{apart}
use Rattle.countersign_sums.specs.Gaussians.{times_within, both_within}

-- a limit divided, rounded down, is the same test as the number multiplied
same_bool : (a b : Bool) → (a ≡ true → b ≡ true) → (b ≡ true → a ≡ true) → a ≡ b
same_bool true b f g = sym (f refl)
same_bool false true f g = g refl
same_bool false false f g = refl

pub divided : (x k t : ℕ) → 0 < k → leb x (t / k) ≡ leb (x * k) t
divided x k t p =
    same_bool (leb x (t / k)) (leb (x * k) t)
    (λ e. le-leb (x * k) t ((le-div_iff_mul-le p).0 (leb-true x (t / k) e)))
    (λ e. le-leb x (t / k) ((le-div_iff_mul-le p).1 (leb-true (x * k) t e)))

pub within-divided : (a : Gaussian) (k t : ℕ) → 0 < k → both_within a (t / k) ≡ times_within a k t
unfolding both_within times_within
within-divided a k t p = ap₂ (λ (x y : Bool). x && y) (divided (apart a.re) k t p) (divided (apart a.im) k t p)
