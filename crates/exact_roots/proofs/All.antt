-- Laws of `all_exact`. Assumes nothing.
use mathlib.Core.Path.{◌≡◌, refl, ap, ap₂, ◌∙◌}
use mathlib.Core.Bool.{Bool, true, ◌&&◌}
use Prim.Native.Nat.{ℕ, suc, ◌+◌}
use native.Mathlib.Omega.{arith}
use lib.Ieee.{Float}
use Rattle.exact_roots.specs.Exact.{exact_root, all_exact}

pub all_none : (f : ℕ → Float) → true ≡ all_exact 0 f
unfolding all_exact
all_none f = refl

all_one : (k : ℕ) (f : ℕ → Float) → (all_exact k f && exact_root (f k)) ≡ all_exact (suc k) f
unfolding all_exact
all_one k f = refl

-- the next root decides with those before it
pub all_more : (k : ℕ) (f : ℕ → Float) {a b : Bool} → a ≡ all_exact k f → b ≡ exact_root (f k) → (a && b) ≡ all_exact (k + 1) f
all_more k f e g =
    let s : suc k ≡ k + 1 = omega arith in
    ap₂ ◌&&◌ e g ∙ all_one k f ∙ ap (λ (n : ℕ). all_exact n f) s
