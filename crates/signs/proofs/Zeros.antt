-- Zeros and signs of floats: what rounds to a zero, how a zero is written, and that a sign more or less fits. Assumes nothing.
use mathlib.Core.Path.{◌≡◌, refl, sym, ◌∙◌}
use mathlib.Core.Bool.{Bool, ◌&&◌, false, cond}
use Prim.Native.Nat.{ℕ, zero, suc, ◌-◌, ◌*◌, ◌^◌, ◌<◌}
use native.Mathlib.Nat.{zero-mul, sub_self, mul-one, one-mul, pow-succ'}
use native.Mathlib.Omega.{arith}
use borrow.Author.Tests.{le-ltb}
use lib.Dec.{T, ltb, eqb→eq}
use lib.IntN.{ℤ, pos, negsuc}
use lib.Ieee.{fin, binary64, fits, round}
use lib.Ieee.Scale.{round_same}

-- nothing rounds to a zero of its sign
pub round-zero : (s : Bool) (c : ℕ) → 0 < c → round binary64 s 0 c ≡ fin s 0 (pos 0)
unfolding round
round-zero s c h = round_same binary64 s 0 c 0 1 h (omega arith) (sym (zero-mul c)) ∙ refl

-- a less a, before it is rounded
pub less-itself : (s t : Bool) (a c : ℕ) → cond (ltb a a) (round binary64 t (a - a) c) (round binary64 (s && ltb a a) (a - a) c) ≡ round binary64 (s && false) 0 c
less-itself s t a c = rw (le-ltb a a (omega arith), sub_self a)

-- a zero that fits is written with the exponent 0
pub zero_exponent : (s : Bool) (e : ℤ) → T (fits binary64 (fin s zero e)) → e ≡ pos 0
unfolding fits
zero_exponent s (pos zero) f = refl
zero_exponent s (pos (suc k)) f = absurd (omega (arith, eqb→eq (2 ^ suc k * 1) 1 f, pow-succ' 2 k, mul-one (2 ^ suc k)))
zero_exponent s (negsuc k) f = absurd (omega (arith, eqb→eq (1 * 2 ^ suc k) 1 f, pow-succ' 2 k, one-mul (2 ^ suc k)))

-- what fits with one sign fits with the other
pub either-sign : (s t : Bool) (m : ℕ) (e : ℤ) → T (fits binary64 (fin s m e)) → T (fits binary64 (fin t m e))
unfolding fits
either-sign s t zero e f = f
either-sign s t (suc m) e f = f
