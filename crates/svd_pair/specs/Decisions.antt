-- The decision on a pair of columns from its Gram sums: leave it, or turn it with a cosine, a sine and a phase. Assumes nothing.
use Rattle.std.specs.Prelude.{Option, None, Some, cond, List, [], ◌∷◌, ℕ, Float}
use Rattle.std.specs.Float.Ieee as Ieee
use Rattle.std.specs.Float.{binary64}
use Rattle.std.specs.Float.Ieee.{of_bits}
use Rattle.numbers.specs.Numbers.{one_float}
use Rattle.numbers.specs.Root.{sqrt_of}
use Rattle.complex.specs.declared.Complex.{Complex}
use Rattle.complex.specs.Arithmetic.{quotient, norm_sqr}
use Rattle.modulus.specs.Modulus.{modulus_of}
use Rattle.complex.specs.Zeros.{zero_float}
use Rattle.svd_gram.specs.declared.GramSums.{GramSums}
use Rattle.svd_pair.specs.declared.Turn.{Turn}

-- a turn, or none: the pair is left as it is
abbrev pub Decision : Type 0
Decision = Option Turn

-- ---- the number and the values of each case

pub record Verdict : Type 0 where
  pub number : ℕ
  pub values : List Float

-- 0: leave the pair. 1: turn it, with the cosine, the sine and the two parts of the phase
unfoldable pub verdict : Decision → Verdict
verdict None = record { number = 0; values = [] }
verdict (Some t) = record { number = 1; values = t.cosine ∷ t.sine ∷ t.phase.re ∷ t.phase.im ∷ [] }

-- ---- the constants, by their bits

-- 2.0
abbrev pub two : Float
two = of_bits binary64 0x4000_0000_0000_0000

-- 1e-15, JACOBI_REL_TOL
abbrev pub svd_tolerance : Float
svd_tolerance = of_bits binary64 0x3cd2_03af_9ee7_5616

-- ---- the decision

-- 1 + x * x under the root
abbrev pub hypotenuse : Float → Float
hypotenuse x = sqrt_of (Ieee.add binary64 one_float (Ieee.mul binary64 x x))

-- tau ≥ 0 takes the first branch; tau < 0 and a NaN the second
unfoldable pub tangent_of : Float → Float
tangent_of tau =
    cond (Ieee.le zero_float tau)
    (Ieee.div binary64 (Ieee.neg one_float) (Ieee.add binary64 tau (hypotenuse tau)))
    (Ieee.div binary64 one_float (Ieee.add binary64 (Ieee.neg tau) (hypotenuse tau)))

-- ((1e-15 * 1e-15) * pp) * qq: up to this square of the modulus a pair is left as it is
abbrev pub skip_bound : GramSums → Float
skip_bound g = Ieee.mul binary64 (Ieee.mul binary64 (Ieee.mul binary64 svd_tolerance svd_tolerance) g.pp) g.qq

-- (qq - pp) / (2 * beta)
abbrev pub tau_of : GramSums → Float → Float
tau_of g beta = Ieee.div binary64 (Ieee.sub binary64 g.qq g.pp) (Ieee.mul binary64 two beta)

abbrev pub cosine_of : Float → Float
cosine_of t = Ieee.div binary64 one_float (hypotenuse t)

-- the turn by the tangent t, with the phase pq / beta
unfoldable pub turn_at : Complex → Float → Float → Turn
turn_at pq beta t = record { cosine = cosine_of t; sine = Ieee.mul binary64 t (cosine_of t); phase = quotient pq beta }

abbrev pub turn_of : GramSums → Float → Turn
turn_of g beta = turn_at g.pq beta (tangent_of (tau_of g beta))

unfoldable pub decision_of : GramSums → Decision
decision_of g = cond (Ieee.le (norm_sqr g.pq) (skip_bound g)) None (Some (turn_of g (modulus_of g.pq)))
