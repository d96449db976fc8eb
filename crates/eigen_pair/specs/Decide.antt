-- The decision on a pair of a Hermitian matrix: leave it, or turn it with a real cosine, a real sine and a phase. Assumes nothing.
use Rattle.std.specs.Prelude.{None, Some, Bool, true, cond, Float}
use Rattle.std.specs.Float.Ieee as Ieee
use Rattle.std.specs.Float.{binary64}
use Rattle.std.specs.Float.Ieee.{of_bits}
use Rattle.numbers.specs.Numbers.{magnitude_of, sign_of}
use Rattle.numbers.specs.Root.{sqrt_of}
use Rattle.complex.specs.declared.Complex.{Complex}
use Rattle.modulus.specs.Modulus.{modulus_of}
use Rattle.svd_pair.specs.Decisions.{Decision, two, hypotenuse, turn_at}

-- 1e-15, EIGEN_PAIR_TOL
abbrev pub eigen_tolerance : Float
eigen_tolerance = of_bits binary64 0x3cd2_03af_9ee7_5616

-- (aqq - app) / (2 * modulus)
abbrev pub theta_of : Float → Float → Float → Float
theta_of app aqq modulus = Ieee.div binary64 (Ieee.sub binary64 aqq app) (Ieee.mul binary64 two modulus)

-- signum(theta) / (|theta| + √(1 + theta * theta)): theta +0.0 has the sign +1, -0.0 has -1
unfoldable pub eigen_tangent : Float → Float
eigen_tangent theta = Ieee.div binary64 (sign_of theta) (Ieee.add binary64 (magnitude_of theta) (hypotenuse theta))

-- relative to the two diagonal entries, or to the largest diagonal entry of the sweep's start
unfoldable pub left_alone : Float → Float → Float → Float → Bool
left_alone modulus app aqq largest =
    cond (Ieee.le modulus (Ieee.mul binary64 eigen_tolerance (sqrt_of (magnitude_of (Ieee.mul binary64 app aqq)))))
    true
    (Ieee.le modulus (Ieee.mul binary64 eigen_tolerance largest))

unfoldable pub eigen_decision : Complex → Float → Float → Float → Decision
eigen_decision apq app aqq largest =
    cond (left_alone (modulus_of apq) app aqq largest)
    None
    (Some (turn_at apq (modulus_of apq) (eigen_tangent (theta_of app aqq (modulus_of apq)))))
