-- Laws of what `specs/Decide.antt` defines. Assumes nothing.
use mathlib.Core.Path.{◌≡◌, ap}
use mathlib.Core.Bool.{Bool, true, false}
use lib.Ieee as Ieee
use lib.Ieee.{Float, binary64}
use Rattle.numbers.specs.Numbers.{magnitude_of, sign_of}
use Rattle.complex.specs.declared.Complex.{Complex}
use Rattle.modulus.specs.Modulus.{modulus_of}
use Rattle.std.specs.Prelude.{Some, None}
use Rattle.svd_pair.specs.declared.Turn.{Turn}
use Rattle.svd_pair.specs.Decisions.{hypotenuse, turn_at}
use Rattle.eigen_pair.specs.Decide.{theta_of, eigen_tangent, left_alone, eigen_decision}

-- ---- a law for each way through the code

pub tangent-made : (theta root s m : Float) → root ≡ hypotenuse theta → s ≡ sign_of theta → m ≡ magnitude_of theta
    → Ieee.div binary64 s (Ieee.add binary64 m root) ≡ eigen_tangent theta
unfolding eigen_tangent
tangent-made theta root s m e f g = rw (e, f, g)

pub decision-leave : (apq : Complex) (app aqq largest modulus : Float) {b : Bool} → modulus ≡ modulus_of apq
    → b ≡ left_alone modulus app aqq largest → b ≡ true → None ≡ eigen_decision apq app aqq largest
unfolding eigen_decision
decision-leave apq app aqq largest modulus e f t = rw (← e, ← f, t)

pub decision-turn : (apq : Complex) (app aqq largest modulus t : Float) {b : Bool} {d : Turn} → modulus ≡ modulus_of apq
    → b ≡ left_alone modulus app aqq largest → b ≡ false → t ≡ eigen_tangent (theta_of app aqq modulus) → d ≡ turn_at apq modulus t
    → Some d ≡ eigen_decision apq app aqq largest
unfolding eigen_decision
decision-turn apq app aqq largest modulus t e f n g h = rw (← e, ← f, n, ← g) (ap Some h)
