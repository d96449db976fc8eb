-- An entry of the density, and the conjugate of the entry across the diagonal: the same but for the sign of a zero. Assumes nothing.
use Rattle.std.specs.Prelude.{◌≡◌}
use Rattle.complex.specs.declared.Complex.{Complex}
use Rattle.agreement.specs.Signs.{Alike}

-- the same, signs of zeros aside: the real parts are the same, the imaginary parts the same or both a zero
pub record AlikeCells (z w : Complex) : Type 0 where
  pub re : z.re ≡ w.re
  pub im : Alike z.im w.im
