-- The real and the imaginary parts of the four sums of a dot product, each added up by itself. Assumes nothing.
use Rattle.std.specs.Prelude.{Bool, cond, Float}
use Rattle.complex.specs.declared.Complex.{Complex}
use Rattle.complex.specs.Arithmetic.{complex_of}
use Rattle.qr_column.specs.declared.Parts.{Parts}
use Rattle.qr_column.specs.declared.Sums.{Sums}

abbrev pub parts_of : Float → Float → Float → Float → Parts
parts_of a b c d = record { sum0 = a; sum1 = b; sum2 = c; sum3 = d }

-- the imaginary part, or the real one
unfoldable pub part_of : Bool → Complex → Float
part_of imaginary z = cond imaginary z.im z.re

unfoldable pub parts : Bool → Sums → Parts
parts imaginary s = parts_of (part_of imaginary s.sum0) (part_of imaginary s.sum1) (part_of imaginary s.sum2) (part_of imaginary s.sum3)

-- the sums with these parts
unfoldable pub sums_of : Parts → Parts → Sums
sums_of x y =
    record {
      sum0 = complex_of x.sum0 y.sum0;
      sum1 = complex_of x.sum1 y.sum1;
      sum2 = complex_of x.sum2 y.sum2;
      sum3 = complex_of x.sum3 y.sum3;
    }
