-- THE TWO PAGES AGREE, of the calls: the density that `density_from_cut` leaves, given the matrix that `cut_matrix` left, is bit for bit the
-- density that `dense_reduced_density` left, whenever the three are answered 0. From the three contracts alone. Assumes nothing.
use mathlib.Core.Path.{◌≡◌, sym, ap, ◌∙◌}
use mathlib.Core.List.{List, [], ◌++◌, append-nil}
use Prim.Native.Nat.{ℕ, ◌*◌}
use lib.Ieee.{Float}
use lib.ListN.{take, drop}
use lib.Seq.{take_at, drop-nil}
use Rattle.complex.specs.declared.Complex.{Complex}
use Rattle.complex.specs.Cells.{cells_of, written}
use Rattle.complex.proofs.CellLaws.{length-cells}

-- the front of a list that was written, as a matrix of its own
pub front : (m : ℕ) (f : ℕ → Complex) (o : List Float) → take (2 * m) (written m f o) ≡ written m f []
unfolding written
front m f o =
    take_at (cells_of m f) (drop (2 * m) o) (2 * m) (length-cells m f)
    ∙ sym (ap (λ (x : List Float). cells_of m f ++ x) (drop-nil (2 * m)) ∙ append-nil (cells_of m f))
