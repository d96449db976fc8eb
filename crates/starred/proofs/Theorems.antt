-- What a reader may want to know of this crate's definitions and calls. Assumes nothing.
use lib.Ieee as Ieee
use mathlib.Core.Path.{refl}
use native.Mathlib.Nat.{min-zero}
use lib.Ieee.{of_bits, to_bits, of_fields, odd, round, units}
use lib.Count.{count_trailing_zeros}
use Rattle.numbers.specs.Root.{sqrt_of, root_of, squared, units_of, floor_root, next_root}
use Rattle.complex.specs.Arithmetic.{product, sum_of, difference, conjugate, scaled, quotient, norm_sqr}
use Rattle.complex.specs.Cells.{cells_of}
use Rattle.complex.specs.Zeros.{zeros}
use Rattle.qr_column.specs.Dot.{no_sums, add_quad, add_first, joined, dot_term, quads_to, tail_to, dot_of}
use Rattle.qr_column.specs.Columns.{cell_from, column_of, norm_of, less_cell, lessened, scaled_into}
use Rattle.qr_passes.specs.GramSchmidt.{projected_by, projected, pass_to, passes, new_basis, kept_column, judged, add_column, qr_columns_to, basis_for, with_basis, qr_factors}
use Rattle.site_ranks.specs.Ranks.{first_or_zero, above_count, rank_of}
use Rattle.submasks.specs.Submasks.{submask_at}
use Rattle.qubits.specs.Lists.{stands, places_from}
use Rattle.tables.specs.Tables.{table}
use Rattle.complex.specs.Squares.{squares_to}
use Rattle.qubits.specs.Spread.{spread, other_qubits, mask_from}
use Rattle.eigen_pair.specs.Decide.{eigen_tangent, left_alone, eigen_decision}
use Rattle.numbers.specs.Numbers.{sign_of, magnitude_of, is_finite}
use Rattle.modulus.specs.Modulus.{leading, over, back, root_of_squares, scaled_by, scaled_modulus, modulus_of}
use Rattle.svd_pair.specs.Decisions.{verdict, turn_at}
use Rattle.starred.specs.Starred.{Starred}

-- The paper's starred cases hold of the definitions, as one list under one claim.
pub starred : Starred
unfolding submask_at mask_from spread table other_qubits stands places_from zeros cells_of product sum_of difference conjugate scaled norm_sqr no_sums add_quad add_first joined dot_term quads_to tail_to dot_of cell_from column_of squares_to norm_of less_cell lessened scaled_into projected_by projected pass_to passes new_basis kept_column judged add_column qr_columns_to basis_for with_basis qr_factors first_or_zero above_count rank_of eigen_tangent eigen_decision left_alone verdict turn_at quotient is_finite leading over back root_of_squares scaled_by scaled_modulus modulus_of sign_of magnitude_of sqrt_of root_of squared units_of floor_root next_root of_bits to_bits of_fields odd round units count_trailing_zeros Ieee.add Ieee.sub Ieee.mul Ieee.div Ieee.neg Ieee.lt Ieee.le Ieee.eq Ieee.sum Ieee.size Ieee.span Ieee.climb
starred = record {
  list-2 = refl;
  list-01 = refl;
  list-02 = refl;
  cells-2 = λ s. refl;
  cells-02 = λ s. refl;
  offsets = refl;
  bases = refl;
  twice = refl;
  out = refl;
  whole = refl;
  empty = refl;
  starts = refl;
  qr-zero = refl;
  qr-rank = refl;
  qr-r = refl;
  rank-halves = refl;
  rank-zeros = refl;
  rank-capped = λ values epsilon. min-zero _;
  eigen-theta = refl;
  eigen-tangent = refl;
  eigen-turn = refl;
}
