-- Two columns of a matrix of c cells turned in place: the whole list after the rows below a count. Assumes nothing.
use Rattle.std.specs.Prelude.{None, Some, List, ℕ, zero, suc, ◌+◌, Float}
use Rattle.complex.specs.declared.Complex.{Complex}
use Rattle.complex.specs.Arithmetic.{complex_of, product, sum_of, negation, conjugate}
use Rattle.complex.specs.Planes.{plane_at, set_plane}
use Rattle.complex.specs.Zeros.{zero_float}
use Rattle.svd_pair.specs.declared.Factors.{Factors}
use Rattle.svd_pair.specs.Decisions.{Decision}

-- a real number as a complex one, with imaginary part +0.0
abbrev pub real : Float → Complex
real x = complex_of x zero_float

-- the cosine and the sine are complex numbers; so the negated sine has imaginary part -0.0
unfoldable pub turn_factors : Float → Float → Complex → Factors
turn_factors cosine sine phase =
    record {
      pp = real cosine;
      pq = product (real sine) (conjugate phase);
      qp = negation (real sine);
      qq = product (real cosine) (conjugate phase);
    }

-- ---- the new cells

unfoldable pub new_p : Factors → Complex → Complex → Complex
new_p f ap aq = sum_of (product f.pp ap) (product f.pq aq)

unfoldable pub new_q : Factors → Complex → Complex → Complex
new_q f ap aq = sum_of (product f.qp ap) (product f.qq aq)

-- how the new cells of p and of q are made of the factors and the old cells
pub record Making : Type 0 where
  pub p : Factors → Complex → Complex → Complex
  pub q : Factors → Complex → Complex → Complex

-- as 01 has it, with the products by the zeros of the cosine and the sine
abbrev pub exact : Making
exact = record { p = new_p; q = new_q }

-- ---- two columns

-- the cells i and j are turned, both from their old values
unfoldable pub turn_row : Making → Factors → ℕ → ℕ → ℕ → List Float → List Float
turn_row g f c i j xs =
    set_plane (set_plane xs c i (g.p f (plane_at xs c i) (plane_at xs c j))) c j (g.q f (plane_at xs c i) (plane_at xs c j))

-- the rows below k of the columns that start at the cells a and b
unfoldable pub turn_rows : Making → Factors → ℕ → ℕ → ℕ → ℕ → List Float → List Float
turn_rows g f c a b zero xs = xs
turn_rows g f c a b (suc k) xs = turn_row g f c (a + k) (b + k) (turn_rows g f c a b k xs)

-- what a decision does to two columns of m rows
unfoldable pub applied : Making → Decision → ℕ → ℕ → ℕ → ℕ → List Float → List Float
applied g None c a b m xs = xs
applied g (Some t) c a b m xs = turn_rows g (turn_factors t.cosine t.sine t.phase) c a b m xs
