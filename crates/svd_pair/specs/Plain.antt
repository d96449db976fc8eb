-- Turns without the products by the zeros of the cosine and the sine. A cell that is made so differs from the exact one in the sign of a zero
-- alone, where its old cell is finite. Assumes nothing.
use Rattle.std.specs.Prelude.{Bool, true, false}
use Rattle.complex.specs.declared.Complex.{Complex}
use Rattle.complex.specs.Arithmetic.{product, sum_of, times_real}
use Rattle.svd_pair.specs.declared.Factors.{Factors}
use Rattle.svd_pair.specs.Turns.{Making, exact}

unfoldable pub plain_p : Factors → Complex → Complex → Complex
plain_p f ap aq = sum_of (times_real f.pp.re ap) (product f.pq aq)

unfoldable pub plain_q : Factors → Complex → Complex → Complex
plain_q f ap aq = sum_of (times_real f.qp.re ap) (product f.qq aq)

abbrev pub plain : Making
plain = record { p = plain_p; q = plain_q }

-- plain where it is asked for
unfoldable pub making : Bool → Making
making false = exact
making true = plain
