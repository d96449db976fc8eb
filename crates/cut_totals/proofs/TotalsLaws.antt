-- Laws of the total: what the floor keeps stands at the front, and the sides are the cut's. Assumes nothing.
use mathlib.Core.Path.{◌≡◌, ap, ◌∙◌}
use mathlib.Core.List.{List}
use Prim.Native.Nat.{ℕ, ◌*◌, ◌^◌, ◌≤◌}
use native.Mathlib.Omega.{arith}
use lib.Ieee.{Float}
use lib.ListN.{length, take}
use lib.Pow.{pow_mono}
use Rattle.cut_sides.specs.declared.Sides.{Sides}
use Rattle.cut_sides.specs.Sides.{sides_of}
use Rattle.cut_sides.proofs.SideLaws.{is-parted}
use Rattle.values.specs.Lists.{kept_above, squares_from, minus_zero}
use Rattle.values.proofs.ListLaws.{kept-front, kept-le}
use Rattle.finish.specs.Finish.{floor_of, kept_values}
use Rattle.cut_values.specs.Schmidt.{singular_of, singular_values, CutValuesSized}
use Rattle.cut_values.proofs.SchmidtLaws.{sized}
use Rattle.cut_totals.specs.Totals.{total_sorted, kept_total, Totalled}

module _ (s : List Float) (floor : Float) (count : ℕ) (ef : floor ≡ floor_of s) (ec : count ≡ length (kept_above floor s)) where
  pub count-le : count ≤ length s
  count-le = omega (arith, ec, kept-le floor s)

  pub total-is : (r : Float) → r ≡ squares_from minus_zero (take count s) → r ≡ total_sorted s
  unfolding total_sorted kept_values
  total-is r e =
      e ∙ ap (squares_from minus_zero) (ap (λ (k : ℕ). take k s) ec ∙ kept-front floor s ∙ ap (λ (f : Float). kept_above f s) ef)

-- ---- the sides

module _ (s : List Float) (n : ℕ) (l : List ℕ) (is : Totalled s n l) (z : Sides) (e : z ≡ sides_of l n) where
  pub cut-sized : CutValuesSized n z s
  cut-sized = sized s n l z (is-parted l n 10 is.taken) e is.state

  pub cells_fit : 2 * 2 ^ n ≤ 1024
  cells_fit = let c : 2 ^ n ≤ 512 = pow_mono {i = n} {j = 9} is.small in omega (arith, c)

  pub cut-total : (values : List Float) (r : Float) → values ≡ singular_of s n z → r ≡ kept_total values → r ≡ kept_total (singular_values s n l)
  unfolding singular_of singular_values
  cut-total values r f g = g ∙ ap (λ (v : List Float). kept_total v) (f ∙ rw e)
