-- Laws of what `specs/LeftRows.antt` defines. Assumes nothing.
use mathlib.Core.Path.{◌≡◌, refl, sym, ap, ap₂, subst, ◌∙◌}
use mathlib.Core.List.{List}
use Prim.Native.Nat.{ℕ, ◌+◌, ◌*◌, ◌<◌}
use native.Mathlib.Omega.{arith}
use lib.Ieee.{Float}
use Rattle.complex.specs.declared.Complex.{Complex}
use Rattle.complex.specs.Arithmetic.{complex_of}
use Rattle.density_entries.specs.declared.Block.{Block}
use Rattle.density_entries.specs.Pairs.{set_pair}
use Rattle.density_entries.proofs.PairsLaws.{length-set_pair, past-pair, pair-other, row_kept}
use Rattle.density_entries.specs.Squares.{Square}
use Rattle.density_entries.specs.Filled.{PairSteps}
use Rattle.density_entries.proofs.FilledLaws.{pair_step}
use Rattle.density_diagonal.specs.LeftRows.{across_set, LeftSteps}

-- the two writes that set them
pub across-written : (dim r c : ℕ) (b : Block) (old mid end : List Float) {x y v w : Complex} → mid ≡ set_pair old dim c r x y → end ≡ set_pair mid dim (c + 1) r v w
    → x ≡ complex_of b.first.re b.fourth.re → y ≡ complex_of b.first.im b.fourth.im
    → v ≡ complex_of b.second.re b.third.re → w ≡ complex_of b.second.im b.third.im → end ≡ across_set old dim r c b
unfolding across_set
across-written dim r c b old mid end {x} {y} {v} {w} em ee ex ey ev ew =
    ee ∙ ap₂ (λ (s : List Float) (z : Complex). set_pair s dim (c + 1) r z w) (em ∙ ap₂ (set_pair old dim c r) ex ey) ev
    ∙ ap (set_pair (set_pair old dim c r (complex_of b.first.re b.fourth.re) (complex_of b.first.im b.fourth.im)) dim (c + 1) r (complex_of b.second.re b.third.re)) ew

module _ (dim t : ℕ) (f : ℕ → ℕ → Complex) (s now : List Float) (u : ℕ) (h : 2 * t + 1 < dim) (i : LeftSteps dim t f s now u) where
  -- a pair right of the diagonal, above the two rows
  pub right_kept : (r : ℕ) (x y : Complex) → r < 2 * t → LeftSteps dim t f s (set_pair now dim r (2 * t) x y) u
  right_kept r x y hr = record {
    within = i.within;
    long = length-set_pair now dim r (2 * t) x y ∙ i.long;
    surplus = past-pair now dim r (2 * t) x y (omega arith) h ∙ i.surplus;
    upper = row_kept now dim r (2 * t) x y (2 * t) (2 * u) (f (2 * t)) h (omega (arith, i.within)) (λ e. omega arith) i.upper;
    lower = row_kept now dim r (2 * t) x y (2 * t + 1) (2 * u) (f (2 * t + 1)) h (omega (arith, i.within)) (λ e. omega arith) i.lower;
    kept = λ r' c hr' hc. pair-other now dim r (2 * t) x y r' c h (omega arith) (λ _ e. omega arith) (λ _ e. omega arith) ∙ i.kept r' c hr' hc;
  }

  -- the rows as they stand, with nothing done yet
  from-here : PairSteps dim t f now now u
  from-here = record { within = omega (arith, i.within); long = refl; surplus = refl; upper = i.upper; lower = i.lower; kept = λ r c hr hc. refl }

  -- one more block
  left-more : (end : List Float) → u < t → PairSteps dim t f now end (u + 1) → LeftSteps dim t f s end (u + 1)
  left-more end g j = record {
    within = omega arith;
    long = j.long ∙ i.long;
    surplus = j.surplus ∙ i.surplus;
    upper = j.upper;
    lower = j.lower;
    kept = λ r c hr hc. j.kept r c hr (omega arith) ∙ i.kept r c hr hc;
  }

module _ (dim t : ℕ) (f : ℕ → ℕ → Complex) (s now mid end : List Float) (u : ℕ) (b : Block) (p : Square dim now) (h : 2 * t + 1 < dim) where
  -- ONE MORE BLOCK, AND ITS SUMS ACROSS THE DIAGONAL
  pub left_step : LeftSteps dim t f s now u → u < t
      → b.first ≡ f (2 * t) (2 * u) → b.second ≡ f (2 * t) (2 * u + 1) → b.third ≡ f (2 * t + 1) (2 * u) → b.fourth ≡ f (2 * t + 1) (2 * u + 1)
      → mid ≡ set_pair (set_pair now dim (2 * t) (2 * u) b.first b.second) dim (2 * t + 1) (2 * u) b.third b.fourth
      → end ≡ across_set mid dim (2 * t) (2 * u) b → LeftSteps dim t f s end (u + 1)
  unfolding across_set
  left_step i g e1 e2 e3 e4 em ee =
      let j : LeftSteps dim t f s mid (u + 1)
      = left-more dim t f s now u h i mid g (pair_step dim t f now now mid u b p h (from-here dim t f s now u h i) (omega arith) e1 e2 e3 e4 em) in
      subst (λ (x : List Float). LeftSteps dim t f s x (u + 1)) (sym ee)
      (right_kept dim t f s _ (u + 1) h
      (right_kept dim t f s mid (u + 1) h j (2 * u) (complex_of b.first.re b.fourth.re) (complex_of b.first.im b.fourth.im) (omega arith))
      (2 * u + 1) (complex_of b.second.re b.third.re) (complex_of b.second.im b.third.im) (omega arith))
