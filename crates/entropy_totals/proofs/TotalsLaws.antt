-- The sums where no weight is left, and where some is. Assumes nothing.
use mathlib.Core.Path.{◌≡◌, sym, ap, ap₂, subst, ◌∙◌}
use mathlib.Core.List.{List, []}
use Prim.Native.Nat.{ℕ, ◌*◌, ◌^◌, ◌≤◌, ◌<◌}
use native.Mathlib.Omega.{arith}
use lib.Ieee.{Float}
use lib.ListN.{length, replicate}
use Rattle.entropy_powers.specs.declared.Powers.{Powers}
use Rattle.entropy_powers.specs.Powers.{powers_of}
use Rattle.entropy_sums.specs.declared.Sums.{Sums}
use Rattle.entropy_sums.specs.Sums.{weights_left, whole_weight, low_sum, high_sum, FillReady, Filled}
use Rattle.entropy_sums.proofs.SumLaws.{none_left, whole-less}
use Rattle.entropy_sums.proofs.FillLaws.{some-weight}
use Rattle.entropy_totals.specs.declared.Totals.{Totals}
use Rattle.entropy_totals.specs.Totals.{totals_of}

abbrev totals_at : ℕ → ℕ → ℕ → Totals
totals_at l h w = record { low = l; high = h; whole = w }

pub totals-none : (values : List Float) (all : ℕ) → all ≡ whole_weight values → all ≡ 0 → totals_at 0 0 0 ≡ totals_of values
unfolding totals_of low_sum high_sum
totals-none values all e z =
    let n : [] ≡ weights_left values = sym (none_left values (sym e ∙ z)) in
    let w : 0 ≡ whole_weight values = sym (sym e ∙ z) in
    ap₂ (λ (l : List ℕ) (k : ℕ). totals_at (low_sum k l) (high_sum k l) (4096 * k)) n w

pub totals-some : (values : List Float) (all long : ℕ) (s : Sums) (end : List ℕ) → all ≡ whole_weight values → Filled values long s end → totals_at s.low s.high (4096 * all) ≡ totals_of values
unfolding totals_of
totals-some values all long s end e f =
    ap₂ (λ (l h : ℕ). totals_at l h (4096 * all)) f.low-is f.high_is
    ∙ ap (λ (k : ℕ). totals_at (low_sum (whole_weight values) (weights_left values)) (high_sum (whole_weight values) (weights_left values)) (4096 * k)) e

pub whole-lt : (values : List Float) (all : ℕ) → all ≡ whole_weight values → length values ≤ 64 → all < 2 ^ 32
whole-lt values all e h = omega (arith, e, whole-less values h)

pub fill-ready : (values : List Float) (all : ℕ) (p : Powers) (bands : List ℕ) → length values ≤ 64 → bands ≡ replicate 192 0 → length bands ≡ 192 → all ≡ whole_weight values
    → (all ≡ 0 → ⊥) → p ≡ powers_of all → FillReady values p bands
fill-ready values all p bands h b k e z f = record {
  few = h;
  some = subst (λ (y : ℕ). 0 < y) e (some-weight all z);
  powers = f ∙ ap powers_of e;
  long = omega (arith, h, k);
  blank = b ∙ ap (λ (y : ℕ). replicate y 0) (sym k);
}
