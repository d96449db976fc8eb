-- Laws of what `specs/Corners.antt` defines. Assumes nothing.
use mathlib.Core.Path.{◌≡◌, refl, sym, ap, ap₂, subst, ◌∙◌}
use mathlib.Core.Bool.{true}
use mathlib.Core.List.{List}
use Prim.Native.Nat.{ℕ, ◌+◌, ◌*◌, ◌≤◌, ◌<◌}
use native.Mathlib.Numerals.{add-one}
use native.Mathlib.Omega.{arith}
use lib.Bits.{bit_or}
use lib.Ieee.{Float, binary64, add}
use lib.ListN.{length}
use Rattle.complex.specs.declared.Complex.{Complex}
use Rattle.complex.specs.Arithmetic.{complex_of, sum_of, product, conjugate, norm_sqr}
use Rattle.complex.specs.Cells.{cell_at}
use Rattle.complex.specs.Zeros.{zero_float}
use Rattle.components.specs.Every.{every_allowed}
use Rattle.components.proofs.EveryLaws.{every-at}
use Rattle.submasks.specs.Submasks.{submask_at, next_submask}
use Rattle.submasks.proofs.SubmaskLaws.{submask_at-first, next-submask_at}
use Rattle.density_entries.specs.Entries.{density_term}
use Rattle.density_entries.specs.Blocks.{Reach}
use Rattle.density_entries.proofs.BlocksLaws.{reached}
use Rattle.density_rows.proofs.RowSumsLaws.{total-none, total-more}
use Rattle.density_diagonal.specs.declared.Corner.{Corner}
use Rattle.density_diagonal.proofs.OwnProduct.{own-product, zero-zero}
use Rattle.density_diagonal.specs.Corners.{corner_of, corner_step, CornerSums}

pub record CornerSteps (n : ℕ) (s : List Float) (mask m a0 a1 : ℕ) (k : Corner) (base e : ℕ) : Type 0 where
  pub within : e ≤ m
  pub base-is : base ≡ submask_at n mask e
  pub sums : CornerSums n s mask e a0 a1 k

pub step-alike : (k : Corner) {a a' b b' : Complex} → a ≡ a' → b ≡ b' → corner_step k a b ≡ corner_step k a' b'
step-alike k e f = ap₂ (corner_step k) e f

-- one more term of an entry on the diagonal
own-more : (s : List Float) (x : ℕ) (p : Float) (t : Complex) → every_allowed s ≡ true → 2 * x + 1 < length s → complex_of p zero_float ≡ t
    → complex_of (add binary64 p (norm_sqr (cell_at s x))) zero_float ≡ sum_of t (product (cell_at s x) (conjugate (cell_at s x)))
unfolding sum_of
own-more s x p t ev h e =
    ap (complex_of (add binary64 p (norm_sqr (cell_at s x)))) (sym zero-zero)
    ∙ ap₂ sum_of e (sym (own-product (cell_at s x) (every-at s (2 * x) ev (omega arith)) (every-at s (2 * x + 1) ev h)))

module _ (n : ℕ) (s : List Float) (mask m a0 a1 : ℕ) where
  pub corner-begin : (k : Corner) (z : Complex) → z ≡ complex_of zero_float zero_float → k ≡ corner_of zero_float z zero_float → CornerSteps n s mask m a0 a1 k 0 0
  corner-begin k z ez ek = record {
    within = omega arith;
    base-is = sym (submask_at-first n mask);
    sums = subst (λ (x : Corner). CornerSums n s mask 0 a0 a1 x) (sym ek)
        (record { first-is = total-none (density_term n s mask a0 a0); between_is = ez ∙ total-none (density_term n s mask a1 a0); last-is = total-none (density_term n s mask a1 a1) });
  }

  more : (k : Corner) (e : ℕ) → every_allowed s ≡ true → 2 * bit_or a0 (submask_at n mask e) + 1 < length s → 2 * bit_or a1 (submask_at n mask e) + 1 < length s
      → CornerSums n s mask e a0 a1 k
      → CornerSums n s mask (e + 1) a0 a1 (corner_step k (cell_at s (bit_or a0 (submask_at n mask e))) (cell_at s (bit_or a1 (submask_at n mask e))))
  unfolding corner_step
  more k e ev h0 h1 i = record {
    first-is = own-more s (bit_or a0 (submask_at n mask e)) k.first _ ev h0 i.first-is ∙ total-more e (density_term n s mask a0 a0);
    between_is = ap (λ (z : Complex). sum_of z (density_term n s mask a1 a0 e)) i.between_is ∙ total-more e (density_term n s mask a1 a0);
    last-is = own-more s (bit_or a1 (submask_at n mask e)) k.last _ ev h1 i.last-is ∙ total-more e (density_term n s mask a1 a1);
  }

  pub corner-step : (k k' : Corner) (base base' e : ℕ) → Reach n s mask a0 a1 a0 a1 → every_allowed s ≡ true → CornerSteps n s mask m a0 a1 k base e → e < m
      → k' ≡ corner_step k (cell_at s (bit_or a0 base)) (cell_at s (bit_or a1 base)) → base' ≡ next_submask base mask → CornerSteps n s mask m a0 a1 k' base' (e + 1)
  corner-step k k' base base' e p ev i h ek eb = record {
    within = omega arith;
    base-is = eb ∙ ap (λ (x : ℕ). next_submask x mask) i.base-is ∙ next-submask_at n mask e (omega (arith, p.small)) p.mask_lt ∙ ap (submask_at n mask) (sym (add-one e));
    sums = subst (λ (x : Corner). CornerSums n s mask (e + 1) a0 a1 x)
        (sym (ek ∙ ap (λ (x : ℕ). corner_step k (cell_at s (bit_or a0 x)) (cell_at s (bit_or a1 x))) i.base-is))
        (more k e ev (reached n s mask a0 a1 a0 a1 (submask_at n mask e) e a0 p refl p.a0-lt) (reached n s mask a0 a1 a0 a1 (submask_at n mask e) e a1 p refl p.a1-lt) i.sums);
  }
