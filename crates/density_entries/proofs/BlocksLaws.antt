-- Laws of what `specs/Blocks.antt` defines. Assumes nothing.
use mathlib.Core.Path.{◌≡◌, refl, sym, ap, ap₂, ◌∙◌}
use mathlib.Core.List.{List}
use Prim.Native.Nat.{ℕ, suc, ◌+◌, ◌*◌, ◌≤◌, ◌<◌, ◌^◌}
use native.Mathlib.Numerals.{add-one}
use native.Mathlib.Omega.{arith}
use lib.Bits.{bit_or, or_lt}
use lib.Ieee.{Float}
use lib.ListN.{length}
use Rattle.complex.specs.declared.Complex.{Complex}
use Rattle.complex.specs.Arithmetic.{complex_of}
use Rattle.complex.specs.Cells.{cell_at}
use Rattle.complex.specs.Zeros.{zero_float}
use Rattle.submasks.specs.Submasks.{submask_at, next_submask}
use Rattle.submasks.proofs.SubmaskLaws.{submask_at-lt, submask_at-first, next-submask_at}
use Rattle.density_entries.specs.declared.Block.{Block}
use Rattle.density_entries.specs.Entries.{total}
use Rattle.density_entries.specs.Blocks.{block_of, block_step, block_sums, Reach}

pub block_same : {p p' q q' r r' s s' : Complex} → p ≡ p' → q ≡ q' → r ≡ r' → s ≡ s' → block_of p q r s ≡ block_of p' q' r' s'
block_same {p} {p'} {q} {q'} {r} {r'} {s} {s'} e f g h =
    ap₂ (λ (x y : Complex). block_of x y r s) e f ∙ ap₂ (λ (x y : Complex). block_of p' q' x y) g h

pub step_same : (k : Block) {a0 a0' a1 a1' b0 b0' b1 b1' : Complex} → a0 ≡ a0' → a1 ≡ a1' → b0 ≡ b0' → b1 ≡ b1'
    → block_step k a0 a1 b0 b1 ≡ block_step k a0' a1' b0' b1'
step_same k {a0} {a0'} {a1} {a1'} {b0} {b0'} {b1} {b1'} e f g h =
    ap₂ (λ (x y : Complex). block_step k x y b0 b1) e f ∙ ap₂ (λ (x y : Complex). block_step k a0' a1' x y) g h

-- ---- the loop over the submasks

pub record SumSteps (n : ℕ) (s : List Float) (mask m a0 a1 b0 b1 : ℕ) (block : Block) (base e : ℕ) : Type 0 where
  pub within : e ≤ m
  pub base-is : base ≡ submask_at n mask e
  pub block-is : block ≡ block_sums n s mask e a0 a1 b0 b1

-- the cell of an offset and the base lies in the state
pub reached : (n : ℕ) (s : List Float) (mask a0 a1 b0 b1 base e a : ℕ) → Reach n s mask a0 a1 b0 b1 → base ≡ submask_at n mask e → a < 2 ^ n
    → 2 * bit_or a base + 1 < length s
reached n s mask a0 a1 b0 b1 base e a p eb h =
    let b : bit_or a base < 2 ^ n = rw eb (or_lt n a (submask_at n mask e) h (submask_at-lt n mask e)) in
    omega (arith, p.long)

module _ (n : ℕ) (s : List Float) (mask m a0 a1 b0 b1 : ℕ) where
  pub sums-begin : (block : Block) (z : Complex) → z ≡ complex_of zero_float zero_float → block ≡ block_of z z z z → SumSteps n s mask m a0 a1 b0 b1 block 0 0
  unfolding block_sums total
  sums-begin block z ez h = record { within = omega arith; base-is = sym (submask_at-first n mask); block-is = h ∙ block_same ez ez ez ez }

  -- one more submask to each of the four
  block_more : (e : ℕ)
      → block_step (block_sums n s mask e a0 a1 b0 b1) (cell_at s (bit_or a0 (submask_at n mask e))) (cell_at s (bit_or a1 (submask_at n mask e)))
      (cell_at s (bit_or b0 (submask_at n mask e))) (cell_at s (bit_or b1 (submask_at n mask e)))
      ≡ block_sums n s mask (suc e) a0 a1 b0 b1
  unfolding block_sums block_step total
  block_more e = refl

  pub sums-step : (block block' : Block) (base base' e : ℕ) → Reach n s mask a0 a1 b0 b1 → SumSteps n s mask m a0 a1 b0 b1 block base e → e < m
      → block' ≡ block_step block (cell_at s (bit_or a0 base)) (cell_at s (bit_or a1 base)) (cell_at s (bit_or b0 base)) (cell_at s (bit_or b1 base))
      → base' ≡ next_submask base mask
      → SumSteps n s mask m a0 a1 b0 b1 block' base' (e + 1)
  sums-step block block' base base' e p i h ek eb = record {
    within = omega arith;
    base-is = eb ∙ ap (λ (x : ℕ). next_submask x mask) i.base-is ∙ next-submask_at n mask e (omega (arith, p.small)) p.mask_lt ∙ ap (submask_at n mask) (sym (add-one e));
    block-is = ek
        ∙ ap₂ (λ (k : Block) (x : ℕ). block_step k (cell_at s (bit_or a0 x)) (cell_at s (bit_or a1 x)) (cell_at s (bit_or b0 x)) (cell_at s (bit_or b1 x))) i.block-is i.base-is
        ∙ block_more e ∙ ap (λ (x : ℕ). block_sums n s mask x a0 a1 b0 b1) (sym (add-one e));
  }

  pub sums-end : (block : Block) (base e : ℕ) → SumSteps n s mask m a0 a1 b0 b1 block base e → m ≤ e → block ≡ block_sums n s mask m a0 a1 b0 b1
  sums-end block base e i h =
      let g : e ≡ m = omega (arith, i.within) in
      i.block-is ∙ ap (λ (x : ℕ). block_sums n s mask x a0 a1 b0 b1) g
