-- Laws of what `specs/Filled.antt` defines. Assumes nothing.
use mathlib.Core.Path.{◌≡◌, sym, ap, subst, ◌∙◌}
use mathlib.Core.List.{List}
use mathlib.Core.Logic.{⊎_elim}
use Prim.Native.Nat.{ℕ, ◌+◌, ◌*◌, ◌<◌}
use native.Mathlib.Nat.{eq-or-lt_of_le}
use native.Mathlib.Omega.{arith}
use lib.Ieee.{Float}
use lib.ListN.{length, get_or}
use Rattle.complex.specs.declared.Complex.{Complex}
use Rattle.density_entries.specs.declared.Block.{Block}
use Rattle.density_entries.specs.Blocks.{Reach}
use Rattle.density_entries.specs.Squares.{Square, entry_at}
use Rattle.density_entries.specs.Pairs.{set_pair, RowIs}
use Rattle.density_entries.proofs.PairsLaws.{length-set_pair, past-pair, row_more, row_kept, entry_kept}
use Rattle.density_entries.specs.Filled.{EntriesReady, PairSteps, LowerSteps}

-- four offsets of the table
pub ready-reach : (n : ℕ) (s : List Float) (mask : ℕ) (offsets : List ℕ) (dim r c : ℕ) → EntriesReady n s mask offsets dim → r + 1 < dim → c + 1 < dim
    → Reach n s mask (get_or offsets r 0) (get_or offsets (r + 1) 0) (get_or offsets c 0) (get_or offsets (c + 1) 0)
ready-reach n s mask offsets dim r c p hr hc = record {
  small = p.small;
  long = p.long;
  mask_lt = p.mask_lt;
  a0-lt = p.below r (omega arith);
  a1-lt = p.below (r + 1) hr;
  b0-lt = p.below c (omega arith);
  b1-lt = p.below (c + 1) hc;
}

module _ (dim t : ℕ) (f : ℕ → ℕ → Complex) (s now end : List Float) (u : ℕ) (b : Block) (p : Square dim s) (ht : 2 * t + 1 < dim) where
  pub pair_step : PairSteps dim t f s now u → u < t + 1
      → b.first ≡ f (2 * t) (2 * u) → b.second ≡ f (2 * t) (2 * u + 1) → b.third ≡ f (2 * t + 1) (2 * u) → b.fourth ≡ f (2 * t + 1) (2 * u + 1)
      → end ≡ set_pair (set_pair now dim (2 * t) (2 * u) b.first b.second) dim (2 * t + 1) (2 * u) b.third b.fourth
      → PairSteps dim t f s end (u + 1)
  pair_step i h e1 e2 e3 e4 ee =
      let mid = set_pair now dim (2 * t) (2 * u) b.first b.second in
      let last = set_pair mid dim (2 * t + 1) (2 * u) b.third b.fourth in
      let hc : 2 * u + 1 < dim = omega arith in
      let two : 2 * u + 2 ≡ 2 * (u + 1) = omega arith in
      let lm : length mid ≡ length now = length-set_pair now dim (2 * t) (2 * u) b.first b.second in
      let pn : Square dim now = record { small = p.small; room = omega (arith, p.room, i.long) } in
      let pm : Square dim mid = record { small = p.small; room = omega (arith, p.room, i.long) } in
      let up : RowIs last dim (2 * t) (2 * u + 2) (f (2 * t))
      = row_kept mid dim (2 * t + 1) (2 * u) b.third b.fourth (2 * t) (2 * u + 2) (f (2 * t)) hc (omega arith) (λ e. omega arith)
      (row_more now dim (2 * t) (2 * u) b.first b.second pn (omega arith) hc (f (2 * t)) e1 e2 i.upper) in
      let low : RowIs last dim (2 * t + 1) (2 * u + 2) (f (2 * t + 1))
      = row_more mid dim (2 * t + 1) (2 * u) b.third b.fourth pm ht hc (f (2 * t + 1)) e3 e4
      (row_kept now dim (2 * t) (2 * u) b.first b.second (2 * t + 1) (2 * u) (f (2 * t + 1)) hc (omega arith) (λ e. omega arith) i.lower) in
      let whole : PairSteps dim t f s last (u + 1)
      = record {
        within = omega arith;
        long = length-set_pair mid dim (2 * t + 1) (2 * u) b.third b.fourth ∙ lm ∙ i.long;
        surplus = past-pair mid dim (2 * t + 1) (2 * u) b.third b.fourth ht hc
            ∙ past-pair now dim (2 * t) (2 * u) b.first b.second (omega arith) hc ∙ i.surplus;
        upper = subst (λ (m : ℕ). RowIs last dim (2 * t) m (f (2 * t))) two up;
        lower = subst (λ (m : ℕ). RowIs last dim (2 * t + 1) m (f (2 * t + 1))) two low;
        kept = λ r c hr g.
            entry_kept mid dim (2 * t + 1) (2 * u) b.third b.fourth r c hc g (λ e. omega arith)
            ∙ entry_kept now dim (2 * t) (2 * u) b.first b.second r c hc g (λ e. omega arith) ∙ i.kept r c hr g;
      } in
      subst (λ (x : List Float). PairSteps dim t f s x (u + 1)) (sym ee) whole

pub lower-step : (dim : ℕ) (f : ℕ → ℕ → Complex) (s now end : List Float) (t : ℕ) → LowerSteps dim f s now t → 2 * t + 1 < dim
    → PairSteps dim t f now end (t + 1) → LowerSteps dim f s end (t + 1)
lower-step dim f s now end t i h j = record {
  within = omega arith;
  long = j.long ∙ i.long;
  surplus = j.surplus ∙ i.surplus;
  rows = λ r c hr hc.
      ⊎_elim
      (λ (e : r ≡ 2 * t + 1). ap (λ (x : ℕ). entry_at end dim x c) e ∙ j.lower.at c (omega arith) ∙ ap (λ (x : ℕ). f x c) (sym e))
      (λ (g : r < 2 * t + 1).
      ⊎_elim
      (λ (e : r ≡ 2 * t). ap (λ (x : ℕ). entry_at end dim x c) e ∙ j.upper.at c (omega arith) ∙ ap (λ (x : ℕ). f x c) (sym e))
      (λ (l : r < 2 * t). j.kept r c l (omega arith) ∙ i.rows r c l hc)
      (eq-or-lt_of_le (omega arith)))
      (eq-or-lt_of_le (omega arith));
}
