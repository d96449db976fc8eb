-- Schmidt values from a density at each way out, and that the contract leaves one outcome. Assumes nothing.
use mathlib.Core.Path.{◌≡◌, sym, ap, ◌∙◌}
use mathlib.Core.List.{List, ◌++◌}
use Prim.Native.Nat.{ℕ, ◌*◌, ◌≤◌}
use native.Mathlib.Omega.{arith}
use native.Mathlib.Nat.{mul-le-mul_right}
use lib.Ieee.{Float}
use lib.ListN.{length, take, drop}
use Rattle.std.specs.Prelude.{Result, Err}
use Rattle.answers.specs.declared.Refusal.{Refusal}
use Rattle.answers.proofs.Stopped.{stopped-number}
use Rattle.answers.specs.Paper.{Reply, paper, table, given, if_done}
use Rattle.answers.proofs.PaperLaws.{stays, worked-new, worked-old, done-old, end-old, end-worked}
use Rattle.complex.specs.Zeros.{zeroed}
use Rattle.tables.specs.Tables.{filled}
use Rattle.tables.proofs.TablesLaws.{take-filled}
use Rattle.sweeps.specs.Sweeping.{no_sweeps}
use Rattle.factored.specs.declared.Counted.{Counted}
use Rattle.factored.specs.Factored.{kept_sweeps, no_count}
use Rattle.finish.specs.Finish.{padded}
use Rattle.finish.proofs.OutcomeLaws.{reply-worked}
use Rattle.values.specs.Sort.{sorted_down}
use Rattle.weights.specs.Weights.{roots_of}
use Rattle.weights.specs.WeightOutcome.{WeightOutcome}
use Rattle.spectra.specs.Eigenvalues.{eigenvalue, eigenvalues_of, eigenvalues_sweeps, square_refusal}
use Rattle.spectra.proofs.OutcomeLaws.{past_is, square-small, zeroed-part}
use Rattle.spectra.specs.Density.{density_values, density_values_reply, density_values_answer, DensityWorked, DensityValues}

-- there is room for the roots beside the matrix
pub side-fits : (n : ℕ) → 1 ≤ n → n ≤ 2 * (n * n)
side-fits n h = omega (arith, mul-le-mul_right n h)

-- what lies past the needed part is as it was
padded-past : (n : ℕ) (l a b : List Float) → drop n a ≡ drop n b → padded n l a ≡ padded n l b
unfolding padded
padded-past n l a b e = rw e

zeroed-past : (n : ℕ) (a b : List Float) → drop n a ≡ drop n b → zeroed n a ≡ zeroed n b
unfolding zeroed
zeroed-past n a b e = rw e

past : (x n : ℕ) (l a b : List Float) → drop n a ≡ drop n b → if_done x (padded n l a) (zeroed n a) ≡ if_done x (padded n l b) (zeroed n b)
past x n l a b e = rw (padded-past n l a b e, zeroed-past n a b e)

-- the counts of what the finish left, under its answer, with the sweeps
pub density-made : (rho : List Float) (n : ℕ) (out work mid : List Float) (r : Result ℕ Refusal) (end work' : List Float) (q : Result Counted Refusal)
    → mid ≡ filled n (eigenvalue rho n) out → WeightOutcome n mid r end → work' ≡ zeroed (2 * (n * n)) work
    → paper q ≡ paper r → (given no_count q).count ≡ given 0 r → (given no_count q).sweeps ≡ kept_sweeps q (eigenvalues_sweeps rho n)
    → DensityWorked rho n out work q end work'
density-made rho n out work mid r end work' q e o c a k w =
    let t : take n mid ≡ eigenvalues_of rho n = rw e (take-filled n (eigenvalue rho n) out) in
    let d : drop n mid ≡ drop n out = rw e (past_is n (eigenvalue rho n) out) in
    record {
      answer = a ∙ rw t at o.answer;
      count = k ∙ rw t at o.count;
      values = rw t at o.values ∙ past (density_values_reply rho n).0 n (density_values rho n) mid out d;
      cleared = c;
      sweeps-are = w;
    }

-- ---- the entry point

-- refused: nothing lent changes
pub density-refused : (rho : List Float) (n : ℕ) (out scratch : List Float) (e : Refusal) → table e ≡ square_refusal rho n (length out) (length scratch)
    → DensityValues rho n out scratch (Err e) out scratch
density-refused rho n out scratch r e =
    let x = square_refusal rho n (length out) (length scratch) in
    let h = stopped-number r in
    let m : x.0 ≡ 0 → ⊥ = λ z. h (ap (λ (y : Reply). y.0) e ∙ z) in
    let s = sym (stays x (density_values_reply rho n) m) in
    let l = square-small rho n (length out) (length scratch) in
    record {
      answer = e ∙ sym s;
      count = rw s (done-old _ _ _ m);
      values = rw s (end-old _ _ _ _ m l);
      cleared = rw s (worked-old _ _ _ m l);
      sweeps-are = done-old _ _ no_sweeps h;
    }

pub density-worked : (rho : List Float) (n : ℕ) (out scratch work : List Float) (r : Result Counted Refusal) (out' work' : List Float)
    → density_values_answer rho n out scratch ≡ density_values_reply rho n → work ≡ take (2 * (n * n)) scratch → 2 * (n * n) ≤ length scratch
    → DensityWorked rho n out work r out' work'
    → DensityValues rho n out scratch r out' (work' ++ drop (2 * (n * n)) scratch)
density-worked rho n out scratch work r out' work' e g h w =
    let k = reply-worked (sorted_down (roots_of (eigenvalues_of rho n))) in
    let c : work' ++ drop (2 * (n * n)) scratch ≡ zeroed (2 * (n * n)) scratch = zeroed-part (2 * (n * n)) scratch work' h (rw g at w.cleared) in
    record {
      answer = w.answer ∙ sym e;
      count = rw e w.count;
      values = rw e (w.values ∙ end-worked _ _ _ out k);
      cleared = rw e (c ∙ worked-new _ _ scratch k);
      sweeps-are = w.sweeps-are;
    }
