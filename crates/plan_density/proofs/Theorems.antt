-- What a reader may want to know of this crate's definitions and calls. Assumes nothing.
use mathlib.Core.Bool.{true}
use mathlib.Core.Path.{◌≡◌, sym, ap, subst, ◌∙◌}
use mathlib.Core.Bool.{not}
use mathlib.Core.List.{List}
use Prim.Native.Nat.{ℕ, ◌*◌, ◌^◌, ◌<◌}
use borrow.Author.Tests.{not-false}
use lib.Ieee.{Float}
use lib.ListN.{length}
use Rattle.answers.specs.Paper.{Answer, Reply, paper, done}
use Rattle.answers.proofs.PaperLaws.{refuse-done, and_then-done}
use Rattle.answers.proofs.Theorems.{paper-one}
use Rattle.complex.specs.Cells.{written}
use Rattle.cut_naming.specs.Reordered.{Reordered}
use Rattle.cuts.specs.Cut.{CutMatrix, cut_answer}
use Rattle.density_entries.specs.Squares.{entry_at}
use Rattle.densities.specs.Density.{Density, density_answer}
use Rattle.agreement.specs.Across.{AlikeCells}
use Rattle.agreement.specs.Agreement.{HoldsOnce}
use Rattle.agreement.specs.FromCut.{cut_density_cell}
use Rattle.agreement.specs.Renumbered.{renumber}
use Rattle.agreement.proofs.Theorems.{holds-once, agree, cut_again, cut-same, density-again, density-renumbered}
use Rattle.plans.specs.declared.Plan.{Plan}
use Rattle.plans.specs.Plans.{list_of, made, made_reply}
use Rattle.plan_matrix.specs.PlannedCut.{PlannedCut}
use Rattle.plan_matrix.proofs.Theorems.{planned-is-cut}
use Rattle.plan_density.specs.PlannedDensity.{PlannedDensity}
use Rattle.plan_density.proofs.PlannedDensityLaws.{is-density}

-- Only one outcome meets the contract of `planned_reduced_density`.
pub planned-reduced-density-one : (s : List Float) (p : Plan) (o w : List Float) (r r' : Answer) (out out' scratch scratch' : List Float)
    → PlannedDensity s p o w r out scratch → PlannedDensity s p o w r' out' scratch' → (r ≡ r') × (out ≡ out') × (scratch ≡ scratch')
planned-reduced-density-one s p o w r r' out out' scratch scratch' a b =
    (paper-one r r' (a.answer ∙ sym b.answer), a.matrix ∙ sym b.matrix, a.cleared ∙ sym b.cleared)

-- Of a plan that some list makes, `planned_reduced_density` is `dense_reduced_density` of the plan's list under cap 13.
pub planned-is-density : (s : List Float) (p : Plan) (o w : List Float) (r : Answer) (out scratch : List Float)
    → made p ≡ true → PlannedDensity s p o w r out scratch → Density s p.n (list_of p) 13 o w r out scratch
planned-is-density s p o w r out scratch h c = is-density s p o w h r out scratch c

-- ---- demand 3, of planned calls: whatever changes made the plan, for a call that was answered 0 has a plan that some list makes

reply-made : (p : Plan) → (made_reply p).0 ≡ 0 → made p ≡ true
reply-made p e = not-false (made p) (refuse-done (not (made p)) 0 0 done e).0

-- A planned cut that was answered 0 had a plan that its list makes.
pub planned-cut-made : (s : List Float) (p : Plan) (o : List Float) (r : Answer) (m : List Float) → PlannedCut s p o r m → (paper r).0 ≡ 0 → made p ≡ true
planned-cut-made s p o r m c z =
    reply-made p (and_then-done (made_reply p) (cut_answer s p.n (list_of p) 13 (length o)) (sym (ap (λ (x : Reply). x.0) c.answer) ∙ z)).0

-- So had a planned density.
pub planned-density-made : (s : List Float) (p : Plan) (o w : List Float) (r : Answer) (d v : List Float) → PlannedDensity s p o w r d v → (paper r).0 ≡ 0 → made p ≡ true
planned-density-made s p o w r d v c z =
    reply-made p (and_then-done (made_reply p) (density_answer s p.n (list_of p) 13 (length o) (length w)) (sym (ap (λ (x : Reply). x.0) c.answer) ∙ z)).0

module _ (s : List Float) (p : Plan) (o : List Float) (r : Answer) (m : List Float) (c : PlannedCut s p o r m) (z : (paper r).0 ≡ 0) where
  its-cut : CutMatrix s p.n (list_of p) 13 o r m
  its-cut = planned-is-cut s p o r m (planned-cut-made s p o r m c z) c

  -- a. The planned cut holds each amplitude once, in the cell that its index bits name.
  pub planned-holds-once : HoldsOnce s p.n (list_of p) m
  planned-holds-once = holds-once s p.n (list_of p) 13 o r m its-cut z

  -- b. The planned density is the one summed from the planned cut alone, bit for bit.
  pub planned-agree : (o' w : List Float) (r' : Answer) (d w' : List Float) → PlannedDensity s p o' w r' d w' → (paper r').0 ≡ 0
      → d ≡ written (2 ^ length (list_of p) * 2 ^ length (list_of p)) (cut_density_cell p.n (list_of p) m) o'
  planned-agree o' w r' d w' e z' =
      agree s p.n (list_of p) 13 o r m its-cut z 13 o' w r' d w' (planned-is-density s p o' w r' d w' (planned-density-made s p o' w r' d w' e z') e) z'

-- c. Two made plans of one register whose lists are the same in another order: where the one call is answered 0 so is the other. The cut is
-- the same bit for bit, the density but for the numbers of its rows and columns, signs of zeros aside.
module _ (s : List Float) (p p' : Plan) (same : p'.n ≡ p.n) (order : Reordered (list_of p) (list_of p')) (h' : made p' ≡ true) where
  pub planned-cut-same : (o : List Float) (r r' : Answer) (m m' : List Float) → PlannedCut s p o r m → PlannedCut s p' o r' m' → (paper r).0 ≡ 0
      → ((paper r').0 ≡ 0) × (m ≡ m')
  planned-cut-same o r r' m m' c c' z =
      let a = planned-is-cut s p o r m (planned-cut-made s p o r m c z) c in
      let b = subst (λ (n : ℕ). CutMatrix s n (list_of p') 13 o r' m') same (planned-is-cut s p' o r' m' h' c') in
      (cut_again s p.n (list_of p) (list_of p') order 13 o r r' m m' a b z, cut-same s p.n (list_of p) (list_of p') order 13 o r r' m m' a b z)

  pub planned-density-renumbered : (o w : List Float) (r r' : Answer) (d v d' v' : List Float)
      → PlannedDensity s p o w r d v → PlannedDensity s p' o w r' d' v' → (paper r).0 ≡ 0
      → ((paper r').0 ≡ 0) × ((t u : ℕ) → t < 2 ^ length (list_of p) → u < 2 ^ length (list_of p)
      → AlikeCells (entry_at d (2 ^ length (list_of p)) t u)
      (entry_at d' (2 ^ length (list_of p')) (renumber (list_of p) (list_of p') t) (renumber (list_of p) (list_of p') u)))
  planned-density-renumbered o w r r' d v d' v' c c' z =
      let a = planned-is-density s p o w r d v (planned-density-made s p o w r d v c z) c in
      let b = subst (λ (n : ℕ). Density s n (list_of p') 13 o w r' d' v') same (planned-is-density s p' o w r' d' v' h' c') in (
        density-again s p.n (list_of p) (list_of p') order 13 o w r r' d v d' v' a b z,
        density-renumbered s p.n (list_of p) (list_of p') order 13 o w r r' d v d' v' a b z,
      )
