-- The planned density of a made plan is its list's call. Assumes nothing.
use mathlib.Core.Bool.{true, false}
use mathlib.Core.Path.{◌≡◌, ap, ◌∙◌}
use mathlib.Core.List.{List}
use Prim.Native.Nat.{ℕ, ◌*◌, ◌≤◌, min}
use native.Mathlib.Omega.{arith}
use borrow.Author.Tests.{le-ltb}
use lib.Dec.{ltb, eqb}
use lib.Ieee.{Float}
use lib.ListN.{length}
use Rattle.answers.specs.Paper.{Answer, Reply, done, refuse, and_then}
use Rattle.answers.proofs.PaperLaws.{refuse-done, and_then-done}
use Rattle.qubits.specs.Lists.{qubit_set, subsystem, density_sizes}
use Rattle.qubit_offsets.specs.Calls.{density_refusal}
use Rattle.cut_sides.specs.Sides.{cut_sizes, cut_refusal}
use Rattle.densities.specs.Density.{Density, DensityOver}
use Rattle.densities.proofs.DensityLaws.{density-is-over}
use Rattle.plans.specs.declared.Plan.{Plan}
use Rattle.plans.specs.Plans.{list_of, made}
use Rattle.plans.proofs.PlanLaws.{made-accepted}
use Rattle.plan_density.specs.PlannedDensity.{PlannedDensity}

-- ---- a list that a cut accepts and that is not too wide is a density's

module _ (l : List ℕ) (n : ℕ) (e : (cut_refusal l n 13).0 ≡ 0) where
  sizes : (ltb n 1 ≡ false) × (ltb 12 n ≡ false)
  sizes =
      let a = (and_then-done (cut_sizes n 13) (subsystem n l) e).0 in
      let b = refuse-done (ltb n 1) 0 0 _ a in
      (b.0, (refuse-done (ltb 12 n) 0 0 _ b.1).0)

  set : (qubit_set n l).0 ≡ 0
  set = (and_then-done (qubit_set n l) (refuse (eqb (length l) n) (5, 0) done) (and_then-done (cut_sizes n 13) (subsystem n l) e).1).0

  pub few-accepted : length l ≤ 6 → (density_refusal n 13 l).0 ≡ 0
  few-accepted h =
      let w : ltb (min 13 13) (2 * length l) ≡ false = le-ltb (min 13 13) (2 * length l) (omega arith) in
      let d : density_sizes n (length l) 13 ≡ done = rw (sizes.0, sizes.1, w) in
      ap (λ (x : Reply). (and_then x (qubit_set n l)).0) d ∙ set

-- ---- the call

module _ (s : List Float) (p : Plan) (o w : List Float) where
  module _ (h : made p ≡ true) where
    -- a made plan's call is its list's
    module _ (r : Answer) (out scratch : List Float) where
      pub is-density : PlannedDensity s p o w r out scratch → Density s p.n (list_of p) 13 o w r out scratch
      is-density c = record { answer = rw h at c.answer; matrix = rw h at c.matrix; cleared = rw h at c.cleared }

      pub of-density : Density s p.n (list_of p) 13 o w r out scratch → PlannedDensity s p o w r out scratch
      of-density c = record { answer = rw h c.answer; matrix = rw h c.matrix; cleared = rw h c.cleared }

      -- and its work over the kept mask
      pub of-over : length (list_of p) ≤ 6 → DensityOver s p.n (list_of p) o w r out scratch → PlannedDensity s p o w r out scratch
      of-over k c = of-density (density-is-over s p.n (list_of p) 13 o w r out scratch (few-accepted (list_of p) p.n (made-accepted p h) k) c)
