-- `plan_density::planned_reduced_density` meets its contract: the work over the kept mask is the list's call. Assumes nothing.
use mathlib.Core.Bool.{true}
use mathlib.Core.Path.{◌≡◌, sym, ◌∙◌}
use Prim.Native.Nat.{◌≤◌}
use native.Mathlib.Omega.{arith}
use lib.ListN.{length}
use Rattle.plans.specs.Plans.{list_of, made}
use Rattle.plans.proofs.PlanLaws.{made-accepted, made-count}
use Rattle.densities.proofs.DensityLaws.{density-named}
use Rattle.plan_density.proofs.PlannedDensityLaws.{few-accepted, of-over}
use Rattle.plan_density.proofs.planned_reduced_density.Goals as goal

pub density_over-requires : goal.density_over-requires
density_over-requires c =
    let p = c.args.plan in
    let m : made p ≡ true = sym c.is_made.ensures ∙ c.if-not-is_made.false in
    let few : length (list_of p) ≤ 6 = omega (arith, made-count p m) in
    density-named p.n (list_of p) 13 _ (few-accepted (list_of p) p.n (made-accepted p m) few) c.traced_mask-rest.ensures

pub returns : goal.returns
returns c =
    let p = c.args.plan in
    let m : made p ≡ true = sym c.is_made.ensures ∙ c.if-not-is_made.false in
    let few : length (list_of p) ≤ 6 = omega (arith, made-count p m) in
    of-over _ _ _ _ m _ _ _ few c.density_over.ensures
