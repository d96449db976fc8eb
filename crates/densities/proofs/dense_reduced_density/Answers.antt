-- `densities::dense_reduced_density` meets its contract: 1 to 4 refuse, or the work over the accepted list is the call. Assumes nothing.
use mathlib.Core.Path.{ap₂}
use Prim.Native.Nat.{ℕ, ◌-◌}
use Rattle.answers.proofs.Stopped.{was-done}
use Rattle.qubit_offsets.proofs.CallLaws.{density-listed}
use Rattle.densities.proofs.DensityLaws.{density-named}
use Rattle.densities.proofs.dense_reduced_density.Goals as goal

pub mask_of-mask-requires : goal.mask_of-mask-requires
mask_of-mask-requires c = (density-listed _ c.args.cap _ (was-done _ _ c.density_refusal.ensures c.in_ok-density_refusal.was)).0

pub density_over-requires : goal.density_over-requires
density_over-requires c =
    density-named _ _ c.args.cap _ (was-done _ _ c.density_refusal.ensures c.in_ok-density_refusal.was)
    (ap₂ (λ (x y : ℕ). x - 1 - y) c.bit.ensures c.mask_of-mask.ensures.0)
