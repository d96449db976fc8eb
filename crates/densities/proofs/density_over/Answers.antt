-- `densities::density_over` meets its contract: refused, or the density filled and the scratch zeroed. Assumes nothing.
use Rattle.answers.proofs.Stopped.{was-done}
use Rattle.densities.proofs.DensityLaws.{rest-accepted}
use Rattle.densities.proofs.density_over.Goals as goal

pub fill_density-requires : goal.fill_density-requires
fill_density-requires c = ((rest-accepted _ _ _ _ _ _ c.requires (was-done _ _ c.density_rest.ensures c.in_ok-density_rest.was)).0, c.requires.mask)
