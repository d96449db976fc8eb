-- `densities::density_rest` meets its contract. Assumes nothing.
use native.Mathlib.Omega.{arith}
use Rattle.qubits.proofs.NamedLaws.{pow_small}
use Rattle.densities.proofs.DensityLaws.{side-small}
use Rattle.densities.proofs.density_rest.Goals as goal

pub density_lengths-requires : goal.density_lengths-requires
density_lengths-requires c =
    (omega (arith, c.bit-size.ensures, pow_small c.args.n c.requires.0), omega (arith, c.bit-dim.ensures, side-small c.args.k c.requires.1))
