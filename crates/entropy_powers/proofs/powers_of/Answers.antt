-- `entropy_powers::powers_of` meets its contract: the shift drops nothing. Assumes nothing.
use Rattle.entropy_powers.proofs.BandLaws.{moved_in}
use Rattle.entropy_powers.proofs.powers_of.Goals as goal

pub powered-b-requires : goal.powered-b-requires
powered-b-requires c = moved_in _ c.requires.0 c.requires.1
