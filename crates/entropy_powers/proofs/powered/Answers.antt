use Rattle.entropy_powers.proofs.SquaringLaws.{squared-narrow}
use Rattle.entropy_powers.proofs.powered.Goals as goal

pub squared-b-requires : goal.squared-b-requires
squared-b-requires c = squared-narrow _ c.requires.0 c.requires.1 _ _ c.loop-test.true c.loop.invariant
