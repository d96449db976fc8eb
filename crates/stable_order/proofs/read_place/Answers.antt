-- `stable_order::read_place` meets its contract: a small whole number comes back from its float. Assumes nothing.
use Rattle.stable_order.proofs.PlacesLaws.{castable, read_back, read_low}
use Rattle.stable_order.proofs.read_place.Goals as goal

pub float_to_int-result : goal.float_to_int-result
float_to_int-result c = castable _ _ _ c.requires.0 c.requires.1 c.requires.2

pub returns : goal.returns
returns c = (read_back _ _ _ c.requires.0 c.requires.1 c.requires.2, read_low _ _ _ c.requires.0 c.requires.1 c.requires.2)
