-- `lot_tallies::put_part` meets its contract. Assumes nothing.
use mathlib.Core.Path.{refl}
use native.Mathlib.Omega.{arith}
use Rattle.std.proofs.lemmas.Slice.{put_mid-paste}
use Rattle.lot_tallies.specs.Tallies.{part_put}
use Rattle.lot_tallies.proofs.put_part.Goals as goal

pub returns : goal.returns
unfolding part_put
returns c = put_mid-paste _ _ _ _ _ _ c.copy_from_slice.ensures.after (omega arith) refl
