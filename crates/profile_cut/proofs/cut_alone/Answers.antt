-- `profile_cut::cut_alone` meets its contract: the work over the sides of the list 0..j. Assumes nothing.
use native.Mathlib.Omega.{arith}
use mathlib.Core.Path.{sym}
use lib.Seq.{length-take-le}
use Rattle.profile_cut.proofs.CutLaws.{names-few, names-are, first-parted, sides-ready, alone-made}
use Rattle.profile_cut.proofs.cut_alone.Goals as goal

pub slice_bounds-sides_of-end : goal.slice_bounds-sides_of-end
slice_bounds-sides_of-end c = sym (length-take-le _ _ (omega (arith, c.requires.inside, c.requires.small)))

pub sides_of-cut-requires : goal.sides_of-cut-requires
sides_of-cut-requires c = first-parted _ _ _ _ _ _ _ c.requires (names-are _ (names-few _ _ c.requires.inside c.requires.small))

pub values_made-requires : goal.values_made-requires
values_made-requires c = sides-ready _ _ _ _ _ _ _ _ c.requires (names-are _ (names-few _ _ c.requires.inside c.requires.small)) c.sides_of-cut.ensures

pub returns : goal.returns
returns c = alone-made _ _ _ _ _ _ c.values_made.result (names-are _ (names-few _ _ c.requires.inside c.requires.small)) c.sides_of-cut.ensures c.values_made.ensures
