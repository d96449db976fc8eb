-- `slab_sites::close_gap` meets its contract. The loop's invariant: the first t entries behind the gap have
-- moved. Assumes nothing.
use mathlib.Core.Path.{◌≡◌}
use Rattle.slab_sites.specs.Sites.{shifted}
use Rattle.slab_sites.proofs.close_gap.Given as goal

abbrev pub invariant-loop-t : goal.invariant-loop-t
invariant-loop-t l = l.index ≡ shifted l.initial.index l.i l.t
