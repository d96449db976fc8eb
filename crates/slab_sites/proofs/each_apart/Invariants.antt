-- `slab_sites::each_apart` meets its contract. The loop's invariant: each of the first i sites is inside and
-- apart from all before it. Assumes nothing.
use mathlib.Core.Path.{◌≡◌}
use mathlib.Core.Bool.{true}
use Rattle.slab_sites.specs.Sites.{each_apart}
use Rattle.slab_sites.proofs.each_apart.Given as goal

abbrev pub invariant-loop-i : goal.invariant-loop-i
invariant-loop-i l = each_apart l.index l.i ≡ true
