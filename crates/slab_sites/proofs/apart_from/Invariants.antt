-- `slab_sites::apart_from` meets its contract. The loop's invariant: the site is apart from the first j.
-- Assumes nothing.
use mathlib.Core.Path.{◌≡◌}
use mathlib.Core.Bool.{true}
use Rattle.slab_sites.specs.Sites.{apart_from}
use Rattle.slab_sites.proofs.apart_from.Given as goal

abbrev pub invariant-loop-j : goal.invariant-loop-j
invariant-loop-j l = apart_from l.index l.x l.j ≡ true
