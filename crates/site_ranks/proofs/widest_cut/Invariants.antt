-- `site_ranks::widest_cut` meets its contract. The loop's invariant: the widest of the first k cuts. Assumes nothing.
use mathlib.Core.Path.{◌≡◌}
use Rattle.site_ranks.specs.Ranks.{widest_to}
use Rattle.site_ranks.proofs.widest_cut.Given as goal

abbrev pub invariant-loop-k : goal.invariant-loop-k
invariant-loop-k l = l.widest ≡ widest_to l.bond_left l.bond_right l.n l.k
