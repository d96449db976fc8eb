-- `slab_sites::find_site` meets its contract. The loop's invariant: what is left gives the same entry. Assumes
-- nothing.
use mathlib.Core.Path.{◌≡◌}
use Rattle.slab_sites.specs.Sites.{find_site}
use Rattle.slab_sites.proofs.SiteLaws.{seek_site}
use Rattle.slab_sites.proofs.find_site.Given as goal

abbrev pub invariant-loop-i : goal.invariant-loop-i
invariant-loop-i l = seek_site l.index l.number l.n l.i ≡ find_site l.index l.number l.n
