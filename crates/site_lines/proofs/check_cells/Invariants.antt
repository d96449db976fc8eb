-- `site_lines::check_cells` meets its contract. The loop's invariant: the answer is that of the cells that are left. Assumes nothing.
use mathlib.Core.Path.{◌≡◌}
use Prim.Native.Nat.{◌+◌, ◌-◌}
use Rattle.site_lines.specs.Sources.{cells_from}
use Rattle.site_lines.proofs.check_cells.Given as goal

abbrev pub invariant-loop-t : goal.invariant-loop-t
invariant-loop-t l = cells_from l.s (l.from + l.t) (l.n - l.t) ≡ cells_from l.s l.from l.n
