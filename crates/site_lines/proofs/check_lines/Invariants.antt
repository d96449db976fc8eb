-- `site_lines::check_lines` meets its contract. The loop's invariant: the answer is that of the lines that are left. Assumes nothing.
use mathlib.Core.Path.{◌≡◌}
use Prim.Native.Nat.{◌-◌}
use Rattle.site_lines.specs.Sources.{lines_from}
use Rattle.site_lines.proofs.check_lines.Given as goal

abbrev pub invariant-loop-i : goal.invariant-loop-i
invariant-loop-i l = lines_from l.s l.stride l.width l.i (l.chi - l.i) ≡ lines_from l.s l.stride l.width 0 l.chi
