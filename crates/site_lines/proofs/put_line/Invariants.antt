-- `site_lines::put_line` meets its contract. The loop's invariant: the first t cells of the line are put. Assumes nothing.
use mathlib.Core.Path.{◌≡◌}
use Prim.Native.Nat.{ℕ, ◌<◌}
use Rattle.complex.specs.declared.Complex.{Complex}
use Rattle.site_lines.specs.Sources.{put_line}
use Rattle.site_lines.proofs.put_line.Given as goal

abbrev pub invariant-loop-t : goal.invariant-loop-t
invariant-loop-t g l = (f : ℕ → Complex) → ((t : ℕ) (z : Complex) → t < l.n → goal.F-post g l.cell t z → z ≡ f t) → l.out ≡ put_line f l.base l.initial.out l.t
