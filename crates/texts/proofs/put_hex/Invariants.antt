-- `texts::put_hex` meets its contract. The loop's invariant: the first i digits are put.
-- Assumes nothing.
use mathlib.Core.Path.{◌≡◌}
use Rattle.texts.specs.Text.{put, hex}
use Rattle.texts.proofs.put_hex.Given as goal

abbrev pub invariant-loop-i : goal.invariant-loop-i
invariant-loop-i l = l.out ≡ put l.at (hex l.i l.bits) l.initial.out
