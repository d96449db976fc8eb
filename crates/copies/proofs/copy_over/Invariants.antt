-- `copies::copy_over`: the first i numbers are copied. Assumes nothing.
use Rattle.std.proofs.Common.{◌≡◌, take, length}
use Rattle.copies.proofs.copy_over.Given as goal

abbrev pub invariant-loop-i : goal.invariant-loop-i
invariant-loop-i g l = (length l.to ≡ length l.from) × (take l.i l.to ≡ take l.i l.from)
