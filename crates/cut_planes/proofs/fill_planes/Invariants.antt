-- `cut_planes::fill_planes` meets its contract. The loop's invariant and step are those of `CutPlanesLaws`; here they meet the code.
-- Assumes nothing.
use Prim.Native.Nat.{◌*◌}
use Rattle.cut_planes.proofs.CutPlanesLaws.{Columns}
use Rattle.cut_planes.proofs.fill_planes.Given as goal

abbrev pub invariant-loop-c : goal.invariant-loop-c
invariant-loop-c l = Columns l.n l.inner l.outer l.count l.columns l.conjugated l.state l.initial.work l.work l.c (l.c * l.count) l.bits
