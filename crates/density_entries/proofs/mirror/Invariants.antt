-- `density_entries::mirror` meets its contract. The loop's invariant and its step are those of `Mirrored`. Assumes nothing.
use Rattle.density_entries.proofs.MirroredLaws.{MirrorSteps}
use Rattle.density_entries.proofs.mirror.Given as goal

abbrev pub invariant-loop-t : goal.invariant-loop-t
invariant-loop-t l = MirrorSteps l.dim l.initial.rho l.rho l.t
