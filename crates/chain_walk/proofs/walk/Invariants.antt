use Rattle.chain_walk.specs.Walk.{Walking}
use Rattle.chain_walk.proofs.walk.Given as goal

abbrev pub invariant-loop-j : goal.invariant-loop-j
invariant-loop-j l =
    Walking l.initial.u l.n l.epsilon l.limit l.j l.initial.sites l.initial.bonds l.initial.starts l.initial.marks l.walked.bond l.walked.at l.walked.dropped
    l.sites l.bonds l.starts l.marks l.u
