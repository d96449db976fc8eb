use Rattle.profile_walk.specs.Page.{Walking}
use Rattle.profile_walk.proofs.walk.Given as goal

abbrev pub invariant-loop-j : goal.invariant-loop-j
invariant-loop-j l = Walking l.state l.n l.j l.at l.header l.values l.largest l.ranks l.marks
