-- `chain_lines::put_sites` meets its contract. The loop's invariant: the lines of the first j sites are put. Assumes nothing.
use Rattle.texts.specs.Text.{Puts}
use Rattle.chain_lines.specs.ChainLines.{site_texts}
use Rattle.chain_lines.proofs.put_sites.Given as goal

abbrev pub invariant-loop-j : goal.invariant-loop-j
invariant-loop-j l = Puts l.at (site_texts l.n l.sites l.bonds l.starts l.marks l.j) l.initial.out l.next l.out
