-- `page_lines::put_said` meets its contract. Two texts, one after the other.
-- Assumes nothing.
use native.Mathlib.Omega.{arith}
use Rattle.texts.proofs.TextLaws.{puts_then}
use Rattle.page_lines.specs.PageLines.{said_line}
use Rattle.page_lines.proofs.put_said.Goals as goal

pub returns : goal.returns
unfolding said_line
returns c = puts_then _ _ _ _ _ _ _ _ (omega (arith, c.requires)) c.put_text-next.ensures c.put_quiet.ensures
