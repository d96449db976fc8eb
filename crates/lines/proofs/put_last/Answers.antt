-- `lines::put_last` meets its contract. Two texts, one after the other; their lengths bound the room. Assumes nothing.
use native.Mathlib.Omega.{arith}
use Rattle.lines.specs.Lines.{last_lines}
use Rattle.texts.proofs.TextLaws.{puts_then}
use Rattle.lines.proofs.LineLaws.{length-entropy}
use Rattle.lines.proofs.put_last.Goals as goal

pub put_end-requires : goal.put_end-requires
put_end-requires c = omega (arith, c.put_entropy-last.ensures.next, c.put_entropy-last.auto.out, length-entropy c.args.low c.args.high c.args.whole)

pub returns : goal.returns
unfolding last_lines
returns c = puts_then _ _ _ _ _ _ _ _ (omega (arith, length-entropy c.args.low c.args.high c.args.whole)) c.put_entropy-last.ensures c.put_end.ensures
