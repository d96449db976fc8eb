use native.Mathlib.Omega.{arith}
use Rattle.qr_column.proofs.DotPartsLaws.{parts-none, parts-more, parts-end}
use Rattle.qr_column.proofs.quads.Goals as goal

pub loop-k-init : goal.loop-k-init
loop-k-init g c = parts-none _ _ _ _

pub loop-k-preserved : goal.loop-k-preserved
loop-k-preserved g c =
    parts-more _ _ _ _ _ c.dot_term.ensures c.dot_term-in-loop-k.ensures c.dot_term-in-loop-k-2.ensures c.dot_term-in-loop-k-3.ensures c.part.ensures c.part-in-loop-k.ensures c.part-in-loop-k-2.ensures c.part-in-loop-k-3.ensures c.loop-k.invariant

pub returns : goal.returns
returns g c = parts-end _ _ _ _ c.loop-k.invariant (omega arith) (omega arith)
