-- `certificate_front::put_head` meets its contract. Two texts, one after the other.
-- Assumes nothing.
use native.Mathlib.Omega.{arith}
use Rattle.texts.proofs.TextLaws.{puts_then}
use Rattle.certificate_front.specs.Front.{head_text}
use Rattle.certificate_front.proofs.put_head.Goals as goal

pub returns : goal.returns
unfolding head_text
returns c = puts_then _ _ _ _ _ _ _ _ (omega (arith, c.requires)) c.put_text-next.ensures c.put_bits.ensures
