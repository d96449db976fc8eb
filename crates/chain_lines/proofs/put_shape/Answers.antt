-- `chain_lines::put_shape` meets its contract. Two texts, one after the other. Assumes nothing.
use native.Mathlib.Omega.{arith}
use Rattle.texts.proofs.TextLaws.{length-item, puts_then}
use Rattle.chain_lines.specs.ChainLines.{site_word, site_line}
use Rattle.chain_lines.proofs.put_shape.Goals as goal

pub put_pair_line-requires : goal.put_pair_line-requires
put_pair_line-requires c = omega (arith, c.put_item-past.ensures.next, c.put_item-past.auto.out, length-item site_word c.args.j, c.requires)

pub returns : goal.returns
unfolding site_line
returns c = puts_then _ _ _ _ _ _ _ _ (omega (arith, length-item site_word c.args.j, c.requires)) c.put_item-past.ensures c.put_pair_line.ensures
