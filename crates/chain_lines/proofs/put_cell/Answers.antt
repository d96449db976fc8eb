-- `chain_lines::put_cell` meets its contract. Three texts, one after the other. Assumes nothing.
use native.Mathlib.Omega.{arith}
use Rattle.texts.proofs.TextLaws.{length-item}
use Rattle.lines.specs.Lines.{blank}
use Rattle.page_lines.proofs.PageLineLaws.{length-hex-item}
use Rattle.chain_lines.proofs.ChainLineLaws.{three-texts}
use Rattle.chain_lines.specs.ChainLines.{site_cell_word, site_cell_line}
use Rattle.chain_lines.proofs.put_cell.Goals as goal

pub put_hex_item-last-requires : goal.put_hex_item-last-requires
put_hex_item-last-requires c = omega (arith, c.put_item-past.ensures.next, c.put_item-past.auto.out, length-item site_cell_word c.args.k, c.requires)

pub put_bits-requires : goal.put_bits-requires
put_bits-requires c = omega (arith, c.put_item-past.ensures.next, c.put_item-past.auto.out, length-item site_cell_word c.args.k, c.put_hex_item-last.ensures.next, c.put_hex_item-last.auto.out, length-hex-item blank c.args.re, c.requires)

pub returns : goal.returns
unfolding site_cell_line
returns c = three-texts _ _ _ _ _ _ _ _ _ _ _ (omega (arith, length-item site_cell_word c.args.k, length-hex-item blank c.args.re, c.requires)) c.put_item-past.ensures c.put_hex_item-last.ensures c.put_bits.ensures
