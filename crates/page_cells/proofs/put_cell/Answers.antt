-- `page_cells::put_cell` meets its contract. Four texts, one after the other.
-- Assumes nothing.
use native.Mathlib.Omega.{arith}
use mathlib.Core.List.{◌++◌}
use lib.ListN.{length-append}
use Rattle.texts.specs.Text.{item_text}
use Rattle.texts.proofs.TextLaws.{length-item, puts_then}
use Rattle.lines.specs.Lines.{blank}
use Rattle.page_lines.specs.PageLines.{hex_item}
use Rattle.page_lines.proofs.PageLineLaws.{length-hex-item}
use Rattle.page_cells.specs.PageCells.{cell_line}
use Rattle.page_cells.proofs.put_cell.Goals as goal

pub put_item-past_column-requires : goal.put_item-past_column-requires
put_item-past_column-requires c = omega (arith, c.requires, c.put_item-past_row.ensures.next, c.put_item-past_row.auto.out, length-item c.args.word.now c.args.row)

pub put_hex_item-past_re-requires : goal.put_hex_item-past_re-requires
put_hex_item-past_re-requires c = omega (arith, c.requires, c.put_item-past_row.ensures.next, c.put_item-past_row.auto.out, length-item c.args.word.now c.args.row, c.put_item-past_column.ensures.next, c.put_item-past_column.auto.out, length-item blank c.args.column)

pub put_bits-requires : goal.put_bits-requires
put_bits-requires c = omega (arith, c.requires, c.put_item-past_row.ensures.next, c.put_item-past_row.auto.out, length-item c.args.word.now c.args.row, c.put_item-past_column.ensures.next, c.put_item-past_column.auto.out, length-item blank c.args.column, c.put_hex_item-past_re.ensures.next, c.put_hex_item-past_re.auto.out, length-hex-item blank c.args.re)

pub returns : goal.returns
unfolding cell_line
returns c =
    let w = c.args.word.now in
    let i = length-item w c.args.row in
    let j = length-item blank c.args.column in
    let h = length-hex-item blank c.args.re in
    let a = length-append (item_text w c.args.row) (item_text blank c.args.column) in
    let b = length-append (item_text w c.args.row ++ item_text blank c.args.column) (hex_item blank c.args.re) in
    puts_then _ _ _ _ _ _ _ _ (omega (arith, c.requires))
    (puts_then _ _ _ _ _ _ _ _ (omega (arith, c.requires))
    (puts_then _ _ _ _ _ _ _ _ (omega (arith, c.requires)) c.put_item-past_row.ensures c.put_item-past_column.ensures) c.put_hex_item-past_re.ensures) c.put_bits.ensures
