-- `page_matrices::put_unscaled` meets its contract. Two texts, one after the other.
-- Assumes nothing.
use mathlib.Core.Path.{ap, ◌∙◌}
use Prim.Native.Nat.{◌*◌}
use native.Mathlib.Omega.{arith}
use lib.Ieee.{binary64, to_bits}
use Rattle.texts.proofs.TextLaws.{puts_then, puts-as}
use Rattle.page_lines.specs.PageLines.{bits_line}
use Rattle.page_cells.proofs.PageCellLaws.{length-cells}
use Rattle.page_matrices.specs.Matrices.{cell_word, trace_word, unscaled_text}
use Rattle.page_matrices.proofs.put_unscaled.Goals as goal

pub put_bits-requires : goal.put_bits-requires
put_bits-requires c = omega (arith, c.requires.fits, c.put_cells-next.ensures.next, c.put_cells-next.auto.out, length-cells cell_word c.args.dim c.args.rho.now (omega arith) c.requires.some c.requires.small (c.args.dim * c.args.dim) (omega arith))

pub returns : goal.returns
unfolding unscaled_text
returns c =
    let l = length-cells cell_word c.args.dim c.args.rho.now (omega arith) c.requires.some c.requires.small (c.args.dim * c.args.dim) (omega arith) in
    puts_then _ _ _ _ _ _ _ _ (omega (arith, l, c.requires.fits)) c.put_cells-next.ensures
    (puts-as _ _ _ _ _ _ (ap (bits_line trace_word) (c.bits_of-bits.ensures ∙ ap (to_bits binary64) c.trace_of.ensures)) c.put_bits.ensures)
