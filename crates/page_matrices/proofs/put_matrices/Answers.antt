-- `page_matrices::put_matrices` meets its contract. Four texts, one after the other.
-- Assumes nothing.
use mathlib.Core.Path.{refl}
use mathlib.Core.List.{◌++◌}
use native.Mathlib.Omega.{arith}
use lib.ListN.{length-append}
use Rattle.texts.proofs.TextLaws.{puts_then}
use Rattle.page_cells.proofs.PageCellLaws.{square-small}
use Rattle.page_matrices.specs.Matrices.{cell_word, scaled_word, unscaled_text, kept_text, scaled_text, matrices_text}
use Rattle.page_matrices.proofs.MatricesLaws.{length-unscaled, length-kept, length-scaled, drawn-lined}
use Rattle.page_matrices.proofs.put_matrices.Goals as goal

pub put_unscaled-second-requires : goal.put_unscaled-second-requires
put_unscaled-second-requires c = drawn-lined cell_word _ _ _ _ _ _ (omega arith) c.requires refl (omega arith)

pub put_kept-third-requires : goal.put_kept-third-requires
put_kept-third-requires c = omega (arith, c.requires.fits, c.put_unscaled-second.ensures.next, c.put_unscaled-second.auto.out, length-unscaled c.args.rho.now c.args.dim c.requires.some c.requires.small, square-small c.args.dim c.requires.small)

pub put_scaled-last-requires : goal.put_scaled-last-requires
put_scaled-last-requires c = drawn-lined scaled_word _ _ _ _ _ _ (omega arith) c.requires (omega (arith, c.put_unscaled-second.auto.out, c.put_kept-third.auto.out)) (omega (arith, c.put_unscaled-second.ensures.next, c.put_kept-third.ensures.next, length-unscaled c.args.rho.now c.args.dim c.requires.some c.requires.small, length-kept c.args.accepted c.args.total, square-small c.args.dim c.requires.small))

pub put_said-requires : goal.put_said-requires
put_said-requires c = omega (arith, c.requires.fits, c.put_unscaled-second.ensures.next, c.put_unscaled-second.auto.out, c.put_kept-third.ensures.next, c.put_kept-third.auto.out, c.put_scaled-last.ensures.puts.next, c.put_scaled-last.auto.out, length-unscaled c.args.rho.now c.args.dim c.requires.some c.requires.small, length-kept c.args.accepted c.args.total, length-scaled c.args.rho.now c.args.dim c.requires.some c.requires.small, square-small c.args.dim c.requires.small)

pub returns : goal.returns
unfolding matrices_text
returns c = let rho = c.args.rho.now in
    let a = length-append (unscaled_text rho c.args.dim) (kept_text c.args.accepted c.args.total) in
    let b = length-append (unscaled_text rho c.args.dim ++ kept_text c.args.accepted c.args.total) (scaled_text rho c.args.dim) in
    let l = length-unscaled rho c.args.dim c.requires.some c.requires.small in
    let k = length-kept c.args.accepted c.args.total in
    let m = length-scaled rho c.args.dim c.requires.some c.requires.small in
    let q = square-small c.args.dim c.requires.small in record {
      puts = puts_then _ _ _ _ _ _ _ _ (omega (arith, c.requires.fits))
          (puts_then _ _ _ _ _ _ _ _ (omega (arith, c.requires.fits))
          (puts_then _ _ _ _ _ _ _ _ (omega (arith, c.requires.fits)) c.put_unscaled-second.ensures c.put_kept-third.ensures) c.put_scaled-last.ensures.puts) c.put_said.ensures;
      rho_after = c.put_scaled-last.ensures.rho_after;
    }
