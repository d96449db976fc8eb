-- `page_two::put_two` meets its contract at each way out. The front of the array is the density.
-- Assumes nothing.
use mathlib.Core.Path.{refl}
use native.Mathlib.Omega.{arith}
use Rattle.answers.specs.Paper.{table}
use Rattle.lines.specs.Lines.{refused_word}
use Rattle.page_lines.proofs.PageLineLaws.{length-reply}
use Rattle.page_two.proofs.PageTwoLaws.{two-refused, listed-few, square-fits, sums-asked, matrices-asked, two-done}
use Rattle.page_two.proofs.put_two.Goals as goal

pub put_kept-requires : goal.put_kept-requires
put_kept-requires c = omega (arith, c.requires.fits, c.put_reply-next.ensures.next, c.put_reply-next.auto.out, length-reply refused_word (table c.in-Err.refusal))

pub returns-in-Err : goal.returns-in-Err
returns-in-Err c = two-refused c.dense_reduced_density.ensures refl refl _ _ _ _ _ _ _ _ _ c.in-Err.is c.requires.fits c.put_reply-next.ensures c.put_kept.ensures

pub bit-dim-requires : goal.bit-dim-requires
bit-dim-requires c = omega (arith, listed-few c.dense_reduced_density.ensures refl refl c.in-Ok.is)

pub overflow_mul-density : goal.overflow_mul-density
overflow_mul-density c = omega (arith, square-fits c.dense_reduced_density.ensures refl refl c.in-Ok.is _ c.bit-dim.ensures)

pub overflow_mul-density-in-Ok : goal.overflow_mul-density-in-Ok
overflow_mul-density-in-Ok c = omega (arith, square-fits c.dense_reduced_density.ensures refl refl c.in-Ok.is _ c.bit-dim.ensures)

pub slice_bounds-density-end : goal.slice_bounds-density-end
slice_bounds-density-end c = omega (arith, square-fits c.dense_reduced_density.ensures refl refl c.in-Ok.is _ c.bit-dim.ensures)

pub summed-same-requires : goal.summed-same-requires
summed-same-requires c = sums-asked c.dense_reduced_density.ensures refl refl c.in-Ok.is _ c.bit-dim.ensures _ _ c.requires

pub put_matrices-requires : goal.put_matrices-requires
put_matrices-requires c = matrices-asked c.dense_reduced_density.ensures refl refl c.in-Ok.is _ c.bit-dim.ensures _ _ c.requires

pub returns-in-Ok : goal.returns-in-Ok
returns-in-Ok c = two-done c.dense_reduced_density.ensures refl refl c.in-Ok.is _ c.bit-dim.ensures _ _ _ _ _ _ _ c.summed-same.ensures c.put_matrices.ensures.puts
