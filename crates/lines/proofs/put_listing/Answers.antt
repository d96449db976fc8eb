-- `lines::put_listing` meets its contract. Four texts, one after the other; their lengths bound the room.
-- Assumes nothing.
use native.Mathlib.Omega.{arith}
use mathlib.Core.List.{◌++◌}
use lib.ListN.{length, length-append}
use Rattle.lines.specs.Lines.{cut_line, side_line, value_lines, listing}
use Rattle.texts.proofs.TextLaws.{puts_then}
use Rattle.lines.proofs.LineLaws.{length_cut, length-side, length-values}
use Rattle.lines.proofs.put_listing.Goals as goal

pub put_side-third-requires : goal.put_side-third-requires
put_side-third-requires c = omega (arith, c.put_cut-second.ensures.next, c.put_cut-second.auto.out, length_cut c.args.n c.args.k c.args.rows c.args.cols)

pub put_values-last-requires : goal.put_values-last-requires
put_values-last-requires c = omega (arith, c.put_cut-second.ensures.next, c.put_cut-second.auto.out, length_cut c.args.n c.args.k c.args.rows c.args.cols, c.put_side-third.ensures.next, c.put_side-third.auto.out, length-side c.args.side.now)

pub put_last-requires : goal.put_last-requires
put_last-requires c =
    let a = c.args in
    let x = c.put_cut-second in
    let y = c.put_side-third in
    let z = c.put_values-last in
    omega (
      arith,
      x.ensures.next,
      x.auto.out,
      length_cut a.n a.k a.rows a.cols,
      y.ensures.next,
      y.auto.out,
      length-side a.side.now,
      z.ensures.next,
      z.auto.out,
      length-values (length a.values.now) a.values.now,
    )

pub returns : goal.returns
unfolding listing
returns c =
    let s = c.args in
    let p = c.requires in
    let u = cut_line s.n s.k s.rows s.cols in
    let v = side_line s.side.now in
    let w = value_lines (length s.values.now) s.values.now in
    let i = length_cut s.n s.k s.rows s.cols in
    let j = length-side s.side.now in
    let k = length-values (length s.values.now) s.values.now in
    let a = length-append u v in
    let b = length-append (u ++ v) w in
    puts_then _ _ _ _ _ _ _ _ (omega arith)
    (puts_then _ _ _ _ _ _ _ _ (omega arith)
    (puts_then _ _ _ _ _ _ _ _ (omega arith) c.put_cut-second.ensures c.put_side-third.ensures)
    c.put_values-last.ensures)
    c.put_last.ensures
