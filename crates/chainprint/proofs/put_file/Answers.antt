-- `chainprint::put_file` meets its contract. Assumes nothing.
use mathlib.Core.Path.{sym, ap}
use mathlib.Core.List.{List}
use native.Mathlib.Omega.{arith}
use lib.Ieee.{Float}
use lib.Seq.{length-take-le}
use Rattle.cutfile.proofs.LayoutLaws.{small_power}
use Rattle.texts.proofs.TextLaws.{puts-as}
use Rattle.chainprint.specs.Printout.{state_text}
use Rattle.chainprint.proofs.PrintoutLaws.{state-read}
use Rattle.chainprint.proofs.put_file.Goals as goal

pub decode_state-requires : goal.decode_state-requires
decode_state-requires c = record { long_enough = c.requires.long_enough; n_in_bounds = omega (arith, small_power c.args.n c.requires.long_enough.n-small) }

pub slice_bounds-state-end : goal.slice_bounds-state-end
slice_bounds-state-end c = omega (arith, c.bit-components.ensures, small_power c.args.n c.requires.long_enough.n-small)

pub slice_bounds-put_state-end : goal.slice_bounds-put_state-end
slice_bounds-put_state-end c = sym (length-take-le _ _ (omega (arith, c.decode_state.auto.out, c.bit-components.ensures, small_power c.args.n c.requires.long_enough.n-small)))

pub put_state-requires : goal.put_state-requires
put_state-requires c = (c.requires.long_enough.n-small, c.requires.out_len)

pub returns : goal.returns
returns c = record { puts = puts-as _ _ _ _ _ _ (ap (λ (l : List Float). state_text l c.args.n) (state-read _ _ _ _ _ _ c.bit-components.ensures c.decode_state.ensures)) c.put_state.ensures.puts; prefix_len = c.put_state.ensures.prefix_len }
