use mathlib.Core.Path.{sym, ap}
use Prim.Native.Nat.{ℕ, ◌*◌}
use native.Mathlib.Omega.{arith}
use lib.Seq.{length-take-le}
use Rattle.cutfile.proofs.LayoutLaws.{small_power}
use Rattle.cutfile_result.proofs.ResultLaws.{file-valued}
use Rattle.cutfile_result.proofs.of_file.Goals as goal

pub decode_state-requires : goal.decode_state-requires
decode_state-requires c = record { long_enough = c.requires.0; n_in_bounds = omega (arith, small_power c.args.n c.requires.0.n-small) }

pub slice_bounds-state-end : goal.slice_bounds-state-end
slice_bounds-state-end c = omega (arith, c.bit-components.ensures, small_power c.args.n c.requires.0.n-small)

pub slice_bounds-values_of-end : goal.slice_bounds-values_of-end
slice_bounds-values_of-end c = sym (length-take-le _ _ (omega (arith, c.decode_state.auto.out, c.bit-components.ensures, small_power c.args.n c.requires.0.n-small)))

pub slice_bounds-values_of-end-3 : goal.slice_bounds-values_of-end-3
slice_bounds-values_of-end-3 c = sym (length-take-le _ _ (omega (arith, c.decode_list.auto.out, c.requires.0.k-small, c.requires.1)))

pub returns : goal.returns
returns c = file-valued _ _ _ _ _ _ _ _ _ c.values_of.result _ (ap (λ (x : ℕ). 2 * x) c.bit-components.ensures) c.decode_list.ensures c.decode_state.ensures c.values_of.ensures
