-- `certificate_back::put_back` meets its contract. The front of the array is the file's state.
-- Assumes nothing.
use mathlib.Core.Path.{refl, sym, ap}
use Prim.Native.Nat.{ℕ, ◌*◌}
use native.Mathlib.Omega.{arith}
use lib.Seq.{length-take-le}
use Rattle.certificate_back.proofs.BackLaws.{two-next, components-fit, totalled, back_done}
use Rattle.certificate_back.proofs.put_back.Goals as goal

pub decode_state-requires : goal.decode_state-requires
decode_state-requires c = record { long_enough = c.requires.fits; n_in_bounds = omega (arith, components-fit _ _ _ _ _ _ c.requires) }

pub slice_bounds-cells-end : goal.slice_bounds-cells-end
slice_bounds-cells-end c = omega (arith, c.bit.ensures, components-fit _ _ _ _ _ _ c.requires)

pub slice_bounds-state-end : goal.slice_bounds-state-end
slice_bounds-state-end c = sym (length-take-le _ _ (omega (arith, c.decode_state.auto.out, c.bit.ensures, components-fit _ _ _ _ _ _ c.requires)))

pub kept_total-requires : goal.kept_total-requires
kept_total-requires c = totalled _ _ _ _ _ _ c.requires _ _ _ (ap (λ (x : ℕ). 2 * x) c.bit.ensures) c.decode_state.ensures

pub put_text-requires : goal.put_text-requires
put_text-requires c = omega (arith, c.requires.room-left, c.put_two-next.auto.out, two-next _ _ _ _ _ _ _ _ _ c.put_two-next.ensures)

pub returns : goal.returns
returns c = back_done _ _ _ _ _ _ c.requires _ _ _ (ap (λ (x : ℕ). 2 * x) c.bit.ensures) c.decode_state.ensures _ _ _ _ _ _ _ _ refl c.kept_total.ensures c.bits_of-total.ensures c.put_two-next.ensures c.put_text.ensures
