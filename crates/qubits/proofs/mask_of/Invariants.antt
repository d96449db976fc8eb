-- `qubits::mask_of` meets its contract. The loop's invariant: the mask with what is left of the list added is the list's.
-- Assumes nothing.
use mathlib.Core.Path.{◌≡◌}
use Prim.Native.Nat.{◌<◌, ◌^◌}
use lib.ListN.{drop}
use Rattle.qubits.specs.Spread.{named, mask_from}
use Rattle.qubits.proofs.mask_of.Given as goal

abbrev pub invariant-loop-q : goal.invariant-loop-q
invariant-loop-q l = (named l.list ≡ mask_from l.mask (drop l.q-index l.list)) × (l.mask < 2 ^ l.n)
