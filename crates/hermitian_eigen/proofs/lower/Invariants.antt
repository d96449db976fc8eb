-- `hermitian_eigen::lower` meets its contract. The invariant: the first values are lowered. Assumes nothing.
use mathlib.Core.Path.{◌≡◌}
use lib.ListN.{get_or}
use lib.Ieee.{nan, binary64, sub}
use Rattle.tables.specs.Tables.{filled}
use Rattle.hermitian_eigen.proofs.lower.Given as goal

abbrev pub invariant-loop-x : goal.invariant-loop-x
invariant-loop-x l = l.values ≡ filled l.x-index (λ i. sub binary64 (get_or l.initial.values i nan) l.shift) l.initial.values
