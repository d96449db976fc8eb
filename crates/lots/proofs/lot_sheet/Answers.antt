-- `lots::lot_sheet` meets its contract. Assumes nothing.
use Rattle.lots.proofs.LotLaws.{header-fits}
use Rattle.answers.proofs.Stopped.{was-done}
use native.Mathlib.Omega.{arith}
use Rattle.lots.proofs.lot_sheet.Goals as goal

pub number_at-count-requires : goal.number_at-count-requires
number_at-count-requires c = (header-fits _ (was-done _ _ c.check_lot.ensures c.in_ok-check_lot.was)).0

pub tally-requires : goal.tally-requires
tally-requires c = let h = header-fits _ (was-done _ _ c.check_lot.ensures c.in_ok-check_lot.was) in let n = c.number_at-count.ensures.0 in (n, omega (arith, n, h.1), omega (arith, n, h.2))
