-- `density_recount::recount_answer` meets its contract. Assumes nothing.
use native.Mathlib.Omega.{arith}
use lib.ListN.{length}
use Rattle.answers.proofs.Stopped.{was-done}
use Rattle.qubits.proofs.NamedLaws.{pow_small}
use Rattle.densities.proofs.DensityLaws.{side-small}
use Rattle.density_recount.proofs.RecountLaws.{sizes-done}
use Rattle.density_recount.proofs.recount_answer.Goals as goal

pub recount_lengths-requires : goal.recount_lengths-requires
recount_lengths-requires c =
    let z = c.args in
    let d = sizes-done z.n (length z.list.now) z.cap (was-done _ _ c.recount_size.ensures c.in_ok-recount_size.was) in
    (omega (arith, c.bit.ensures, pow_small z.n d.0), omega (arith, c.bit-2.ensures, side-small (length z.list.now) d.1))
