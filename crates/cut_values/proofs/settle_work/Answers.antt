-- `cut_values::settle_work` meets its contract: the planes, and the sweeps on them. Assumes nothing.
use native.Mathlib.Omega.{arith}
use Rattle.qubits.proofs.NamedLaws.{pow_small}
use Rattle.cut_values.proofs.SchmidtLaws.{sized-ready, all-cells}
use Rattle.cut_values.proofs.PlainLaws.{settled-from}
use Rattle.cut_values.proofs.settle_work.Goals as goal

pub gather_work-requires : goal.gather_work-requires
gather_work-requires c = (sized-ready _ _ _ _ c.requires.0 c.requires.1, c.requires.1)

pub settle_alone-requires : goal.settle_alone-requires
settle_alone-requires c =
    let p = c.requires in
    let a = all-cells _ _ _ p.0 in
    record { work = omega (arith, c.gather_work.auto.work, p.1, a); columns = p.0.few; cells = omega (arith, a, pow_small _ p.0.small) }

pub returns : goal.returns
returns c = settled-from _ _ _ c.gather_work.ensures c.settle_alone.ensures
