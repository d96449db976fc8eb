-- `cut_values::sweep` meets its contract: the sweeps, and the norms of what they leave. Assumes nothing.
use mathlib.Core.Path.{◌∙◌}
use native.Mathlib.Omega.{arith}
use Rattle.qubits.proofs.NamedLaws.{pow_small}
use Rattle.cut_values.proofs.SchmidtLaws.{all-cells}
use Rattle.cut_values.proofs.sweep.Goals as goal

pub settle_tried-sweeps-requires : goal.settle_tried-sweeps-requires
settle_tried-sweeps-requires c = (c.requires.0, c.requires.1)

pub norms_marked-exact-requires : goal.norms_marked-exact-requires
norms_marked-exact-requires c =
    let p = c.requires in
    let a = all-cells _ _ _ p.0 in
    (omega (arith, a, pow_small _ p.0.small), omega (arith, c.settle_tried-sweeps.auto.work, p.1, a), omega (arith, p.2))

pub returns : goal.returns
returns c =
    let t = c.settle_tried-sweeps.ensures in
    let m = c.norms_marked-exact.ensures in
    (m.0 ∙ t.norms, t.sweeps, m.1 ∙ t.exact)
