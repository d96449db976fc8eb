use native.Mathlib.Omega.{arith}
use Rattle.tables.proofs.TablesLaws.{filled_none, filled_more}
use Rattle.qubits.specs.Spread.{row_offset}
use Rattle.qubit_offsets.proofs.fill_offsets.Goals as goal

pub loop-t-init : goal.loop-t-init
loop-t-init c = filled_none _ _

pub loop-t-preserved : goal.loop-t-preserved
loop-t-preserved c =
    let l = c.loop-t in
    rw (l.invariant, c.row_offset.ensures) (filled_more l.t (row_offset c.args.list.now) _ (omega arith))
