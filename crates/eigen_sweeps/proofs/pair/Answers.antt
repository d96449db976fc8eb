-- `eigen_sweeps::pair` meets its contract: the calls are the definition's steps. Assumes nothing.
use mathlib.Core.Path.{◌∙◌}
use Prim.Native.Nat.{◌*◌, ◌+◌, ◌<◌}
use native.Mathlib.Omega.{arith}
use Rattle.eigen_pair.proofs.CellPlanesLaws.{plane-read, plane-re}
use lib.Arith.{digits_lt}
use Rattle.eigen_sweeps.proofs.SweepingLaws.{pair_made}
use Rattle.eigen_sweeps.proofs.pair.Goals as goal

pub overflow_mul-at_p : goal.overflow_mul-at_p
overflow_mul-at_p c =
    let pp : c.args.p * c.args.n + c.args.p < c.args.n * c.args.n = digits_lt c.requires.1 c.requires.1 in
    omega (arith, pp)

pub overflow_add-at_p : goal.overflow_add-at_p
overflow_add-at_p c =
    let pp : c.args.p * c.args.n + c.args.p < c.args.n * c.args.n = digits_lt c.requires.1 c.requires.1 in
    omega (arith, pp)

pub overflow_mul-at_p-2 : goal.overflow_mul-at_p-2
overflow_mul-at_p-2 c =
    let pp : c.args.p * c.args.n + c.args.p < c.args.n * c.args.n = digits_lt c.requires.1 c.requires.1 in
    omega (arith, pp, c.requires.0.cells)

pub overflow_mul-at_q : goal.overflow_mul-at_q
overflow_mul-at_q c =
    let qq : c.args.q * c.args.n + c.args.q < c.args.n * c.args.n = digits_lt c.requires.2 c.requires.2 in
    omega (arith, qq)

pub overflow_add-at_q : goal.overflow_add-at_q
overflow_add-at_q c =
    let qq : c.args.q * c.args.n + c.args.q < c.args.n * c.args.n = digits_lt c.requires.2 c.requires.2 in
    omega (arith, qq)

pub overflow_mul-at_q-2 : goal.overflow_mul-at_q-2
overflow_mul-at_q-2 c =
    let qq : c.args.q * c.args.n + c.args.q < c.args.n * c.args.n = digits_lt c.requires.2 c.requires.2 in
    omega (arith, qq, c.requires.0.cells)

pub overflow_mul-p : goal.overflow_mul-p
overflow_mul-p c =
    let pq : c.args.p * c.args.n + c.args.q < c.args.n * c.args.n = digits_lt c.requires.1 c.requires.2 in
    omega (arith, pq)

pub overflow_add-p : goal.overflow_add-p
overflow_add-p c =
    let pq : c.args.p * c.args.n + c.args.q < c.args.n * c.args.n = digits_lt c.requires.1 c.requires.2 in
    omega (arith, pq)

pub read_cell-apq-requires : goal.read_cell-apq-requires
read_cell-apq-requires c =
    let pq : c.args.p * c.args.n + c.args.q < c.args.n * c.args.n = digits_lt c.requires.1 c.requires.2 in
    omega (arith, pq, c.requires.0.cells)

pub offset_bounds-xs-at_p : goal.offset_bounds-xs-at_p
offset_bounds-xs-at_p c =
    let pp : c.args.p * c.args.n + c.args.p < c.args.n * c.args.n = digits_lt c.requires.1 c.requires.1 in
    omega (arith, pp, c.requires.0.cells)

pub bounds-xs-at_p : goal.bounds-xs-at_p
bounds-xs-at_p c =
    let pp : c.args.p * c.args.n + c.args.p < c.args.n * c.args.n = digits_lt c.requires.1 c.requires.1 in
    omega (arith, pp, c.requires.0.cells)

pub offset_bounds-xs-at_q : goal.offset_bounds-xs-at_q
offset_bounds-xs-at_q c =
    let qq : c.args.q * c.args.n + c.args.q < c.args.n * c.args.n = digits_lt c.requires.2 c.requires.2 in
    omega (arith, qq, c.requires.0.cells)

pub bounds-xs-at_q : goal.bounds-xs-at_q
bounds-xs-at_q c =
    let qq : c.args.q * c.args.n + c.args.q < c.args.n * c.args.n = digits_lt c.requires.2 c.requires.2 in
    omega (arith, qq, c.requires.0.cells)

pub apply-requires : goal.apply-requires
apply-requires c = (c.requires.0.cells, c.requires.1, c.requires.2)

pub count-requires : goal.count-requires
count-requires c = c.requires.3

pub returns : goal.returns
returns c =
    let pp : c.args.p * c.args.n + c.args.p < c.args.n * c.args.n = digits_lt c.requires.1 c.requires.1 in
    let qq : c.args.q * c.args.n + c.args.q < c.args.n * c.args.n = digits_lt c.requires.2 c.requires.2 in
    let pq : c.args.p * c.args.n + c.args.q < c.args.n * c.args.n = digits_lt c.requires.1 c.requires.2 in
    let z = c.before.before.before.before.before.before.before.before in
    let start = z.before.before.before in
    let a = c.args in
    let xs = a.xs.now in
    pair_made _ _ _ _ _ _ _ _ _ _ _ _ (c.read_cell-apq.ensures ∙ plane-read _ _ xs (pq)) (plane-re _ _ xs (pp)) (plane-re _ _ xs (qq)) c.decide-d.ensures c.apply.ensures c.count.ensures
