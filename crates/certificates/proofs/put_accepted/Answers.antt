-- `certificates::put_accepted` meets its contract: the list at hand, or the others that were written, is the smaller side's list. Assumes nothing.
use Prim.Native.Nat.{◌-◌}
use lib.ListN.{length}
use native.Mathlib.Omega.{arith}
use lib.Seq.{length-take-le}
use Rattle.qubits.proofs.OtherLaws.{others-length}
use Rattle.cut_sides.proofs.SideLaws.{is-parted}
use Rattle.texts.proofs.TextLaws.{puts-as}
use Rattle.certificates.proofs.AcceptedLaws.{side-named, side-written, sided-is, accepted-short}
use Rattle.certificates.proofs.put_accepted.Goals as goal

pub overflow_sub-rest : goal.overflow_sub-rest
overflow_sub-rest c = let z = c.args in omega (arith, (is-parted z.list.now z.n 10 c.requires.0.taken).part)

pub put_sided-requires : goal.put_sided-requires
put_sided-requires c =
    let z = c.args in
    let a = c.requires.0 in
    (omega (arith, (is-parted z.list.now z.n 10 a.taken).part), a.small, a.few, c.requires.1)

pub returns-then-k-rest : goal.returns-then-k-rest
returns-then-k-rest c =
    let z = c.args in
    let a = c.requires.0 in
    let e = side-named z.list.now z.n c.if-k-rest.true in
    record { puts = puts-as _ _ _ _ _ _ (sided-is _ z.list.now _ _ _ _ (is-parted _ _ 10 a.taken) e) c.put_sided.ensures; short = accepted-short _ _ _ _ _ a }

pub write_others-requires : goal.write_others-requires
write_others-requires c =
    let z = c.args in
    let a = c.requires.0 in
    (omega (arith, a.small), omega (arith, others-length z.n z.list.now (is-parted z.list.now z.n 10 a.taken).listed, a.small))

pub put_sided-requires-2 : goal.put_sided-requires-2
put_sided-requires-2 c =
    let a = c.requires.0 in
    (omega (arith, length-take-le (c.args.n - length c.args.list.now) c.write_others.new.out (omega (arith, a.small))), a.small, a.few, c.requires.1)

pub returns : goal.returns
returns c =
    let z = c.args in
    let a = c.requires.0 in
    let p = is-parted z.list.now z.n 10 a.taken in
    let e = side-written z.list.now z.n _ _ p c.if-k-rest.false c.write_others.ensures in
    record { puts = puts-as _ _ _ _ _ _ (sided-is _ z.list.now _ _ _ _ p e) c.put_sided-2.ensures; short = accepted-short _ _ _ _ _ a }
