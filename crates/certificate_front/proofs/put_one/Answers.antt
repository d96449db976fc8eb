-- `certificate_front::put_one` meets its contract at each way out: the certificate's lines are put past a place.
-- Assumes nothing.
use mathlib.Core.Path.{refl, sym}
use native.Mathlib.Omega.{arith}
use lib.Seq.{length-take-le}
use Rattle.certificate_front.proofs.FrontLaws.{puts-past, mid-long, one-refused, one-done}
use Rattle.certificate_front.proofs.put_one.Goals as goal

pub slice_bounds-put_accepted-end : goal.slice_bounds-put_accepted-end
slice_bounds-put_accepted-end c = sym (length-take-le _ _ (c.requires.kept.held _ c.in-Ok.is))

pub put_accepted-length-requires : goal.put_accepted-length-requires
put_accepted-length-requires c = (c.requires.kept.printable _ c.in-Ok.is, omega (arith, c.requires.fits, mid-long c.args.at c.args.out.now (omega (arith, c.requires.fits))))

pub returns-in-Ok : goal.returns-in-Ok
returns-in-Ok c = one-done _ _ _ _ _ _ _ _ _ _ _ c.in-Ok.is (omega (arith, c.requires.fits, c.put_accepted-length.ensures.short)) (puts-past _ _ _ _ _ _ (omega (arith, c.requires.fits)) refl c.put_accepted-length.ensures.puts) c.put_said.ensures

pub returns-in-Err : goal.returns-in-Err
returns-in-Err c = one-refused _ _ _ _ _ _ _ _ _ c.in-Err.is c.put_reply.ensures
