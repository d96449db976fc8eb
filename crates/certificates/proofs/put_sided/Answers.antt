-- `certificates::put_sided` meets its contract: nine numbers and sixteen values fit the buffer. Assumes nothing.
use native.Mathlib.Omega.{arith}
use Rattle.texts.proofs.TextLaws.{puts-as}
use Rattle.certificates.proofs.AcceptedLaws.{listing-is}
use Rattle.certificates.proofs.put_sided.Goals as goal

pub bit-rows-requires : goal.bit-rows-requires
bit-rows-requires c = let p = c.requires in omega (arith, p.0, p.1)

pub overflow_sub-n : goal.overflow_sub-n
overflow_sub-n c = c.requires.0

pub bit-columns-requires : goal.bit-columns-requires
bit-columns-requires c = omega (arith, c.requires.1)

pub totals_of-sums-requires : goal.totals_of-sums-requires
totals_of-sums-requires c = omega (arith, c.requires.2)

pub put_listing-requires : goal.put_listing-requires
put_listing-requires c = let p = c.requires in omega (arith, p.0, p.1, p.2, p.3)

pub returns : goal.returns
returns c =
    let t = c.totals_of-sums in
    puts-as _ _ _ _ _ _ (listing-is _ _ _ _ _ _ _ _ t.result c.bit-rows.ensures c.bit-columns.ensures t.ensures) c.put_listing.ensures
