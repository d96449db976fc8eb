use native.Mathlib.Omega.{arith}
use Rattle.chain_link.proofs.LinkSizes.{tail-length}
use Rattle.chain_fill.proofs.TailLaws.{last_made, inside-set}
use Rattle.chain_fill.proofs.put_last.Goals as goal

pub overflow_mul-count : goal.overflow_mul-count
overflow_mul-count c = omega (arith, c.requires.bond-few)

pub fill_tail-requires : goal.fill_tail-requires
fill_tail-requires c = (c.requires.u-holds, tail-length _ _ c.args.sites.now c.requires.fits)

pub bounds-bonds-n : goal.bounds-bonds-n
bounds-bonds-n c = inside-set c.args.bonds.now _ _ _ c.requires.bonds-is

pub overflow_add-starts : goal.overflow_add-starts
overflow_add-starts c = omega (arith, c.requires.fits, c.well_formed.1.1.1.1.0)

pub bounds-starts-n : goal.bounds-starts-n
bounds-starts-n c = inside-set c.args.starts.now _ _ _ c.requires.starts_is

pub returns : goal.returns
returns c = last_made _ _ _ c.args.u.now c.args.sites.now _ _ c.fill_tail.ensures
