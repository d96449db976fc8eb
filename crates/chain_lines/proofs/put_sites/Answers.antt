use mathlib.Core.Path.{refl}
use native.Mathlib.Omega.{arith}
use Rattle.chain_lines.proofs.ChainLineLaws.{length-sites, sites-none, sites-step}
use Rattle.chain_lines.proofs.put_sites.Goals as goal

pub loop-j-init : goal.loop-j-init
loop-j-init c = sites-none _ _ _ _ _ _ c.requires.chain_laid _ _

pub put_site-next-requires : goal.put_site-next-requires
put_site-next-requires c = record {
  chain_laid = rw c.loop-j.auto.out c.requires.chain_laid;
  j_lt_n = (c.loop-j-test.true, omega (arith, length-sites _ _ _ _ _ _ c.requires.chain_laid c.loop-j.j (omega arith), c.requires.at_bound));
}

pub loop-j-preserved : goal.loop-j-preserved
loop-j-preserved c = sites-step _ _ _ _ _ _ c.requires.chain_laid _ _ c.requires.at_bound refl _ _ _ _ _ c.loop-j-test.true c.loop-j.invariant c.put_site-next.ensures
