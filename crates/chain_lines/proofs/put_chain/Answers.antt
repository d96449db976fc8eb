-- `chain_lines::put_chain` meets its contract. Three texts, one after the other. Assumes nothing.
use mathlib.Core.Path.{refl, subst}
use Prim.Native.Nat.{ℕ}
use native.Mathlib.Omega.{arith}
use Rattle.texts.proofs.TextLaws.{length-line}
use Rattle.chain_lines.specs.ChainLines.{chain_word, ChainLaid}
use Rattle.chain_lines.proofs.ChainLineLaws.{length-sites, chain-texts}
use Rattle.chain_lines.proofs.put_chain.Goals as goal

pub put_line-second-requires : goal.put_line-second-requires
put_line-second-requires c = omega (arith, c.requires.fits)

pub put_sites-last-requires : goal.put_sites-last-requires
put_sites-last-requires c = record { chain_laid = subst (λ (m : ℕ). ChainLaid c.args.n c.args.sites.now c.args.bonds.now c.args.starts.now c.args.marks.now m) (omega (arith, c.put_line-second.auto.out)) c.requires; at_bound = omega (arith, c.put_line-second.ensures.next, length-line chain_word c.args.n) }

pub put_line-requires : goal.put_line-requires
put_line-requires c = omega (arith, c.put_line-second.ensures.next, c.put_line-second.auto.out, length-line chain_word c.args.n, c.put_sites-last.ensures.next, c.put_sites-last.auto.out, length-sites _ _ _ _ _ _ c.requires c.args.n (omega arith), c.requires.fits)

pub returns : goal.returns
returns c = chain-texts _ _ _ _ _ _ c.requires _ _ _ _ _ _ _ _ refl c.put_line-second.ensures c.put_sites-last.ensures c.put_line.ensures
