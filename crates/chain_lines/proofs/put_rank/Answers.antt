-- `chain_lines::put_rank` meets its contract. Four texts, one after the other. Assumes nothing.
use native.Mathlib.Omega.{arith}
use Rattle.texts.proofs.TextLaws.{length-item}
use Rattle.lines.specs.Lines.{cut_word, blank}
use Rattle.chain_lines.proofs.ChainLineLaws.{four-texts}
use Rattle.chain_lines.specs.ChainLines.{rank_line}
use Rattle.chain_lines.proofs.put_rank.Goals as goal

pub put_item-past_rank-requires : goal.put_item-past_rank-requires
put_item-past_rank-requires c = omega (arith, c.put_item-past_j.ensures.next, c.put_item-past_j.auto.out, length-item cut_word c.args.j, c.requires)

pub put_item-past_sweeps-requires : goal.put_item-past_sweeps-requires
put_item-past_sweeps-requires c = omega (arith, c.put_item-past_j.ensures.next, c.put_item-past_j.auto.out, length-item cut_word c.args.j, c.put_item-past_rank.ensures.next, c.put_item-past_rank.auto.out, length-item blank c.args.rank, c.requires)

pub put_turned-requires : goal.put_turned-requires
put_turned-requires c = omega (arith, c.put_item-past_j.ensures.next, c.put_item-past_j.auto.out, length-item cut_word c.args.j, c.put_item-past_rank.ensures.next, c.put_item-past_rank.auto.out, length-item blank c.args.rank, c.put_item-past_sweeps.ensures.next, c.put_item-past_sweeps.auto.out, length-item blank c.args.sweeps, c.requires)

pub returns : goal.returns
unfolding rank_line
returns c = four-texts _ _ _ _ _ _ _ _ _ _ _ _ _ _ (omega (arith, length-item cut_word c.args.j, length-item blank c.args.rank, length-item blank c.args.sweeps, c.requires)) c.put_item-past_j.ensures c.put_item-past_rank.ensures c.put_item-past_sweeps.ensures c.put_turned.ensures
