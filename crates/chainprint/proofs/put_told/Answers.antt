-- `chainprint::put_told` meets its contract. Assumes nothing.
use Rattle.chainprint.proofs.PrintoutLaws.{refused-counts, chain-counts, told-refused, told-chain}
use Rattle.chainprint.proofs.put_told.Goals as goal

pub put_chain-requires : goal.put_chain-requires
put_chain-requires c = rw c.in-Ok.is at c.requires.chain_laid

pub returns-in-Ok : goal.returns-in-Ok
returns-in-Ok c =
    let laid = rw c.in-Ok.is at c.requires.chain_laid in
    record {
      puts = rw c.in-Ok.is (told-chain _ _ _ _ _ _ _ _ _ c.put_chain.ensures);
      prefix_len = chain-counts _ _ _ _ _ _ _ _ _ laid c.put_chain.ensures;
    }

pub returns-in-Err : goal.returns-in-Err
returns-in-Err c =
    record {
      puts = rw c.in-Err.is (told-refused _ _ _ _ _ _ _ _ _ c.put_refused.ensures);
      prefix_len = refused-counts _ _ _ _ c.requires.in_bounds c.put_refused.ensures;
    }
