-- `chainprint::put_state` meets its contract. Assumes nothing.
use mathlib.Core.Path.{refl}
use native.Mathlib.Omega.{arith}
use Rattle.texts.proofs.TextLaws.{puts-as}
use Rattle.chainprint.proofs.PrintoutLaws.{state-laid, state-ready, state-told}
use borrow.Author.Rules.{rules}
use Rattle.chainprint.proofs.put_state.Goals as goal

pub put_told-requires : goal.put_told-requires
put_told-requires c =
    record {
      in_bounds = omega (arith, c.requires.1);
      chain_laid = state-ready c.chain_of_sites-made.ensures c.requires.0 (search rules) (search rules) (search rules) (search rules) (search rules) c.requires.1;
    }

pub returns : goal.returns
returns c = record { puts = puts-as _ _ _ _ _ _ (state-told c.chain_of_sites-made.ensures c.requires.0 refl refl refl refl refl refl refl refl (state-laid c.chain_of_sites-made.ensures c.requires.0 (search rules) refl (search rules) (search rules) (search rules) refl)) c.put_told.ensures.puts; prefix_len = c.put_told.ensures.prefix_len }
