-- `chains::chain_of_sites` meets its contract: refused before the work, or the work done on the needed parts. Assumes nothing.
use Rattle.std.proofs.lemmas.Result.{err_from_is_err_and}
use Rattle.answers.proofs.Stopped.{passed}
use Rattle.chains.proofs.ChainsLaws.{chain-worked, chain-refused}
use Rattle.chains.proofs.chain_of_sites.Goals as goal

pub returns-in_err-check : goal.returns-in_err-check
returns-in_err-check c =
    let p = err_from_is_err_and c.from_residual.result c.from_residual.ensures.1 in
    rw (p.1, p.2) (chain-refused _ _ _ _ _ _ _ _ _ _ _ _ _ c.in_err-check.ensures.answer)

pub returns : goal.returns
returns c =
    chain-worked _ _ _ _ _ _ _ _ _ _ _ _ c.work.result c.bit-cells.ensures c.bit-side.ensures c.room_of-room.ensures
    (passed _ _ _ c.check.ensures.answer c.in_ok-check.was) c.work.ensures
