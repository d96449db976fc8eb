use mathlib.Core.Path.{sym, ◌∙◌}
use native.Mathlib.Omega.{arith}
use Prim.Native.Nat.{◌-◌}
use lib.ListN.{length}
use borrow.Rule.Slice.PartMut.{same_len_mid}
use Rattle.std.proofs.lemmas.Result.{err_from_is_err_and}
use Rattle.chain_run.proofs.RunLaws.{run-zero, run-refused, last-room, run-done}
use Rattle.chain_run.proofs.run.Goals as goal

pub returns-then-all_zero : goal.returns-then-all_zero
returns-then-all_zero c = run-zero c.args.state.now _ _ _ (sym c.all_zero.ensures ∙ c.if-all_zero.true)

pub returns-in_err-end : goal.returns-in_err-end
returns-in_err-end c =
    let p = err_from_is_err_and c.from_residual.result c.from_residual.ensures.1 in
    rw (p.1, p.2) (run-refused c.args.state.now _ _ _ _ _ _ _ _ (sym c.all_zero.ensures ∙ c.if-all_zero.false) c.lay_state.ensures c.in_err-end.ensures)

pub put_last-requires : goal.put_last-requires
put_last-requires c =
    last-room _ _ _ _ _ _ _ _ _ _ _ c.requires.some c.requires.limit-some c.in_ok-end.ensures.walked c.requires.small (omega arith) (omega arith)
    (same_len_mid 1 (length c.args.bonds.now - 1) c.args.bonds.now c.walk.new.bonds c.walk.auto.bonds ∙ c.requires.bonds-is)
    (same_len_mid 1 (length c.args.starts.now - 1) c.args.starts.now c.walk.new.starts c.walk.auto.starts ∙ c.requires.starts_is)

pub returns : goal.returns
returns c =
    run-done c.args.state.now _ _ _ _ c.args.bonds.now c.args.starts.now _ c.in_ok-end.end (sym c.all_zero.ensures ∙ c.if-all_zero.false) c.lay_state.ensures
    c.requires.some c.requires.limit-some c.in_ok-end.ensures c.requires.bonds-is c.requires.starts_is c.requires.marks-is (omega arith) (omega arith) c.put_last.ensures
