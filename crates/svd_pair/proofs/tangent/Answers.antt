-- `svd_pair::tangent` meets its contract: a law for each branch, and the size of tau is the same however its sign is tested. Assumes nothing.
use mathlib.Core.Logic.{inl, inr}
use Rattle.svd_pair.proofs.DecisionsLaws.{Size, tangent-up, tangent-down}
use Rattle.svd_pair.proofs.tangent.Goals as goal
use Rattle.svd_pair.proofs.tangent.Goals.{then-tau, else-tau, then-tau-2, else-tau-2}

pub returns : goal.returns
returns c =
    let size : Size c.args.tau c.if-tau.size =
    elim c.if-tau.branch [ then-tau w ↦ inl (w.if-tau.true, w.size-is) | else-tau w ↦ inr (w.if-tau.false, w.size-is) ] in
    elim c.if-tau-2.branch [
      | then-tau-2 w ↦ tangent-up _ _ _ _ w.if-tau-2.true c.root_near-root.ensures size w.one-is
      | else-tau-2 w ↦ tangent-down _ _ _ _ w.if-tau-2.false c.root_near-root.ensures size w.one-is
    ]
