-- What a reader may want to know of a change's refusals. Assumes nothing.
use mathlib.Core.Path.{◌≡◌, refl, sym, ap, ◌∙◌}
use mathlib.Core.Bool.{Bool, true, false, not}
use mathlib.Core.Logic.{⊎_elim}
use Prim.Native.Nat.{ℕ, ◌+◌}
use lib.Dec.{eqb, leb}
use Rattle.answers.specs.Paper.{done, refuse}
use Rattle.qubits.specs.Lists.{stands}
use Rattle.cut_naming.proofs.ReorderedLaws.{either}
use Rattle.plans.specs.declared.Plan.{Plan}
use Rattle.plans.specs.Plans.{list_of, made}
use Rattle.plans.proofs.PlanLaws.{made-accepted, made-count}
use Rattle.plan_changes.specs.Changes.{adding, dropping, change_reply}
use Rattle.plan_changes.proofs.ChangeLaws.{reply-list, drop-listed}
use Rattle.plan_refusals.specs.Rows.{add_row, drop_row}
use Rattle.plan_refusals.proofs.RowLaws.{list-added, list-dropped}

-- Adding to a made plan is refused by 2 and 3 at the list's end and then by 5, and by nothing else.
pub add-refusals : (p : Plan) (q : ℕ) → made p ≡ true → change_reply (adding q) p ≡ add_row q p
add-refusals p q m =
    reply-list (adding q) p m refl ∙ list-added p.n q (list_of p) (made-accepted p m)
    ∙ ap (λ (k : ℕ). refuse (leb p.n q) (2, k) (refuse (stands q (list_of p)) (3, k) (refuse (eqb (k + 1) p.n) (5, 0) done))) (sym (made-count p m))

unlisted : (p : Plan) (q : ℕ) → made p ≡ true → stands q (list_of p) ≡ false → change_reply (dropping q) p ≡ drop_row q p
unfolding change_reply
unlisted p q m e = rw (m, e)

-- Dropping from a made plan is refused by 12 and then by 4, and by nothing else.
pub drop-refusals : (p : Plan) (q : ℕ) → made p ≡ true → change_reply (dropping q) p ≡ drop_row q p
drop-refusals p q m =
    ⊎_elim
    (λ (e : stands q (list_of p) ≡ true).
    reply-list (dropping q) p m (drop-listed q p e _) ∙ list-dropped p.n q (list_of p) (made-accepted p m) e
    ∙ ap (λ (k : ℕ). refuse (eqb k 1) (4, 0) done) (sym (made-count p m))
    ∙ ap (λ (b : Bool). refuse (not b) (12, 0) (refuse (eqb p.k 1) (4, 0) done)) (sym e))
    (λ (e : stands q (list_of p) ≡ false). unlisted p q m e)
    (either q (list_of p))
