-- What a reader may want to know of a plan's changes. Assumes nothing.
use mathlib.Core.Path.{◌≡◌, refl, sym, ap, ap₂, ◌∙◌}
use mathlib.Core.Bool.{Bool, true, false, not}
use mathlib.Core.Logic.{⊎_elim}
use mathlib.Core.List.{List, [], ◌∷◌, ◌++◌}
use Prim.Native.Nat.{ℕ, zero, suc, ◌≤◌}
use native.Mathlib.Omega.{arith}
use Rattle.std.specs.Prelude.{Result}
use Rattle.answers.specs.declared.Refusal.{Refusal}
use Rattle.answers.specs.Paper.{Reply, given, if_done}
use Rattle.answers.proofs.PaperLaws.{refuse-done, and_then-done, done-new}
use Rattle.answers.proofs.Theorems.{result-one}
use Rattle.qubits.specs.Lists.{stands}
use Rattle.qubits.specs.Spread.{other_qubits, unless}
use Rattle.cut_sides.specs.Sides.{cut_refusal}
use Rattle.cut_naming.specs.Reordered.{times, Reordered}
use Rattle.cut_naming.proofs.ReorderedLaws.{either}
use Rattle.cut_naming.proofs.Others.{stands-named, stands-other}
use Rattle.cut_naming.proofs.Theorems as naming
use Rattle.plans.specs.declared.Plan.{Plan}
use Rattle.plans.specs.Plans.{plan_of, list_of, made, made_reply}
use Rattle.plans.proofs.PlanLaws.{made-accepted, made-plan, list-plan}
use Rattle.plan_changes.specs.Changes.{Change, adding, dropping, switching, changed_list, unlisted, change_reply, changed, Changed, changes, rising}
use Rattle.plan_changes.proofs.ChangeLaws.{reply-list}

-- ---- one outcome

one : (c : Change) (p : Plan) (r r' : Result Plan Refusal) → Changed c p r → Changed c p r' → r ≡ r'
one c p r r' a b = result-one r r' (a.answer ∙ sym b.answer) (λ x y e f. sym (ap (given p) e) ∙ a.plan ∙ sym b.plan ∙ ap (given p) f)

-- Only one outcome meets the contract of `plan_add`.
pub plan-add-one : (p : Plan) (q : ℕ) (r r' : Result Plan Refusal) → Changed (adding q) p r → Changed (adding q) p r' → r ≡ r'
plan-add-one p q = one (adding q) p

-- Only one outcome meets the contract of `plan_drop`.
pub plan-drop-one : (p : Plan) (q : ℕ) (r r' : Result Plan Refusal) → Changed (dropping q) p r → Changed (dropping q) p r' → r ≡ r'
plan-drop-one p q = one (dropping q) p

-- Only one outcome meets the contract of `plan_switch`.
pub plan-switch-one : (p : Plan) (r r' : Result Plan Refusal) → Changed switching p r → Changed switching p r' → r ≡ r'
plan-switch-one p = one switching p

-- ---- any changes

-- a change that is not refused leaves a list that a cut accepts
passes : (c : Change) (p : Plan) (later : Reply) → (unlisted c p later).0 ≡ 0 → later.0 ≡ 0
passes (adding q) p later e = e
passes (dropping q) p later e = (refuse-done (not (stands q (list_of p))) 11 0 later e).1
passes switching p later e = e

accepted : (c : Change) (p : Plan) → (change_reply c p).0 ≡ 0 → (cut_refusal (changed_list c p) p.n 13).0 ≡ 0
unfolding change_reply
accepted c p e =
    passes c p (cut_refusal (changed_list c p) p.n 13)
    (and_then-done (made_reply p) (unlisted c p (cut_refusal (changed_list c p) p.n 13)) e).1

-- One change of a made plan, refused or not, leaves a made plan.
pub after-change : (c : Change) (p : Plan) → made p ≡ true → made (changed c p) ≡ true
unfolding changed
after-change c p m = either_way (change_reply c p).0 refl
  where
    either_way : (x : ℕ) → (change_reply c p).0 ≡ x → made (if_done x (plan_of (changed_list c p) p.n) p) ≡ true
    either_way zero e = made-plan (changed_list c p) p.n (accepted c p e)
    either_way (suc x) e = m

-- Any changes of a made plan, one after the other and refused ones included, leave a made plan: the plan of the list that it keeps.
pub after-changes : (cs : List Change) (p : Plan) → made p ≡ true → made (changes cs p) ≡ true
unfolding changes
after-changes [] p m = m
after-changes (c ∷ cs) p m = after-changes cs (changed c p) (after-change c p m)

-- ---- the other side

-- The other side of a made plan is never refused.
pub switch-accepted : (p : Plan) → made p ≡ true → (change_reply switching p).0 ≡ 0
switch-accepted p m = ap (λ (x : Reply). x.0) (reply-list switching p m refl) ∙ naming.other-accepted p.n 13 (list_of p) (made-accepted p m)

-- So it is the plan of the other qubits, rising.
pub switch-plan : (p : Plan) → made p ≡ true → changed switching p ≡ plan_of (other_qubits p.n (list_of p)) p.n
unfolding changed
switch-plan p m = sym (done-new (change_reply switching p).0 (plan_of (other_qubits p.n (list_of p)) p.n) p (switch-accepted p m))

-- the other side of the other side, rising
others-twice : (n : ℕ) (l : List ℕ) (k : ℕ) → k ≤ n → other_qubits k (other_qubits n l) ≡ rising k l
unfolding other_qubits rising
others-twice n l zero h = refl
others-twice n l (suc k) h =
    let s : stands k (other_qubits n l) ≡ not (stands k l)
    = ⊎_elim
    (λ (e : stands k l ≡ true). stands-named n k l e ∙ sym (ap not e))
    (λ (e : stands k l ≡ false). stands-other n k l (omega arith) e ∙ sym (ap not e))
    (either k l) in
    ap₂ (λ (a b : List ℕ). a ++ b) (others-twice n l k (omega arith)) (ap (λ (b : Bool). unless b k) s)

-- Switched twice, a plan is that of its list's qubits, rising.
pub switch-twice : (p : Plan) → made p ≡ true → changed switching (changed switching p) ≡ plan_of (rising p.n (list_of p)) p.n
switch-twice p m =
    let o = other_qubits p.n (list_of p) in
    let e = switch-plan p m in
    ap (changed switching) e ∙ switch-plan (plan_of o p.n) (ap made (sym e) ∙ after-change switching p m)
    ∙ ap (λ (l : List ℕ). plan_of (other_qubits p.n l) p.n) (list-plan o p.n)
    ∙ ap (λ (l : List ℕ). plan_of l p.n) (others-twice p.n (list_of p) p.n (omega arith))

-- Those are the same qubits, each once.
pub switch-twice-set : (p : Plan) → made p ≡ true → Reordered (list_of p) (rising p.n (list_of p))
switch-twice-set p m q =
    naming.twice p.n 13 (list_of p) (made-accepted p m) q
    ∙ ap (times q) (others-twice p.n (list_of p) p.n (omega arith))
