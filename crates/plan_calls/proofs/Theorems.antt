-- What a reader may want to know of the calls on a plan of thirty numbers. Assumes nothing.
use mathlib.Core.Path.{◌≡◌, sym, ap, ◌∙◌}
use mathlib.Core.Bool.{true}
use mathlib.Core.List.{List}
use Prim.Native.Nat.{ℕ}
use Rattle.answers.specs.Paper.{Answer, if_done}
use Rattle.answers.proofs.Theorems.{paper-one}
use Rattle.plans.specs.declared.Plan.{Plan}
use Rattle.plans.specs.Plans.{plan_of, made}
use Rattle.plan_changes.specs.Changes.{Change, adding, dropping, switching, change_reply, changed_list, changed}
use Rattle.plan_numbers.specs.Numbers.{numbers_of}
use Rattle.plan_calls.specs.Stored.{CutPlanStored, ChangeStored}
use Rattle.plan_calls.proofs.StoredLaws.{made-read, kept}

-- Only one answer and one row of numbers meet the contract of `store_cut_plan`.
pub store-cut-plan-one : (l : List ℕ) (n cap : ℕ) (w : List ℕ) (a a' : Answer) (end end' : List ℕ)
    → CutPlanStored l n cap w a end → CutPlanStored l n cap w a' end' → (a ≡ a') × (end ≡ end')
store-cut-plan-one l n cap w a a' end end' x y = (paper-one a a' (x.answer ∙ sym y.answer), x.numbers ∙ sym y.numbers)

-- Only one answer and one row of numbers meet the contract of a change, whichever it is.
pub change-stored-one : (c : Change) (w : List ℕ) (a a' : Answer) (end end' : List ℕ)
    → ChangeStored c w a end → ChangeStored c w a' end' → (a ≡ a') × (end ≡ end')
change-stored-one c w a a' end end' x y = (paper-one a a' (x.answer ∙ sym y.answer), x.numbers ∙ sym y.numbers)

-- Only one answer and one row of numbers meet the contract of `add_to_plan`.
pub add-to-plan-one : (q : ℕ) (w : List ℕ) (a a' : Answer) (end end' : List ℕ)
    → ChangeStored (adding q) w a end → ChangeStored (adding q) w a' end' → (a ≡ a') × (end ≡ end')
add-to-plan-one q = change-stored-one (adding q)

-- Only one answer and one row of numbers meet the contract of `drop_from_plan`.
pub drop-from-plan-one : (q : ℕ) (w : List ℕ) (a a' : Answer) (end end' : List ℕ)
    → ChangeStored (dropping q) w a end → ChangeStored (dropping q) w a' end' → (a ≡ a') × (end ≡ end')
drop-from-plan-one q = change-stored-one (dropping q)

-- Only one answer and one row of numbers meet the contract of `switch_plan`.
pub switch-plan-one : (w : List ℕ) (a a' : Answer) (end end' : List ℕ)
    → ChangeStored switching w a end → ChangeStored switching w a' end' → (a ≡ a') × (end ≡ end')
switch-plan-one = change-stored-one switching

-- A change of a made plan's numbers leaves the changed plan's numbers, on a refusal too: so any changes leave the numbers of a made plan.
pub change-stored-is : (c : Change) (p : Plan) (a : Answer) (end : List ℕ) → made p ≡ true → ChangeStored c (numbers_of p) a end → end ≡ numbers_of (changed c p)
unfolding changed
change-stored-is c p a end m x =
    x.numbers
    ∙ ap (λ (q : Plan). if_done (change_reply c q).0 (numbers_of (changed c q)) (numbers_of p)) (made-read p m)
    ∙ kept (change_reply c p).0 (plan_of (changed_list c p) p.n) p
