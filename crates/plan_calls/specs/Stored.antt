-- A call on a plan that is lent as thirty numbers: the answer, and the numbers at the end. Assumes nothing.
use Rattle.std.specs.Prelude.{◌≡◌, List, ℕ, Result, Ok, Err}
use Rattle.answers.specs.declared.Refusal.{Refusal}
use Rattle.answers.specs.Paper.{Answer, paper, if_done}
use Rattle.cut_sides.specs.Sides.{cut_refusal}
use Rattle.plans.specs.declared.Plan.{Plan}
use Rattle.plans.specs.Plans.{plan_of}
use Rattle.plan_changes.specs.Changes.{Change, change_reply, changed}
use Rattle.plan_numbers.specs.Numbers.{numbers_of, plan_at}

-- `zg_cut_plan`: on a refusal the numbers stay
pub record CutPlanStored (l : List ℕ) (n cap : ℕ) (w : List ℕ) (a : Answer) (end : List ℕ) : Type 0 where
  pub answer : paper a ≡ cut_refusal l n cap
  pub numbers : end ≡ if_done (cut_refusal l n cap).0 (numbers_of (plan_of l n)) w

-- `zg_plan_add`, `zg_plan_drop`, `zg_plan_switch`: the change of the plan that the numbers are; on a refusal they stay
pub record ChangeStored (c : Change) (w : List ℕ) (a : Answer) (end : List ℕ) : Type 0 where
  pub answer : paper a ≡ change_reply c (plan_at w)
  pub numbers : end ≡ if_done (change_reply c (plan_at w)).0 (numbers_of (changed c (plan_at w))) w

-- the thirty numbers after a change that gave a plan, or was refused
abbrev pub numbers_kept : Result Plan Refusal → List ℕ → List ℕ
numbers_kept (Ok p) w = numbers_of p
numbers_kept (Err e) w = w
