-- The cut matrix of a plan: its answer, and what a call leaves behind. Assumes nothing.
use Rattle.std.specs.Prelude.{◌≡◌, List, ℕ, ◌^◌, Float, length}
use Rattle.answers.specs.Paper.{Answer, Reply, paper, and_then, if_done}
use Rattle.complex.specs.Cells.{written}
use Rattle.cuts.specs.Cut.{cut_answer, cut_cell}
use Rattle.plans.specs.declared.Plan.{Plan}
use Rattle.plans.specs.Plans.{list_of, made_reply}

-- 1 of a plan that no list makes, then 1 to 7 of its list under cap 13
abbrev pub planned_cut_answer : List Float → Plan → ℕ → Reply
planned_cut_answer s p out = and_then (made_reply p) (cut_answer s p.n (list_of p) 13 out)

-- a call of `planned_cut_matrix`: the answer r, and what out holds at the end
pub record PlannedCut (s : List Float) (p : Plan) (o : List Float) (r : Answer) (end : List Float) : Type 0 where
  pub answer : paper r ≡ planned_cut_answer s p (length o)
  pub cells : end ≡ if_done (planned_cut_answer s p (length o)).0 (written (2 ^ p.n) (cut_cell s p.n (list_of p)) o) o
