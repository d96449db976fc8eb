-- A plan of a cut: what it holds, which list it keeps, and whether some list makes it. Assumes nothing.
use Rattle.std.specs.Prelude.{Bool, not, ◌&&◌, ◌≡◌, List, [], ℕ, ◌-◌, ◌^◌, eqb, leb, length, take, Result}
use Rattle.answers.specs.declared.Refusal.{Refusal}
use Rattle.answers.specs.Paper.{Reply, paper, given, done, refuse, if_done}
use Rattle.cut_sides.specs.Sides.{cut_refusal, side, row_mask, column_mask, side_list}
use Rattle.plan_lists.specs.Padded.{padded, same_list}
use Rattle.plans.specs.declared.Plan.{Plan}

-- the plan of a list
abbrev pub plan_of : List ℕ → ℕ → Plan
plan_of l n = record {
  n = n;
  k = length l;
  row_mask = row_mask l n;
  column_mask = column_mask l n;
  rows = 2 ^ side l n;
  columns = 2 ^ (n - side l n);
  named = padded l;
  smaller = padded (side_list l n);
}

-- all zeros, which no list makes
abbrev pub no_plan : Plan
no_plan = record { n = 0; k = 0; row_mask = 0; column_mask = 0; rows = 0; columns = 0; named = padded []; smaller = padded [] }

-- a call of `cut_plan`: the answer, and the plan, none on a refusal
pub record CutPlan (l : List ℕ) (n cap : ℕ) (r : Result Plan Refusal) : Type 0 where
  pub answer : paper r ≡ cut_refusal l n cap
  pub plan : given no_plan r ≡ if_done (cut_refusal l n cap).0 (plan_of l n) no_plan

-- the list that a plan keeps
abbrev pub list_of : Plan → List ℕ
list_of p = take p.k p.named

-- the same thirty numbers
unfoldable pub same_plan : Plan → Plan → Bool
same_plan a b =
    eqb a.n b.n && (eqb a.k b.k && (eqb a.row_mask b.row_mask && (eqb a.column_mask b.column_mask
    && (eqb a.rows b.rows && (eqb a.columns b.columns && (same_list a.named b.named && same_list a.smaller b.smaller))))))

-- some list makes the plan under cap 13: the one that it keeps
unfoldable pub made : Plan → Bool
made p = leb p.k 12 && (eqb (cut_refusal (list_of p) p.n 13).0 0 && same_plan p (plan_of (list_of p) p.n))

-- 1, before all others, of every call that takes a plan
abbrev pub made_reply : Plan → Reply
made_reply p = refuse (not (made p)) (1, 0) done
