-- The Schmidt values of a plan: the answer, and what a call leaves behind. Assumes nothing.
use Rattle.std.specs.Prelude.{◌≡◌, false, List, ℕ, Float, length, Result}
use Rattle.answers.specs.declared.Refusal.{Refusal}
use Rattle.answers.specs.Paper.{Reply, paper, given, and_then, if_done, if_worked, at_end}
use Rattle.complex.specs.Zeros.{zeroed}
use Rattle.finish.specs.Finish.{finish_of, padded}
use Rattle.factored.specs.Factored.{kept_sweeps}
use Rattle.cut_values.specs.declared.CutCounted.{CutCounted}
use Rattle.cut_values.specs.Schmidt.{cut_rows, cut_values_scratch, singular_values, cut_sweeps, cut_exact, no_cut, cut_values_answer}
use Rattle.plans.specs.declared.Plan.{Plan}
use Rattle.plans.specs.Plans.{list_of, made_reply}

-- 1 of a plan that no list makes, then 1 to 9 of its list under cap 13
abbrev pub planned_values_answer : List Float → Plan → ℕ → ℕ → Reply
planned_values_answer s p out scratch = and_then (made_reply p) (cut_values_answer s p.n (list_of p) 13 out scratch)

-- a call of `planned_schmidt_values`: the answer, the count, the sweeps, the mark, and what out and scratch hold at the end
pub record PlannedValues (s : List Float) (p : Plan) (out scratch : List Float) (r : Result CutCounted Refusal) (out' scratch' : List Float) : Type 0 where
  pub answer : paper r ≡ planned_values_answer s p (length out) (length scratch)
  pub count : (given no_cut r).count ≡ if_done (paper r).0 (length (finish_of (singular_values s p.n (list_of p)))) 0
  pub out-is : out' ≡ at_end (paper r).0 (padded (cut_rows p.n (list_of p)) (finish_of (singular_values s p.n (list_of p))) out)
      (zeroed (cut_rows p.n (list_of p)) out) out
  pub scratch-is : scratch' ≡ if_worked (paper r).0 (zeroed (cut_values_scratch p.n (cut_rows p.n (list_of p))) scratch) scratch
  pub sweeps-are : (given no_cut r).sweeps ≡ kept_sweeps r (cut_sweeps s p.n (list_of p))
  pub exact-is : (given no_cut r).exact ≡ if_done (paper r).0 (cut_exact s p.n (list_of p)) false
