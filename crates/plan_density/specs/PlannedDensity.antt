-- The density of a plan's list: the answer, and what a call leaves behind. Assumes nothing.
use Rattle.std.specs.Prelude.{◌≡◌, List, ℕ, ◌*◌, ◌^◌, Float, length}
use Rattle.answers.specs.Paper.{Answer, Reply, paper, and_then, if_done}
use Rattle.complex.specs.Zeros.{zeroed}
use Rattle.densities.specs.Density.{density_answer, density_list}
use Rattle.plans.specs.declared.Plan.{Plan}
use Rattle.plans.specs.Plans.{list_of, made_reply}

-- 1 of a plan that no list makes, then 1 to 7 of its list under cap 13: 1 again where it names more than 6 qubits
abbrev pub planned_density_answer : List Float → Plan → ℕ → ℕ → Reply
planned_density_answer s p o w = and_then (made_reply p) (density_answer s p.n (list_of p) 13 o w)

-- a call of `planned_reduced_density`: the answer r, and what out and scratch hold at the end
pub record PlannedDensity (s : List Float) (p : Plan) (o w : List Float) (r : Answer) (out scratch : List Float) : Type 0 where
  pub answer : paper r ≡ planned_density_answer s p (length o) (length w)
  pub matrix : out ≡ if_done (planned_density_answer s p (length o) (length w)).0 (density_list p.n (list_of p) s o) o
  pub cleared : scratch ≡ if_done (planned_density_answer s p (length o) (length w)).0 (zeroed (2 * 2 ^ length (list_of p)) w) w
