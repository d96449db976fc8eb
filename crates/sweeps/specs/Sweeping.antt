-- The Jacobi sweeps, over what is done with a pair: pairs of a column, columns of a sweep, sweeps until a quiet one. Assumes nothing.
use Rattle.std.specs.Prelude.{None, Some, true, false, cond, List, ℕ, zero, suc, ◌+◌, ◌-◌, Float}
use Rattle.svd_pair.specs.Decisions.{Decision}
use Rattle.sweeps.specs.declared.Sweeps.{Sweeps}

-- ---- the state

-- the work matrix, V (empty where there is none), and the counts
pub record State : Type 0 where
  pub work : List Float
  pub v : List Float
  pub sweeps : Sweeps

abbrev pub state : List Float → List Float → Sweeps → State
state work v s = record { work = work; v = v; sweeps = s }

-- a pair that is turned is counted, and its sweep is not quiet
unfoldable pub counted : Decision → Sweeps → Sweeps
counted None s = s
counted (Some t) s = record { begun = s.begun; quiet = false; turned = s.turned + 1 }

-- a sweep is counted as it begins, and is quiet until it turns a pair
abbrev pub begin : Sweeps → Sweeps
begin s = record { begun = s.begun + 1; quiet = true; turned = s.turned }

-- no sweep yet
abbrev pub no_sweeps : Sweeps
no_sweeps = record { begun = 0; quiet = false; turned = 0 }

-- ---- the steps

-- what is done with the pair p, q: the decision, by the work matrix alone, and what it does to the work matrix and to V
pub record Pairing : Type 0 where
  pub decide : ℕ → ℕ → List Float → Decision
  pub on_work : Decision → ℕ → ℕ → List Float → List Float
  pub on_v : Decision → ℕ → ℕ → List Float → List Float

-- the decision d is done to the pair p, q
unfoldable pub pair_by : Pairing → Decision → ℕ → ℕ → State → State
pair_by f d p q s = state (f.on_work d p q s.work) (f.on_v d p q s.v) (counted d s.sweeps)

-- the pair p, q
unfoldable pub pair_step : Pairing → ℕ → ℕ → State → State
pair_step f p q s = pair_by f (f.decide p q s.work) p q s

-- the first k pairs of p: with p + 1, p + 2, ..
unfoldable pub pairs_to : Pairing → ℕ → ℕ → State → State
pairs_to f p zero s = s
pairs_to f p (suc k) s = pair_step f p (p + 1 + k) (pairs_to f p k s)

-- all pairs of each column below p
unfoldable pub columns_to : Pairing → ℕ → ℕ → State → State
columns_to f n zero s = s
columns_to f n (suc p) s = pairs_to f p (n - (p + 1)) (columns_to f n p s)

-- one sweep, over what is done with a pair as the work matrix stands when the sweep begins
unfoldable pub sweep_of : (List Float → Pairing) → ℕ → State → State
sweep_of f n s = columns_to (f s.work) n n (state s.work s.v (begin s.sweeps))

-- up to k sweeps, and none after a quiet one
unfoldable pub sweeps_to : (List Float → Pairing) → ℕ → ℕ → State → State
sweeps_to f n zero s = s
sweeps_to f n (suc k) s =
    let t = sweep_of f n s in
    cond t.sweeps.quiet t (sweeps_to f n k t)

-- as many sweeps as the cap allows
unfoldable pub settled_by : (List Float → Pairing) → ℕ → ℕ → List Float → List Float → State
settled_by f cap n work v = sweeps_to f n cap (state work v no_sweeps)
