-- Cut j of a chain: the qubits 0..j against the rest. Definitions only.
use Rattle.std.specs.Prelude.{◌≡◌, List, [], ◌∷◌, ◌++◌, ℕ, zero, suc, ◌+◌, ◌-◌, ◌*◌, ◌^◌, ◌≤◌, ◌<◌, min, length, take, Float, Result, IfOk}
use Rattle.answers.specs.declared.Refusal.{Refusal}
use Rattle.answers.specs.Paper.{Reply, paper}
use Rattle.complex.specs.Cells.{components}
use Rattle.cut_sides.specs.Sides.{cut_sizes}
use Rattle.cut_values.specs.declared.CutCounted.{CutCounted}
use Rattle.cut_marks.specs.Marks.{one_if, cut_marks}
use Rattle.finish.specs.Finish.{finish_of}
use Rattle.cut_values.specs.Schmidt.{singular_values, cut_sweeps, cut_exact, values_reply}

-- the first k qubits, rising
unfoldable pub first_qubits : ℕ → List ℕ
first_qubits zero = []
first_qubits (suc k) = first_qubits k ++ k ∷ []

-- the list of cut j: 0..j
abbrev pub cut_list : ℕ → List ℕ
cut_list j = first_qubits (suc j)

-- the most values that cut j has
abbrev pub room_at : ℕ → ℕ → ℕ
room_at n j = 2 ^ min (suc j) (n - suc j)

-- ---- what the cut asked for alone gives

-- its kept values
unfoldable pub values_at : List Float → ℕ → ℕ → List Float
values_at s n j = finish_of (singular_values s n (cut_list j))

-- its answer past 7
unfoldable pub reply_at : List Float → ℕ → ℕ → Reply
reply_at s n j = values_reply (singular_values s n (cut_list j))

-- what its call returns where it answers 0
unfoldable pub result_at : List Float → ℕ → ℕ → CutCounted
result_at s n j = record { count = length (values_at s n j); sweeps = cut_sweeps s n (cut_list j); exact = cut_exact s n (cut_list j) }

-- ---- the marks

-- the marks of a cut, from what its call returned: the sweeps begun, 1 where the last was quiet else 0, the turned pairs, 1 where
-- every root was exact else 0
abbrev pub marks_of : CutCounted → List ℕ
marks_of r = cut_marks r.sweeps ++ one_if r.exact ∷ []

-- how many they are
abbrev pub marks_each : ℕ
marks_each = 4

-- ---- contracts

pub record CutRoom (s : List Float) (n j cap out scratch : ℕ) : Type 0 where
  pub sizes : (cut_sizes n cap).0 ≡ 0
  pub small : n ≤ 12
  pub inside : suc j < n
  pub state-is : length s ≡ 2 * 2 ^ n
  pub allowed : (components 0 s).0 ≡ 0
  pub out-fits : room_at n j ≤ out
  pub scratch-fits : 8 * 2 ^ n + 2 * room_at n j ≤ scratch

-- the answer, and where it is 0 what is returned and the values at the front
pub record AloneAt (s : List Float) (n j : ℕ) (r : Result CutCounted Refusal) (out : List Float) : Type 0 where
  pub answer : paper r ≡ reply_at s n j
  pub result : IfOk r (λ c. c ≡ result_at s n j)
  pub values : IfOk r (λ c. take (length (values_at s n j)) out ≡ values_at s n j)
