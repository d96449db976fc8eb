-- What the calls of row offsets and of a traced base answer and leave behind: refused as a density without its state. Assumes nothing.
use Rattle.std.specs.Prelude.{not, ◌≡◌, List, ◌++◌, ℕ, ◌-◌, ◌^◌, ltb, length, drop, Result}
use Rattle.answers.specs.Paper.{Answer, Reply, paper, given, done, refuse, and_then, if_done}
use Rattle.answers.specs.declared.Refusal.{Refusal}
use Rattle.qubits.specs.Lists.{density_sizes, qubit_set}
use Rattle.qubits.specs.Spread.{row_offsets, traced_base}

-- 1 to 4 of a density of the listed qubits
abbrev pub density_refusal : ℕ → ℕ → List ℕ → Reply
density_refusal n cap l = and_then (density_sizes n (length l) cap) (qubit_set n l)

-- the list's front is v, and what lies past it is as it was
abbrev pub fronted : List ℕ → List ℕ → List ℕ
fronted v old = v ++ drop (length v) old

-- 1 to 4, and 6 where `out`, slice 1, has fewer numbers than there are row offsets
abbrev pub offsets_answer : ℕ → ℕ → List ℕ → ℕ → Reply
offsets_answer n cap l out = and_then (density_refusal n cap l) (refuse (ltb out (2 ^ length l)) (6, 1) done)

-- a call of `row_offsets`: the answer r, and what out holds at the end
pub record RowOffsets (l : List ℕ) (n cap : ℕ) (o : List ℕ) (r : Answer) (end : List ℕ) : Type 0 where
  pub answer : paper r ≡ offsets_answer n cap l (length o)
  pub numbers : end ≡ if_done (offsets_answer n cap l (length o)).0 (fronted (row_offsets l) o) o

-- 1 to 4; e that no setting of the other qubits has breaks a size
abbrev pub traced_answer : ℕ → List ℕ → ℕ → ℕ → Reply
traced_answer e l n cap =
    and_then (density_sizes n (length l) cap) (refuse (not (ltb e (2 ^ (n - length l)))) (1, 0) (qubit_set n l))

-- a call of `traced_base`: the answer and the base, none on a refusal
pub record TracedBase (e : ℕ) (l : List ℕ) (n cap : ℕ) (r : Result ℕ Refusal) : Type 0 where
  pub answer : paper r ≡ traced_answer e l n cap
  pub base : given 0 r ≡ if_done (traced_answer e l n cap).0 (traced_base n l e) 0
