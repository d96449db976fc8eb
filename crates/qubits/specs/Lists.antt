-- Which list of qubits is refused, and how, in 01's order: 1, then 2 and 3 in list order, 4, 5. Assumes nothing.
use Rattle.std.specs.Prelude.{Bool, false, ◌||◌, ◌≡◌, List, [], ◌∷◌, ℕ, suc, ◌*◌, ◌≤◌, ◌<◌, min, leb, ltb, eqb, length, take, get_or}
use Rattle.answers.specs.Paper.{Reply, done, refuse, and_then}

-- q stands in the list
unfoldable pub stands : ℕ → List ℕ → Bool
stands q [] = false
stands q (x ∷ l) = eqb x q || stands q l

-- 2 or 3, in list order: the list l, of which the part from the position i on is left
unfoldable pub places_from : ℕ → List ℕ → ℕ → List ℕ → Reply
places_from n l i [] = done
places_from n l i (q ∷ rest) = refuse (leb n q) (2, i) (refuse (stands q (take i l)) (3, i) (places_from n l (suc i) rest))

-- 1: the register's size
abbrev pub register : ℕ → Reply → Reply
register n later = refuse (ltb n 1) (1, 0) (refuse (ltb 12 n) (1, 0) later)

-- 2 and 3, then 4
abbrev pub places : ℕ → List ℕ → Reply
places n l = and_then (places_from n l 0 l) (refuse (eqb (length l) 0) (4, 0) done)

-- `validate_qubit_set`: 1, then 2 and 3, then 4
abbrev pub qubit_set : ℕ → List ℕ → Reply
qubit_set n l = register n (places n l)

-- `validate_subsystem`: the same, then 5
abbrev pub subsystem : ℕ → List ℕ → Reply
subsystem n l = and_then (qubit_set n l) (refuse (eqb (length l) n) (5, 0) done)

-- 1 of a density over k qubits: the register, and 2k against the cap, which is at most 13
abbrev pub density_sizes : ℕ → ℕ → ℕ → Reply
density_sizes n k cap = register n (refuse (ltb (min cap 13) (2 * k)) (1, 0) done)

-- what a list that `validate_qubit_set` accepts is, and what the inner functions ask: each qubit is the register's and stands nowhere before
pub record Listed (n : ℕ) (l : List ℕ) : Type 0 where
  pub small : n ≤ 12
  pub below : (k : ℕ) → k < length l → get_or l k 0 < n
  pub apart : (k : ℕ) → k < length l → stands (get_or l k 0) (take k l) ≡ false
  pub short : length l ≤ n
