-- One list in another order of the other: the same qubits. Definitions only.
use Rattle.std.specs.Prelude.{◌≡◌, cond, List, [], ◌∷◌, ℕ, ◌+◌, eqb}

-- how many times q stands in the list
unfoldable pub times : ℕ → List ℕ → ℕ
times q [] = 0
times q (x ∷ l) = cond (eqb x q) 1 0 + times q l

-- the same qubits, each as often, in any order
abbrev pub Reordered : List ℕ → List ℕ → Type 0
Reordered l l' = (q : ℕ) → times q l ≡ times q l'
