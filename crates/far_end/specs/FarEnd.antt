-- The same cut, asked from the far end: l names one side, l' the other, in any order. Definitions only.
use Rattle.std.specs.Prelude.{List, ℕ, ◌+◌, ◌*◌, ◌/◌, ◌%◌}
use Rattle.qubits.specs.Spread.{other_qubits}
use Rattle.cut_naming.specs.Reordered.{Reordered}

-- l' names the side that l does not name, in any order
abbrev pub Opposite : ℕ → List ℕ → List ℕ → Type 0
Opposite n l l' = Reordered (other_qubits n l) l'

-- of a matrix of d rows and d columns, column after column: the cell across the diagonal from the k-th
abbrev pub across_of : ℕ → ℕ → ℕ
across_of d k = k % d * d + k / d
