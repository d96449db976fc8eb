-- What a reader may want to know of this crate's definitions and calls. Assumes nothing.
use mathlib.Core.Path.{◌≡◌, sym, ◌∙◌}
use mathlib.Core.List.{List}
use Prim.Native.Nat.{ℕ}
use Rattle.answers.specs.Paper.{Answer, paper}
use Rattle.answers.proofs.Theorems.{paper-one}
use Rattle.qubits.specs.Lists.{qubit_set, subsystem}

-- Only one outcome meets the contract of `validate_qubit_set`.
pub validate-qubit-set-one : (l : List ℕ) (n : ℕ) (r r' : Answer) → paper r ≡ qubit_set n l → paper r' ≡ qubit_set n l → r ≡ r'
validate-qubit-set-one l n r r' a b = paper-one r r' (a ∙ sym b)

-- Only one answer meets the contract of `validate_subsystem`.
pub validate-subsystem-one : (l : List ℕ) (n : ℕ) (r r' : Answer) → paper r ≡ subsystem n l → paper r' ≡ subsystem n l → r ≡ r'
validate-subsystem-one l n r r' a b = paper-one r r' (a ∙ sym b)
