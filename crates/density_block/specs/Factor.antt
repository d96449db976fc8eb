-- `multiply_block_factor`: the positions' bits of an index, the answer, and the multiplied matrix. Assumes nothing.
use Rattle.std.specs.Prelude.{not, cond, ◌≡◌, List, [], ◌∷◌, ℕ, zero, suc, ◌+◌, ◌*◌, ◌/◌, ◌%◌, ◌^◌, ◌≤◌, ◌<◌, eqb, Float, length, get_or}
use Rattle.answers.specs.Paper.{Reply, done, refuse, and_then}
use Rattle.complex.specs.declared.Complex.{Complex}
use Rattle.complex.specs.Arithmetic.{product}
use Rattle.complex.specs.Cells.{cell_at, written, components}
use Rattle.qubits.specs.Lists.{qubit_set}
use Rattle.density_entries.specs.Squares.{row_major, entry_at}

-- the q from 1 to m with dim = 2 ^ q, and 0 where there is none
unfoldable pub width_of : ℕ → ℕ → ℕ
width_of zero dim = 0
width_of (suc q) dim = cond (eqb dim (2 ^ suc q)) (suc q) (width_of q dim)

-- bit j of the block's index is bit positions[j] of t
unfoldable pub block_index : List ℕ → ℕ → ℕ
block_index [] t = 0
block_index (p ∷ l) t = t / 2 ^ p % 2 + 2 * block_index l t

-- 1: one to six distinct positions below log2 of dim, as a list of a register of so many qubits; the factor's side
abbrev pub block_sizes : ℕ → List ℕ → ℕ → Reply
block_sizes dim l side =
    refuse (not (eqb (qubit_set (width_of 6 dim) l).0 0)) (1, 0) (refuse (not (eqb side (2 ^ length l))) (1, 0) done)

-- 6: the matrix is slice 0, the factor is 2, both exact
abbrev pub block_lengths : ℕ → ℕ → ℕ → ℕ → Reply
block_lengths dim side s f = refuse (not (eqb s (2 * (dim * dim)))) (6, 0) (refuse (not (eqb f (2 * (side * side)))) (6, 2) done)

-- 1, then 6, then 7 of the matrix and of the factor
abbrev pub block_answer : List Float → ℕ → List ℕ → List Float → ℕ → Reply
block_answer s dim l f side =
    and_then (block_sizes dim l side)
    (and_then (block_lengths dim side (length s) (length f)) (and_then (components 0 s) (components 0 f)))

-- the factor's entry of row t and column u
abbrev pub factor_entry : List ℕ → List Float → ℕ → ℕ → ℕ → Complex
factor_entry l f side t u = cell_at f (block_index l t * side + block_index l u)

-- each entry times the factor's
abbrev pub multiplied_entry : List Float → ℕ → List ℕ → List Float → ℕ → ℕ → ℕ → Complex
multiplied_entry s dim l f side t u = product (entry_at s dim t u) (factor_entry l f side t u)

abbrev pub multiplied : List Float → ℕ → List ℕ → List Float → ℕ → List Float
multiplied s dim l f side = written (dim * dim) (row_major dim (multiplied_entry s dim l f side)) s

-- what the inner functions ask: positions that a shift of an index can take
pub record Below (l : List ℕ) : Type 0 where
  pub few : length l ≤ 6
  pub low : (j : ℕ) → j < length l → get_or l j 0 < 64

-- a matrix of side dim, and a factor with an entry for every two indices of the block
pub record Factored (s : List Float) (dim : ℕ) (l : List ℕ) (f : List Float) (side : ℕ) : Type 0 where
  pub below : Below l
  pub small : dim ≤ 64
  pub matrix : length s ≡ 2 * (dim * dim)
  pub side-is : side ≡ 2 ^ length l
  pub factor : length f ≡ 2 * (side * side)
