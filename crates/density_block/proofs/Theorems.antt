-- What a reader may want to know of this crate's definitions and calls. Assumes nothing.
use mathlib.Core.Path.{◌≡◌}
use mathlib.Core.Bool.{true}
use mathlib.Core.List.{List}
use Prim.Native.Nat.{ℕ, ◌+◌, ◌*◌, ◌<◌}
use native.Mathlib.Omega.{arith}
use lib.Arith.{digits_lt}
use lib.Ieee.{Float}
use lib.ListN.{length}
use Rattle.answers.specs.Paper.{and_then, Answer}
use Rattle.answers.proofs.PaperLaws.{and_then-done}
use Rattle.numbers.specs.Numbers.{is_finite}
use Rattle.complex.specs.Cells.{components}
use Rattle.finite_products.proofs.Allowed.{cell-allowed}
use Rattle.finite_products.proofs.Theorems.{product-finite}
use Rattle.density_entries.specs.Squares.{entry_at}
use Rattle.densities.specs.Square.{InPlace}
use Rattle.densities.proofs.SquareLaws.{place-one}
use Rattle.density_block.specs.Factor.{block_index, block_sizes, block_lengths, block_answer, factor_entry, multiplied_entry, multiplied}
use Rattle.density_block.proofs.FactorLaws.{index-lt}
use Rattle.density_block.proofs.AnswerLaws.{accepted-factor}

-- Only one outcome meets the contract of `multiply_block_factor`.
pub multiply-block-factor-one : (s : List Float) (dim : ℕ) (l : List ℕ) (f : List Float) (side : ℕ) (r r' : Answer) (end end' : List Float)
    → InPlace (block_answer s dim l f side) (multiplied s dim l f side) s r end → InPlace (block_answer s dim l f side) (multiplied s dim l f side) s r' end'
    → (r ≡ r') × (end ≡ end')
multiply-block-factor-one s dim l f side r r' end end' p q =
    place-one (block_answer s dim l f side) (multiplied s dim l f side) s r r' end end' p q

-- Answer 9 cannot arise: where the call is accepted every product that it writes is finite.
pub multiply-block-factor-never-nine : (s : List Float) (dim : ℕ) (l : List ℕ) (f : List Float) (side : ℕ) → (block_answer s dim l f side).0 ≡ 0
    → (t u : ℕ) → t < dim → u < dim
    → (is_finite (multiplied_entry s dim l f side t u).re ≡ true) × (is_finite (multiplied_entry s dim l f side t u).im ≡ true)
multiply-block-factor-never-nine s dim l f side e t u ht hu =
    let a = and_then-done (block_sizes dim l side) (and_then (block_lengths dim side (length s) (length f)) (and_then (components 0 s) (components 0 f))) e in
    let b = and_then-done (block_lengths dim side (length s) (length f)) (and_then (components 0 s) (components 0 f)) a.1 in
    let c = and_then-done (components 0 s) (components 0 f) b.1 in
    let q = accepted-factor s dim l f side e in
    let row : block_index l t < side = omega (arith, index-lt l t, q.side-is) in
    let column : block_index l u < side = omega (arith, index-lt l u, q.side-is) in
    let m = cell-allowed s (t * dim + u) c.0 (omega (arith, digits_lt ht hu, q.matrix)) in
    let n = cell-allowed f (block_index l t * side + block_index l u) c.1 (omega (arith, digits_lt row column, q.factor)) in
    product-finite (entry_at s dim t u) (factor_entry l f side t u) m.0 m.1 n.0 n.1
