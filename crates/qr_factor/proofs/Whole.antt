-- What the steps of the code make of the whole. Assumes nothing.
use mathlib.Core.Path.{◌≡◌, ap, ap₂, ◌∙◌}
use mathlib.Core.List.{List}
use Prim.Native.Nat.{ℕ, ◌*◌, min, max}
use lib.Ieee.{Float}
use lib.ListN.{length}
use Rattle.complex.specs.Zeros.{zeros, zeroed}
use Rattle.qr_basis.specs.Matrix.{matrix_of}
use Rattle.qr_basis.proofs.MatrixLaws.{matrix-zeros}
use Rattle.qr_passes.specs.Room.{QrRoom}
use Rattle.qr_passes.specs.GramSchmidt.{factors, qr_columns_to, basis_for, with_basis, qr_factors}
use Rattle.qr_passes.proofs.GramSchmidtLaws.{zeroed-all}

pub built : (a : List Float) (rows cols cap : ℕ) (q r : List Float) {la lv k : ℕ} {q₁ r₁ m r₂ : List Float} → QrRoom rows cols cap la (length q) (length r) lv
    → q₁ ≡ zeroed (length q) q → r₁ ≡ zeroed (length r) r
    → factors m r₂ k ≡ qr_columns_to a rows cols cap (factors (matrix_of rows q₁) r₁ 0) cols
    → factors m r₂ k ≡ qr_columns_to a rows cols cap (factors (zeros (2 * (cap * rows))) (zeros (2 * (cap * cols))) 0) cols
built a rows cols cap q r o e f g =
    g
    ∙ ap₂
    (λ (x y : List Float). qr_columns_to a rows cols cap (factors x y 0) cols)
    (matrix-zeros rows cap (e ∙ zeroed-all q o.q-is))
    (f ∙ zeroed-all r o.r-is)

pub factor-made : (a : List Float) (rows cols : ℕ) {cap rank k : ℕ} {m r q₁ q₂ : List Float} → cap ≡ min rows cols
    → factors m r rank ≡ qr_columns_to a rows cols cap (factors (zeros (2 * (cap * rows))) (zeros (2 * (cap * cols))) 0) cols
    → q₁ ≡ m → (q₂ ≡ basis_for rank q₁) × (k ≡ max 1 rank) → factors q₂ r k ≡ qr_factors a rows cols
unfolding qr_factors with_basis
factor-made a rows cols {rank = rank} {r = r} c g e b =
    ap₂ (λ (x : List Float) (n : ℕ). factors x r n) (b.0 ∙ ap (basis_for rank) e) b.1
    ∙ ap with_basis
    (g ∙ ap (λ (n : ℕ). qr_columns_to a rows cols n (factors (zeros (2 * (n * rows))) (zeros (2 * (n * cols))) 0) cols) c)
