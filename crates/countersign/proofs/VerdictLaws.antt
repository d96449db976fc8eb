-- What an accepted call hands to its tests, and what a finding says. Assumes nothing.
use mathlib.Core.Path.{◌≡◌, refl, ap, ◌∙◌}
use mathlib.Core.Bool.{Bool}
use mathlib.Core.List.{List}
use Prim.Native.Nat.{ℕ, ◌*◌, ◌≤◌}
use native.Mathlib.Nat.{mul_comm, mul-le-mul}
use native.Mathlib.Omega.{arith}
use lib.Ieee.{Float}
use lib.ListN.{length}
use Rattle.answers.proofs.PaperLaws.{and_then-done}
use Rattle.countersign_products.specs.Products.{Factors}
use Rattle.matrix_sizes.specs.Sizes.{side_of}
use Rattle.matrix_sizes.proofs.SizesLaws.{side-cells}
use Rattle.countersign_checks.specs.Checks.{countersign_sizes, countersign_lengths, countersign_tests}
use Rattle.countersign_checks.proofs.CheckLaws.{sizes-done, lengths-done}
use Rattle.countersign.specs.declared.Finding.{Finding}
use Rattle.countersign.specs.Verdict.{says, Accepted}

-- ---- an accepted call

module _ (m n k a u s vt : ℕ) (x : Accepted m n k a u s vt) where
  pub factors : Factors m n k u s vt
  factors = record { most = x.most; u-is = x.u-is; s-is = x.s-is; vt_is = x.vt_is }

  pub left_is : u ≡ 2 * (k * m)
  left_is = x.u-is ∙ ap (λ (y : ℕ). 2 * y) (mul_comm m k)

  pub left-most : k * m ≤ 4096
  left-most = omega (arith, (side-cells m n k x.side).0, mul_comm m k, x.cells)

  pub right-most : k * n ≤ 4096
  right-most = omega (arith, (side-cells m n k x.side).1, x.cells)

  -- the room that the numbers of U, S and V† need
  pub left-room : u ≤ 8192
  left-room = omega (arith, left_is, left-most)

  pub right-room : vt ≤ 8192
  right-room = omega (arith, x.vt_is, right-most)

  -- and that of at most 256 cells
  pub few-left : a ≤ 512 → u ≤ 512
  few-left h = omega (arith, left_is, (side-cells m n k x.side).0, mul_comm m k, x.a-is)

  pub few-right : a ≤ 512 → vt ≤ 512
  few-right h = omega (arith, x.vt_is, (side-cells m n k x.side).1, x.a-is)

  pub square : k * k ≤ 256
  square = mul-le-mul {n₁ = k} {m₁ = k} {n₂ = 16} {m₂ = 16} x.most x.most

pub accepted : (a : List Float) (m n : ℕ) (u s vt : List Float) {k : ℕ} → (countersign_tests a m n u s vt).0 ≡ 0 → k ≡ side_of m n
    → Accepted m n k (length a) (length u) (length s) (length vt)
unfolding countersign_tests
accepted a m n u s vt {k} e d =
    let p = and_then-done (countersign_sizes m n) _ e in
    let q = and_then-done (countersign_lengths m n (length a) (length u) (length s) (length vt)) _ p.1 in
    let g = sizes-done m n p.0 in
    let l = lengths-done m n (length a) (length u) (length s) (length vt) q.0 in
    rw d (record { side = refl; most = g.1; cells = g.0.few; a-is = l.0; u-is = l.1; s-is = l.2; vt_is = l.3 })

-- the three numbers together
pub said : (f : Finding) {y : Bool} {t c : ℕ} → y ≡ (says f).0 → t ≡ (says f).1 → c ≡ (says f).2 → (y, t, c) ≡ says f
said f {y} {t} {c} d e g =
    ap (λ (x : Bool). (x, t, c)) d ∙ ap (λ (x : ℕ). ((says f).0, x, c)) e ∙ ap (λ (x : ℕ). ((says f).0, (says f).1, x)) g
