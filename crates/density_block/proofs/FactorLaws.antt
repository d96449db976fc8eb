-- Laws of what `specs/FactorLaws.antt` defines. Assumes nothing.
use mathlib.Core.Path.{◌≡◌, refl, sym, ap, ◌∙◌}
use mathlib.Core.Bool.{Bool, true, false, cond}
use mathlib.Core.List.{List, [], ◌∷◌}
use mathlib.Core.Logic.{⊎_elim}
use Prim.Native.Nat.{ℕ, zero, suc, ◌+◌, ◌-◌, ◌*◌, ◌/◌, ◌%◌, ◌^◌, ◌≤◌, ◌<◌}
use native.Mathlib.Nat.{eq-or-lt_of_le, pow-suc, mod-lt, div-add-mod'}
use native.Mathlib.Omega.{arith}
use borrow.Author.Tests.{eq-eqb, ne_eqb, eqb-true}
use lib.Arith.{digits_lt}
use lib.Dec.{eqb}
use lib.Ieee.{Float}
use lib.ListN.{length, get_or, drop, drop_of_length-le, length-drop}
use lib.Seq.{drop-cons}
use Rattle.complex.specs.declared.Complex.{Complex}
use Rattle.complex.specs.Arithmetic.{product}
use Rattle.complex.specs.Cells.{cell_at, set_cell}
use Rattle.density_entries.proofs.CellChanges.{length-set_cell, cell_same, cell_other, past-cells}
use Rattle.density_entries.specs.Squares.{Square, entry_at, row_major}
use Rattle.density_entries.proofs.MirroredLaws.{square-small, cell_in, same_row, same-column, row_of, column-of, table-end}
use Rattle.densities.proofs.DensityLaws.{side-small}
use Rattle.density_block.specs.Factor.{width_of, block_index, factor_entry, multiplied_entry, multiplied, Factored}
use Rattle.density_block.specs.FactorLoops.{FactorSteps}

-- ---- log2

width-here : (q dim : ℕ) → dim ≡ 2 ^ suc q → width_of (suc q) dim ≡ suc q
unfolding width_of
width-here q dim e = rw (eq-eqb dim (2 ^ suc q) e)

width-past : (q dim : ℕ) → (dim ≡ 2 ^ suc q → ⊥) → width_of (suc q) dim ≡ width_of q dim
unfolding width_of
width-past q dim n = rw (ne_eqb dim (2 ^ suc q) n)

pub width-none : (dim : ℕ) → width_of 0 dim ≡ 0
unfolding width_of
width-none dim = refl

pub width-found : (q dim : ℕ) → 0 < q → dim ≡ 2 ^ q → width_of q dim ≡ q
width-found zero dim h e = absurd (omega arith)
width-found (suc q) dim h e = width-here q dim e

pub width-next : (q dim : ℕ) → 0 < q → (dim ≡ 2 ^ q → ⊥) → width_of q dim ≡ width_of (q - 1) dim
width-next zero dim h n = absurd (omega arith)
width-next (suc q) dim h n = let e : q ≡ suc q - 1 = omega arith in width-past q dim n ∙ ap (λ (x : ℕ). width_of x dim) e

-- a width that is not 0 is the logarithm
pub width_power : (m dim : ℕ) → (width_of m dim ≡ 0 → ⊥) → (dim ≡ 2 ^ width_of m dim) × (width_of m dim ≤ m)
unfolding width_of
width_power zero dim n = absurd (n refl)
width_power (suc q) dim n =
    elim (eqb dim (2 ^ suc q)) as (λ (b : Bool). eqb dim (2 ^ suc q) ≡ b → (cond b (suc q) (width_of q dim) ≡ 0 → ⊥)
    → (dim ≡ 2 ^ cond b (suc q) (width_of q dim)) × (cond b (suc q) (width_of q dim) ≤ suc q)) [
      | true ↦ λ e h. (eqb-true dim (2 ^ suc q) e, omega arith)
      | false ↦ λ e h. let i = width_power q dim h in (i.0, omega (arith, i.1))
    ] refl n

-- ---- the block's index

pub index-none : (t : ℕ) → 0 ≡ block_index [] t
unfolding block_index
index-none t = refl

pub index-end : (l : List ℕ) (j t : ℕ) → length l ≤ j → 0 ≡ block_index (drop j l) t
unfolding block_index
index-end l j t h = rw (drop_of_length-le l h)

pub index-more : (l : List ℕ) (j t : ℕ) → j < length l → t / 2 ^ get_or l j 0 % 2 + 2 * block_index (drop (suc j) l) t ≡ block_index (drop j l) t
unfolding block_index
index-more l j t h = rw (drop-cons l j 0)

pub index-lt : (l : List ℕ) (t : ℕ) → block_index l t < 2 ^ length l
unfolding block_index
index-lt [] t = omega arith
index-lt (p ∷ l) t = omega (arith, index-lt l t, pow-suc 2 (length l), mod-lt (t / 2 ^ p) {m = 2} (omega arith))

pub index-small : (l : List ℕ) (j t : ℕ) → length l ≤ 6 → block_index (drop j l) t < 64
index-small l j t h =
    let g : length (drop j l) ≤ 6 = omega (arith, length-drop j l) in
    omega (arith, index-lt (drop j l) t, side-small (length (drop j l)) g)

-- a step of the loop that runs down the positions
pub index-step : (l : List ℕ) (j t index : ℕ) → 0 < j → j ≤ length l → index ≡ block_index (drop j l) t
    → t / 2 ^ get_or l (j - 1) 0 % 2 + 2 * index ≡ block_index (drop (j - 1) l) t
index-step l j t index h g e =
    let k = j - 1 in
    let s : j ≡ suc k = omega arith in
    ap (λ (x : ℕ). t / 2 ^ get_or l k 0 % 2 + 2 * x) (e ∙ ap (λ (x : ℕ). block_index (drop x l) t) s) ∙ index-more l k t (omega arith)

-- the factor's cell of two indices lies in the factor
pub factor-in : (s : List Float) (dim : ℕ) (l : List ℕ) (f : List Float) (side t u : ℕ) → Factored s dim l f side
    → 2 * (block_index l t * side + block_index l u) + 1 < length f
factor-in s dim l f side t u p =
    let a : block_index l t < side = rw p.side-is (index-lt l t) in
    let b : block_index l u < side = rw p.side-is (index-lt l u) in
    omega (arith, digits_lt a b, p.factor)

pub factor-small : (s : List Float) (dim : ℕ) (l : List ℕ) (f : List Float) (side t u : ℕ) → Factored s dim l f side
    → block_index l t * side + block_index l u < 4096
factor-small s dim l f side t u p =
    let a : block_index l t < side = rw p.side-is (index-lt l t) in
    let b : block_index l u < side = rw p.side-is (index-lt l u) in
    let h : side ≤ 64 = rw p.side-is (side-small (length l) p.below.few) in
    omega (arith, digits_lt a b, square-small side h)

pub factored-square : (s : List Float) (dim : ℕ) (l : List ℕ) (f : List Float) (side : ℕ) → Factored s dim l f side → Square dim s
factored-square s dim l f side p = record { small = p.small; room = omega (arith, p.matrix) }

-- ---- the loops over the entries

-- above row t every entry is multiplied, and the others are as they were
pub record AllSteps (dim : ℕ) (g : ℕ → ℕ → Complex) (s end : List Float) (t : ℕ) : Type 0 where
  pub within : t ≤ dim
  pub long : length end ≡ length s
  pub surplus : drop (2 * (dim * dim)) end ≡ drop (2 * (dim * dim)) s
  pub reached : (r c : ℕ) → r < t → c < dim → entry_at end dim r c ≡ product (entry_at s dim r c) (g r c)
  pub kept : (r c : ℕ) → r < dim → c < dim → t ≤ r → entry_at end dim r c ≡ entry_at s dim r c

pub row_step : (dim t : ℕ) (g : ℕ → Complex) (s now end : List Float) (u : ℕ) (z : Complex) → Square dim s → t < dim → FactorSteps dim t g s now u → u < dim
    → z ≡ product (entry_at now dim t u) (g u) → end ≡ set_cell now (t * dim + u) z → FactorSteps dim t g s end (u + 1)
row_step dim t g s now end u z p ht i hu ez ee =
    let inside = cell_in dim s t u p ht hu in
    let zs : z ≡ product (entry_at s dim t u) (g u) = ez ∙ ap (λ (x : Complex). product x (g u)) (i.kept t u ht hu (λ e h. omega arith)) in
    record {
      within = omega arith;
      long = ap length ee ∙ length-set_cell now (t * dim + u) z ∙ i.long;
      surplus = ap (drop (2 * (dim * dim))) ee ∙ past-cells now (dim * dim) (t * dim + u) z (digits_lt ht hu) ∙ i.surplus;
      reached = λ c h.
          ap (λ (x : List Float). entry_at x dim t c) ee
          ∙ ⊎_elim
          (λ (e : c ≡ u). ap (λ (x : ℕ). cell_at (set_cell now (t * dim + u) z) (t * dim + x)) e ∙ cell_same now (t * dim + u) z (omega (arith, i.long)) ∙ zs ∙ ap (λ (x : ℕ). product (entry_at s dim t x) (g x)) (sym e))
          (λ (q : c < u). cell_other now (t * dim + u) (t * dim + c) z (λ e. omega arith) ∙ i.reached c q)
          (eq-or-lt_of_le (omega arith));
      kept = λ r c hr hc n.
          ap (λ (x : List Float). entry_at x dim r c) ee
          ∙ cell_other now (t * dim + u) (r * dim + c) z (λ e. n (same_row dim r c t u hc hu e) (omega (arith, same-column dim r c t u hc hu e)))
          ∙ i.kept r c hr hc (λ e h. n e (omega arith));
    }

pub all_end : (s : List Float) (dim : ℕ) (l : List ℕ) (f : List Float) (side : ℕ) (end : List Float) (t : ℕ) → length s ≡ 2 * (dim * dim)
    → AllSteps dim (factor_entry l f side) s end t → dim ≤ t → end ≡ multiplied s dim l f side
all_end s dim l f side end t room i h =
    table-end (dim * dim) (row_major dim (multiplied_entry s dim l f side)) s end (omega (arith, i.long)) i.surplus
    (λ k q.
    ap (cell_at end) (sym (div-add-mod' k dim))
    ∙ i.reached (k / dim) (k % dim) (omega (arith, row_of dim k q)) (column-of dim k q))
