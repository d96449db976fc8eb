-- What a reader may want to know of page two. Assumes nothing.
use mathlib.Core.Path.{◌≡◌, refl, sym, ap, ◌∙◌}
use mathlib.Core.Bool.{Bool, true, false, not}
use mathlib.Core.List.{List, [], ◌∷◌}
use Prim.Native.Nat.{ℕ, zero, suc, ◌*◌, ◌/◌, ◌^◌, ◌≤◌, min}
use native.Mathlib.Omega.{arith}
use borrow.Author.Tests.{eq-eqb, le-ltb}
use lib.Dec.{ltb, eqb}
use lib.Ieee.{Float}
use lib.ListN.{length}
use lib.Pow.{pow_mono}
use Rattle.answers.specs.Paper.{Reply, done, refuse, after, and_then}
use Rattle.answers.proofs.PaperLaws.{and_then-done, done-new}
use Rattle.numbers.specs.Numbers.{allowed}
use Rattle.complex.specs.Cells.{written, components}
use Rattle.qubits.specs.Lists.{density_sizes, qubit_set, subsystem}
use Rattle.cuts.specs.Cut.{cut_cell}
use Rattle.cut_sides.specs.Sides.{cut_sizes, cut_refusal}
use Rattle.cut_sides.proofs.SideLaws.{is-parted}
use Rattle.agreement.specs.FromCut.{cut_density_cell}
use Rattle.agreement.proofs.AgreementLaws.{written_same}
use Rattle.agreement.proofs.SameDensity.{same-density}
use Rattle.density_entries.specs.Entries.{density_cell}
use Rattle.densities.specs.Density.{density_lengths}
use Rattle.pages.specs.Agree.{pages_same}
use Rattle.pages.proofs.AgreeLaws.{pages-same}
use Rattle.page_matrices.specs.Matrices.{matrices_text}
use Rattle.page_cells.proofs.PageCellLaws.{square-small}
use Rattle.page_two.specs.PageTwo.{page_two_reply, density_of, page_two_text}
use Rattle.page_two.proofs.PageTwoLaws.{five}

-- The matrix that page two prints is the one summed from page one's cut matrix alone, bit for bit.
pub summed-from-cut : (s : List Float) (n : ℕ) (l : List ℕ) → (cut_refusal l n 10).0 ≡ 0
    → density_of s n l ≡ written (2 ^ length l * 2 ^ length l) (cut_density_cell n l (written (2 ^ n) (cut_cell s n l) [])) []
summed-from-cut s n l e =
    written_same (2 ^ length l * 2 ^ length l) (density_cell n l s) (cut_density_cell n l (written (2 ^ n) (cut_cell s n l) [])) []
    (λ k h. sym (same-density n l (is-parted l n 10 e) s [] k))

-- Where page two is accepted its last line is `summed yes`.
pub always-summed : (s : List Float) (n : ℕ) (l : List ℕ) (accepted : Bool) (total : ℕ) → (cut_refusal l n 10).0 ≡ 0 → (page_two_reply s n l).0 ≡ 0
    → page_two_text s n l accepted total ≡ matrices_text (density_of s n l) (2 ^ length l) accepted total true
unfolding page_two_text
always-summed s n l accepted total e z =
    sym (done-new (page_two_reply s n l).0 (matrices_text (density_of s n l) (2 ^ length l) accepted total (pages_same s n l)) _ z)
    ∙ ap (matrices_text (density_of s n l) (2 ^ length l) accepted total) (pages-same s n l (is-parted l n 10 e))

-- ---- never 6

abbrev NotSix : Reply → Type 0
NotSix a = a.0 ≡ 6 → ⊥

refuse-six : (t : Bool) (a b : Reply) → NotSix a → NotSix b → NotSix (refuse t a b)
refuse-six true a b f g = f
refuse-six false a b f g = g

after-six : (k : ℕ) (a b : Reply) → NotSix a → (k ≡ 0 → NotSix b) → NotSix (after k a b)
after-six zero a b f g = g refl
after-six (suc k) a b f g = f

zero-six : (a : Reply) → a.0 ≡ 0 → NotSix a
zero-six a e z = omega (arith, e, z)

one-six : NotSix (1, 0)
one-six z = omega (arith, z)

components-six : (i : ℕ) (s : List Float) → NotSix (components i s)
unfolding components
components-six i [] = zero-six done refl
components-six i (x ∷ s) = refuse-six (not (allowed x)) (7, i / 2) (components (suc i) s) (λ z. omega (arith, z)) (components-six (suc i) s)

-- Page two of a state that has its 2·2^n numbers, under a cut that is not refused, is never refused by 6.
pub page-two-never-length : (s : List Float) (n : ℕ) (l : List ℕ) → (cut_refusal l n 10).0 ≡ 0 → length s ≡ 2 * 2 ^ n → (page_two_reply s n l).0 ≡ 6 → ⊥
unfolding page_two_reply
page-two-never-length s n l e long =
    let S = density_sizes n (length l) 10 in
    let Q = qubit_set n l in
    let L = density_lengths (2 ^ n) (2 ^ length l) (length s) 2048 64 in
    let set : Q.0 ≡ 0 =
    (and_then-done Q (refuse (eqb (length l) n) (5, 0) done) (and_then-done (cut_sizes n 10) (subsystem n l) e).1).0 in
    let B = ltb (min 10 13) (2 * length l) in
    let sizes : NotSix S =
    refuse-six (ltb n 1) (1, 0) (refuse (ltb 12 n) (1, 0) (refuse B (1, 0) done)) one-six
    (refuse-six (ltb 12 n) (1, 0) (refuse B (1, 0) done) one-six (refuse-six B (1, 0) done one-six (zero-six done refl))) in
    let fits : S.0 ≡ 0 → L.0 ≡ 0 =
    λ z. let d : 2 ^ length l ≤ 32 = pow_mono {i = length l} {j = 5} (five n (length l) z) in
    rw (eq-eqb (length s) (2 * 2 ^ n) long, le-ltb 2048 (2 * (2 ^ length l * 2 ^ length l)) (omega (arith, square-small (2 ^ length l) d)), le-ltb 64 (2 * 2 ^ length l) (omega (arith, d))) in
    after-six (and_then S Q).0 (and_then S Q) (and_then L (components 0 s)) (after-six S.0 S Q sizes (λ z. zero-six Q set))
    (λ z. after-six L.0 L (components 0 s) (zero-six L (fits (and_then-done S Q z).0)) (λ y. components-six 0 s))
