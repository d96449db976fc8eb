-- DEMAND 3, b: the density from the state is, bit for bit, the one summed from the cut matrix alone. Assumes nothing.
use mathlib.Core.Bool.{Bool, cond}
use mathlib.Core.Path.{◌≡◌, refl, sym, ap, ap₂, ◌∙◌}
use mathlib.Core.Logic.{⊎_elim}
use mathlib.Core.List.{List, [], ◌∷◌}
use Prim.Native.Nat.{ℕ, zero, suc, ◌+◌, ◌-◌, ◌*◌, ◌/◌, ◌%◌, ◌^◌, ◌≤◌, ◌<◌, min}
use native.Mathlib.Omega.{arith}
use native.Mathlib.Nat.{min-eq_left, min-eq_right, zero-mul, one-mul, mul_comm}
use lib.Arith.{digits_lt, digits_div, digits_mod}
use lib.Bits.{bit_or, or_comm}
use lib.Dec.{leb}
use lib.Ieee.{Float}
use lib.ListN.{length}
use Rattle.submasks.specs.Submasks.{submask_at, others}
use Rattle.submasks.proofs.SubmaskLaws.{submask_at-submask_number, submask_number-lt, le-or-lt, digit}
use Rattle.submasks.proofs.BitLaws.{Submask, submask-zero, submask-or, submask-self, submask-wider}
use Rattle.qubits.specs.Spread.{spread, mask_from, named}
use Rattle.qubits.proofs.NamedLaws.{named-lt, named_count, sizes-product}
use Rattle.qubits.proofs.OtherLaws.{traced-submask}
use Rattle.complex.specs.declared.Complex.{Complex}
use Rattle.complex.specs.Arithmetic.{sum_of, product, conjugate}
use Rattle.complex.specs.Cells.{cell_at, written}
use Rattle.complex.proofs.CellLaws.{cell-written}
use Rattle.cut_sides.specs.Sides.{side, Parted}
use Rattle.cut_sides.proofs.SideLaws.{named-yes, named-no}
use Rattle.cuts.specs.Cut.{cut_cell}
use Rattle.density_entries.specs.Entries.{total, setting_amplitude, lower_entry, density_cell}
use Rattle.density_entries.specs.Squares.{mirrored_entry}
use Rattle.agreement.specs.FromCut.{number_of, cut_amplitude, cut_entry, cut_density_cell}

-- ---- a setting of the named qubits is a submask of their mask

wider : (x m : ℕ) (l : List ℕ) → Submask x m → Submask x (mask_from m l)
unfolding mask_from
wider x m [] p = p
wider x m (q ∷ l) p = wider x (bit_or m (2 ^ q)) l (submask-wider x m (2 ^ q) p)

one-digit : (t q m : ℕ) → Submask (t % 2 * 2 ^ q) (bit_or m (2 ^ q))
one-digit t q m =
    ⊎_elim
    (λ (h : t % 2 ≡ 0). rw (h, zero-mul) (submask-zero (bit_or m (2 ^ q))))
    (λ (h : t % 2 ≡ 1). rw (h, one-mul, or_comm m (2 ^ q)) (submask-self (2 ^ q) m))
    (digit t)

pub spread-submask : (m : ℕ) (l : List ℕ) (t : ℕ) → Submask (spread l t) (mask_from m l)
unfolding mask_from spread
spread-submask m [] t = submask-zero m
spread-submask m (q ∷ l) t =
    submask-or (t % 2 * 2 ^ q) (spread l (t / 2)) (mask_from (bit_or m (2 ^ q)) l)
    (wider (t % 2 * 2 ^ q) (bit_or m (2 ^ q)) l (one-digit t q m)) (spread-submask (bit_or m (2 ^ q)) l (t / 2))

-- ---- sums of the same terms

pub total-same : (m : ℕ) (f g : ℕ → Complex) → ((e : ℕ) → e < m → f e ≡ g e) → total m f ≡ total m g
unfolding total
total-same zero f g h = refl
total-same (suc m) f g h = ap₂ sum_of (total-same m f g (λ e l. h e (omega arith))) (h m (omega arith))

module _ (m : ℕ) (a b : ℕ → ℕ → Complex) (h : (t e : ℕ) → e < m → a t e ≡ b t e) where
  pub entry-same : (t u : ℕ) → total m (λ e. product (a t e) (conjugate (a u e))) ≡ total m (λ e. product (b t e) (conjugate (b u e)))
  entry-same t u =
      total-same m (λ e. product (a t e) (conjugate (a u e))) (λ e. product (b t e) (conjugate (b u e)))
      (λ e l. ap₂ (λ (x y : Complex). product x (conjugate y)) (h t e l) (h u e l))

pub mirrored-same : (f g : ℕ → ℕ → Complex) → ((t u : ℕ) → f t u ≡ g t u) → (t u : ℕ) → mirrored_entry f t u ≡ mirrored_entry g t u
mirrored-same f g h t u = ap₂ (λ (x y : Complex). cond (leb u t) x (conjugate y)) (h t u) (h u t)

-- ---- the two densities

module _ (n : ℕ) (l : List ℕ) (p : Parted l n) where
  pub number_lt : (t : ℕ) → number_of n l t < 2 ^ length l
  number_lt t = rw (named_count n l p.listed) at (submask_number-lt n (named l) (spread l t))

  number-back : (t : ℕ) → submask_at n (named l) (number_of n l t) ≡ spread l t
  number-back t = submask_at-submask_number n (named l) (spread l t) (named-lt n l p.listed) ∙ spread-submask 0 l t

  module _ (s o : List Float) where
    -- one amplitude: the cell of the cut matrix holds the state's
    pub same-amplitude : (t e : ℕ) → e < 2 ^ (n - length l) → cut_amplitude n l (written (2 ^ n) (cut_cell s n l) o) t e ≡ setting_amplitude n l s t e
    same-amplitude t e h =
        let M = written (2 ^ n) (cut_cell s n l) o in
        let X = e * 2 ^ side l n + number_of n l t in
        let Y = number_of n l t * 2 ^ side l n + e in
        let B = ap (λ (x : ℕ). cell_at s (bit_or (spread l t) x)) (sym (traced-submask n l p.listed e)) in
        ⊎_elim
        (λ (g : length l ≤ n - length l).
        let b = named-yes l n g in
        let d : min (length l) (n - length l) ≡ length l = min-eq_left g in
        let k : e * 2 ^ length l + number_of n l t < 2 ^ n = rw (sizes-product n (length l) p.listed.short) at (digits_lt h (number_lt t)) in
        ap (λ (x : Bool). cell_at M (cond x X Y)) b ∙ cell-written (2 ^ n) X (cut_cell s n l) o (rw d k)
        ∙ (rw (b, d, digits_mod e (number_lt t), digits_div e (number_lt t), number-back t) B))
        (λ (g : n - length l < length l).
        let b = named-no l n g in
        let c : n - length l ≤ length l = omega arith in
        let d : min (length l) (n - length l) ≡ n - length l = min-eq_right c in
        let k : number_of n l t * 2 ^ (n - length l) + e < 2 ^ n
        = rw (mul_comm (2 ^ length l) (2 ^ (n - length l)) ∙ sizes-product n (length l) p.listed.short) at (digits_lt (number_lt t) h) in
        ap (λ (x : Bool). cell_at M (cond x X Y)) b ∙ cell-written (2 ^ n) Y (cut_cell s n l) o (rw d k)
        ∙ (rw (b, d, digits_mod (number_of n l t) h, digits_div (number_of n l t) h, number-back t)
        (ap (cell_at s) (or_comm (submask_at n (others n (named l)) e) (spread l t)) ∙ B)))
        (le-or-lt (length l) (n - length l))

    -- THE DENSITY FROM THE CUT MATRIX ALONE IS THE DENSITY FROM THE STATE, cell by cell and bit for bit, whichever side became the rows
    pub same-density : (k : ℕ) → cut_density_cell n l (written (2 ^ n) (cut_cell s n l) o) k ≡ density_cell n l s k
    same-density k =
        mirrored-same (cut_entry n l (written (2 ^ n) (cut_cell s n l) o)) (lower_entry n l s)
        (entry-same (2 ^ (n - length l)) (cut_amplitude n l (written (2 ^ n) (cut_cell s n l) o)) (setting_amplitude n l s) same-amplitude)
        (k / 2 ^ length l) (k % 2 ^ length l)
