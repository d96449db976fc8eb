-- What a number of the slab is after the data are pasted or cells are freed, and what the scan says of a cell.
-- Assumes nothing.
use mathlib.Core.Path.{◌≡◌, refl, sym, ap, ◌∙◌}
use mathlib.Core.Bool.{Bool, true, false, ◌||◌}
use mathlib.Core.List.{List, [], ◌∷◌}
use mathlib.Core.Logic.{◌⊎◌, inl, inr, ⊎_elim}
use Prim.Native.Nat.{ℕ, zero, suc, ◌+◌, ◌-◌, ◌*◌, ◌≤◌, ◌<◌}
use native.Mathlib.Omega.{arith}
use lib.Dec.{eqb}
use lib.ListN.{length, get_or, set, length-set, length-replicate, get_or-replicate, replicate}
use lib.Seq.{sets, length-sets, get_or-set_same, get_or-set_other}
use borrow.Author.Tests.{eq-eqb, eqb-true}
use Rattle.slab_sites.specs.Sites.{held}
use Rattle.slab_sites.proofs.EveryLaws.{both, first_of, second-of, every-at, every-all}
use Rattle.slab_cells.specs.Cells.{blank, clean, map_of, pasted, wiped}
use Rattle.slab_cells.proofs.CellLaws.{map_at}

sets-off : (vs l : List ℕ) (i p : ℕ) → (p < i) ⊎ (i + length vs ≤ p) → get_or (sets l i vs) p 0 ≡ get_or l p 0
sets-off [] l i p h = refl
sets-off (v ∷ vs) l i p h =
    sets-off vs (set l i v) (suc i) p (⊎_elim (λ (a : p < i). inl (omega arith)) (λ (a : i + suc (length vs) ≤ p). inr (omega arith)) h)
    ∙ get_or-set_other l i p v 0 (λ e. ⊎_elim (λ (a : p < i). omega arith) (λ (a : i + suc (length vs) ≤ p). omega arith) h)

sets-on : (vs l : List ℕ) (i j : ℕ) → j < length vs → i + length vs ≤ length l → get_or (sets l i vs) (i + j) 0 ≡ get_or vs j 0
sets-on [] l i j h b = absurd (omega arith)
sets-on (v ∷ vs) l i zero h b =
    let e : i + 0 ≡ i = omega arith in
    ap (λ (x : ℕ). get_or (sets (set l i v) (suc i) vs) x 0) e ∙ sets-off vs (set l i v) (suc i) i (inl (omega arith)) ∙ get_or-set_same l i v 0 (omega arith)
sets-on (v ∷ vs) l i (suc j) h b =
    let e : i + suc j ≡ suc i + j = omega arith in
    ap (λ (x : ℕ). get_or (sets (set l i v) (suc i) vs) x 0) e ∙ sets-on vs (set l i v) (suc i) j (omega arith) (omega (arith, length-set l i v))

-- ---- the data

module _ (at : ℕ) (given cells : List ℕ) where
  pub length-pasted : length (pasted at given cells) ≡ length cells
  unfolding pasted
  length-pasted = length-sets cells at given

  -- every other number is as it was
  pub pasted-off : (p : ℕ) → (p < at) ⊎ (at + length given ≤ p) → get_or (pasted at given cells) p 0 ≡ get_or cells p 0
  unfolding pasted
  pasted-off p h = sets-off given cells at p h

  -- the data are read back
  pub pasted-on : (j : ℕ) → j < length given → at + length given ≤ length cells → get_or (pasted at given cells) (at + j) 0 ≡ get_or given j 0
  unfolding pasted
  pasted-on j h b = sets-on given cells at j h b

-- ---- freed cells

zeros : (n : ℕ) → length (replicate {A = ℕ} n 0) ≡ n
zeros n = length-replicate {A = ℕ} n 0

module _ (start n : ℕ) (cells : List ℕ) where
  pub length-wiped : length (wiped start n cells) ≡ length cells
  unfolding wiped
  length-wiped = length-pasted (2 * start) (replicate (2 * n) 0) cells

  pub wiped-off : (p : ℕ) → (p < 2 * start) ⊎ (2 * (start + n) ≤ p) → get_or (wiped start n cells) p 0 ≡ get_or cells p 0
  unfolding wiped
  wiped-off p h =
      pasted-off (2 * start) (replicate (2 * n) 0) cells p
      (⊎_elim (λ (a : p < 2 * start). inl a) (λ (a : 2 * (start + n) ≤ p). inr (omega (arith, zeros (2 * n)))) h)

  pub wiped-on : (p : ℕ) → 2 * start ≤ p → p < 2 * (start + n) → 2 * (start + n) ≤ length cells → get_or (wiped start n cells) p 0 ≡ 0
  unfolding wiped
  wiped-on p h l b =
      let e : p ≡ 2 * start + (p - 2 * start) = omega arith in
      ap (λ (x : ℕ). get_or (pasted (2 * start) (replicate (2 * n) 0) cells) x 0) e
      ∙ pasted-on (2 * start) (replicate (2 * n) 0) cells (p - 2 * start) (omega (arith, zeros (2 * n))) (omega (arith, zeros (2 * n)))
      ∙ get_or-replicate (2 * n) (p - 2 * start) 0 0 (omega arith)

-- ---- the scan

pub blank-says : (cells : List ℕ) (c : ℕ) → blank cells c ≡ true → (get_or cells (2 * c) 0 ≡ 0) × (get_or cells (2 * c + 1) 0 ≡ 0)
blank-says cells c e = (
  eqb-true (get_or cells (2 * c) 0) 0 (first_of (eqb (get_or cells (2 * c) 0) 0) (eqb (get_or cells (2 * c + 1) 0) 0) e),
  eqb-true (get_or cells (2 * c + 1) 0) 0 (second-of (eqb (get_or cells (2 * c) 0) 0) (eqb (get_or cells (2 * c + 1) 0) 0) e),
)

pub says-blank : (cells : List ℕ) (c : ℕ) → get_or cells (2 * c) 0 ≡ 0 → get_or cells (2 * c + 1) 0 ≡ 0 → blank cells c ≡ true
says-blank cells c e f =
    both (eqb (get_or cells (2 * c) 0) 0) (eqb (get_or cells (2 * c + 1) 0) 0) (eq-eqb (get_or cells (2 * c) 0) 0 e) (eq-eqb (get_or cells (2 * c + 1) 0) 0 f)

module _ (index cells : List ℕ) (skip n : ℕ) where
  -- a free cell is +0.0
  pub clean-says : clean (map_of index skip n) cells ≡ true → (c : ℕ) → c < 4096 → held index skip n c ≡ false
      → (get_or cells (2 * c) 0 ≡ 0) × (get_or cells (2 * c + 1) 0 ≡ 0)
  unfolding clean
  clean-says e c h f =
      let g = every-at (λ i. get_or (map_of index skip n) i false || blank cells i) 4096 c e h in
      blank-says cells c (sym (ap (λ (b : Bool). b || blank cells c) (map_at index skip n c h ∙ f)) ∙ g)

  pub says-clean : ((c : ℕ) → c < 4096 → held index skip n c ≡ false → (get_or cells (2 * c) 0 ≡ 0) × (get_or cells (2 * c + 1) 0 ≡ 0))
      → clean (map_of index skip n) cells ≡ true
  unfolding clean
  says-clean f = every-all (λ i. get_or (map_of index skip n) i false || blank cells i) 4096 (λ c h. by-held c h (held index skip n c) refl)
    where
      by-held : (c : ℕ) → c < 4096 → (b : Bool) → held index skip n c ≡ b → (get_or (map_of index skip n) c false || blank cells c) ≡ true
      by-held c h true e = ap (λ (b : Bool). b || blank cells c) (map_at index skip n c h ∙ e)
      by-held c h false e =
          let p = f c h e in
          ap (λ (b : Bool). b || blank cells c) (map_at index skip n c h ∙ e) ∙ says-blank cells c p.0 p.1
