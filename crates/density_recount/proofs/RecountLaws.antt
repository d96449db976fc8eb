-- Laws of the density from the cut matrix: the cell of a setting and a traced index as a union of two submasks, a step of each loop, the
-- stages, and the contract at each way out. Assumes nothing.
use mathlib.Core.Bool.{not}
use mathlib.Core.Path.{◌≡◌, refl, sym, ap, ap₂, ◌∙◌}
use mathlib.Core.Logic.{⊎_elim}
use mathlib.Core.List.{List, ◌++◌}
use Prim.Native.Nat.{ℕ, zero, suc, ◌+◌, ◌-◌, ◌*◌, ◌/◌, ◌%◌, ◌^◌, ◌≤◌, ◌<◌, min}
use native.Mathlib.Omega.{arith}
use native.Mathlib.Nat.{eq-or-lt_of_le, mul-le-mul, pow-suc, mul-one, mul_assoc, min-eq_left, min-eq_right, min-le_right, mul_comm}
use borrow.Author.Tests.{ltb-false, eqb-true, eqb-false, not-false}
use lib.Arith.{digits_lt, lt_of_le-ne}
use lib.Dec.{leb, ltb, eqb}
use lib.Ieee.{Float}
use lib.Bits.{bit_and, bit_or, and_mask, or_shifted, or_shifted_r}
use lib.ListN.{length, get_or, set, drop, length-set}
use lib.Seq.{get_or-set_same, get_or-set_other}
use lib.Pow.{pow_pos, pow_mono, shr-shr}
use Rattle.submasks.specs.Submasks.{submask_at, submask_number}
use Rattle.submasks.proofs.SubmaskLaws.{submask_at-zero, submask_at-even, submask_at-odd, submask_at-first, submask_number-even, submask_number-odd, submask_number-zero, submask_number-lt, submask_count-le, digit, le-or-lt}
use Rattle.answers.specs.Paper.{done, refuse, and_then}
use Rattle.answers.proofs.PaperLaws.{refuse-done, and_then-done}
use Rattle.qubits.specs.Lists.{qubit_set, subsystem}
use Rattle.qubits.proofs.NamedLaws.{sizes-product, is-listed, not-empty}
use Rattle.complex.specs.declared.Complex.{Complex}
use Rattle.complex.specs.Arithmetic.{product, conjugate}
use Rattle.complex.specs.Cells.{cell_at, written, components}
use Rattle.complex.proofs.CellLaws.{cells_same}
use Rattle.density_entries.specs.Squares.{Square, entry_at, mirror_cell, mirrored, mirrored_entry, row_major}
use Rattle.density_entries.proofs.MirroredLaws.{row_of, column-of}
use Rattle.density_entries.specs.Entries.{entry_sum}
use Rattle.density_entries.specs.Filled.{EntriesReady, LowerSteps, table_entry}
use Rattle.density_entries.proofs.EntryLaws.{mirrored-same}
use Rattle.densities.proofs.DensityLaws.{positive, side-small, even_power}
use Rattle.cut_sides.specs.declared.Sides.{Sides}
use Rattle.cut_sides.specs.Sides.{side, named_rows, sides_of, Parted}
use Rattle.cut_sides.proofs.SideLaws.{named-yes, named-no}
use Rattle.agreement.specs.FromCut.{number_of, pair_place, cut_entry}
use Rattle.agreement.proofs.SameDensity.{number_lt, total-same}
use Rattle.density_recount.specs.declared.Layout.{Layout}
use Rattle.density_recount.specs.Recount.{recount_sizes, recount_lengths, recount_answer, recounted, layout_of, RecountAccepted, Numbers}

-- ---- the submasks of the lowest bits, and of all others

-- the mask of the s lowest of n bits has every number below 2 ^ s as its submasks
low-submask : (n s e : ℕ) → s ≤ n → e < 2 ^ s → submask_at n (2 ^ s - 1) e ≡ e
low-submask zero zero e h l = rw submask_at-zero (omega arith)
low-submask zero (suc s) e h l = absurd (omega arith)
low-submask (suc n) zero e h l = let z : e ≡ 0 = omega arith in rw z (submask_at-first (suc n) 0)
low-submask (suc n) (suc s) e h l =
    let p : 2 ^ suc s ≡ 2 ^ s * 2 = pow-suc 2 s in
    let o : (2 ^ suc s - 1) % 2 ≡ 1 = omega (arith, pow_pos s) in
    let f : (2 ^ suc s - 1) / 2 ≡ 2 ^ s - 1 = omega (arith, pow_pos s) in
    let g : e / 2 < 2 ^ s = omega arith in
    submask_at-odd n (2 ^ suc s - 1) e o ∙ ap (λ (m : ℕ). submask_at n m (e / 2) * 2 + e % 2) f
    ∙ ap (λ (x : ℕ). x * 2 + e % 2) (low-submask n s (e / 2) (omega arith) g) ∙ omega arith

-- the mask of the other bits has every multiple of 2 ^ s
high-submask : (n s e : ℕ) → s ≤ n → e < 2 ^ (n - s) → submask_at n (2 ^ n - 2 ^ s) e ≡ e * 2 ^ s
high-submask n zero e h l =
    let k : n - 0 ≡ n = omega arith in
    let g : e < 2 ^ n = rw k at l in
    low-submask n n e (omega arith) g ∙ sym (mul-one e)
high-submask zero (suc s) e h l = absurd (omega arith)
high-submask (suc n) (suc s) e h l =
    let p : 2 ^ suc s ≡ 2 ^ s * 2 = pow-suc 2 s in
    let q : 2 ^ suc n ≡ 2 ^ n * 2 = pow-suc 2 n in
    let k : suc n - suc s ≡ n - s = omega arith in
    let g : e < 2 ^ (n - s) = rw k at l in
    let o : (2 ^ suc n - 2 ^ suc s) % 2 ≡ 0 = omega arith in
    let f : (2 ^ suc n - 2 ^ suc s) / 2 ≡ 2 ^ n - 2 ^ s = omega arith in
    submask_at-even n (2 ^ suc n - 2 ^ suc s) e o ∙ ap (λ (m : ℕ). submask_at n m e * 2) f
    ∙ ap (λ (x : ℕ). x * 2) (high-submask n s e (omega arith) g) ∙ rw p (mul_assoc e (2 ^ s) 2)

-- ---- the loop that packs the bits that a mask has: at q, those from q on

pub record Packed (n mask x number q : ℕ) : Type 0 where
  pub more : q ≤ n
  pub is : number ≡ submask_number (n - q) (mask / 2 ^ q) (x / 2 ^ q)

module _ (n mask x : ℕ) where
  pub packed-begin : Packed n mask x 0 n
  packed-begin =
      let z : n - n ≡ 0 = omega arith in
      record { more = omega arith; is = sym (rw z (submask_number-zero (mask / 2 ^ n) (x / 2 ^ n))) }

  pub packed-small : (number q : ℕ) → Packed n mask x number q → n ≤ 12 → number < 4096
  packed-small number q i h =
      let a = submask_number-lt (n - q) (mask / 2 ^ q) (x / 2 ^ q) in
      let b = submask_count-le (n - q) (mask / 2 ^ q) in
      let k : n - q ≤ 12 = omega arith in
      let c : 2 ^ (n - q) ≤ 4096 = pow_mono k in
      omega (arith, i.is)

  module _ (number q : ℕ) (i : Packed n mask x number q) (h : 0 < q) where
    up : n - (q - 1) ≡ suc (n - q)
    up = omega (arith, i.more)

    halved : (y : ℕ) → y / 2 ^ (q - 1) / 2 ≡ y / 2 ^ q
    halved y = let k : q - 1 + 1 ≡ q = omega arith in shr-shr y (q - 1) 1 ∙ ap (λ (z : ℕ). y / 2 ^ z) k

    pub packed-one : mask / 2 ^ (q - 1) % 2 ≡ 1 → Packed n mask x (number * 2 + x / 2 ^ (q - 1) % 2) (q - 1)
    packed-one d = record {
      more = omega (arith, i.more);
      is = sym (ap (λ (k : ℕ). submask_number k (mask / 2 ^ (q - 1)) (x / 2 ^ (q - 1))) up
          ∙ submask_number-odd (n - q) (mask / 2 ^ (q - 1)) (x / 2 ^ (q - 1)) d
          ∙ ap₂ (λ (a b : ℕ). submask_number (n - q) a b * 2 + x / 2 ^ (q - 1) % 2) (halved mask) (halved x)
          ∙ ap (λ (a : ℕ). a * 2 + x / 2 ^ (q - 1) % 2) (sym i.is));
    }

    pub packed_none : mask / 2 ^ (q - 1) % 2 ≡ 0 → Packed n mask x number (q - 1)
    packed_none d = record {
      more = omega (arith, i.more);
      is = i.is ∙ sym (ap (λ (k : ℕ). submask_number k (mask / 2 ^ (q - 1)) (x / 2 ^ (q - 1))) up
          ∙ submask_number-even (n - q) (mask / 2 ^ (q - 1)) (x / 2 ^ (q - 1)) d
          ∙ ap₂ (λ (a b : ℕ). submask_number (n - q) a b) (halved mask) (halved x));
    }

  pub packed-end : (number q : ℕ) → Packed n mask x number q → q ≤ 0 → number ≡ submask_number n mask x
  packed-end number q i h =
      let z : q ≡ 0 = omega arith in
      let k : n - 0 ≡ n = omega arith in
      let a : mask / 1 ≡ mask = omega arith in
      let b : x / 1 ≡ x = omega arith in
      i.is ∙ rw (z, k, a, b)

pub digit-is : (m q : ℕ) → bit_and (m / 2 ^ q) 1 ≡ m / 2 ^ q % 2
digit-is m q = and_mask (m / 2 ^ q) 1

pub no_digit : (x : ℕ) → (x % 2 ≡ 1 → ⊥) → x % 2 ≡ 0
no_digit x h = ⊎_elim (λ z. z) (λ o. absurd (h o)) (digit x)

-- ---- the cell of a setting and a traced index

module _ (l : List ℕ) (n : ℕ) (p : Parted l n) (z : Layout) (ez : z ≡ layout_of (named_rows l n) (2 ^ side l n) (2 ^ n)) where
  pub place_is : (t e : ℕ) → e < 2 ^ (n - length l) → bit_or (number_of n l t * z.scale) (submask_at n z.mask e) ≡ pair_place n l t e
  place_is t e h =
      ⊎_elim
      (λ (g : length l ≤ n - length l).
      let b = named-yes l n g in
      let d : min (length l) (n - length l) ≡ length l = min-eq_left g in
      let s : submask_at n (2 ^ n - 2 ^ length l) e ≡ e * 2 ^ length l = high-submask n (length l) e p.listed.short h in
      rw (ez, b, d, s, mul-one) (or_shifted_r e (length l) (number_of n l t) (number_lt n l p t)))
      (λ (g : n - length l < length l).
      let b = named-no l n g in
      let c : n - length l ≤ length l = omega arith in
      let k : n - length l ≤ n = omega arith in
      let d : min (length l) (n - length l) ≡ n - length l = min-eq_right c in
      let s : submask_at n (2 ^ (n - length l) - 1) e ≡ e = low-submask n (n - length l) e k h in
      rw (ez, b, d, s) (or_shifted (number_of n l t) (n - length l) e h))
      (le-or-lt (length l) (n - length l))

  pub mask-in : z.mask < 2 ^ n
  mask-in =
      ⊎_elim
      (λ (g : length l ≤ n - length l). let b = named-yes l n g in rw (ez, b) (omega (arith, pow_pos n, pow_pos (side l n))))
      (λ (g : n - length l < length l).
      let b = named-no l n g in
      let c : n - length l ≤ length l = omega arith in
      let k : n - length l ≤ n = omega arith in
      let d : min (length l) (n - length l) ≡ n - length l = min-eq_right c in
      let q : 2 ^ (n - length l) ≤ 2 ^ n = pow_mono k in
      rw (ez, b, d) (omega (arith, pow_pos (n - length l))))
      (le-or-lt (length l) (n - length l))

  pub number_in : (t : ℕ) → number_of n l t * z.scale < 2 ^ n
  number_in t =
      let q : 2 ^ length l ≤ 2 ^ n = pow_mono p.listed.short in
      ⊎_elim
      (λ (g : length l ≤ n - length l). let b = named-yes l n g in rw (ez, b, mul-one) (omega (arith, number_lt n l p t)))
      (λ (g : n - length l < length l).
      let b = named-no l n g in
      let c : n - length l ≤ length l = omega arith in
      let d : min (length l) (n - length l) ≡ n - length l = min-eq_right c in
      let f : number_of n l t * 2 ^ (n - length l) + 0 < 2 ^ length l * 2 ^ (n - length l) = digits_lt (number_lt n l p t) (pow_pos (n - length l)) in
      let r : 2 ^ length l * 2 ^ (n - length l) ≡ 2 ^ n = mul_comm (2 ^ length l) (2 ^ (n - length l)) ∙ sizes-product n (length l) p.listed.short in
      rw (ez, b, d) (omega arith))
      (le-or-lt (length l) (n - length l))

  -- an entry by the table is the entry from the cut matrix
  pub entry-is : (m : List Float) (dim : ℕ) (old table : List ℕ) (t u : ℕ) → Numbers l n z.scale dim old table dim → t < dim → u < dim
      → table_entry n m z.mask (2 ^ (n - length l)) table t u ≡ cut_entry n l m t u
  entry-is m dim old table t u i ht hu =
      ap₂ (entry_sum n m z.mask (2 ^ (n - length l))) (i.are t ht) (i.are u hu)
      ∙ total-same (2 ^ (n - length l)) _ _ (λ e h. ap₂ (λ (x y : ℕ). product (cell_at m x) (conjugate (cell_at m y))) (place_is t e h) (place_is u e h))

-- ---- the table

pub scaled_small : (n mask x y scale : ℕ) → n ≤ 12 → y ≡ submask_number n mask x → scale ≤ 4096 → y * scale ≤ 16777216
scaled_small n mask x y scale h e g =
    let b : 2 ^ n ≤ 4096 = pow_mono h in
    let a : y ≤ 4096 = omega (arith, submask_number-lt n mask x, submask_count-le n mask) in
    mul-le-mul a g

module _ (l : List ℕ) (n scale dim : ℕ) (old : List ℕ) where
  pub numbers-step : (now : List ℕ) (t x : ℕ) → Numbers l n scale dim old now t → t < dim → dim ≤ length old → x ≡ number_of n l t * scale
      → Numbers l n scale dim old (set now t x) (t + 1)
  numbers-step now t x i h room e = record {
    within = omega arith;
    long = length-set now t x ∙ i.long;
    are = λ k g.
        ⊎_elim
        (λ (q : k ≡ t).
        ap (λ (y : ℕ). get_or (set now t x) y 0) q ∙ get_or-set_same now t x 0 (omega (arith, i.long)) ∙ e ∙ ap (λ (y : ℕ). number_of n l y * scale) (sym q))
        (λ (q : k < t). get_or-set_other now t k x 0 (λ y. omega arith) ∙ i.are k q)
        (eq-or-lt_of_le (omega arith));
  }

-- ---- the stages

-- a matrix whose lower half is known, mirrored
mirrored-whole : (f : ℕ → ℕ → Complex) (old out : List Float) (dim : ℕ) → drop (2 * (dim * dim)) out ≡ drop (2 * (dim * dim)) old
    → ((t u : ℕ) → t < dim → u ≤ t → entry_at out dim t u ≡ f t u) → mirrored out dim ≡ written (dim * dim) (row_major dim (mirrored_entry f)) old
unfolding written
mirrored-whole f old out dim surplus rows =
    ap₂ (λ (x y : List Float). x ++ y)
    (cells_same (dim * dim) (mirror_cell out dim) (row_major dim (mirrored_entry f))
    (λ k h. mirrored-same (entry_at out dim) f dim (k / dim) (k % dim) rows (row_of dim k h) (column-of dim k h) (leb (k % dim) (k / dim)) refl))
    surplus

module _ (m : List Float) (n : ℕ) (l : List ℕ) (o : List Float) (p : RecountAccepted m n l (length o)) (z : Layout)
    (ez : z ≡ layout_of (named_rows l n) (2 ^ side l n) (2 ^ n)) where
  pub recount-square : (dim : ℕ) → dim ≡ 2 ^ length l → Square dim o
  recount-square dim e = record { small = rw e (side-small (length l) p.few); room = rw e p.room }

  pub recount-ready : (dim : ℕ) (old table : List ℕ) → dim ≡ 2 ^ length l → Numbers l n z.scale dim old table dim → dim ≤ length old
      → EntriesReady n m z.mask table dim
  recount-ready dim old table e t room = record {
    small = p.parted.listed.small;
    long = p.matrix;
    mask_lt = mask-in l n p.parted z ez;
    even = rw e (even_power (length l) p.some);
    table = omega (arith, t.long);
    below = λ k h. rw (t.are k h) (number_in l n p.parted z ez k);
  }

  pub recount-end : (dim groups : ℕ) (old table : List ℕ) (mid end : List Float) → dim ≡ 2 ^ length l → Numbers l n z.scale dim old table dim
      → groups ≡ 2 ^ (n - length l) → LowerSteps dim (table_entry n m z.mask groups table) o mid (dim / 2) → end ≡ mirrored mid dim
      → end ≡ recounted n l m o
  recount-end dim groups old table mid end e t eg i ee =
      let ev : dim % 2 ≡ 0 = rw e (even_power (length l) p.some) in
      let rows : (r c : ℕ) → r < dim → c ≤ r → entry_at mid dim r c ≡ cut_entry n l m r c
      = λ r c hr hc. i.rows r c (omega arith) hc ∙ rw eg (entry-is l n p.parted z ez m dim old table r c t hr (omega arith)) in
      ee ∙ mirrored-whole (cut_entry n l m) o mid dim i.surplus rows
      ∙ ap (λ (d : ℕ). written (d * d) (row_major d (mirrored_entry (cut_entry n l m))) o) e

-- ---- the layout that the code works out

module _ (l : List ℕ) (n : ℕ) (p : Parted l n) (s : Sides) (b : ℕ) (es : s ≡ sides_of l n) (eb : b ≡ 2 ^ n) where
  side-le : side l n ≤ n
  side-le = omega (arith, min-le_right (length l) (n - length l))

  pub layout-room : (1 ≤ s.rows) × (s.rows ≤ b)
  layout-room = rw (es, eb) (pow_pos (side l n), pow_mono side-le)

  module _ (z : Layout) (ez : z ≡ layout_of s.named s.rows b) where
    pub layout_is : z ≡ layout_of (named_rows l n) (2 ^ side l n) (2 ^ n)
    layout_is = ez ∙ rw (es, eb)

    pub layout-scale : z.scale ≤ 4096
    layout-scale =
        let q : 2 ^ side l n ≤ 2 ^ n = pow_mono side-le in
        let r : 2 ^ n ≤ 4096 = pow_mono p.listed.small in
        ⊎_elim
        (λ (g : length l ≤ n - length l). let y = named-yes l n g in rw (layout_is, y) (omega arith))
        (λ (g : n - length l < length l). let y = named-no l n g in rw (layout_is, y) (omega arith))
        (le-or-lt (length l) (n - length l))

-- ---- the refusals that did not come

pub sizes-done : (n k cap : ℕ) → (recount_sizes n k cap).0 ≡ 0 → (n ≤ 12) × (k ≤ 6)
sizes-done n k cap e =
    let D = refuse (ltb (min cap 13) (2 * k)) (1, 0) done in
    let C = refuse (ltb (min cap 13) (n + 1)) (1, 0) D in
    let a = refuse-done (ltb n 1) 0 0 (refuse (ltb 12 n) (1, 0) C) e in
    let b = refuse-done (ltb 12 n) 0 0 C a.1 in
    let c = refuse-done (ltb (min cap 13) (n + 1)) 0 0 D b.1 in
    let d = refuse-done (ltb (min cap 13) (2 * k)) 0 0 done c.1 in
    (ltb-false 12 n b.0, omega (arith, ltb-false (min cap 13) (2 * k) d.0))

pub parted-done : (n : ℕ) (l : List ℕ) → (subsystem n l).0 ≡ 0 → Parted l n × (1 ≤ length l)
parted-done n l e =
    let q = and_then-done (qubit_set n l) (refuse (eqb (length l) n) (5, 0) done) e in
    let p = is-listed n l q.0 in (
      record { listed = p; part = lt_of_le-ne p.short (eqb-false (length l) n (refuse-done (eqb (length l) n) 4 0 done q.1).0) },
      positive (length l) (not-empty n l q.0),
    )

pub recount-accepted : (m : List Float) (n : ℕ) (l : List ℕ) (cap o : ℕ) → (recount_answer m n l cap o).0 ≡ 0 → RecountAccepted m n l o
recount-accepted m n l cap o e =
    let L = recount_lengths (2 ^ n) (2 ^ length l) (length m) o in
    let a = and_then-done (recount_sizes n (length l) cap) (and_then (subsystem n l) (and_then L (components 0 m))) e in
    let b = and_then-done (subsystem n l) (and_then L (components 0 m)) a.1 in
    let c = and_then-done L (components 0 m) b.1 in
    let O = refuse (ltb o (2 * (2 ^ length l * 2 ^ length l))) (6, 2) done in
    let d = refuse-done (not (eqb (length m) (2 * 2 ^ n))) 5 0 O c.0 in
    let q = parted-done n l b.0 in
    record {
      parted = q.0;
      some = q.1;
      few = (sizes-done n (length l) cap a.0).1;
      matrix = eqb-true (length m) (2 * 2 ^ n) (not-false (eqb (length m) (2 * 2 ^ n)) d.0);
      room = ltb-false o (2 * (2 ^ length l * 2 ^ length l)) (refuse-done (ltb o (2 * (2 ^ length l * 2 ^ length l))) 5 2 done d.1).0;
    }
