-- Laws of the state's tests and of the first rows. Assumes nothing.
use mathlib.Core.Path.{◌≡◌, refl, sym, ap, ◌∙◌}
use mathlib.Core.Bool.{Bool, true, false}
use mathlib.Core.List.{List}
use Prim.Native.Nat.{ℕ, zero, suc, ◌+◌, ◌-◌, ◌*◌, ◌/◌, ◌%◌, ◌^◌, ◌≤◌, ◌<◌}
use native.Mathlib.Nat.{zero-add, zero-mul, suc-add, add-mul, mul-le-mul, mul-le-mul_left, mul-le-mul_right, mul_assoc, mul_comm, pow-suc, le_trans}
use native.Mathlib.Numerals.{add-one}
use native.Mathlib.Omega.{arith}
use lib.Dec.{eqb}
use lib.Arith.{digits_lt}
use lib.ListN.{length, drop, get_or, set, drop_of_length-le}
use lib.Seq.{drop-cons, get_or-set_same, get_or-set_other}
use lib.Pow.{pow_pos, pow_mono, pow-add}
use lib.Ieee as Ieee
use lib.Ieee.{Float, nan, inf, fin, down, binary64, of_bits}
use borrow.Author.Tests.{le-leb, leb-true, eqb-true, eqb-false}
use Rattle.answers.specs.Paper.{done}
use Rattle.complex.specs.declared.Complex.{Complex}
use Rattle.svd_columns.proofs.Grids.{written_step, columns-all}
use Rattle.numbers.specs.Numbers.{allowed_for, allowed}
use Rattle.complex.specs.Cells.{cell_at, set_cell, cells_of, written}
use Rattle.chain_start.specs.Start.{components_for, state_zero, reversed, cell_reversed, carried_first, TurnedTo, BlockRoom}

-- ---- the test of 2^190 is at least as strict as 01's of 2^200

pub stricter : (k i : ℕ) (x : Float) → k ≤ i → allowed_for k x ≡ true → allowed_for i x ≡ true
unfolding allowed_for
stricter k i nan h e = e
stricter k i (inf s) h e = e
stricter k i (fin s m e) h b =
    let p : 2 ^ k * down e ≤ 2 ^ i * down e = mul-le-mul_right (down e) (pow_mono h) in
    le-leb _ _ (le_trans (leb-true _ _ b) p)

-- A COMPONENT OF AT MOST 2^190 IS AN ALLOWED ONE
pub still-allowed : (x : Float) → allowed_for 190 x ≡ true → allowed x ≡ true
unfolding allowed
still-allowed x e = stricter 190 200 x (omega arith) e

-- ---- the scans

pub state-bad : (k : ℕ) (l : List Float) (i : ℕ) → i < length l → allowed_for k (get_or l i nan) ≡ false → components_for k i (drop i l) ≡ (7, i / 2)
unfolding components_for
state-bad k l i h e = rw (drop-cons l i nan, e)

pub state-good : (k : ℕ) (l : List Float) (i : ℕ) → i < length l → allowed_for k (get_or l i nan) ≡ true
    → components_for k i (drop i l) ≡ components_for k (i + 1) (drop (i + 1) l)
unfolding components_for
state-good k l i h e = rw (add-one, drop-cons l i nan, e)

pub state-end : (k : ℕ) (l : List Float) (i : ℕ) → length l ≤ i → components_for k i (drop i l) ≡ done
unfolding components_for
state-end k l i h = rw (drop_of_length-le l h)

pub zero-bad : (l : List Float) (i : ℕ) → i < length l → Ieee.eq (get_or l i nan) (of_bits binary64 0) ≡ false → state_zero (drop i l) ≡ false
unfolding state_zero
zero-bad l i h e = rw (drop-cons l i nan, e)

pub zero-good : (l : List Float) (i : ℕ) → i < length l → Ieee.eq (get_or l i nan) (of_bits binary64 0) ≡ true → state_zero (drop i l) ≡ state_zero (drop (i + 1) l)
unfolding state_zero
zero-good l i h e = rw (add-one, drop-cons l i nan, e)

pub zero-end : (l : List Float) (i : ℕ) → length l ≤ i → state_zero (drop i l) ≡ true
unfolding state_zero
zero-end l i h = rw (drop_of_length-le l h)

-- ---- the bits in the other order

pub reversed-few : (n x : ℕ) → reversed n x < 2 ^ n
unfolding reversed
reversed-few zero x = omega arith
reversed-few (suc n) x =
    let p : 2 ^ suc n ≡ 2 ^ n * 2 = pow-suc 2 n in
    let d : x % 2 ≤ 1 = omega arith in
    let q : x % 2 * 2 ^ n ≤ 1 * 2 ^ n = mul-le-mul_right (2 ^ n) d in
    omega (arith, reversed-few n (x / 2))

reversed-none : (x : ℕ) → reversed 0 x ≡ 0
unfolding reversed
reversed-none x = refl

reversed-more : (n x : ℕ) → reversed (suc n) x ≡ x % 2 * 2 ^ n + reversed n (x / 2)
unfolding reversed
reversed-more n x = refl

-- i bits are taken: what is left and what is there make the whole
pub bit-more : (n x i r v : ℕ) → i < n → reversed n x ≡ r * 2 ^ (n - i) + reversed (n - i) v
    → reversed n x ≡ (2 * r + v % 2) * 2 ^ (n - (i + 1)) + reversed (n - (i + 1)) (v / 2)
bit-more n x i r v h e =
    let k = n - (i + 1) in
    let s : n - i ≡ suc k = omega arith in
    let p : 2 ^ suc k ≡ 2 ^ k * 2 = pow-suc 2 k in
    let f : reversed n x ≡ r * 2 ^ suc k + reversed (suc k) v = e ∙ ap (λ (y : ℕ). r * 2 ^ y + reversed y v) s in
    let a : r * 2 ^ suc k ≡ 2 * r * 2 ^ k = ap (λ (y : ℕ). r * y) (p ∙ mul_comm (2 ^ k) 2) ∙ sym (mul_assoc r 2 (2 ^ k)) ∙ ap (λ (y : ℕ). y * 2 ^ k) (mul_comm r 2) in
    let d : (2 * r + v % 2) * 2 ^ k ≡ 2 * r * 2 ^ k + v % 2 * 2 ^ k = add-mul (2 * r) (v % 2) (2 ^ k) in
    omega (arith, f, a, d, reversed-more k v)

pub bits-few : (n x i r v : ℕ) → n ≤ 12 → reversed n x ≡ r * 2 ^ (n - i) + reversed (n - i) v → r ≤ 4096
bits-few n x i r v h e =
    let m : 2 ^ n ≤ 2 ^ 12 = pow_mono h in
    let p : r * 1 ≤ r * 2 ^ (n - i) = mul-le-mul_left r (pow_pos (n - i)) in
    omega (arith, reversed-few n x)

pub bits-end : (n x i r v : ℕ) → n ≤ i → reversed n x ≡ r * 2 ^ (n - i) + reversed (n - i) v → r ≡ reversed n x
bits-end n x i r v h e =
    let s : n - i ≡ 0 = omega arith in
    let f : reversed n x ≡ r * 2 ^ 0 + reversed 0 v = e ∙ ap (λ (y : ℕ). r * 2 ^ y + reversed y v) s in
    omega (arith, f, reversed-none v)

-- the low bits come above, the high ones below
pub reversed-split : (low high y x : ℕ) → x < 2 ^ low → reversed (low + high) (y * 2 ^ low + x) ≡ reversed low x * 2 ^ high + reversed high y
reversed-split zero high y x h =
    let e : x ≡ 0 = omega arith in
    let a : zero + high ≡ high = zero-add high in
    let b : y * 2 ^ zero + x ≡ y = omega arith in
    rw (a, b, reversed-none x) (omega arith)
reversed-split (suc low) high y x h =
    let p : 2 ^ suc low ≡ 2 ^ low * 2 = pow-suc 2 low in
    let q : y * 2 ^ suc low ≡ y * 2 ^ low * 2 = ap (λ (z : ℕ). y * z) p ∙ sym (mul_assoc y (2 ^ low) 2) in
    let m : (y * 2 ^ suc low + x) % 2 ≡ x % 2 = omega arith in
    let d : (y * 2 ^ suc low + x) / 2 ≡ y * 2 ^ low + x / 2 = omega arith in
    let l : x / 2 < 2 ^ low = omega arith in
    let s : suc low + high ≡ suc (low + high) = suc-add low high in
    let w : 2 ^ (low + high) ≡ 2 ^ low * 2 ^ high = pow-add 2 low high in
    let f : reversed (suc (low + high)) (y * 2 ^ suc low + x) ≡ x % 2 * 2 ^ (low + high) + (reversed low (x / 2) * 2 ^ high + reversed high y) =
    reversed-more (low + high) (y * 2 ^ suc low + x) ∙ rw (m, d, reversed-split low high y (x / 2) l) in
    let g : reversed (suc low) x * 2 ^ high ≡ x % 2 * 2 ^ low * 2 ^ high + reversed low (x / 2) * 2 ^ high =
    ap (λ (z : ℕ). z * 2 ^ high) (reversed-more low x) ∙ add-mul (x % 2 * 2 ^ low) (reversed low (x / 2)) (2 ^ high) in
    let k : x % 2 * 2 ^ (low + high) ≡ x % 2 * 2 ^ low * 2 ^ high = ap (λ (z : ℕ). x % 2 * z) w ∙ sym (mul_assoc (x % 2) (2 ^ low) (2 ^ high)) in
    ap (λ (z : ℕ). reversed z (y * 2 ^ suc low + x)) s ∙ omega (arith, f, g, k)

-- ---- the first rows

pub power-few : (n : ℕ) → n ≤ 6 → 2 ^ n ≤ 64
power-few n h = let m : 2 ^ n ≤ 2 ^ 6 = pow_mono h in omega arith

pub below : {x count p : ℕ} → x < count → count ≡ p → x < p
below h e = rw e at h

pub power-least : (n : ℕ) {count : ℕ} → count ≡ 2 ^ n → n ≤ 6 → count ≤ 64
power-least n e k = omega (arith, e, power-few n k)

pub state-few : (low high : ℕ) → low ≤ 6 → high ≤ 6 → 2 ^ (low + high) ≤ 4096
state-few low high h k =
    let i : low + high ≤ 12 = omega arith in
    let m : 2 ^ (low + high) ≤ 2 ^ 12 = pow_mono i in
    omega arith

-- the numbers turned round, one by one
pub turned_none : (low high : ℕ) (backs : List ℕ) → TurnedTo low high 0 backs
unfolding TurnedTo
turned_none low high backs x h = absurd (omega arith)

pub turned_more : (low high m : ℕ) (backs : List ℕ) {r step : ℕ} → m < length backs → step ≡ 2 ^ high → r ≡ reversed low m → TurnedTo low high m backs
    → TurnedTo low high (m + 1) (set backs m (r * step))
unfolding TurnedTo
turned_more low high m backs {r} {step} h es er t x l = pick (eqb x m) refl
  where
    pick : (b : Bool) → eqb x m ≡ b → get_or (set backs m (r * step)) x 0 ≡ reversed low x * 2 ^ high
    pick true e =
        let i : x ≡ m = eqb-true x m e in
        rw (i, es, er) (get_or-set_same backs m (reversed low m * 2 ^ high) 0 h)
    pick false e =
        let i : x ≡ m → ⊥ = eqb-false x m e in
        get_or-set_other backs m x (r * step) 0 i ∙ t x (omega (arith, i))

pub turned-value : (low high m : ℕ) (backs : List ℕ) (x : ℕ) → TurnedTo low high m backs → x < m → get_or backs x 0 ≡ reversed low x * 2 ^ high
unfolding TurnedTo
turned-value low high m backs x t h = t x h

pub turned-all : (low high : ℕ) (backs : List ℕ) {m k : ℕ} → m ≡ k → TurnedTo low high m backs → TurnedTo low high k backs
turned-all low high backs e t = rw e at t

pub turned-few : (low x step : ℕ) {r : ℕ} → low ≤ 6 → step ≤ 64 → r ≡ reversed low x → r * step ≤ 4096
turned-few low x step {r} h k e =
    let p : 2 ^ low ≤ 64 = power-few low h in
    let q : r ≤ 64 = omega (arith, reversed-few low x) in
    mul-le-mul q k

module _ (low high y : ℕ) (s : List Float) (backs : List ℕ) {lu : ℕ} (b : BlockRoom low high y (length s) backs lu) (x back from : ℕ)
    (h : x < 2 ^ low) (eb : back ≡ get_or backs x 0) (ef : from ≡ reversed high y) where
  pub from_is : back + from ≡ reversed (low + high) (y * 2 ^ low + x)
  from_is =
      let e : back ≡ reversed low x * 2 ^ high = eb ∙ turned-value low high (2 ^ low) backs x b.turned h in
      omega (arith, e, ef, reversed-split low high y x h)

  pub from-inside : 2 * (back + from) + 1 < length s
  from-inside = omega (arith, from_is, reversed-few (low + high) (y * 2 ^ low + x), b.state-is)

-- a block's cells lie within the state
pub block_inside : (low high y x : ℕ) → y < 2 ^ high → x < 2 ^ low → y * 2 ^ low + x < 2 ^ (low + high)
block_inside low high y x h k = rw (pow-add 2 low high, mul_comm (2 ^ low) (2 ^ high)) (digits_lt h k)

pub cell-inside : (low high y x : ℕ) {count : ℕ} → count ≡ 2 ^ low → y < 2 ^ high → x < 2 ^ low → y * count + x < 2 ^ (low + high)
cell-inside low high y x e h k = rw e (block_inside low high y x h k)

pub laid-all : (s : List Float) (n m : ℕ) (old : List Float) {u : List Float} → length old ≡ 2 * 2 ^ n → m ≡ 2 ^ n
    → u ≡ written m (cell_reversed s n) old → u ≡ carried_first s n
unfolding carried_first
laid-all s n m old e f h = h ∙ ap (λ (y : ℕ). written y (cell_reversed s n) old) f ∙ columns-all (2 ^ n) (cell_reversed s n) old e

pub laid_none : (s : List Float) (n : ℕ) (old : List Float) → old ≡ written 0 (cell_reversed s n) old
unfolding written cells_of
laid_none s n old = refl

pub laid_more : (s : List Float) (n k : ℕ) (old : List Float) {u u' : List Float} {from : ℕ} {z : Complex} → length old ≡ 2 * 2 ^ n → k < 2 ^ n
    → u ≡ written k (cell_reversed s n) old → from ≡ reversed n k → z ≡ cell_at s from → u' ≡ set_cell u k z
    → u' ≡ written (k + 1) (cell_reversed s n) old
unfolding cell_reversed
laid_more s n k old e h i f g j = written_step (λ y. cell_at s (reversed n y)) old k (omega arith) i (g ∙ ap (cell_at s) f) j

-- one cell more of a block that starts at y times `count`
pub block_more : (s : List Float) (low high y x count : ℕ) (old : List Float) {u u' : List Float} {from : ℕ} {z : Complex} → count ≡ 2 ^ low
    → length old ≡ 2 * 2 ^ (low + high) → y < 2 ^ high → x < 2 ^ low
    → u ≡ written (y * 2 ^ low + x) (cell_reversed s (low + high)) old → from ≡ reversed (low + high) (y * 2 ^ low + x) → z ≡ cell_at s from
    → u' ≡ set_cell u (y * count + x) z → u' ≡ written (y * 2 ^ low + (x + 1)) (cell_reversed s (low + high)) old
block_more s low high y x count old {u} {u'} {from} {z} e l h k i f g j =
    let t : u' ≡ set_cell u (y * 2 ^ low + x) z = j ∙ ap (λ (c : ℕ). set_cell u (y * c + x) z) e in
    let a : y * 2 ^ low + x + 1 ≡ y * 2 ^ low + (x + 1) = omega arith in
    laid_more s (low + high) (y * 2 ^ low + x) old l (block_inside low high y x h k) i f g t
    ∙ ap (λ (c : ℕ). written c (cell_reversed s (low + high)) old) a

-- the two halves of the bits
pub halves : (n : ℕ) → n ≤ 12 → (n / 2 ≤ 6) × (n - n / 2 ≤ 6) × (n / 2 + (n - n / 2) ≡ n)
halves n h = (omega arith, omega arith, omega arith)

pub block_room : (n y state : ℕ) (backs : List ℕ) (u : ℕ) {u₀ : ℕ} → n ≤ 12 → y < 2 ^ (n - n / 2) → state ≡ 2 * 2 ^ n → u ≡ u₀ → u₀ ≡ 2 * 2 ^ n → length backs ≡ 64
    → TurnedTo (n / 2) (n - n / 2) (2 ^ (n / 2)) backs → BlockRoom (n / 2) (n - n / 2) y state backs u
block_room n y state backs u h k es eu e₀ l t =
    let z = halves n h in
    record {
      low-few = z.0;
      high-few = z.1;
      inside = k;
      state-is = rw z.2 es;
      u-is = rw z.2 (eu ∙ e₀);
      backs-long = l;
      turned = t;
    }

-- one block more
pub blocks_more : (s : List Float) (low high y : ℕ) (old : List Float) {u u' : List Float} → length old ≡ 2 * 2 ^ (low + high)
    → ((o : List Float) → length o ≡ 2 * 2 ^ (low + high) → u ≡ written (y * 2 ^ low) (cell_reversed s (low + high)) o
    → u' ≡ written (y * 2 ^ low + 2 ^ low) (cell_reversed s (low + high)) o)
    → u ≡ written (y * 2 ^ low) (cell_reversed s (low + high)) old → u' ≡ written ((y + 1) * 2 ^ low) (cell_reversed s (low + high)) old
blocks_more s low high y old l t e =
    let a : y * 2 ^ low + 2 ^ low ≡ (y + 1) * 2 ^ low = omega arith in
    t old l e ∙ ap (λ (c : ℕ). written c (cell_reversed s (low + high)) old) a

pub blocks-none : (s : List Float) (low n : ℕ) (old : List Float) → old ≡ written (0 * 2 ^ low) (cell_reversed s n) old
blocks-none s low n old = laid_none s n old ∙ ap (λ (c : ℕ). written c (cell_reversed s n) old) (sym (zero-mul (2 ^ low)))

pub blocks-all : (s : List Float) (n low high y : ℕ) (old : List Float) {u : List Float} → low + high ≡ n → length old ≡ 2 * 2 ^ n → y ≡ 2 ^ high
    → u ≡ written (y * 2 ^ low) (cell_reversed s (low + high)) old → u ≡ carried_first s n
blocks-all s n low high y old e l f h =
    let a : y * 2 ^ low ≡ 2 ^ n = ap (λ (k : ℕ). k * 2 ^ low) f ∙ mul_comm (2 ^ high) (2 ^ low) ∙ sym (pow-add 2 low high) ∙ ap (λ (k : ℕ). 2 ^ k) e in
    laid-all s n (y * 2 ^ low) old l a (rw e at h)
