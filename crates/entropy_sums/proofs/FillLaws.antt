-- One weight more: its band behind those before it, and the sums. Assumes nothing.
use mathlib.Core.Path.{◌≡◌, refl, sym, ap, ap₂, subst, ◌∙◌}
use mathlib.Core.List.{List, [], ◌∷◌, ◌++◌, append_assoc, append-nil}
use Prim.Native.Nat.{ℕ, zero, suc, ◌+◌, ◌-◌, ◌*◌, ◌^◌, ◌≤◌, ◌<◌}
use native.Mathlib.Nat.{mul-le-mul, add_assoc}
use native.Mathlib.Omega.{arith}
use lib.ListN.{length, get_or, drop, set, replicate, length-append, length-replicate}
use lib.Seq.{sets-eq, take_at, drop-append-add}
use lib.Ieee.{Float, nan}
use Rattle.entropy_weights.specs.Weights.{weight_of}
use Rattle.entropy_weights.proofs.Theorems.{weight-small}
use Rattle.entropy_powers.specs.declared.Powers.{Powers}
use Rattle.entropy_powers.specs.declared.Band.{Band}
use Rattle.entropy_powers.specs.Powers.{PowersSized, powers_of, band_of}
use Rattle.entropy_powers.proofs.BandLaws.{powers-sized, band-small}
use Rattle.entropy_sums.specs.declared.Sums.{Sums}
use Rattle.entropy_sums.specs.Sums.{kept_weight, weights_left, bands_of, low_sum, high_sum, whole_weight, set_band, bands_with, sums_at, sums_with, SumsFit, FillReady, Filled}
use Rattle.entropy_sums.proofs.SumLaws.{left_at, left_end, left-few, whole-less, low-most, high-most}

-- ---- `with_weight`

pub with-zero : (w : ℕ) (all : Powers) (s : Sums) (l : List ℕ) → w ≡ 0 → (l ≡ bands_with w all s l) × (s ≡ sums_with w all s)
unfolding bands_with sums_with
with-zero w all s l e = rw e (refl, refl)

pub some-weight : (w : ℕ) → (w ≡ 0 → ⊥) → 0 < w
some-weight zero n = absurd (n refl)
some-weight (suc w) n = omega arith

pub with-some : (w : ℕ) (all : Powers) (s : Sums) (l end : List ℕ) (b : Band) → (w ≡ 0 → ⊥) → b ≡ band_of (powers_of w) all → end ≡ set_band l s.count w b
    → (end ≡ bands_with w all s l) × (sums_at (s.count + 1) (s.low + w * b.low) (s.high + w * b.high) ≡ sums_with w all s)
unfolding bands_with sums_with
with-some zero all s l end b n e f = absurd (n refl)
with-some (suc w) all s l end b n e f = (f ∙ ap (set_band l s.count (suc w)) e, ap (λ (x : Band). sums_at (s.count + 1) (s.low + suc w * x.low) (s.high + suc w * x.high)) e)

-- no product overflows
pub product-low : (w room : ℕ) (all : Powers) (s : Sums) (b : Band) → SumsFit w all s room → (w ≡ 0 → ⊥) → b ≡ band_of (powers_of w) all → w * b.low ≤ 2 ^ 32 * 2 ^ 18
product-low w room all s b f n e =
    let k : b.low ≤ 2 ^ 18 = rw e (band-small (powers_of w) all (powers-sized w (some-weight w n) f.few) f.sized).0 in
    let h : w ≤ 2 ^ 32 = omega (arith, f.few) in
    mul-le-mul h k

pub product_high : (w room : ℕ) (all : Powers) (s : Sums) (b : Band) → SumsFit w all s room → (w ≡ 0 → ⊥) → b ≡ band_of (powers_of w) all → w * b.high ≤ 2 ^ 32 * 2 ^ 18
product_high w room all s b f n e =
    let k : b.high ≤ 2 ^ 18 = rw e (band-small (powers_of w) all (powers-sized w (some-weight w n) f.few) f.sized).1 in
    let h : w ≤ 2 ^ 32 = omega (arith, f.few) in
    mul-le-mul h k

pub place-fits : (w room : ℕ) (all : Powers) (s : Sums) → SumsFit w all s room → (w ≡ 0 → ⊥) → 3 * s.count + 2 < room
place-fits w room all s f n = f.place (some-weight w n)

-- ---- what is done, and what is left

pub record Going (all room : ℕ) (whole left : List ℕ) (s : Sums) (bands : List ℕ) : Type 0 where
  pub count-is : s.count + length left ≡ length whole
  pub low-is : s.low + low_sum all left ≡ low_sum all whole
  pub high_is : s.high + high_sum all left ≡ high_sum all whole
  pub front : List ℕ
  pub front_long : length front ≡ 3 * s.count
  pub front-is : front ++ bands_of all left ≡ bands_of all whole
  pub bands-are : bands ≡ front ++ replicate (room - 3 * s.count) 0

going-none : (all room : ℕ) (whole bands : List ℕ) → bands ≡ replicate room 0 → Going all room whole whole (sums_at 0 0 0) bands
going-none all room whole bands e =
    let z : room ≡ room - 3 * 0 = omega arith in
    record {
      count-is = omega arith;
      low-is = omega arith;
      high_is = omega arith;
      front = [];
      front_long = omega arith;
      front-is = refl;
      bands-are = e ∙ ap (λ (y : ℕ). replicate y 0) z;
    }

-- three cells behind the front
behind : (front : List ℕ) (k m a b d : ℕ) → length front ≡ 3 * k
    → set (set (set (front ++ 0 ∷ 0 ∷ 0 ∷ replicate m 0) (3 * k) a) (3 * k + 1) b) (3 * k + 2) d ≡ front ++ (a ∷ b ∷ d ∷ []) ++ replicate m 0
behind front k m a b d e =
    let l = front ++ 0 ∷ 0 ∷ 0 ∷ replicate m 0 in
    let one : 3 * k + 1 ≡ suc (3 * k) = omega arith in
    let two : 3 * k + 2 ≡ suc (suc (3 * k)) = omega arith in
    let long : length l ≡ length front + suc (suc (suc m)) = length-append front (0 ∷ 0 ∷ 0 ∷ replicate m 0) ∙ ap (λ (y : ℕ). length front + suc (suc (suc y))) (length-replicate m 0) in
    let past : 3 * k + 3 ≡ length front + 3 = omega arith in
    ap₂ (λ (x y : ℕ). set (set (set l (3 * k) a) x b) y d) one two
    ∙ sets-eq (a ∷ b ∷ d ∷ []) l (3 * k) (omega (arith, long, e))
    ∙ ap₂ (λ (x y : List ℕ). x ++ (a ∷ b ∷ d ∷ []) ++ y) (take_at front (0 ∷ 0 ∷ 0 ∷ replicate m 0) (3 * k) e)
    (ap (λ (y : ℕ). drop y l) past ∙ drop-append-add front (0 ∷ 0 ∷ 0 ∷ replicate m 0) 3)

-- one more
going_more : (all room : ℕ) (whole left : List ℕ) (w : ℕ) (s : Sums) (bands : List ℕ) → 3 * length whole ≤ room → Going all room whole (kept_weight w left) s bands
    → Going all room whole left (sums_with w (powers_of all) s) (bands_with w (powers_of all) s bands)
unfolding kept_weight sums_with bands_with bands_of low_sum high_sum
going_more all room whole left zero s bands h g = g
going_more all room whole left (suc w) s bands h g =
    let b = band_of (powers_of (suc w)) (powers_of all) in
    let k = s.count in
    let m = room - 3 * (k + 1) in
    let z : room - 3 * k ≡ suc (suc (suc m)) = omega (arith, g.count-is) in
    record {
      count-is = omega (arith, g.count-is);
      low-is = add_assoc s.low (suc w * b.low) (low_sum all left) ∙ g.low-is;
      high_is = add_assoc s.high (suc w * b.high) (high_sum all left) ∙ g.high_is;
      front = g.front ++ (suc w ∷ b.low ∷ b.high ∷ []);
      front_long = length-append g.front (suc w ∷ b.low ∷ b.high ∷ []) ∙ omega (arith, g.front_long);
      front-is = append_assoc g.front (suc w ∷ b.low ∷ b.high ∷ []) (bands_of all left) ∙ g.front-is;
      bands-are =
          ap (λ (y : List ℕ). set_band y k (suc w) b) (g.bands-are ∙ ap (λ (y : ℕ). g.front ++ replicate y 0) z)
          ∙ behind g.front k m (suc w) b.low b.high g.front_long;
    }

-- ---- the loop of `fill`

pub record Filling (values : List Float) (room : ℕ) (s : Sums) (i : ℕ) (bands : List ℕ) : Type 0 where
  pub inside : i ≤ length values
  pub going : Going (whole_weight values) room (weights_left values) (weights_left (drop i values)) s bands

pub going-long : (all room : ℕ) (whole left : List ℕ) (s : Sums) (bands : List ℕ) → Going all room whole left s bands → 3 * length whole ≤ room → length bands ≡ room
going-long all room whole left s bands g h =
    ap length g.bands-are
    ∙ length-append g.front (replicate (room - 3 * s.count) 0)
    ∙ ap (λ (y : ℕ). length g.front + y) (length-replicate (room - 3 * s.count) 0)
    ∙ omega (arith, g.front_long, g.count-is)

module _ (values : List Float) (all : Powers) (old : List ℕ) (r : FillReady values all old) where
  room_fits : 3 * length (weights_left values) ≤ length old
  room_fits = omega (arith, left-few values, r.long)

  whole-lt : whole_weight values < 2 ^ 32
  whole-lt = whole-less values r.few

  pub filling-none : Filling values (length old) (sums_at 0 0 0) 0 old
  filling-none = record { inside = omega arith; going = going-none (whole_weight values) (length old) (weights_left values) old r.blank }

  pub filling-long : (s : Sums) (i : ℕ) (bands : List ℕ) → Filling values (length old) s i bands → length bands ≡ length old
  filling-long s i bands f = going-long (whole_weight values) (length old) (weights_left values) (weights_left (drop i values)) s bands f.going room_fits

  module _ (s : Sums) (i w : ℕ) (bands : List ℕ) (f : Filling values (length old) s i bands) (h : i < length values) (e : w ≡ weight_of (get_or values i nan)) where
    left : weights_left (drop i values) ≡ kept_weight w (weights_left (drop (suc i) values))
    left = left_at values i h ∙ ap (λ (y : ℕ). kept_weight y (weights_left (drop (suc i) values))) (sym e)

    going : Going (whole_weight values) (length old) (weights_left values) (kept_weight w (weights_left (drop (suc i) values))) s bands
    going = subst (λ (y : List ℕ). Going (whole_weight values) (length old) (weights_left values) y s bands) left f.going

    kept-some : (v : ℕ) (l : List ℕ) → 0 < v → length (kept_weight v l) ≡ suc (length l)
    unfolding kept_weight
    kept-some zero l p = absurd (omega (arith, p))
    kept-some (suc v) l p = refl

    pub filling-fits : SumsFit w all s (length bands)
    filling-fits =
        let lm = low-most (whole_weight values) r.some whole-lt values in
        let hm = high-most (whole_weight values) r.some whole-lt values in
        let wf = weight-small (get_or values i nan) in
        record {
          few = omega (arith, e, wf);
          sized = subst PowersSized (sym r.powers) (powers-sized (whole_weight values) r.some whole-lt);
          place = λ p. omega (arith, going.count-is, kept-some w (weights_left (drop (suc i) values)) p, filling-long s i bands f, room_fits);
          low_fits = omega (arith, f.going.low-is, lm, whole-lt);
          high_fits = omega (arith, f.going.high_is, hm, whole-lt);
        }

    pub filling-more : (s' : Sums) (bands' : List ℕ) → bands' ≡ bands_with w all s bands → s' ≡ sums_with w all s → Filling values (length old) s' (i + 1) bands'
    filling-more s' bands' eb es =
        let z : suc i ≡ i + 1 = omega arith in
        let g = going_more (whole_weight values) (length old) (weights_left values) (weights_left (drop (suc i) values)) w s bands room_fits going in
        let q : sums_with w (powers_of (whole_weight values)) s ≡ s' = ap (λ (y : Powers). sums_with w y s) (sym r.powers) ∙ sym es in
        let b : bands_with w (powers_of (whole_weight values)) s bands ≡ bands' = ap (λ (y : Powers). bands_with w y s bands) (sym r.powers) ∙ sym eb in
        record {
          inside = omega arith;
          going =
              subst (λ (y : ℕ). Going (whole_weight values) (length old) (weights_left values) (weights_left (drop y values)) s' bands') z
              (subst (λ (y : List ℕ). Going (whole_weight values) (length old) (weights_left values) (weights_left (drop (suc i) values)) s' y) b
              (subst (λ (y : Sums). Going (whole_weight values) (length old) (weights_left values) (weights_left (drop (suc i) values)) y (bands_with w (powers_of (whole_weight values)) s bands)) q g));
        }

  pub filling-end : (s : Sums) (i : ℕ) (bands : List ℕ) → Filling values (length old) s i bands → length values ≤ i → Filled values (length old) s bands
  unfolding bands_of low_sum high_sum
  filling-end s i bands f h =
      let g = subst (λ (y : List ℕ). Going (whole_weight values) (length old) (weights_left values) y s bands) (left_end values i h) f.going in
      let n : s.count ≡ length (weights_left values) = omega (arith, g.count-is) in
      record {
        count-is = n;
        low-is = omega (arith, g.low-is);
        high_is = omega (arith, g.high_is);
        bands-are = g.bands-are ∙ ap₂ (λ (x : List ℕ) (y : ℕ). x ++ replicate (length old - 3 * y) 0) (sym (append-nil g.front) ∙ g.front-is) n;
      }

-- ---- the three stores of `put` lie inside
