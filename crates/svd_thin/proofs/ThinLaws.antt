-- Laws of what `specs/Thin.antt` defines. Assumes nothing.
use mathlib.Core.Path.{◌≡◌, ap, ◌∙◌}
use mathlib.Core.Bool.{Bool}
use mathlib.Core.List.{List, ◌++◌}
use Prim.Native.Nat.{ℕ, zero, suc, ◌+◌, ◌-◌, ◌*◌, ◌≤◌}
use native.Mathlib.Nat.{mul-le-mul_left}
use native.Mathlib.Omega.{arith}
use lib.ListN.{length, take, drop, length-drop}
use lib.Seq.{length-take-le, take_at, drop_at}
use borrow.Rule.Slice.PartMut.{put_mid}
use lib.Ieee.{Float}
use Rattle.sweeps.specs.declared.Sweeps.{Sweeps}
use Rattle.sweeps.specs.Sweeping.{State}
use Rattle.plain_sweeps.specs.Trial.{Swept}
use Rattle.stable_order.specs.Places.{Places, places_of, places_in}
use Rattle.stable_order.proofs.PlacesLaws.{places-back}
use Rattle.stable_order.specs.Order.{order_to}
use Rattle.stable_order.proofs.OrderLaws.{order_below}
use Rattle.svd_columns.specs.Columns.{norms_of, sorted_of, directions_of, v_columns_of}
use Rattle.svd_thin.specs.Thin.{swept, order_of, values_of, order_part, ThinOrdered, Thin}

-- ---- laws

pub side-fits : (side : ℕ) → side ≤ side * side
side-fits zero = omega arith
side-fits (suc k) =
    let h : suc k * 1 ≤ suc k * suc k = mul-le-mul_left (suc k) (omega arith) in
    omega arith

pub square-fits : (rows side : ℕ) → side ≤ rows → side * side ≤ side * rows
square-fits rows side h = mul-le-mul_left side h

-- ---- what the proofs of the steps cite

pub part_length : {X : Type 0} (w k : ℕ) (xs : List X) → w + k ≤ length xs → length (take (w + k - w) (drop w xs)) ≡ k
part_length w k xs h =
    let e : length (drop w xs) ≡ length xs - w = length-drop w xs in
    length-take-le (w + k - w) (drop w xs) (omega arith) ∙ omega arith

-- a part of a list that was put back, and what stands before it
pub part-back : {X : Type 0} (w k : ℕ) (xs ys : List X) → w + k ≤ length xs → length ys ≡ k
    → (take (w + k - w) (drop w (put_mid w (w + k - w) xs ys)) ≡ ys) × (take w (put_mid w (w + k - w) xs ys) ≡ take w xs)
part-back w k xs ys h l' =
    let l : length ys ≡ w + k - w = l' ∙ omega arith in
    let p = take w xs in
    let lp : length p ≡ w = length-take-le w xs (omega arith) in
    let rest = drop (w + k - w) (drop w xs) in
    (ap (take (w + k - w)) (drop_at p (ys ++ rest) w lp) ∙ take_at ys rest (w + k - w) l, take_at p (ys ++ rest) w lp)

pub order-places : (norms : List Float) (side : ℕ) {l : List Float} → length norms ≡ side → l ≡ places_of (order_to norms (length norms)) → Places side l
order-places norms side e h = record { places = order_to norms (length norms); are = h; low = rw e (order_below norms side) }

pub sorted-made : (norms : List Float) (side : ℕ) {l s : List Float} → side ≤ 64 → length norms ≡ side → l ≡ places_of (order_to norms (length norms))
    → s ≡ sorted_of norms (places_in l) side → (l ≡ places_of (order_to norms side)) × (s ≡ sorted_of norms (order_to norms side) side)
sorted-made norms side {l} {s} b e h g =
    let i : l ≡ places_of (order_to norms side) = rw e at h in
    let n : side ≤ 4096 = omega arith in
    (i, g ∙ ap (λ (o : List ℕ). sorted_of norms o side) (ap places_in i ∙ places-back side (order_to norms side) n (order_below norms side)))

pub ranked-made : (rows side : ℕ) (scratch rest : List Float) {norms s order : List Float} → 2 * (side * rows) + side ≤ length scratch
    → length norms ≡ side → norms ≡ norms_of (take (2 * (side * rows)) scratch) rows side
    → length order ≡ side
    → order ≡ places_of (order_to (take side (norms ++ rest)) side)
    → s ≡ sorted_of (take side (norms ++ rest)) (order_to (take side (norms ++ rest)) side) side
    → ThinOrdered rows side (take (2 * (side * rows)) scratch) s (put_mid (2 * (side * rows)) (2 * (side * rows) + side - 2 * (side * rows)) scratch order)
unfolding values_of order_of
ranked-made rows side scratch rest {norms} {s} {order} h l e k f g =
    let t : take side (norms ++ rest) ≡ norms = take_at norms rest side l in
    let b = part-back (2 * (side * rows)) side scratch order h k in
    record {
      s-is = g ∙ rw (t, e);
      work-is = b.1;
      order_is = b.0 ∙ f ∙ rw (t, e);
    }

pub ranked-places : (rows side : ℕ) (work s scratch : List Float) → ThinOrdered rows side work s scratch → Places side (order_part rows side scratch)
unfolding order_of
ranked-places rows side work s scratch r =
    record { places = order_to (norms_of work rows side) side; are = r.order_is; low = order_below (norms_of work rows side) side }

pub thin-made : (rows side : ℕ) (wide : Bool) (work rest' : List Float) {settled' v' s scratch main other : List Float} {n : Sweeps} → side ≤ 64
    → length v' ≡ 2 * (side * side) → Swept rows side work n settled' v'
    → ThinOrdered rows side (take (2 * (side * rows)) settled') s scratch
    → main ≡ directions_of (take (2 * (side * rows)) scratch) s (places_in (order_part rows side scratch)) rows side wide
    → other ≡ v_columns_of (take (2 * (side * side)) (v' ++ rest')) (places_in (order_part rows side scratch)) side wide
    → Thin rows side wide work n main s other
unfolding order_of swept
thin-made rows side wide work rest' {settled'} {v'} {s} {scratch} {main} {other} b lv g r em eo =
    let tw : take (2 * (side * rows)) settled' ≡ (swept rows side work).work = ap (λ (t : State). t.work) g.is in
    let ev : v' ≡ (swept rows side work).v = ap (λ (t : State). t.v) g.is in
    let tv : take (2 * (side * side)) (v' ++ rest') ≡ (swept rows side work).v = take_at v' rest' (2 * (side * side)) lv ∙ ev in
    let n : side ≤ 4096 = omega arith in
    let os = order_of rows side (swept rows side work).work in
    let rw-is : s ≡ values_of rows side (swept rows side work).work = r.s-is ∙ ap (values_of rows side) tw in
    let order_is : places_in (order_part rows side scratch) ≡ os =
    ap places_in (r.order_is ∙ ap (λ (l : List Float). places_of (order_of rows side l)) tw)
    ∙ places-back side os n (order_below (norms_of (swept rows side work).work rows side) side) in
    record {
      main-is = em ∙ rw (r.work-is, tw, order_is, rw-is);
      s-is = rw-is;
      other-is = eo ∙ rw (tv, order_is);
      sweeps-are = ap (λ (t : State). t.sweeps) g.is;
    }
