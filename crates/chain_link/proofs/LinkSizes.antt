-- The sizes of one step: its matrix has at most 2^n cells and its side is at most 2^(n/2). Assumes nothing.
use mathlib.Core.Path.{◌≡◌, refl, sym, ap, ◌∙◌}
use mathlib.Core.Bool.{Bool, true, false}
use mathlib.Core.List.{List, [], ◌++◌, append-nil}
use Prim.Native.Nat.{ℕ, suc, ◌+◌, ◌-◌, ◌*◌, ◌/◌, ◌^◌, ◌≤◌, min}
use native.Mathlib.Nat.{mul-le-mul_left, mul-le-mul_right, pow-suc}
use native.Mathlib.Omega.{arith}
use lib.Pow.{pow-add, pow_pos, pow_mono}
use lib.Dec.{leb}
use lib.ListN.{length, take, drop, length-drop, drop_of_length-le}
use lib.Seq.{take_all}
use lib.Ieee.{Float}
use borrow.Rule.Slice.PartMut.{mid_of, put_mid}
use borrow.Author.Tests.{leb-true, leb-false}
use Rattle.std.specs.Prelude.{Result}
use Rattle.answers.specs.declared.Refusal.{Refusal}
use Rattle.svd.specs.Svd.{side_of}
use Rattle.svd.proofs.SvdLaws.{side-low}
use Rattle.chain_step.specs.declared.Link.{Link}
use Rattle.chain_step.specs.Step.{columnwise, StepSizes, Stepped}
use Rattle.chain_link.specs.OneLink.{LinkRoom, OneLink}

pub record LinkSizes (n bond columns k : ℕ) : Type 0 where
  pub bond-few : bond ≤ 2048
  pub columns-some : 1 ≤ columns
  pub few : 2 * bond * columns ≤ 2 ^ n
  pub most : 2 ^ n ≤ 4096
  pub side : k ≤ 2 ^ (n / 2)

half-few : (a b m k : ℕ) → k ≤ 2 ^ a → k ≤ 2 ^ b → a + b ≤ 2 * m + 1 → k ≤ 2 ^ m
half-few a b m k p q h = pick (leb a m) refl
  where
    pick : (t : Bool) → leb a m ≡ t → k ≤ 2 ^ m
    pick true e = let l : 2 ^ a ≤ 2 ^ m = pow_mono (leb-true a m e) in omega arith
    pick false e =
        let i : suc m ≤ a = leb-false a m e in
        let g : b ≤ m = omega arith in
        let l : 2 ^ b ≤ 2 ^ m = pow_mono g in
        omega arith

pub link_sizes : (n j bond at limit sites u vt scratch : ℕ) {columns k : ℕ} → LinkRoom n j bond at limit sites u vt scratch
    → columns ≡ 2 ^ (n - 1 - j) → k ≡ side_of (2 * bond) columns → LinkSizes n bond columns k
link_sizes n j bond at limit sites u vt scratch {columns} {k} r e f =
    let d : suc j + (n - 1 - j) ≡ n = omega (arith, r.inside) in
    let p : 2 ^ suc j * 2 ^ (n - 1 - j) ≡ 2 ^ n = sym (pow-add 2 (suc j) (n - 1 - j)) ∙ ap (λ (x : ℕ). 2 ^ x) d in
    let s : 2 ^ suc j ≡ 2 ^ j * 2 = pow-suc 2 j in
    let i : 2 * bond ≤ 2 ^ suc j = omega (arith, r.bond-few) in
    let q : 2 * bond * columns ≤ 2 ^ suc j * columns = mul-le-mul_right columns i in
    let t : 2 ^ suc j * columns ≡ 2 ^ n = ap (λ (x : ℕ). 2 ^ suc j * x) e ∙ p in
    let m : 2 ^ n ≤ 2 ^ 12 = pow_mono r.small in
    let c : 1 ≤ columns = omega (arith, e, pow_pos (n - 1 - j)) in
    let v : 2 * bond * 1 ≤ 2 * bond * columns = mul-le-mul_left (2 * bond) c in
    let l = side-low (2 * bond) columns in
    let k1 : k ≤ 2 ^ suc j = omega (arith, l.0, f) in
    let k2 : k ≤ 2 ^ (n - 1 - j) = omega (arith, l.1, f, e) in
    record {
      bond-few = omega arith;
      columns-some = c;
      few = omega arith;
      most = omega arith;
      side = half-few (suc j) (n - 1 - j) (n / 2) k k1 k2 (omega arith);
    }

pub step-sizes : (n j bond at limit sites u vt scratch : ℕ) {columns k : ℕ} (carried' vt' scratch' : ℕ) → LinkRoom n j bond at limit sites u vt scratch
    → columns ≡ 2 ^ (n - 1 - j) → k ≡ side_of (2 * bond) columns
    → carried' ≡ 2 * (2 * bond * columns) → vt' ≡ 2 * (2 * bond * columns)
    → scratch' ≡ 6 * (2 * bond * columns) + 2 * k
    → StepSizes (2 * bond) columns carried' vt' scratch'
step-sizes n j bond at limit sites u vt scratch {columns} {k} carried' vt' scratch' r e f a c d =
    let z = link_sizes n j bond at limit sites u vt scratch r e f in
    record {
      rows-some = omega (arith, r.bond-some);
      columns-some = z.columns-some;
      few = omega (arith, z.few, z.most);
      carried-is = a;
      vt_is = c;
      scratch-is = d ∙ ap (λ (x : ℕ). 6 * (2 * bond * columns) + 2 * x) f;
    }

-- ---- the parts of the lent slices

rest-length : (a : ℕ) (xs : List Float) → length (drop a xs) ≤ length xs - a
rest-length a xs = omega (arith, length-drop a xs)

-- the part from a on
pub tail-length : (a m : ℕ) (xs : List Float) → a + m ≤ length xs → m ≤ length (take (length xs - a) (drop a xs))
tail-length a m xs h = rw (take_all (length xs - a) (drop a xs) (rest-length a xs)) (omega (arith, length-drop a xs))

pub one-linked : (n j bond at : ℕ) (epsilon : Float) (limit : ℕ) (sites u : List Float) (r : Result Link Refusal) (tail front : List Float) {columns : ℕ} → columns ≡ 2 ^ (n - 1 - j)
    → length front ≡ 2 * (2 * bond * columns)
    → Stepped (columnwise (take (2 * (2 * bond * columns)) u) (2 * bond) columns) (2 * bond) columns epsilon limit (mid_of (2 * at) (length sites - 2 * at) sites) r tail front
    → OneLink n j bond at epsilon limit sites u r (put_mid (2 * at) (length sites - 2 * at) sites tail) (front ++ drop (2 * (2 * bond * columns)) u)
one-linked n j bond at epsilon limit sites u r tail front e l s =
    let m : take (length sites - 2 * at) (drop (2 * at) sites) ≡ drop (2 * at) sites = take_all (length sites - 2 * at) (drop (2 * at) sites) (rest-length (2 * at) sites) in
    let z : drop (length sites - 2 * at) (drop (2 * at) sites) ≡ [] = drop_of_length-le (drop (2 * at) sites) (rest-length (2 * at) sites) in
    record {
      tail = tail;
      front = front;
      front_long = rw e at l;
      step = rw (e, m) at s;
      sites-is = rw (z, append-nil);
      u-is = rw e;
    }

pub site-fits : (n j bond at limit : ℕ) (sites : List Float) (u vt scratch : ℕ) {columns : ℕ} → LinkRoom n j bond at limit (length sites) u vt scratch
    → columns ≡ 2 ^ (n - 1 - j) → 2 * (2 * bond * min (side_of (2 * bond) columns) limit) ≤ length (take (length sites - 2 * at) (drop (2 * at) sites))
site-fits n j bond at limit sites u vt scratch r e = rw e (tail-length (2 * at) _ sites r.site-fits)
