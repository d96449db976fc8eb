-- Laws of what `specs/Loading.antt` defines. Assumes nothing.
use mathlib.Core.Path.{◌≡◌, refl, sym, ap, ap₂, ◌∙◌}
use mathlib.Core.List.{List, ◌++◌, append-nil}
use Prim.Native.Nat.{ℕ, zero, suc, ◌+◌, ◌*◌, ◌/◌, ◌%◌, ◌≤◌, ◌<◌}
use native.Mathlib.Numerals.{add-one}
use native.Mathlib.Nat.{zero-add, add-zero, add-suc, add_assoc, mul-add-div_right, mul-add-mod_self_right, div-eq_of_lt, mod-eq_of_lt}
use native.Mathlib.Omega.{arith}
use lib.ListN.{length, set, take, drop, length-drop, length-set, take-append-drop, drop_of_length-le}
use lib.Seq.{set-append_left, length-take-le}
use lib.Ieee.{Float}
use Rattle.numbers.specs.Numbers.{one_float}
use Rattle.complex.specs.declared.Complex.{Complex}
use Rattle.complex.specs.Arithmetic.{conjugate}
use Rattle.complex.specs.Cells.{cell_at}
use Rattle.complex.specs.Planes.{set_plane}
use Rattle.complex.specs.Zeros.{zeroed}
use Rattle.tables.specs.Tables.{filled}
use Rattle.tables.proofs.TablesLaws.{table_same, length-filled, filled_none, filled_more, filled-all}
use Rattle.svd_load.proofs.NumbersLaws.{set-second}
use Rattle.svd_load.specs.Loading.{planes_of, planes_to, conjugate_transposed, unit_to, unit_planes}

-- ---- laws

pub planes-none : (c : ℕ) (f : ℕ → Complex) (from : ℕ) (xs : List Float) → xs ≡ planes_to c f from 0 xs
unfolding planes_to
planes-none c f from xs = refl

pub planes-more : (c : ℕ) (f : ℕ → Complex) (from k : ℕ) (xs : List Float) {ys zs : List Float} {z : Complex}
    → ys ≡ planes_to c f from k xs → z ≡ f (from + k) → zs ≡ set_plane ys c (from + k) z → zs ≡ planes_to c f from (k + 1) xs
unfolding planes_to
planes-more c f from k xs e g h = rw (add-one, ← e, ← g) h

-- the same from the first cell on
pub planes-next : (c : ℕ) (f : ℕ → Complex) (k : ℕ) (xs : List Float) {ys zs : List Float} {z : Complex}
    → ys ≡ planes_to c f 0 k xs → z ≡ f k → zs ≡ set_plane ys c k z → zs ≡ planes_to c f 0 (k + 1) xs
planes-next c f k xs {ys} {zs} {z} e g h =
    planes-more c f 0 k xs {ys = ys} {zs = zs} {z = z} e (rw zero-add g) (rw zero-add h)

pub planes-join : (c : ℕ) (f : ℕ → Complex) (from a b : ℕ) (xs : List Float)
    → planes_to c f from (a + b) xs ≡ planes_to c f (from + a) b (planes_to c f from a xs)
unfolding planes_to
planes-join c f from a zero xs = rw add-zero
planes-join c f from a (suc b) xs = rw (add-suc, planes-join c f from a b xs, add_assoc)

-- one column more
pub planes-column : (c : ℕ) (f : ℕ → Complex) (j n : ℕ) (xs : List Float) {ys zs : List Float}
    → ys ≡ planes_to c f 0 (j * n) xs → zs ≡ planes_to c f (j * n) n ys → zs ≡ planes_to c f 0 ((j + 1) * n) xs
planes-column c f j n xs {ys} {zs} e h =
    let g : (j + 1) * n ≡ j * n + n = omega arith in
    h ∙ ap (planes_to c f (j * n) n) e ∙ sym (rw (g, planes-join c f 0 (j * n) n xs, zero-add (j * n)))

module _ (c : ℕ) (f : ℕ → Complex) (p q : List Float) (hp : length p ≡ c) (hq : length q ≡ c) where
  half : (k : ℕ) → k ≤ c → planes_to c f 0 k (p ++ q) ≡ filled k (λ i. (f i).re) p ++ filled k (λ i. (f i).im) q
  unfolding planes_to set_plane
  half zero h = rw (← filled_none (λ i. (f i).re) p, ← filled_none (λ i. (f i).im) q)
  half (suc k) h =
      let a = filled k (λ i. (f i).re) p in
      let b = filled k (λ i. (f i).im) q in
      let la : length a ≡ c = length-filled k (λ i. (f i).re) p (omega arith) ∙ hp in
      let lk : k < length a = omega arith in
      let ls : length (set a k (f k).re) ≡ c = length-set a k (f k).re ∙ la in
      rw (
        zero-add,
        half k (omega arith),
        set-append_left a b k (f k).re lk,
        set-second (set a k (f k).re) b c k (f k).im ls,
        filled_more k (λ i. (f i).re) p (omega arith),
        filled_more k (λ i. (f i).im) q (omega arith),
        add-one,
      )

-- all cells set
pub planes-all : (c : ℕ) (f : ℕ → Complex) (xs : List Float) → length xs ≡ 2 * c → planes_to c f 0 c xs ≡ planes_of c f
unfolding planes_of
planes-all c f xs h =
    let lp : length (take c xs) ≡ c = length-take-le c xs (omega arith) in
    let lq : length (drop c xs) ≡ c = length-drop c xs ∙ omega arith in
    ap (planes_to c f 0 c) (sym (take-append-drop c xs))
    ∙ half c f (take c xs) (drop c xs) lp lq c (omega arith)
    ∙ rw (filled-all c (λ i. (f i).re) (take c xs) lp, filled-all c (λ i. (f i).im) (drop c xs) lq)

-- the cell r of the column col
pub transposed-at : (a : List Float) (m n col r : ℕ) → r < n → conjugate (cell_at a (r * m + col)) ≡ conjugate_transposed a m n (col * n + r)
unfolding conjugate_transposed
transposed-at a m n col r h =
    let pos : 0 < n = omega arith in
    let d : (col * n + r) / n ≡ col = mul-add-div_right pos col r ∙ rw (div-eq_of_lt h) (add-zero col) in
    let e : (col * n + r) % n ≡ r = mul-add-mod_self_right col n r ∙ mod-eq_of_lt h in
    rw (d, e)

pub unit-none : (n : ℕ) (xs : List Float) → xs ≡ unit_to n xs 0
unfolding unit_to
unit-none n xs = refl

pub unit-more : (n : ℕ) (xs : List Float) (k : ℕ) {ys : List Float} → ys ≡ unit_to n xs k → set ys (k * n + k) one_float ≡ unit_to n xs (k + 1)
unfolding unit_to
unit-more n xs k e = rw (add-one, ← e)

pub unit-all : (n : ℕ) (old : List Float) {xs ys : List Float} {k : ℕ} → length old ≡ 2 * (n * n) → k ≡ length old → xs ≡ zeroed k old → ys ≡ unit_to n xs n → ys ≡ unit_planes n
unfolding unit_planes zeroed
unit-all n old {xs} {ys} {k} h g e i =
    let l : length old ≤ k = omega arith in
    let z : k ≡ 2 * (n * n) = g ∙ h in
    i ∙ ap (λ (l : List Float). unit_to n l n) (e ∙ rw (drop_of_length-le old l, append-nil, z))

-- cells that are the same give the same planes
pub planes-alike : (c : ℕ) (f g : ℕ → Complex) → ((i : ℕ) → i < c → f i ≡ g i) → planes_of c f ≡ planes_of c g
unfolding planes_of
planes-alike c f g h =
    ap₂ (λ (p q : List Float). p ++ q) (table_same c (λ i. (f i).re) (λ i. (g i).re) (λ i l. ap (λ (z : Complex). z.re) (h i l)))
    (table_same c (λ i. (f i).im) (λ i. (g i).im) (λ i l. ap (λ (z : Complex). z.im) (h i l)))
