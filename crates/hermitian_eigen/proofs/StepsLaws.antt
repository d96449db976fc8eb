-- Laws of what `specs/Steps.antt` defines. Assumes nothing.
use mathlib.Core.Path.{◌≡◌, refl, sym, ap, ◌∙◌}
use mathlib.Core.Bool.{false}
use mathlib.Core.List.{List, [], ◌∷◌, ◌++◌}
use Prim.Native.Nat.{ℕ, zero, suc, ◌+◌, ◌-◌, ◌*◌, ◌/◌, ◌%◌, ◌≤◌, ◌<◌}
use native.Mathlib.Nat.{div-lt_iff_lt-mul, mod-lt}
use native.Mathlib.Omega.{arith}
use borrow.Author.Tests.{le-ltb}
use borrow.Rule.Slice.PartMut.{put_mid}
use lib.ListN.{length, get_or, take, drop}
use lib.Seq.{take_at, get_or-append-add, get_or-drop}
use lib.Ieee.{Float, nan, binary64, sub}
use Rattle.complex.specs.declared.Complex.{Complex}
use Rattle.complex.specs.Cells.{cell_at, cells_of}
use Rattle.complex.proofs.CellLaws.{cells_same, cell-of}
use Rattle.complex.specs.Planes.{plane_at}
use Rattle.tables.specs.Tables.{table, filled}
use Rattle.whole_numbers.proofs.WholeLaws.{column_fits}
use Rattle.tables.proofs.TablesLaws.{length-table, table_same}
use Rattle.svd_load.specs.Loading.{planes_of, unit_planes}
use Rattle.sweeps.specs.declared.Sweeps.{Sweeps}
use Rattle.sweeps.specs.Sweeping.{State, state}
use Rattle.svd_sweeps.specs.Sweeping.{settled}
use Rattle.svd_sweeps.proofs.SweepingLaws.{settled-alike}
use Rattle.stable_order.specs.Places.{places_of, places_in, Places, Below}
use Rattle.stable_order.proofs.PlacesLaws.{places-back}
use Rattle.stable_order.specs.Order.{order_to}
use Rattle.stable_order.proofs.OrderLaws.{order_below, length-order}
use Rattle.svd_columns.specs.Columns.{norms_of, sorted_of, in_columns, direction_of, directions_of}
use Rattle.svd_thin.specs.Thin.{swept, order_of, values_of, order_part, ThinOrdered}
use Rattle.svd_thin.proofs.ThinLaws.{part_length, part-back}
use Rattle.svd.specs.Svd.{u_of, s_of, work_of, directions}
use Rattle.svd.proofs.SvdLaws.{side-tall, sweeps-tall}
use Rattle.hermitian_eigen.specs.Shifted.{shift_of, shifted_at, shifted_of}
use Rattle.hermitian_eigen.proofs.ShiftedLaws.{split, shifted-planes}
use Rattle.std.specs.Prelude.{reverse}
use Rattle.std.proofs.lemmas.List.{length-reverse, get_or-reverse, reverse-append}
use Rattle.stable_order.specs.Places.{place}
use Rattle.stable_order.proofs.PlacesLaws.{places_of-append}
use Rattle.hermitian_eigen.specs.Hermitian.{hermitian_values, hermitian_vectors, hermitian_sweeps}
use Rattle.hermitian_eigen.specs.Steps.{Rising, swept_end, swept_by, HermitianSwept, HermitianFactored}

-- ---- laws

-- places from the last to the first, and their bound
places-reverse : (l : List ℕ) → reverse (places_of l) ≡ places_of (reverse l)
unfolding places_of
places-reverse [] = refl
places-reverse (y ∷ l) =
    reverse-append (place y ∷ []) (places_of l)
    ∙ ap (λ (m : List Float). m ++ place y ∷ []) (places-reverse l)
    ∙ sym (places_of-append (reverse l) (y ∷ []))
    ∙ sym (ap places_of (reverse-append (y ∷ []) l))

below-append : (n : ℕ) (a b : List ℕ) → Below n a → Below n b → Below n (a ++ b)
below-append n [] b h g = g
below-append n (y ∷ a) b h g = (h.0, below-append n a b h.1 g)

below-reverse : (n : ℕ) (l : List ℕ) → Below n l → Below n (reverse l)
below-reverse n [] h = tt
below-reverse n (y ∷ l) h = rw (reverse-append (y ∷ []) l) (below-append n (reverse l) (y ∷ []) (below-reverse n l h.1) (h.0, tt))

-- the number behind those that were filled
pub past-filled : (m : ℕ) (f : ℕ → Float) (old : List Float) → get_or (filled m f old) m nan ≡ get_or old m nan
unfolding filled
past-filled m f old =
    let z : m + 0 ≡ m = omega arith in
    let e : length (table m f) + 0 ≡ m = omega (arith, length-table m f) in
    rw e at (get_or-append-add (table m f) (drop m old) 0 nan) ∙ get_or-drop m old 0 nan ∙ ap (λ (n : ℕ). get_or old n nan) z

-- V is no part of the work matrix, and no part of the counts
pub sweep-made : (a : List Float) (dim : ℕ) (shift : Float) {work work' : List Float} {n : Sweeps} → work ≡ planes_of (dim * dim) (shifted_at shift a dim)
    → state work' [] n ≡ settled dim dim work [] → HermitianSwept a dim shift n work'
unfolding swept
sweep-made a dim shift {work} e h =
    let same = settled-alike dim dim work [] (unit_planes dim) in
    record {
      work-is = ap (λ (t : State). t.work) h ∙ same.work ∙ ap (λ (l : List Float). (settled dim dim l (unit_planes dim)).work) e;
      sweeps-are = ap (λ (t : State). t.sweeps) h ∙ same.sweeps ∙ ap (λ (l : List Float). (settled dim dim l (unit_planes dim)).sweeps) e;
    }

pub rising-made : (dim : ℕ) (work scratch : List Float) {s values part : List Float} → 2 * (dim * dim) + dim ≤ length scratch
    → ThinOrdered dim dim work s scratch → values ≡ reverse s → part ≡ reverse (order_part dim dim scratch)
    → Rising dim work values (put_mid (2 * (dim * dim)) (2 * (dim * dim) + dim - 2 * (dim * dim)) scratch part)
rising-made dim work scratch {s} {values} {part} h r e f =
    let l : length part ≡ dim = ap length f ∙ length-reverse (order_part dim dim scratch) ∙ part_length (2 * (dim * dim)) dim scratch h in
    let b = part-back (2 * (dim * dim)) dim scratch part h l in
    record {
      values-are = e ∙ ap reverse r.s-is;
      work-is = b.1 ∙ r.work-is;
      order_is = b.0 ∙ f ∙ ap reverse r.order_is ∙ places-reverse (order_of dim dim work);
    }

order-low : (dim : ℕ) (work : List Float) → Below dim (reverse (order_of dim dim work))
unfolding order_of
order-low dim work = below-reverse dim (order_to (norms_of work dim dim) dim) (order_below (norms_of work dim dim) dim)

pub rising-places : (dim : ℕ) (work values scratch : List Float) → Rising dim work values scratch → Places dim (order_part dim dim scratch)
rising-places dim work values scratch r = record { places = reverse (order_of dim dim work); are = r.order_is; low = order-low dim work }

pub factored-made : (a : List Float) (dim : ℕ) (shift : Float) (rest : List Float) {work values scratch vectors : List Float} {n : Sweeps} → dim ≤ 64
    → length work ≡ 2 * (dim * dim) → HermitianSwept a dim shift n work → Rising dim (take (2 * (dim * dim)) (work ++ rest)) values scratch
    → vectors ≡ directions_of (take (2 * (dim * dim)) scratch) values (places_in (order_part dim dim scratch)) dim dim false
    → HermitianFactored a dim shift n values vectors
factored-made a dim shift rest {work} {values} {scratch} {vectors} b l e r f =
    let w : take (2 * (dim * dim)) (work ++ rest) ≡ swept_by a dim shift = take_at work rest (2 * (dim * dim)) l ∙ e.work-is in
    let t = swept_by a dim shift in
    let v : values ≡ reverse (values_of dim dim t) = r.values-are ∙ ap (λ (m : List Float). reverse (values_of dim dim m)) w in
    let o : places_in (order_part dim dim scratch) ≡ reverse (order_of dim dim t) =
    ap places_in (r.order_is ∙ ap (λ (m : List Float). places_of (reverse (order_of dim dim m))) w)
    ∙ places-back dim (reverse (order_of dim dim t)) (omega arith) (order-low dim t) in
    record { values-are = v; vectors-are = f ∙ rw (r.work-is, w, v, o); sweeps-are = e.sweeps-are }

-- ---- the results

-- a cell of a column that is scaled by its value
abbrev scaled_at : List Float → List Float → List ℕ → ℕ → ℕ → ℕ → Complex
scaled_at work s o dim j r = direction_of false (get_or s j nan) (plane_at work (dim * dim) (get_or o j 0 * dim + r))

-- columns written with both lists backward are the columns backward
module _ (work s : List Float) (o : List ℕ) (dim : ℕ) (ls : length s ≡ dim) (lo : length o ≡ dim) where
  cell-backward : (j r : ℕ) → j < dim → r < dim
      → scaled_at work (reverse s) (reverse o) dim j r ≡ cell_at (cells_of (dim * dim) (λ x. scaled_at work s o dim (x / dim) (x % dim))) ((dim - 1 - j) * dim + r)
  cell-backward j r hj hr =
      let k = dim - 1 - j in
      let hk : k < dim = omega arith in
      let inside : k * dim + r < dim * dim = omega (arith, column_fits k dim dim hk) in
      let q = split dim k r hr in
      let es : get_or (reverse s) j nan ≡ get_or s k nan = get_or-reverse s j nan (omega arith) ∙ ap (λ (n : ℕ). get_or s (n - 1 - j) nan) ls in
      let eo : get_or (reverse o) j 0 ≡ get_or o k 0 = get_or-reverse o j 0 (omega arith) ∙ ap (λ (n : ℕ). get_or o (n - 1 - j) 0) lo in
      rw (es, eo, cell-of (dim * dim) (k * dim + r) (λ x. scaled_at work s o dim (x / dim) (x % dim)) inside, q.0, q.1)

  directions-backward : directions_of work (reverse s) (reverse o) dim dim false
      ≡ cells_of (dim * dim) (in_columns dim (λ j r. cell_at (directions_of work s o dim dim false) ((dim - 1 - j) * dim + r)))
  unfolding directions_of in_columns
  directions-backward =
      cells_same (dim * dim) (λ x. scaled_at work (reverse s) (reverse o) dim (x / dim) (x % dim))
      (λ x. cell_at (cells_of (dim * dim) (λ y. scaled_at work s o dim (y / dim) (y % dim))) ((dim - 1 - x / dim) * dim + x % dim))
      (λ x h.
      let pos : 0 < dim = some dim x h in
      cell-backward (x / dim) (x % dim) ((div-lt_iff_lt-mul pos).1 h) (mod-lt x pos))
    where
      some : (n x : ℕ) → x < n * n → 0 < n
      some zero x h = absurd (omega arith)
      some (suc n) x h = omega arith

length-values : (dim : ℕ) (t : List Float) → length (values_of dim dim t) ≡ dim
unfolding values_of sorted_of
length-values dim t = length-table dim _

length-order_of : (dim : ℕ) (t : List Float) → length (order_of dim dim t) ≡ dim
unfolding order_of
length-order_of dim t = length-order (norms_of t dim dim) dim

-- what the SVD makes of the shifted matrix
module _ (a : List Float) (dim : ℕ) where
  s-is : s_of (shifted_of a dim) dim dim ≡ values_of dim dim (swept_by a dim (shift_of a dim))
  unfolding s_of work_of
  s-is =
      let h : dim ≤ dim = omega arith in
      let k = side-tall dim dim h in
      rw (le-ltb dim dim h, k.0, k.1, ← shifted-planes a dim)

  u-is : u_of (shifted_of a dim) dim dim
      ≡ directions_of (swept_by a dim (shift_of a dim)) (values_of dim dim (swept_by a dim (shift_of a dim))) (order_of dim dim (swept_by a dim (shift_of a dim))) dim dim false
  unfolding u_of directions work_of
  u-is =
      let h : dim ≤ dim = omega arith in
      let k = side-tall dim dim h in
      rw (le-ltb dim dim h, k.0, k.1, ← shifted-planes a dim)

  pub values-made : {values values' : List Float} (vectors : List Float) {shift : Float} {n : Sweeps} → shift ≡ shift_of a dim → HermitianFactored a dim shift n values vectors
      → values' ≡ table (length values) (λ j. sub binary64 (get_or values j nan) shift) → values' ≡ hermitian_values a dim
  unfolding hermitian_values
  values-made {values} {values'} vectors {shift} e p h =
      let t = swept_by a dim (shift_of a dim) in
      let s = values_of dim dim t in
      let v : values ≡ reverse s = p.values-are ∙ ap (λ (x : Float). reverse (values_of dim dim (swept_by a dim x))) e in
      let l : length s ≡ dim = length-values dim t in
      let n : length values ≡ dim = ap length v ∙ length-reverse s ∙ l in
      h
      ∙ rw (n, e, v, s-is)
      (table_same dim (λ j. sub binary64 (get_or (reverse s) j nan) (shift_of a dim)) (λ j. sub binary64 (get_or s (dim - 1 - j) nan) (shift_of a dim))
      (λ j i. ap (λ (x : Float). sub binary64 x (shift_of a dim)) (get_or-reverse s j nan (omega arith) ∙ ap (λ (m : ℕ). get_or s (m - 1 - j) nan) l)))

  pub vectors-made : (values : List Float) {vectors : List Float} {shift : Float} {n : Sweeps} → shift ≡ shift_of a dim → HermitianFactored a dim shift n values vectors → vectors ≡ hermitian_vectors a dim
  unfolding hermitian_vectors
  vectors-made values {vectors} {shift} e p =
      let t = swept_by a dim (shift_of a dim) in
      let s = values_of dim dim t in
      let o = order_of dim dim t in
      let q : vectors ≡ directions_of t (reverse s) (reverse o) dim dim false = rw e at p.vectors-are in
      q ∙ directions-backward t s o dim (length-values dim t) (length-order_of dim t) ∙ rw u-is

  pub sweeps-made : (values vectors : List Float) {shift : Float} {n : Sweeps} → shift ≡ shift_of a dim → HermitianFactored a dim shift n values vectors
      → n ≡ hermitian_sweeps a dim
  unfolding hermitian_sweeps
  sweeps-made values vectors {shift} {n} e p =
      p.sweeps-are
      ∙ ap (λ (x : Float). (swept_end a dim x).sweeps) e
      ∙ ap (λ (l : List Float). (swept dim dim l).sweeps) (shifted-planes a dim)
      ∙ sweeps-tall (shifted_of a dim) dim dim (omega arith)
