-- Laws of what `specs/CellPlanes.antt` defines. Assumes nothing.
use mathlib.Core.Path.{◌≡◌, sym, ap, ap₂, subst, ◌∙◌}
use mathlib.Core.Logic.{⊎_elim}
use mathlib.Core.List.{List, [], ◌∷◌, ◌++◌}
use Prim.Native.Nat.{ℕ, zero, suc, ◌+◌, ◌*◌, ◌<◌}
use native.Mathlib.Nat.{eq-or-lt_of_le}
use native.Mathlib.Omega.{arith}
use lib.Ieee.{Float, nan}
use lib.ListN.{length, get_or, set, length-set, get_or-append}
use lib.Seq.{set_at, set-append_left, get_or-append-add, get_or-set_same, get_or-set_other}
use Rattle.complex.specs.declared.Complex.{Complex}
use Rattle.complex.specs.Arithmetic.{complex_of}
use Rattle.complex.specs.Cells.{cell_at, set_cell}
use Rattle.complex.specs.Planes.{plane_at, set_plane}
use Rattle.tables.specs.Tables.{table}
use Rattle.tables.proofs.TablesLaws.{length-table, table_at, table_same}
use Rattle.svd_load.proofs.NumbersLaws.{set-second}
use Rattle.svd_load.specs.Loading.{planes_of}
use Rattle.eigen_pair.specs.CellPlanes.{as_planes}

-- ---- numbers one by one

-- one number differs
number-set : (c i : ℕ) (f g : ℕ → Float) (x : Float) → i < c → g i ≡ x → ((k : ℕ) → k < c → (k ≡ i → ⊥) → g k ≡ f k) → table c g ≡ set (table c f) i x
unfolding table
number-set zero i f g x h e o = absurd (omega arith)
number-set (suc c) i f g x h e o =
    ⊎_elim
    (λ (q : i ≡ c).
    let s : table c g ≡ table c f = table_same c g f (λ k l. o k (omega arith) (λ r. omega arith)) in
    let v : g c ≡ x = ap g (sym q) ∙ e in
    rw (s, v) (sym (set_at (table c f) (f c) [] x i (length-table c f ∙ sym q))))
    (λ (q : i < c).
    let v : g c ≡ f c = o c (omega arith) (λ r. omega arith) in
    rw (number-set c i f g x q e (λ k l n. o k (omega arith) n), v)
    (sym (set-append_left (table c f) (f c ∷ []) i x (omega (arith, length-table c f)))))
    (eq-or-lt_of_le (omega arith))

-- a number read in the second of two lists
second : (p q : List Float) (n i : ℕ) → length p ≡ n → get_or (p ++ q) (n + i) nan ≡ get_or q i nan
second p q n i e = subst (λ (k : ℕ). get_or (p ++ q) (k + i) nan ≡ get_or q i nan) e (get_or-append-add p q i nan)

-- ---- cells

pub length-set_cell : (xs : List Float) (i : ℕ) (z : Complex) → length (set_cell xs i z) ≡ length xs
length-set_cell xs i z = simp length-set

-- a cell is read alike
pub plane-read : (c i : ℕ) (xs : List Float) → i < c → cell_at xs i ≡ plane_at (as_planes c xs) c i
unfolding as_planes planes_of plane_at
plane-read c i xs h =
    let f : ℕ → Float = λ k. (cell_at xs k).re in
    let g : ℕ → Float = λ k. (cell_at xs k).im in
    let l = length-table c f in
    ap₂ complex_of
    (sym (get_or-append (table c f) (table c g) nan i (omega (arith, l)) ∙ table_at nan c i f h))
    (sym (second (table c f) (table c g) c i l ∙ table_at nan c i g h))

pub plane-re : (c i : ℕ) (xs : List Float) → i < c → get_or xs (2 * i) nan ≡ get_or (as_planes c xs) i nan
unfolding plane_at
plane-re c i xs h = ap (λ (z : Complex). z.re) (plane-read c i xs h)

-- a cell is set alike
pub plane-set : (c i : ℕ) (xs : List Float) (z : Complex) → i < c → length xs ≡ 2 * c → as_planes c (set_cell xs i z) ≡ set_plane (as_planes c xs) c i z
unfolding as_planes planes_of set_plane
plane-set c i xs z h l =
    let f : ℕ → Float = λ k. (cell_at xs k).re in
    let g : ℕ → Float = λ k. (cell_at xs k).im in
    let ys = set xs (2 * i) z.re in
    let re : table c (λ k. (cell_at (set_cell xs i z) k).re) ≡ set (table c f) i z.re =
    number-set c i f (λ k. (cell_at (set_cell xs i z) k).re) z.re h
    (get_or-set_other ys (2 * i + 1) (2 * i) z.im nan (λ q. omega arith) ∙ get_or-set_same xs (2 * i) z.re nan (omega arith))
    (λ k m n. get_or-set_other ys (2 * i + 1) (2 * k) z.im nan (λ q. omega arith) ∙ get_or-set_other xs (2 * i) (2 * k) z.re nan (λ q. n (omega arith))) in
    let im : table c (λ k. (cell_at (set_cell xs i z) k).im) ≡ set (table c g) i z.im =
    number-set c i g (λ k. (cell_at (set_cell xs i z) k).im) z.im h
    (get_or-set_same ys (2 * i + 1) z.im nan (omega (arith, length-set xs (2 * i) z.re)))
    (λ k m n. get_or-set_other ys (2 * i + 1) (2 * k + 1) z.im nan (λ q. n (omega arith)) ∙ get_or-set_other xs (2 * i) (2 * k + 1) z.re nan (λ q. omega arith)) in
    let lf = length-table c f in
    let ls : length (set (table c f) i z.re) ≡ c = length-set (table c f) i z.re ∙ lf in
    ap₂ (λ (p q : List Float). p ++ q) re im
    ∙ sym (ap (λ (s : List Float). set s (c + i) z.im) (set-append_left (table c f) (table c g) i z.re (omega (arith, lf)))
    ∙ set-second (set (table c f) i z.re) (table c g) c i z.im ls)
