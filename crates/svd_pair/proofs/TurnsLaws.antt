-- Laws of what `specs/Turns.antt` defines. Assumes nothing.
use mathlib.Core.Path.{◌≡◌, refl, sym, ap, ap₂, ◌∙◌}
use mathlib.Core.List.{List, []}
use Prim.Native.Nat.{ℕ, zero, suc, ◌+◌, ◌<◌}
use native.Mathlib.Numerals.{add-one}
use native.Mathlib.Omega.{arith}
use lib.Ieee.{Float, nan}
use lib.ListN.{set}
use lib.Seq.{get_or-set_other, set_comm}
use Rattle.complex.specs.declared.Complex.{Complex}
use Rattle.complex.specs.Arithmetic.{complex_of}
use Rattle.complex.specs.Planes.{plane_at, set_plane}
use Rattle.svd_pair.specs.declared.Factors.{Factors}
use Rattle.std.proofs.Common.{None, Some}
use Rattle.svd_pair.specs.declared.Turn.{Turn}
use Rattle.svd_pair.specs.Decisions.{Decision}
use Rattle.svd_pair.specs.Turns.{Making, turn_factors, turn_row, turn_rows, applied}

pub turn_rows-none : (g : Making) (f : Factors) (c a b : ℕ) (xs : List Float) → turn_rows g f c a b 0 xs ≡ xs
unfolding turn_rows
turn_rows-none g f c a b xs = refl

pub turn_rows-more : (g : Making) (f : Factors) (c a b k : ℕ) (xs : List Float) → turn_rows g f c a b (k + 1) xs ≡ turn_row g f c (a + k) (b + k) (turn_rows g f c a b k xs)
unfolding turn_rows
turn_rows-more g f c a b k xs = rw add-one

-- ---- two rows at a time

-- another cell than the one that is set
pub plane-other : (xs : List Float) (c x i : ℕ) (z : Complex) → x < c → i < c → (x ≡ i → ⊥) → plane_at (set_plane xs c i z) c x ≡ plane_at xs c x
unfolding plane_at set_plane
plane-other xs c x i z h g n =
    let ys = set xs i z.re in
    ap₂ complex_of
    (get_or-set_other ys (c + i) x z.im nan (λ e. omega arith) ∙ get_or-set_other xs i x z.re nan n)
    (get_or-set_other ys (c + i) (c + x) z.im nan (λ e. n (omega arith)) ∙ get_or-set_other xs i (c + x) z.re nan (λ e. omega arith))

pub row_other : (g : Making) (f : Factors) (xs : List Float) (c x i j : ℕ) → x < c → i < c → j < c → (x ≡ i → ⊥) → (x ≡ j → ⊥)
    → plane_at (turn_row g f c i j xs) c x ≡ plane_at xs c x
unfolding turn_row
row_other g f xs c x i j h hi hj ni nj =
    let p = g.p f (plane_at xs c i) (plane_at xs c j) in
    plane-other (set_plane xs c i p) c x j (g.q f (plane_at xs c i) (plane_at xs c j)) h hj nj ∙ plane-other xs c x i p h hi ni

-- two cells may be set in either order
plane-comm : (xs : List Float) (c i j : ℕ) (u w : Complex) → i < c → j < c → (i ≡ j → ⊥)
    → set_plane (set_plane xs c i u) c j w ≡ set_plane (set_plane xs c j w) c i u
unfolding set_plane
plane-comm xs c i j u w hi hj n =
    let first : set (set (set xs i u.re) (c + i) u.im) j w.re ≡ set (set (set xs j w.re) i u.re) (c + i) u.im =
    set_comm (set xs i u.re) (c + i) j u.im w.re (λ e. omega arith)
    ∙ ap (λ (l : List Float). set l (c + i) u.im) (set_comm xs i j u.re w.re n) in
    let ys = set xs j w.re in
    ap (λ (l : List Float). set l (c + j) w.im) first
    ∙ set_comm (set ys i u.re) (c + i) (c + j) u.im w.im (λ e. n (omega arith))
    ∙ ap (λ (l : List Float). set l (c + i) u.im) (set_comm ys i (c + j) u.re w.im (λ e. omega arith))

-- two cells that follow each other, the parts of one kind together
pub write-both : (xs : List Float) (c i : ℕ) (u w : Complex) → i + 1 < c
    → set (set (set (set xs i u.re) (i + 1) w.re) (c + i) u.im) (c + i + 1) w.im ≡ set_plane (set_plane xs c i u) c (i + 1) w
unfolding set_plane
write-both xs c i u w h =
    let last : c + i + 1 ≡ c + (i + 1) = omega arith in
    ap₂ (λ (l : List Float) (k : ℕ). set l k w.im) (set_comm (set xs i u.re) (i + 1) (c + i) w.re u.im (λ e. omega arith)) last

-- all four cells from their old values
pub turn-both : (g : Making) (f : Factors) (xs : List Float) (c i j : ℕ) → i + 1 < j → j + 1 < c
    → set_plane (set_plane (set_plane (set_plane xs c i (g.p f (plane_at xs c i) (plane_at xs c j))) c (i + 1) (g.p f (plane_at xs c (i + 1)) (plane_at xs c (j + 1))))
    c j (g.q f (plane_at xs c i) (plane_at xs c j))) c (j + 1) (g.q f (plane_at xs c (i + 1)) (plane_at xs c (j + 1)))
    ≡ turn_row g f c (i + 1) (j + 1) (turn_row g f c i j xs)
unfolding turn_row
turn-both g f xs c i j h k =
    let p = g.p f (plane_at xs c i) (plane_at xs c j) in
    let q = g.q f (plane_at xs c i) (plane_at xs c j) in
    let ys = set_plane (set_plane xs c i p) c j q in
    let at_p : plane_at ys c (i + 1) ≡ plane_at xs c (i + 1) =
    plane-other (set_plane xs c i p) c (i + 1) j q (omega arith) (omega arith) (λ e. omega arith) ∙ plane-other xs c (i + 1) i p (omega arith) (omega arith) (λ e. omega arith) in
    let at-q : plane_at ys c (j + 1) ≡ plane_at xs c (j + 1) =
    plane-other (set_plane xs c i p) c (j + 1) j q (omega arith) (omega arith) (λ e. omega arith) ∙ plane-other xs c (j + 1) i p (omega arith) (omega arith) (λ e. omega arith) in
    rw (at_p, at-q, plane-comm (set_plane xs c i p) c (i + 1) j (g.p f (plane_at xs c (i + 1)) (plane_at xs c (j + 1))) q (omega arith) (omega arith) (λ e. omega arith))

pub turn_rows-two : (g : Making) (f : Factors) (c a b k : ℕ) (xs : List Float)
    → turn_rows g f c a b (k + 2) xs ≡ turn_row g f c (a + k + 1) (b + k + 1) (turn_row g f c (a + k) (b + k) (turn_rows g f c a b k xs))
turn_rows-two g f c a b k xs =
    let next : k + 2 ≡ k + 1 + 1 = omega arith in
    let left : a + (k + 1) ≡ a + k + 1 = omega arith in
    let right : b + (k + 1) ≡ b + k + 1 = omega arith in
    rw (next, turn_rows-more g f c a b (k + 1) xs, turn_rows-more g f c a b k xs, left, right)

pub applied-left : (g : Making) {d : Decision} (c a b m : ℕ) (xs : List Float) → d ≡ None → xs ≡ applied g d c a b m xs
unfolding applied
applied-left g c a b m xs e = rw e refl

pub applied-turn : (g : Making) {d : Decision} {t : Turn} {ys : List Float} (c a b m : ℕ) (xs : List Float) → d ≡ Some t → ys ≡ turn_rows g (turn_factors t.cosine t.sine t.phase) c a b m xs → ys ≡ applied g d c a b m xs
unfolding applied
applied-turn g c a b m xs e h = rw e h

-- of no cells nothing is turned
turn_row-nothing : (g : Making) (f : Factors) (c i j : ℕ) → turn_row g f c i j [] ≡ []
unfolding turn_row set_plane
turn_row-nothing g f c i j = refl

pub turn_rows-nothing : (g : Making) (f : Factors) (c a b k : ℕ) → turn_rows g f c a b k [] ≡ []
unfolding turn_rows
turn_rows-nothing g f c a b zero = refl
turn_rows-nothing g f c a b (suc k) = rw (turn_rows-nothing g f c a b k) (turn_row-nothing g f c (a + k) (b + k))

pub applied-nothing : (g : Making) (d : Decision) (c a b m : ℕ) → [] ≡ applied g d c a b m []
unfolding applied
applied-nothing g None c a b m = refl
applied-nothing g (Some t) c a b m = sym (turn_rows-nothing g (turn_factors t.cosine t.sine t.phase) c a b m)
