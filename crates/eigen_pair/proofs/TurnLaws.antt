-- Laws of what `specs/Turn.antt` defines. Assumes nothing.
use mathlib.Core.Path.{◌≡◌, refl, ap, ◌∙◌}
use mathlib.Core.List.{List}
use Prim.Native.Nat.{ℕ, ◌+◌, ◌*◌, ◌<◌}
use native.Mathlib.Numerals.{add-one}
use lib.Ieee.{Float}
use lib.ListN.{length}
use Rattle.complex.specs.declared.Complex.{Complex}
use Rattle.complex.specs.Arithmetic.{conjugate}
use Rattle.complex.specs.Cells.{cell_at, set_cell}
use Rattle.complex.specs.Planes.{plane_at, set_plane}
use Rattle.std.specs.Prelude.{Some, None}
use Rattle.svd_pair.specs.declared.Turn.{Turn}
use Rattle.svd_pair.specs.Decisions.{Decision}
use Rattle.eigen_pair.specs.CellPlanes.{as_planes}
use Rattle.eigen_pair.proofs.CellPlanesLaws.{length-set_cell, plane-read, plane-set}
use Rattle.eigen_pair.specs.Turn.{eigen_new_p, eigen_new_q, turn_two, turn_line, angle, turned, eigen_applied}

-- ---- laws

-- two cells side by side are turned as in planes
pub two_made : (w : Turn) (c i j : ℕ) (xs : List Float) {x y a b : Complex} {ys zs : List Float} → i < c → j < c → length xs ≡ 2 * c
    → x ≡ cell_at xs i → y ≡ cell_at xs j → a ≡ eigen_new_p w x y → ys ≡ set_cell xs i a → b ≡ eigen_new_q w x y → zs ≡ set_cell ys j b
    → as_planes c zs ≡ turn_two w c i j (as_planes c xs)
unfolding turn_two
two_made w c i j xs {x} {y} {a} {b} {ys} {zs} hi hj l ex ey ea es eb et =
    let px : x ≡ plane_at (as_planes c xs) c i = ex ∙ plane-read c i xs hi in
    let py : y ≡ plane_at (as_planes c xs) c j = ey ∙ plane-read c j xs hj in
    let ly : length ys ≡ 2 * c = ap length es ∙ length-set_cell xs i a ∙ l in
    ap (as_planes c) et ∙ plane-set c j ys b hj ly
    ∙ ap (λ (s : List Float). set_plane s c j b) (ap (as_planes c) es ∙ plane-set c i xs a hi l)
    ∙ rw (ea, eb, px, py)

pub line-none : (w : Turn) (c d i j : ℕ) (xs : List Float) → xs ≡ turn_line w c d i j 0 xs
unfolding turn_line
line-none w c d i j xs = refl

pub line-more : (w : Turn) (c d i j k : ℕ) (xs : List Float) {ys zs : List Float} → ys ≡ turn_line w c d i j k xs
    → zs ≡ turn_two w c (k * d + i) (k * d + j) ys → zs ≡ turn_line w c d i j (k + 1) xs
unfolding turn_line
line-more w c d i j k xs e f = rw (add-one, ← e) f

pub turned-made : (w : Turn) (n p q : ℕ) (xs : List Float) {back : Complex} {ys zs : List Float} → back ≡ conjugate w.phase
    → ys ≡ turn_line (angle w.cosine w.sine back) (n * n) n p q n xs → zs ≡ turn_line w (n * n) 1 (p * n) (q * n) n ys
    → zs ≡ turned w n p q xs
unfolding turned
turned-made w n p q xs e f g = rw (← e, ← f) g

pub applied-turn : {d : Decision} {w : Turn} {ys : List Float} (n p q : ℕ) (xs : List Float) → d ≡ Some w → ys ≡ turned w n p q xs
    → ys ≡ eigen_applied d n p q xs
unfolding eigen_applied
applied-turn n p q xs e f = rw e f

pub applied-leave : {d : Decision} (n p q : ℕ) (xs : List Float) → d ≡ None → xs ≡ eigen_applied d n p q xs
unfolding eigen_applied
applied-leave n p q xs e = rw e
