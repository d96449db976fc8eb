-- What a reader may want to know of this crate's definitions and calls. Assumes nothing.
use mathlib.Core.Path.{◌≡◌, refl, sym, ap, ◌∙◌}
use mathlib.Core.Bool.{Bool, true, false, not, ◌&&◌, false≢true}
use mathlib.Core.List.{List, [], ◌∷◌}
use Prim.Native.Nat.{ℕ, zero, suc, ◌+◌, ◌*◌, ◌≤◌, ◌<◌}
use native.Mathlib.Nat.{add-zero, zero-add}
use native.Mathlib.Omega.{arith}
use borrow.Author.Tests.{not-false, ltb-false}
use lib.Dec.{ltb}
use lib.Ieee.{Float, nan, of_bits}
use lib.ListN.{length, get_or, take}
use lib.Seq.{get_or-take, length-take-le}
use Rattle.answers.specs.Paper.{Answer, Reply, paper, refuse, and_then, if_done}
use Rattle.answers.proofs.PaperLaws.{refuse-done, and_then-done}
use Rattle.answers.proofs.Theorems.{paper-one}
use Rattle.numbers.specs.Numbers.{allowed, is_finite}
use Rattle.complex.specs.declared.Complex.{Complex}
use Rattle.complex.specs.Arithmetic.{complex_of}
use Rattle.complex.specs.Cells.{cell_at, written}
use Rattle.complex.specs.Zeros.{zero_float}
use Rattle.values.specs.Lists.{values_allowed}
use Rattle.finite_products.proofs.Theorems.{product-finite, scaled-finite}
use Rattle.site_lines.specs.Sources.{line_cell, cell_allowed, cells_from, lines_from, scaled_u_cell, scaled_vt_cell}
use Rattle.sites.specs.Calls.{scaled_u_reply, scaled_vt_reply, Filled}

-- Only one outcome meets the contract of each of the four fills.
pub fill_one : (reply : Reply) (cells : ℕ) (f : ℕ → Complex) (old : List Float) (x y : Answer) (end end' : List Float) → Filled reply cells f old x end
    → Filled reply cells f old y end' → (x ≡ y) × (end ≡ end')
fill_one reply cells f old x y end end' a b =
    let e : x ≡ y = paper-one x y (a.answer-is ∙ sym b.answer-is) in
    (e, a.out-is ∙ ap (λ (z : Answer). if_done (paper z).0 (written cells f old) old) e ∙ sym b.out-is)

-- ---- what the scans say of each cell and each value

cells_at : (s : List Float) (at n j : ℕ) → (cells_from s at n).0 ≡ 0 → j < n → cell_allowed (cell_at s (at + j)) ≡ true
unfolding cells_from
cells_at s at zero j e h = absurd (omega arith)
cells_at s at (suc n) zero e h =
    ap (λ (k : ℕ). cell_allowed (cell_at s k)) (add-zero at)
    ∙ not-false (cell_allowed (cell_at s at)) (refuse-done (not (cell_allowed (cell_at s at))) 6 at (cells_from s (suc at) n) e).0
cells_at s at (suc n) (suc j) e h =
    let next : at + suc j ≡ suc at + j = omega arith in
    ap (λ (k : ℕ). cell_allowed (cell_at s k)) next
    ∙ cells_at s (suc at) n j (refuse-done (not (cell_allowed (cell_at s at))) 6 at (cells_from s (suc at) n) e).1 (omega arith)

lines_at : (s : List Float) (stride width i n k j : ℕ) → (lines_from s stride width i n).0 ≡ 0 → k < n → j < width
    → cell_allowed (cell_at s ((i + k) * stride + j)) ≡ true
unfolding lines_from
lines_at s stride width i zero k j e hk hj = absurd (omega arith)
lines_at s stride width i (suc n) zero j e hk hj =
    ap (λ (x : ℕ). cell_allowed (cell_at s (x * stride + j))) (add-zero i)
    ∙ cells_at s (i * stride) width j (and_then-done (cells_from s (i * stride) width) (lines_from s stride width (suc i) n) e).0 hj
lines_at s stride width i (suc n) (suc k) j e hk hj =
    let next : i + suc k ≡ suc i + k = omega arith in
    ap (λ (x : ℕ). cell_allowed (cell_at s (x * stride + j))) next
    ∙ lines_at s stride width (suc i) n k j (and_then-done (cells_from s (i * stride) width) (lines_from s stride width (suc i) n) e).1 (omega arith) hj

values-at : (i : ℕ) (l : List Float) (k : ℕ) → (values_allowed i l).0 ≡ 0 → k < length l → allowed (get_or l k nan) ≡ true
unfolding values_allowed
values-at i [] k e h = absurd (omega arith)
values-at i (x ∷ l) zero e h = not-false (allowed x) (refuse-done (not (allowed x)) 6 i (values_allowed (suc i) l) e).0
values-at i (x ∷ l) (suc k) e h = values-at (suc i) l k (refuse-done (not (allowed x)) 6 i (values_allowed (suc i) l) e).1 (omega arith)

front_at : (chi : ℕ) (values : List Float) (k : ℕ) → (values_allowed 0 (take chi values)).0 ≡ 0 → chi ≤ length values → k < chi → allowed (get_or values k nan) ≡ true
front_at chi values k e h l =
    ap allowed (sym (get_or-take chi values k nan l)) ∙ values-at 0 (take chi values) k e (omega (arith, length-take-le chi values h))

and_both : (a b : Bool) → (a && b) ≡ true → (a ≡ true) × (b ≡ true)
and_both true b h = (refl, h)
and_both false b h = absurd (false≢true h)

both : (z : Complex) → cell_allowed z ≡ true → (allowed z.re ≡ true) × (allowed z.im ≡ true)
unfolding cell_allowed
both z h = and_both (allowed z.re) (allowed z.im) h

-- Answer 9 cannot arise in `fill_scaled_u_site_data`: where it is accepted every product that it writes is finite.
pub fill-scaled-u-never-nine : (u s : List Float) (stride width chi room : ℕ) → (scaled_u_reply u s stride width chi room).0 ≡ 0 → (row gamma : ℕ)
    → row < width → gamma < chi
    → (is_finite (scaled_u_cell u s stride row gamma).re ≡ true) × (is_finite (scaled_u_cell u s stride row gamma).im ≡ true)
unfolding scaled_u_reply scaled_u_cell line_cell
fill-scaled-u-never-nine u s stride width chi room e row gamma hr hg =
    let rest = and_then (lines_from u stride width 0 chi) (values_allowed 0 (take chi s)) in
    let a = refuse-done (ltb (length u) (2 * (chi * stride))) 5 0 (refuse (ltb (length s) chi) (6, 1) (refuse (ltb room (2 * (width * chi))) (6, 2) rest)) e in
    let b = refuse-done (ltb (length s) chi) 5 1 (refuse (ltb room (2 * (width * chi))) (6, 2) rest) a.1 in
    let c = refuse-done (ltb room (2 * (width * chi))) 5 2 rest b.1 in
    let d = and_then-done (lines_from u stride width 0 chi) (values_allowed 0 (take chi s)) c.1 in
    let z = both (cell_at u (gamma * stride + row)) (ap (λ (x : ℕ). cell_allowed (cell_at u (x * stride + row))) (sym (zero-add gamma)) ∙ lines_at u stride width 0 chi gamma row d.0 hg hr) in
    scaled-finite (cell_at u (gamma * stride + row)) (get_or s gamma nan) z.0 z.1 (front_at chi s gamma d.1 (ltb-false (length s) chi b.0) hg)

-- +0.0 is allowed.
zero-allowed : allowed zero_float ≡ true
unfolding allowed of_bits
zero-allowed = refl

-- Answer 9 cannot arise in `fill_scaled_vt_data`: where it is accepted every product that it writes is finite.
pub fill-scaled-vt-never-nine : (s vt : List Float) (stride width chi room : ℕ) → (scaled_vt_reply s vt stride width chi room).0 ≡ 0 → (gamma c : ℕ)
    → gamma < chi → c < width
    → (is_finite (scaled_vt_cell s vt stride gamma c).re ≡ true) × (is_finite (scaled_vt_cell s vt stride gamma c).im ≡ true)
unfolding scaled_vt_reply scaled_vt_cell line_cell
fill-scaled-vt-never-nine s vt stride width chi room e gamma c hg hc =
    let rest = and_then (values_allowed 0 (take chi s)) (lines_from vt stride width 0 chi) in
    let a = refuse-done (ltb (length s) chi) 5 0 (refuse (ltb (length vt) (2 * (chi * stride))) (6, 1) (refuse (ltb room (2 * (width * chi))) (6, 2) rest)) e in
    let b = refuse-done (ltb (length vt) (2 * (chi * stride))) 5 1 (refuse (ltb room (2 * (width * chi))) (6, 2) rest) a.1 in
    let q = refuse-done (ltb room (2 * (width * chi))) 5 2 rest b.1 in
    let d = and_then-done (values_allowed 0 (take chi s)) (lines_from vt stride width 0 chi) q.1 in
    let z = both (cell_at vt (gamma * stride + c)) (ap (λ (x : ℕ). cell_allowed (cell_at vt (x * stride + c))) (sym (zero-add gamma)) ∙ lines_at vt stride width 0 chi gamma c d.1 hg hc) in
    product-finite (complex_of (get_or s gamma nan) zero_float) (cell_at vt (gamma * stride + c))
    (front_at chi s gamma d.0 (ltb-false (length s) chi a.0) hg) zero-allowed z.0 z.1
