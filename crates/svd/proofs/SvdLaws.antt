-- Laws of the SVD's statements; `svd-jacobi-one`: only one outcome meets the contract. Assumes nothing.
use mathlib.Core.Path.{◌≡◌, refl, sym, ap, ap₂, ◌∙◌}
use mathlib.Core.Bool.{Bool, true, false}
use mathlib.Core.Logic.{inl}
use mathlib.Core.List.{List, ◌++◌, append-nil}
use Prim.Native.Nat.{ℕ, zero, suc, ◌+◌, ◌*◌, ◌≤◌, ◌<◌}
use native.Mathlib.Nat.{mul_comm, mul-le-mul}
use native.Mathlib.Omega.{arith}
use lib.Dec.{leb}
use borrow.Author.Tests.{lt-ltb, le-ltb, leb-true, leb-false}
use lib.ListN.{length, drop, drop_of_length-le}
use lib.Ieee.{Float}
use Rattle.answers.specs.Paper.{Answer, Reply, paper, table, given, done, and_then, if_done, at_end, exactly, room}
use Rattle.answers.proofs.PaperLaws.{and_then-done, exactly-done, room-done, stays, then-small, exactly-small, room_small, Ended, nine-ended, worked-new, worked-old, end-old, done-old}
use Rattle.matrix_sizes.specs.Sizes.{matrix_sizes}
use Rattle.matrix_sizes.proofs.SizesLaws.{size-done, size_small}
pub use Rattle.matrix_sizes.proofs.SizesLaws.{side-wide, side-tall, side-low, side-cells}
use Rattle.complex.specs.Cells.{cell_at, components}
use Rattle.complex.proofs.CellLaws.{components-small}
use Rattle.complex.specs.Zeros.{zeros, zeroed}
use Rattle.svd_load.specs.Loading.{planes_of, unit_planes, conjugate_transposed}
use Rattle.sweeps.specs.declared.Sweeps.{Sweeps}
use Rattle.sweeps.specs.Sweeping.{no_sweeps}
use Rattle.svd_thin.specs.Thin.{swept, Thin, Lent}
use Rattle.std.proofs.Common.{Result, Ok, Err}
use Rattle.answers.specs.declared.Refusal.{Refusal}
use Rattle.factored.specs.Factored.{kept_sweeps}
use Rattle.answers.proofs.Stopped.{stopped-number, was-done}
use Rattle.factored.proofs.Laws.{kept-none, kept_by}
use Rattle.svd.specs.Svd.{side_of, rows_of, need_u, need_vt, svd_scratch, svd_lengths, svd_tests, work_of, directions, v_columns, u_of, s_of, vt_of, svd_sweeps, finite_factors, svd_end, svd_answer, Svd, SvdExact, SvdFactored, SvdFinished, SvdWorked}
use Rattle.sweeps.proofs.Ceiling.{Ceiling}
use Rattle.svd_sweeps.proofs.SweepingLaws.{settled-ceiling}

-- ---- the tests of an accepted call

pub record SvdAccepted (m n a u s vt scratch : ℕ) : Type 0 where
  pub rows : 1 ≤ m
  pub columns : 1 ≤ n
  pub cells : m * n ≤ 4096
  pub a-is : a ≡ 2 * (m * n)
  pub u-fits : need_u m n ≤ u
  pub s-fits : side_of m n ≤ s
  pub vt-fits : need_vt m n ≤ vt
  pub scratch-fits : svd_scratch m n ≤ scratch

pub accepted : (a : List Float) (m n u s vt scratch : ℕ) → (svd_tests a m n u s vt scratch).0 ≡ 0 → SvdAccepted m n (length a) u s vt scratch
unfolding svd_tests svd_lengths
accepted a m n u s vt scratch e =
    let first = and_then-done (matrix_sizes m n) _ e in
    let z = size-done m n first.0 in
    let second = and_then-done (svd_lengths m n (length a) u s vt scratch) (components 0 a) first.1 in
    let t0 = and_then-done (exactly 0 (length a) (2 * (m * n))) _ second.0 in
    let t1 = and_then-done (room 1 u (need_u m n)) _ t0.1 in
    let t2 = and_then-done (room 2 s (side_of m n)) _ t1.1 in
    let t3 = and_then-done (room 3 vt (need_vt m n)) (room 4 scratch (svd_scratch m n)) t2.1 in
    record {
      rows = z.some-rows;
      columns = z.some-columns;
      cells = z.few;
      a-is = exactly-done 0 (length a) (2 * (m * n)) t0.0;
      u-fits = room-done 1 u (need_u m n) t1.0;
      s-fits = room-done 2 s (side_of m n) t2.0;
      vt-fits = room-done 3 vt (need_vt m n) t3.0;
      scratch-fits = room-done 4 scratch (svd_scratch m n) t3.1;
    }

-- the room of an accepted call, by the smaller size k
pub record SvdRoomFor (m n k u s vt scratch : ℕ) : Type 0 where
  pub cells : m * n ≤ 4096
  pub in_u : m * k ≤ 4096
  pub in_vt : k * n ≤ 4096
  pub few : k ≤ 4096
  pub u-fits : 2 * (m * k) ≤ u
  pub s-fits : k ≤ s
  pub vt-fits : 2 * (k * n) ≤ vt
  pub scratch-fits : 6 * (m * n) + 2 * k ≤ scratch

pub few-cells : (m n k : ℕ) → k ≡ side_of m n → m * n ≤ 4096 → (m * k ≤ 4096) × (k * n ≤ 4096) × (k ≤ 4096)
few-cells m n k e h =
    let c = side-cells m n k e in
    (omega (arith, c.0), omega (arith, c.1), omega (arith, c.2))

pub room-for : (a : List Float) (m n u s vt scratch : ℕ) {k : ℕ} {q : Answer} → paper q ≡ svd_tests a m n u s vt scratch → q ≡ Ok tt → k ≡ side_of m n
    → SvdRoomFor m n k u s vt scratch
room-for a m n u s vt scratch {k} {q} h d e =
    let x = accepted a m n u s vt scratch (was-done q _ h d) in
    let c = few-cells m n k e x.cells in
    record {
      cells = x.cells;
      in_u = c.0;
      in_vt = c.1;
      few = c.2;
      u-fits = rw e x.u-fits;
      s-fits = rw e x.s-fits;
      vt-fits = rw e x.vt-fits;
      scratch-fits = rw e x.scratch-fits;
    }

-- over parts of exactly the needed lengths
pub exact-for : (a : List Float) (m n u s vt scratch : ℕ) {k u' s' vt' scratch' : ℕ} {q : Answer} → paper q ≡ svd_tests a m n u s vt scratch → q ≡ Ok tt → k ≡ side_of m n
    → u' ≡ 2 * (m * k) → s' ≡ k → vt' ≡ 2 * (k * n) → scratch' ≡ 6 * (m * n) + 2 * k → SvdExact m n (length a) u' s' vt' scratch'
exact-for a m n u s vt scratch {k} {q = q} h d e lu ls lv lt =
    let x = accepted a m n u s vt scratch (was-done q _ h d) in
    record {
      rows = x.rows;
      columns = x.columns;
      cells = x.cells;
      a-is = x.a-is;
      u-is = rw (← e) lu;
      s-is = rw (← e) ls;
      vt_is = rw (← e) lv;
      scratch-is = rw (← e) lt;
    }

-- ---- the factors

-- the smaller of two sizes with at most 4096 cells is at most 64
root : (n m : ℕ) → n ≤ m → n * m ≤ 4096 → n ≤ 64
root n m h c = pick (leb n 64) refl
  where
    pick : (b : Bool) → leb n 64 ≡ b → n ≤ 64
    pick true e = leb-true n 64 e
    pick false e =
        let g : 65 ≤ n = leb-false n 64 e in
        let k : 65 ≤ m = omega arith in
        let p : 65 * 65 ≤ n * m = mul-le-mul g k in
        absurd (omega arith)

-- the lengths that the work on a wide matrix asks, and those of a tall one
pub wide-lent : (m n a u s vt scratch scratch' : ℕ) → m < n → SvdExact m n a u s vt scratch → scratch' ≡ scratch → Lent n m s u scratch' × (vt ≡ 2 * (m * n))
wide-lent m n a u s vt scratch scratch' h e i =
    let k : side_of m n ≡ m = (side-wide m n h).0 in
    let l : m ≤ n = omega arith in
    let sq : m ≤ 64 = root m n l e.cells in
    let lu : u ≡ 2 * (m * m) = rw k at e.u-is in
    let ls : s ≡ m = rw k at e.s-is in
    let lv : vt ≡ 2 * (m * n) = rw k at e.vt_is in
    let lt : scratch' ≡ 6 * (m * n) + 2 * m = i ∙ rw k at e.scratch-is in
    (record { tall = omega arith; columns = sq; cells = e.cells; s-is = ls; other-is = lu; scratch-is = lt }, lv)

pub tall-lent : (m n a u s vt scratch scratch' : ℕ) → n ≤ m → SvdExact m n a u s vt scratch → scratch' ≡ scratch → Lent m n s vt scratch' × (u ≡ 2 * (n * m))
tall-lent m n a u s vt scratch scratch' h e i =
    let k : side_of m n ≡ n = (side-tall m n h).0 in
    let c : m * n ≡ n * m = mul_comm m n in
    let d : n * m ≤ 4096 = rw c at e.cells in
    let lu : u ≡ 2 * (n * m) = rw (k, c) at e.u-is in
    let ls : s ≡ n = rw k at e.s-is in
    let lv : vt ≡ 2 * (n * n) = rw k at e.vt_is in
    let lt : scratch' ≡ 6 * (n * m) + 2 * n = i ∙ rw (k, c) at e.scratch-is in
    (record { tall = h; columns = root n m h d; cells = d; s-is = ls; other-is = lv; scratch-is = lt }, lu)

-- the sweeps of equal work matrices
sweeps-same : {rows rows' side side' : ℕ} {w w' : List Float} → rows ≡ rows' → side ≡ side' → w ≡ w' → (swept rows side w).sweeps ≡ (swept rows' side' w').sweeps
sweeps-same {rows} {rows'} {side} {side'} {w} {w'} d e f =
    ap (λ (x : ℕ). (swept x side w).sweeps) d ∙ ap (λ (x : ℕ). (swept rows' x w).sweeps) e ∙ ap (λ (x : List Float). (swept rows' side' x).sweeps) f

pub work-wide : (a : List Float) (m n : ℕ) → m < n → planes_of (m * n) (conjugate_transposed a m n) ≡ work_of a m n
unfolding work_of
work-wide a m n h = rw (lt-ltb m n h)

pub work-tall : (a : List Float) (m n : ℕ) → n ≤ m → planes_of (n * m) (cell_at a) ≡ work_of a m n
unfolding work_of
work-tall a m n h = rw (le-ltb m n h)

-- how the sweeps went, in the wide and in the tall case
pub sweeps-wide : (a : List Float) (m n : ℕ) → m < n → (swept n m (planes_of (m * n) (conjugate_transposed a m n))).sweeps ≡ svd_sweeps a m n
unfolding svd_sweeps
sweeps-wide a m n h =
    let k = side-wide m n h in
    sweeps-same (sym k.1) (sym k.0) (work-wide a m n h)

pub sweeps-tall : (a : List Float) (m n : ℕ) → n ≤ m → (swept m n (planes_of (n * m) (cell_at a))).sweeps ≡ svd_sweeps a m n
unfolding svd_sweeps
sweeps-tall a m n h =
    let k = side-tall m n h in
    sweeps-same (sym k.1) (sym k.0) (work-tall a m n h)

pub wide-made : (a : List Float) (m n : ℕ) {work main s other : List Float} {q : Sweeps} → m < n → work ≡ planes_of (m * n) (conjugate_transposed a m n)
    → Thin n m true work q main s other → SvdFactored a m n q other s main
unfolding u_of s_of vt_of directions v_columns work_of
wide-made a m n h e t =
    let k = side-wide m n h in
    record {
      u-is = t.other-is ∙ rw (lt-ltb m n h, k.0, k.1, e);
      s-is = t.s-is ∙ rw (lt-ltb m n h, k.0, k.1, e);
      vt_is = t.main-is ∙ rw (lt-ltb m n h, k.0, k.1, e);
      sweeps-are = t.sweeps-are ∙ ap (λ (x : List Float). (swept n m x).sweeps) e ∙ sweeps-wide a m n h;
    }

pub tall-made : (a : List Float) (m n : ℕ) {work main s other : List Float} {q : Sweeps} → n ≤ m → work ≡ planes_of (n * m) (cell_at a)
    → Thin m n false work q main s other → SvdFactored a m n q main s other
unfolding u_of s_of vt_of directions v_columns work_of
tall-made a m n h e t =
    let k = side-tall m n h in
    record {
      u-is = t.main-is ∙ rw (le-ltb m n h, k.0, k.1, e);
      s-is = t.s-is ∙ rw (le-ltb m n h, k.0, k.1, e);
      vt_is = t.other-is ∙ rw (le-ltb m n h, k.0, k.1, e);
      sweeps-are = t.sweeps-are ∙ ap (λ (x : List Float). (swept m n x).sweeps) e ∙ sweeps-tall a m n h;
    }

-- ---- the end

pub zeroed-all : (l : List Float) → zeroed (length l) l ≡ zeros (length l)
unfolding zeroed
zeroed-all l =
    let e : length l ≤ length l = omega arith in
    rw (drop_of_length-le l e, append-nil)

-- all finite, or not
pub finished-good : (u s vt : List Float) (r : Answer) → paper r ≡ done → finite_factors u s vt ≡ true → SvdFinished u s vt r u s vt
unfolding svd_end
finished-good u s vt r e h =
    record { answer = e ∙ rw h; u-is = rw e; s-is = rw e; vt_is = rw e }

pub finished-bad : (u s vt : List Float) (r : Answer) {u' s' vt' : List Float} → paper r ≡ (9, 0) → finite_factors u s vt ≡ false
    → u' ≡ zeroed (length u) u → s' ≡ zeroed (length s) s → vt' ≡ zeroed (length vt) vt → SvdFinished u s vt r u' s' vt'
unfolding svd_end
finished-bad u s vt r e h eu es ev =
    record { answer = e ∙ rw h; u-is = rw e (eu ∙ zeroed-all u); s-is = rw e (es ∙ zeroed-all s); vt_is = rw e (ev ∙ zeroed-all vt) }

pub worked : (a : List Float) (m n la : ℕ) (u₀ s₀ vt₀ scratch₀ scratch : List Float) {u s vt u' s' vt' scratch' : List Float} {t : Sweeps} (q : Answer) (r : Result Sweeps Refusal)
    → SvdExact m n la (length u₀) (length s₀) (length vt₀) (length scratch₀)
    → length u ≡ length u₀ → length s ≡ length s₀ → length vt ≡ length vt₀
    → SvdFactored a m n t u s vt → (k : ℕ) → k ≡ length scratch₀ → length scratch ≡ length scratch₀ → scratch' ≡ zeroed k scratch → SvdFinished u s vt q u' s' vt'
    → (paper r ≡ paper q) × (given no_sweeps r ≡ kept_sweeps q t)
    → SvdWorked a m n r u' s' vt' scratch'
unfolding zeroed
worked a m n la u₀ s₀ vt₀ scratch₀ scratch {u} {s} {vt} {u'} {s'} {vt'} {scratch'} q r e lu ls lv f k ek lt z h i =
    let l : length scratch ≤ k = omega arith in
    record {
      answer = i.0 ∙ h.answer ∙ rw (f.u-is, f.s-is, f.vt_is);
      u-is = rw i.0 (h.u-is ∙ ap₂ (λ (x : List Float) (y : ℕ). if_done (paper q).0 x (zeros y)) f.u-is (lu ∙ e.u-is));
      s-is = rw i.0 (h.s-is ∙ ap₂ (λ (x : List Float) (y : ℕ). if_done (paper q).0 x (zeros y)) f.s-is (ls ∙ e.s-is));
      vt_is = rw i.0 (h.vt_is ∙ ap₂ (λ (x : List Float) (y : ℕ). if_done (paper q).0 x (zeros y)) f.vt_is (lv ∙ e.vt_is));
      scratch-is = z ∙ rw (drop_of_length-le scratch l, append-nil, ek, e.scratch-is);
      sweeps-are = kept_by r q i.0 f.sweeps-are i.1;
    }

-- the sweeps, handed on under the answer of the finite test
pub handed-on : (q : Answer) (t : Sweeps) → q ≡ Ok tt → (paper (Ok t) ≡ paper q) × (t ≡ kept_sweeps q t)
handed-on q t e = rw e (refl, refl)

pub handed-none : (q : Answer) (t : Sweeps) (e : Refusal) → q ≡ Err e → (table e ≡ paper q) × (no_sweeps ≡ kept_sweeps q t)
handed-none q t e h = rw h (refl, done-old (table e).0 t no_sweeps (stopped-number e))

-- 0 or 9
end-number : (u s vt : List Float) → Ended (svd_end u s vt).0
unfolding svd_end
end-number u s vt = nine-ended (finite_factors u s vt) done (inl refl)

pub join-end : {A : Type 0} (x : ℕ) (new cleared rest old : List A) → Ended x → if_done x new cleared ++ rest ≡ at_end x (new ++ rest) (cleared ++ rest) old
join-end zero new cleared rest old h = refl
join-end (suc x) new cleared rest old h = worked-new (suc x) (cleared ++ rest) old h

-- no refusal before the work has a number from 8 on
lengths-small : (m n a u s vt scratch : ℕ) → (svd_lengths m n a u s vt scratch).0 < 8
unfolding svd_lengths
lengths-small m n a u s vt scratch =
    then-small (exactly 0 a (2 * (m * n))) _ (exactly-small 0 a (2 * (m * n)))
    (then-small (room 1 u (need_u m n)) _ (room_small 1 u (need_u m n))
    (then-small (room 2 s (side_of m n)) _ (room_small 2 s (side_of m n))
    (then-small (room 3 vt (need_vt m n)) _ (room_small 3 vt (need_vt m n)) (room_small 4 scratch (svd_scratch m n)))))

tests-small : (a : List Float) (m n u s vt scratch : ℕ) → (svd_tests a m n u s vt scratch).0 < 8
unfolding svd_tests
tests-small a m n u s vt scratch =
    then-small (matrix_sizes m n) _ (size_small m n)
    (then-small (svd_lengths m n (length a) u s vt scratch) (components 0 a) (lengths-small m n (length a) u s vt scratch) (components-small 0 a))

-- an accepted call, and a refused one
pub svd-worked : (a : List Float) (m n : ℕ) (u s vt scratch : List Float) (r : Result Sweeps Refusal) {u' s' vt' scratch' : List Float} {k : ℕ}
    → k ≡ side_of m n
    → and_then (svd_tests a m n (length u) (length s) (length vt) (length scratch)) (svd_end (u_of a m n) (s_of a m n) (vt_of a m n))
    ≡ svd_end (u_of a m n) (s_of a m n) (vt_of a m n)
    → SvdWorked a m n r u' s' vt' scratch'
    → Svd a m n u s vt scratch r (u' ++ drop (2 * (m * k)) u) (s' ++ drop k s) (vt' ++ drop (2 * (k * n)) vt) (scratch' ++ drop (6 * (m * n) + 2 * k) scratch)
unfolding svd_answer zeroed
svd-worked a m n u s vt scratch r i e w =
    let p : Ended (paper r).0 = rw w.answer (end-number (u_of a m n) (s_of a m n) (vt_of a m n)) in
    record {
      answer = w.answer ∙ sym e;
      u-is = rw (i, w.u-is) (join-end (paper r).0 (u_of a m n) (zeros (need_u m n)) (drop (need_u m n) u) u p);
      s-is = rw (i, w.s-is) (join-end (paper r).0 (s_of a m n) (zeros (side_of m n)) (drop (side_of m n) s) s p);
      vt_is = rw (i, w.vt_is) (join-end (paper r).0 (vt_of a m n) (zeros (need_vt m n)) (drop (need_vt m n) vt) vt p);
      scratch-is = rw (i, w.scratch-is) (worked-new (paper r).0 (zeros (svd_scratch m n) ++ drop (svd_scratch m n) scratch) scratch p);
      sweeps-are = w.sweeps-are;
    }

pub svd-refused : (a : List Float) (m n : ℕ) (u s vt scratch : List Float) (e : Refusal)
    → table e ≡ svd_tests a m n (length u) (length s) (length vt) (length scratch) → Svd a m n u s vt scratch (Err e) u s vt scratch
unfolding svd_answer
svd-refused a m n u s vt scratch e i =
    let h : (table e).0 ≡ 0 → ⊥ = stopped-number e in
    let b : (table e).0 < 8 = rw i (tests-small a m n (length u) (length s) (length vt) (length scratch)) in
    record {
      answer = stays (table e) (svd_end (u_of a m n) (s_of a m n) (vt_of a m n)) h ∙ ap (λ (x : Reply). and_then x (svd_end (u_of a m n) (s_of a m n) (vt_of a m n))) i;
      u-is = end-old (table e).0 _ _ u h b;
      s-is = end-old (table e).0 _ _ s h b;
      vt_is = end-old (table e).0 _ _ vt h b;
      scratch-is = worked-old (table e).0 _ scratch h b;
      sweeps-are = kept-none {A = Sweeps} (Err e) (svd_sweeps a m n) h refl;
    }

-- ---- the turned pairs

pub svd-ceiling : (a : List Float) (m n : ℕ) → Ceiling 100 (side_of m n) (svd_sweeps a m n)
unfolding svd_sweeps swept
svd-ceiling a m n = settled-ceiling (rows_of m n) (side_of m n) (work_of a m n) (unit_planes (side_of m n))
