-- Laws of a step of the chain. Assumes nothing.
use mathlib.Core.Path.{◌≡◌, refl, sym, ap, ap₂, ◌∙◌}
use mathlib.Core.Bool.{Bool, true, false, not, cond}
use mathlib.Core.List.{List, [], ◌∷◌, ◌++◌, append-nil}
use Prim.Native.Nat.{ℕ, zero, suc, ◌+◌, ◌*◌, ◌/◌, ◌%◌, ◌≤◌, ◌<◌, min}
use native.Mathlib.Nat.{mul_comm, mul-le-mul_left, mul-le-mul_right, div-lt_iff_lt-mul, mod-lt, div-add-mod', le_trans, min-le_left, min-le_right, max-le, le-min, mul-le-mul}
use native.Mathlib.Omega.{arith}
use lib.ListN.{length, drop, drop_of_length-le, take, length-append}
use lib.Seq.{take_at}
use lib.Arith.{digits_div, digits_mod, digits_lt}
use lib.Dec.{ltb, leb}
use borrow.Author.Tests.{leb-true, leb-false}
use lib.Ieee as Ieee
use lib.Ieee.{Float}
use Rattle.answers.specs.Paper.{Answer, Reply, paper, done, refuse, and_then}
use Rattle.answers.proofs.Stopped.{refused, stopped-number}
use Rattle.complex.specs.declared.Complex.{Complex}
use Rattle.complex.specs.Arithmetic.{conjugate}
use Rattle.complex.specs.Cells.{cell_at, cells_of, written, components}
use Rattle.complex.proofs.CellLaws.{length-cells, cell-of}
use Rattle.svd_load.specs.Loading.{conjugate_transposed}
use Rattle.svd_load.proofs.LoadingLaws.{planes-alike}
use Rattle.chain_load.specs.Carried.{conjugated_at, across_at, carried_work}
use Rattle.site_lines.specs.Sources.{line_cell, site_cell, isometry_cell, scaled_vt_cell, LineReady}
use Rattle.svd.specs.Svd.{side_of, need_u, need_vt, work_of, u_of, s_of, vt_of, svd_sweeps, SvdExact}
use Rattle.svd_loaded.specs.Loaded.{SvdLoaded}
use Rattle.svd.proofs.SvdLaws.{side-low, side-cells}
use Rattle.components.specs.Every.{every_allowed}
use Rattle.components.proofs.EveryLaws.{every-done, every-from-done}
use Rattle.site_ranks.specs.Ranks.{above_count, rank_of, discards_of}
use Rattle.sweeps.specs.declared.Sweeps.{Sweeps}
use Rattle.answers.specs.declared.Refusal.{Refusal}
use Rattle.std.specs.Prelude.{Result, Ok, Err, IfOk, is_err}
use Rattle.chain_step.specs.declared.Link.{Link}
use Rattle.answers.specs.declared.Refusal.TheVariants.{NotFinite}
use Rattle.chain_step.specs.Step.{columnwise, carried_by, carried_reply, carried_on, step_reply, StepSizes, StepFactors, StepWritten, StepKeeping, StepKept, StepTaken, Stepped}

-- a list of exactly the cells that are written
written_all : (m : ℕ) (f : ℕ → Complex) (old : List Float) → length old ≡ 2 * m → written m f old ≡ cells_of m f
unfolding written
written_all m f old e =
    let h : length old ≤ 2 * m = omega arith in
    rw (drop_of_length-le old h, append-nil)

-- ---- the work matrix

-- in the wide case the cell i of the carried rows is the cell i of the conjugate transpose
wide-cell : (carried : List Float) (rows columns i : ℕ) → i < rows * columns
    → conjugated_at carried i ≡ conjugate_transposed (columnwise carried rows columns) rows columns i
unfolding conjugated_at conjugate_transposed columnwise site_cell isometry_cell line_cell
wide-cell carried rows columns i h =
    let pos : 0 < columns = right-some columns h in
    let q : i / columns < rows = (div-lt_iff_lt-mul pos).1 h in
    let p : i % columns < columns = mod-lt i pos in
    let l : i % columns * rows + i / columns < columns * rows = digits_lt p q in
    let e : (i % columns * rows + i / columns) % rows * columns + (i % columns * rows + i / columns) / rows ≡ i =
    rw (digits_mod (i % columns) q, digits_div (i % columns) q) (div-add-mod' i columns) in
    sym (ap conjugate (cell-of (columns * rows) (i % columns * rows + i / columns) (site_cell rows (isometry_cell carried columns)) l ∙ ap (cell_at carried) e))
  where
    right-some : (columns : ℕ) → i < rows * columns → 0 < columns
    right-some zero l = absurd (omega arith)
    right-some (suc c) l = omega arith

tall-cell : (carried : List Float) (rows columns i : ℕ) → i < columns * rows → across_at carried columns rows i ≡ cell_at (columnwise carried rows columns) i
unfolding across_at columnwise site_cell isometry_cell line_cell
tall-cell carried rows columns i h = sym (cell-of (columns * rows) i (site_cell rows (isometry_cell carried columns)) h)

-- what is loaded is the work matrix of the step's matrix
pub carried-work : (carried : List Float) (rows columns : ℕ) → carried_work carried rows columns ≡ work_of (columnwise carried rows columns) rows columns
unfolding carried_work work_of
carried-work carried rows columns =
    rw (
      planes-alike (rows * columns) (conjugated_at carried) (conjugate_transposed (columnwise carried rows columns) rows columns) (wide-cell carried rows columns),
      planes-alike (columns * rows) (across_at carried columns rows) (cell_at (columnwise carried rows columns)) (tall-cell carried rows columns),
    )

-- ---- the factors

pub rooms : (rows columns : ℕ) {k : ℕ} → k ≡ side_of rows columns → rows * columns ≤ 4096
    → (rows * k ≤ 4096) × (k * columns ≤ 4096) × (rows * k ≤ rows * columns) × (k * columns ≤ rows * columns)
rooms rows columns {k} e h =
    let c = side-cells rows columns k e in
    let p : rows * k ≤ rows * columns = c.0 in
    let q : k * columns ≤ rows * columns = c.1 in
    (omega arith, omega arith, p, q)

pub exact : (rows columns carried vt scratch u' s vt' scratch' : ℕ) {k : ℕ} → k ≡ side_of rows columns → StepSizes rows columns carried vt scratch
    → s ≡ side_of rows columns → u' ≡ 2 * (rows * k) → vt' ≡ 2 * (k * columns) → scratch' ≡ scratch → SvdExact rows columns (2 * (rows * columns)) u' s vt' scratch'
exact rows columns carried vt scratch u' s vt' scratch' e z es eu ev ec =
    record {
      rows = z.rows-some;
      columns = z.columns-some;
      cells = z.few;
      a-is = refl;
      u-is = rw e at eu;
      s-is = es;
      vt_is = rw e at ev;
      scratch-is = ec ∙ z.scratch-is;
    }

pub factored : (carried planes : List Float) (rows columns : ℕ) (r : Result Sweeps Refusal) {u s vt : List Float} (rest rest' : List Float) {k : ℕ} → k ≡ side_of rows columns
    → planes ≡ carried_work carried rows columns
    → length u ≡ 2 * (rows * k) → length vt ≡ 2 * (k * columns) → ((a : List Float) → planes ≡ work_of a rows columns → SvdLoaded a rows columns r u s vt)
    → StepFactors (columnwise carried rows columns) rows columns r (u ++ rest) s (vt ++ rest')
factored carried planes rows columns (Ok sweeps) {u} {s} {vt} rest rest' {k} e i lu lv made =
    let w = made (columnwise carried rows columns) (i ∙ carried-work carried rows columns) in
    let mu : length u ≡ need_u rows columns = rw e at lu in
    let mv : length vt ≡ need_vt rows columns = rw e at lv in
    record {
      answer = w.answer;
      made =
          record {
            u-is = take_at u rest (need_u rows columns) mu ∙ w.u-is;
            s-is = w.s-is;
            vt_is = take_at vt rest' (need_vt rows columns) mv ∙ w.vt_is;
            sweeps-are = w.sweeps-are;
          };
    }
factored carried planes rows columns (Err e) rest rest' k i lu lv made =
    record { answer = (made (columnwise carried rows columns) (i ∙ carried-work carried rows columns)).answer; made = tt }

-- ---- the two fills

side-sizes : (rows columns : ℕ) → 1 ≤ rows → 1 ≤ columns → rows * columns ≤ 4096
    → (side_of rows columns ≤ rows) × (side_of rows columns ≤ columns) × (rows ≤ 4096) × (columns ≤ 4096)
side-sizes rows columns a b h =
    let p : 1 * columns ≤ rows * columns = mul-le-mul_right columns a in
    let q : rows * 1 ≤ rows * columns = mul-le-mul_left rows b in
    let l = side-low rows columns in
    (l.0, l.1, omega arith, omega arith)

pub site-ready : (rows columns chi s vt site u source : ℕ) {k : ℕ} → k ≡ side_of rows columns → StepWritten rows columns chi s vt site u → source ≡ 2 * (rows * k)
    → LineReady rows rows chi source site
site-ready rows columns chi s vt site u source {k} e w i =
    let z = side-sizes rows columns w.rows-some w.columns-some w.few in
    let l : chi ≤ k = rw e w.kept in
    let m : rows * chi ≤ rows * k = mul-le-mul_left rows l in
    let c : rows * chi ≡ chi * rows = mul_comm rows chi in
    record {
      stride-small = z.2;
      chi-small = omega (arith, w.kept, z.0, z.2);
      inside = omega arith;
      few = omega (arith, (rooms rows columns e w.few).0);
      lines = omega arith;
      site = w.site-fits;
    }

pub carry-ready : (rows columns chi s vt site u : ℕ) → StepWritten rows columns chi s vt site u → LineReady columns columns chi vt u
carry-ready rows columns chi s vt site u w =
    let z = side-sizes rows columns w.rows-some w.columns-some w.few in
    let l : chi ≤ rows = le_trans w.kept z.0 in
    let m : chi * columns ≤ side_of rows columns * columns = mul-le-mul_right columns w.kept in
    let n : chi * columns ≤ rows * columns = mul-le-mul_right columns l in
    let c : chi * columns ≡ columns * chi = mul_comm chi columns in
    record {
      stride-small = z.3;
      chi-small = omega (arith, z.2);
      inside = omega arith;
      few = omega (arith, w.few);
      lines = omega (arith, w.vt_is);
      site = omega (arith, w.u-is);
    }

pub front-written : (m : ℕ) (f : ℕ → Complex) (old : List Float) {end : List Float} → end ≡ written m f old → take (2 * m) end ≡ cells_of m f
unfolding written
front-written m f old e = ap (take (2 * m)) e ∙ take_at (cells_of m f) (drop (2 * m) old) (2 * m) (length-cells m f)

-- U at its counted length, and at its needed one
pub site-made : (u old : List Float) (rows columns chi : ℕ) {k : ℕ} {end : List Float} → k ≡ side_of rows columns
    → end ≡ written (rows * chi) (site_cell chi (isometry_cell (take (2 * (rows * k)) u) rows)) old
    → end ≡ written (rows * chi) (site_cell chi (isometry_cell (take (need_u rows columns) u) rows)) old
site-made u old rows columns chi e h = h ∙ ap (λ (x : ℕ). written (rows * chi) (site_cell chi (isometry_cell (take (2 * (rows * x)) u) rows)) old) e

-- ---- the rank: at most as many as there are, at most the limit, at least one

above-few : (t : Float) (l : List Float) → above_count t l ≤ length l
unfolding above_count
above-few t [] = omega arith
above-few t (x ∷ l) = pick (Ieee.lt t x) (above-few t l)
  where
    pick : (b : Bool) → above_count t l ≤ length l → cond b (suc (above_count t l)) 0 ≤ suc (length l)
    pick true h = omega arith
    pick false h = omega arith

pub rank-fits : (values : List Float) (epsilon : Float) (cap : ℕ) → 1 ≤ length values → rank_of values epsilon cap ≤ length values
unfolding rank_of
rank-fits values epsilon cap h = le_trans (min-le_left _ cap) (max-le (above-few _ values) h)

pub rank_most : (values : List Float) (epsilon : Float) (cap : ℕ) → rank_of values epsilon cap ≤ cap
unfolding rank_of
rank_most values epsilon cap = min-le_right _ cap

-- ---- the second half of a step

pub side-some : (rows columns : ℕ) → 1 ≤ rows → 1 ≤ columns → 1 ≤ side_of rows columns
unfolding side_of
side-some rows columns a b = pick (ltb rows columns)
  where
    pick : (t : Bool) → 1 ≤ cond t rows columns
    pick true = a
    pick false = b

pub keeping : (s : List Float) (rows columns limit vt site u : ℕ) (epsilon : Float) {chi : ℕ} → StepKeeping rows columns limit (length s) vt site u
    → chi ≡ rank_of s epsilon limit → StepWritten rows columns chi (length s) vt site u
keeping s rows columns limit vt site u epsilon {chi} k e =
    let some : 1 ≤ length s = omega (arith, k.s-is, side-some rows columns k.rows-some k.columns-some) in
    let a : chi ≤ side_of rows columns = omega (arith, e, rank-fits s epsilon limit some, k.s-is) in
    let b : chi ≤ limit = omega (arith, e, rank_most s epsilon limit) in
    let m : rows * chi ≤ rows * min (side_of rows columns) limit = mul-le-mul_left rows (le-min a b) in
    record {
      rows-some = k.rows-some;
      columns-some = k.columns-some;
      few = k.few;
      kept = a;
      s-is = k.s-is;
      vt_is = k.vt_is;
      site-fits = omega (arith, k.site-fits);
      u-is = k.u-is;
    }

-- the cells that are carried on
pub carried-room : (rows columns chi s vt site u : ℕ) → StepWritten rows columns chi s vt site u → (columns * chi ≤ 4096) × (2 * (columns * chi) ≤ u)
carried-room rows columns chi s vt site u w = let r = carry-ready rows columns chi s vt site u w in (r.few, r.site)

-- 7 anywhere in it is 9
carried-good : (carried : List Float) → (components 0 carried).0 ≡ 0 → (0, 0) ≡ carried_reply carried
unfolding carried_reply
carried-good carried e = rw (every-from-done carried 0 e)

carried-bad : (carried : List Float) → ((components 0 carried).0 ≡ 0 → ⊥) → (9, 0) ≡ carried_reply carried
unfolding carried_reply
carried-bad carried n = pick (every_allowed carried) refl
  where
    pick : (b : Bool) → every_allowed carried ≡ b → (9, 0) ≡ refuse (not b) (9, 0) done
    pick true e = absurd (n (ap (λ (r : Reply). r.0) (every-done carried 0 e)))
    pick false e = refl

module _ (s u vt : List Float) (rows columns : ℕ) (epsilon : Float) (limit : ℕ) (sweeps : Sweeps) (old site u' : List Float) (chi : ℕ)
    (e : chi ≡ rank_of s epsilon limit)
    (w : site ≡ written (rows * chi) (site_cell chi (isometry_cell u rows)) old)
    (f : take (2 * (columns * chi)) u' ≡ cells_of (columns * chi) (site_cell columns (scaled_vt_cell s vt columns))) where
  same-carried : take (2 * (columns * chi)) u' ≡ carried_by s vt columns (rank_of s epsilon limit)
  unfolding carried_by
  same-carried = f ∙ ap (λ (x : ℕ). cells_of (columns * x) (site_cell columns (scaled_vt_cell s vt columns))) e

  same-site : site ≡ written (rows * rank_of s epsilon limit) (site_cell (rank_of s epsilon limit) (isometry_cell u rows)) old
  same-site = w ∙ ap (λ (x : ℕ). written (rows * x) (site_cell x (isometry_cell u rows)) old) e

  same-front : take (2 * (columns * rank_of s epsilon limit)) u' ≡ carried_by s vt columns (rank_of s epsilon limit)
  same-front = ap (λ (x : ℕ). take (2 * (columns * x)) u') (sym e) ∙ same-carried

  pub kept-bad : (a : Answer) → paper a ≡ components 0 (take (2 * (columns * chi)) u') → is_err a ≡ true
      → StepKept s u vt rows columns epsilon limit sweeps old (Err NotFinite) site u'
  kept-bad (Ok x) p h = absurd (cc)
  kept-bad (Err x) p h =
      record {
        answer = carried-bad (take (2 * (columns * chi)) u') (λ z. stopped-number x (ap (λ (r : Reply). r.0) p ∙ z)) ∙ ap carried_reply same-carried;
        link-is = tt;
        site-is = same-site;
        carried-is = same-front;
      }

  pub kept-good : (a : Answer) {drops : Bool} → paper a ≡ components 0 (take (2 * (columns * chi)) u') → is_err a ≡ false → drops ≡ discards_of s chi
      → StepKept s u vt rows columns epsilon limit sweeps old (Ok (record { chi = chi; drops = drops; sweeps = sweeps })) site u'
  kept-good (Err x) p h d = absurd (cc)
  kept-good (Ok x) {drops} p h d =
      record {
        answer = carried-good (take (2 * (columns * chi)) u') (ap (λ (r : Reply). r.0) (sym p)) ∙ ap carried_reply same-carried;
        link-is = ap₂ (λ (x : ℕ) (y : Bool). record { chi = x; drops = y; sweeps = sweeps }) e (d ∙ ap (discards_of s) e);
        site-is = same-site;
        carried-is = same-front;
      }

-- ---- a step

-- there are at most 64 values
pub values-few : (rows columns : ℕ) {k : ℕ} → k ≡ side_of rows columns → rows * columns ≤ 4096 → k ≤ 64
values-few rows columns {k} e h =
    let l = side-low rows columns in
    let a : k ≤ rows = rw e l.0 in
    let b : k ≤ columns = rw e l.1 in
    let q : k * k ≤ rows * columns = mul-le-mul a b in
    pick (leb k 64) refl (omega arith)
  where
    pick : (t : Bool) → leb k 64 ≡ t → k * k ≤ 4096 → k ≤ 64
    pick true e i = leb-true k 64 e
    pick false e i =
        let g : 65 ≤ k = leb-false k 64 e in
        let p : 65 * 65 ≤ k * k = mul-le-mul g g in
        absurd (omega arith)

pub keepable : (rows columns carried vt scratch limit s vt' site u : ℕ) {k : ℕ} → k ≡ side_of rows columns → StepSizes rows columns carried vt scratch
    → 2 * (rows * min (side_of rows columns) limit) ≤ site → s ≡ k → vt' ≡ 2 * (k * columns) → u ≡ carried → StepKeeping rows columns limit s vt' site u
keepable rows columns carried vt scratch limit s vt' site u e z f es ev eu =
    record {
      rows-some = z.rows-some;
      columns-some = z.columns-some;
      few = z.few;
      s-is = es ∙ e;
      vt_is = rw e at ev;
      site-fits = f;
      u-is = eu ∙ z.carried-is;
    }

pub stepped-refused : (a : List Float) (rows columns : ℕ) (epsilon : Float) (limit : ℕ) (old : List Float) (e : Refusal) {u s vt : List Float}
    → StepFactors a rows columns (Err e) u s vt → Stepped a rows columns epsilon limit old (Err e) old u
unfolding step_reply
stepped-refused a rows columns epsilon limit old e f = record { answer = refused e _ _ f.answer; taken = tt }

pub stepped : (a : List Float) (rows columns : ℕ) (epsilon : Float) (limit : ℕ) (old : List Float) (sweeps : Sweeps) (r : Result Link Refusal) (u s vt : List Float)
    {s' u'' vt'' site : List Float} (u' : List Float) → StepFactors a rows columns (Ok sweeps) u s vt
    → s' ≡ s → u'' ≡ take (need_u rows columns) u → vt'' ≡ take (need_vt rows columns) vt
    → StepKept s' u'' vt'' rows columns epsilon limit sweeps old r site u' → Stepped a rows columns epsilon limit old r site u'
unfolding step_reply carried_on
stepped a rows columns epsilon limit old sweeps r u s vt {s'} {u''} {vt''} {site} u' f es eu ev k =
    let is = es ∙ f.made.s-is in
    let iu = eu ∙ f.made.u-is in
    let iv = ev ∙ f.made.vt_is in
    let kept : StepKept (s_of a rows columns) (u_of a rows columns) (vt_of a rows columns) rows columns epsilon limit (svd_sweeps a rows columns) old r site u' =
    rw (is, iu, iv, f.made.sweeps-are) at k in
    let b = carried_reply (carried_by (s_of a rows columns) (vt_of a rows columns) columns (rank_of (s_of a rows columns) epsilon limit)) in
    record { answer = kept.answer ∙ ap (λ (x : Reply). and_then x b) f.answer; taken = link r kept }
  where
    link : (r : Result Link Refusal) → StepKept (s_of a rows columns) (u_of a rows columns) (vt_of a rows columns) rows columns epsilon limit (svd_sweeps a rows columns) old r site u'
        → IfOk r (λ l. StepTaken a rows columns epsilon limit old l site u')
    link (Err e) kept = tt
    link (Ok l) kept =
        record {
          chi-is = ap (λ (x : Link). x.chi) kept.link-is;
          drops-is = ap (λ (x : Link). x.drops) kept.link-is;
          sweeps-are = ap (λ (x : Link). x.sweeps) kept.link-is;
          site-is = kept.site-is;
          carried-is = kept.carried-is;
        }

-- the front of an array that a call filled
pub front_length : (rest front : List Float) (m : ℕ) → length front ≡ m → length (take m (front ++ rest)) ≡ m
front_length rest front m e = ap length (take_at front rest m e) ∙ e

pub front-in : (rest front : List Float) (m : ℕ) → length front ≡ m → m ≤ length (front ++ rest)
front-in rest front m e = omega (arith, length-append front rest)

pub vt-front : (vt : List Float) (rows columns : ℕ) {k : ℕ} → k ≡ side_of rows columns → take (2 * (k * columns)) vt ≡ take (need_vt rows columns) vt
vt-front vt rows columns e = ap (λ (x : ℕ). take (2 * (x * columns)) vt) e
