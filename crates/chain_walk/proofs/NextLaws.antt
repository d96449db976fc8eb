-- One step of the walk: what its step leaves in the lent slices. Assumes nothing.
use mathlib.Core.Path.{◌≡◌, refl, sym, ap, ◌∙◌}
use mathlib.Core.List.{List, ◌++◌}
use Prim.Native.Nat.{ℕ, ◌+◌, ◌-◌, ◌*◌, ◌≤◌, min}
use native.Mathlib.Nat.{mul-le-mul_left, mul_comm}
use native.Mathlib.Omega.{arith}
use lib.ListN.{length, take, drop, set}
use lib.Seq.{drop-drop, take-append-le}
use lib.Pow.{pow_pos}
use lib.Ieee.{Float}
use Rattle.std.specs.Prelude.{Ok}
use Rattle.complex.specs.Cells.{written}
use Rattle.site_ranks.specs.Ranks.{rank_of, discards_of}
use Rattle.svd.specs.Svd.{side_of, u_of, s_of}
use Rattle.sweeps.specs.declared.Sweeps.{Sweeps}
use Rattle.svd.proofs.SvdLaws.{side-low}
use Rattle.site_lines.specs.Sources.{site_cell, isometry_cell}
use Rattle.chain_step.specs.declared.Link.{Link}
use Rattle.chain_step.specs.Step.{columnwise, step_site}
use Rattle.chain_link.specs.OneLink.{LinkRoom, OneLink, rows_at, columns_at, cells_at}
use Rattle.cut_marks.specs.Marks.{one_if, cut_marks}
use Rattle.chain_walk.specs.Walk.{Next}
use Rattle.chain_walk.proofs.ChainLaws.{rank-in}

-- the site among what sites held
site-put : (a : List Float) (rows columns chi at : ℕ) (sites : List Float)
    → take (2 * at) sites ++ written (rows * chi) (site_cell chi (isometry_cell (u_of a rows columns) rows)) (drop (2 * at) sites)
    ≡ take (2 * at) sites ++ (step_site a rows columns chi ++ drop (2 * (at + rows * chi)) sites)
unfolding written step_site
site-put a rows columns chi at sites =
    let e : 2 * at + 2 * (rows * chi) ≡ 2 * (at + rows * chi) = omega arith in
    rw (drop-drop (2 * (rows * chi)) (2 * at) sites, e)

module _ (n j bond at : ℕ) (epsilon : Float) (limit : ℕ) (sites u : List Float) (r : Link) {sites' u' : List Float}
    (p : 1 ≤ bond) (o : OneLink n j bond at epsilon limit sites u (Ok r) sites' u') where
  -- the rank of a step that was taken is in its bounds
  pub rank-bound : r.chi ≤ min (side_of (2 * bond) (columns_at n j)) limit
  rank-bound =
      let a = columnwise (take (2 * cells_at n j bond) u) (rows_at bond) (columns_at n j) in
      let q : 1 ≤ rows_at bond = omega (arith, p) in
      rw (o.step.taken.chi-is) (rank-in a (rows_at bond) (columns_at n j) epsilon limit q (pow_pos (n - 1 - j)))

  pub rank_room : {k vt scratch : ℕ} → LinkRoom n j bond at limit (length sites) k vt scratch → 2 * at + 2 * (2 * bond * r.chi) ≤ length sites
  rank_room m = omega (arith, mul-le-mul_left (2 * bond) rank-bound, m.site-fits)

  carried-front : take (2 * (columns_at n j * r.chi)) u' ≡ take (2 * (columns_at n j * r.chi)) o.front
  carried-front =
      let l : r.chi ≤ rows_at bond = omega (arith, rank-bound, (side-low (2 * bond) (columns_at n j)).0) in
      let m : columns_at n j * r.chi ≤ columns_at n j * rows_at bond = mul-le-mul_left (columns_at n j) l in
      let c : columns_at n j * rows_at bond ≡ rows_at bond * columns_at n j = mul_comm (columns_at n j) (rows_at bond) in
      ap (take (2 * (columns_at n j * r.chi))) o.u-is ∙ take-append-le (2 * (columns_at n j * r.chi)) o.front _ (omega (arith, o.front_long))

  pub next-taken : (dropped : ℕ) (bonds starts marks : List ℕ) {end one : ℕ} {marks' : List ℕ}
      → one ≡ one_if r.drops → end ≡ at + 2 * bond * r.chi
      → marks' ≡ take (3 * j) marks ++ (cut_marks r.sweeps ++ drop (3 * j + 3) marks)
      → Next (columnwise (take (2 * cells_at n j bond) u) (rows_at bond) (columns_at n j)) (rows_at bond) (columns_at n j) j at dropped epsilon limit sites bonds starts marks
      (Ok (record { bond = r.chi; at = end; dropped = dropped + one })) sites' (set bonds j r.chi) (set starts j end) marks' u'
  next-taken dropped bonds starts marks {end} e f m =
      let columns = columns_at n j in
      let rows = rows_at bond in
      let a = columnwise (take (2 * cells_at n j bond) u) rows columns in
      let x : r.chi ≡ rank_of (s_of a rows columns) epsilon limit = o.step.taken.chi-is in
      record {
        answer = o.step.answer;
        taken =
            record {
              bond-is = x;
              at-is = f;
              dropped-is = ap (λ (y : ℕ). dropped + y) (e ∙ ap one_if (o.step.taken.drops-is ∙ ap (discards_of (s_of a rows columns)) (sym x)));
              sites-is =
                  o.sites-is ∙ ap (λ (y : List Float). take (2 * at) sites ++ y) (o.step.taken.site-is)
                  ∙ rw (← x, f) (site-put a rows columns r.chi at sites);
              bonds-is = refl;
              starts_is = refl;
              marks-is = m ∙ ap (λ (t : Sweeps). take (3 * j) marks ++ (cut_marks t ++ drop (3 * j + 3) marks)) (o.step.taken.sweeps-are);
              carried-is = carried-front ∙ rw (← x) at o.step.taken.carried-is;
            };
      }
