-- One step of the chain of sites: what is carried, the site that is written, what is carried on. Definitions only.
use Rattle.std.specs.Prelude.{◌≡◌, not, List, ℕ, ◌*◌, ◌≤◌, min, take, Float, Result, IfOk}
use Rattle.answers.specs.Paper.{Reply, paper, done, refuse, and_then}
use Rattle.complex.specs.Cells.{cells_of, written}
use Rattle.components.specs.Every.{every_allowed}
use Rattle.site_lines.specs.Sources.{site_cell, isometry_cell, scaled_vt_cell}
use Rattle.site_ranks.specs.Ranks.{rank_of, discards_of}
use Rattle.svd.specs.Svd.{side_of, need_u, need_vt, svd_scratch, u_of, s_of, vt_of, svd_sweeps, svd_end}
use Rattle.sweeps.specs.declared.Sweeps.{Sweeps}
use Rattle.answers.specs.declared.Refusal.{Refusal}
use Rattle.chain_step.specs.declared.Link.{Link}

-- ---- what is carried

-- the carried rows as the SVD takes a matrix: column after column; row bond·2 + bit
unfoldable pub columnwise : List Float → ℕ → ℕ → List Float
columnwise carried rows columns = cells_of (columns * rows) (site_cell rows (isometry_cell carried columns))

-- ---- one step, of the matrix a

-- the site: the first chi columns of U
unfoldable pub step_site : List Float → ℕ → ℕ → ℕ → List Float
step_site a rows columns chi = cells_of (rows * chi) (site_cell chi (isometry_cell (u_of a rows columns) rows))

-- what is carried on: the first chi rows of S·V†
unfoldable pub carried_by : List Float → List Float → ℕ → ℕ → List Float
carried_by s vt columns chi = cells_of (columns * chi) (site_cell columns (scaled_vt_cell s vt columns))

-- 9 where a component of it is not allowed
unfoldable pub carried_reply : List Float → Reply
carried_reply carried = refuse (not (every_allowed carried)) (9, 0) done

unfoldable pub carried_on : List Float → ℕ → ℕ → ℕ → List Float
unfolding carried_by
carried_on a rows columns chi = carried_by (s_of a rows columns) (vt_of a rows columns) columns chi

-- 9 where a factor is not finite, or a component that is carried on is not allowed
unfoldable pub step_reply : List Float → ℕ → ℕ → ℕ → Reply
unfolding carried_on carried_reply
step_reply a rows columns chi = and_then (svd_end (u_of a rows columns) (s_of a rows columns) (vt_of a rows columns)) (carried_reply (carried_on a rows columns chi))

-- ---- the steps' contracts

pub record StepSizes (rows columns carried vt scratch : ℕ) : Type 0 where
  pub rows-some : 1 ≤ rows
  pub columns-some : 1 ≤ columns
  pub few : rows * columns ≤ 4096
  pub carried-is : carried ≡ 2 * (rows * columns)
  pub vt_is : vt ≡ 2 * (rows * columns)
  pub scratch-is : scratch ≡ svd_scratch rows columns

-- the factors of a, at the front of u and vt and in s, and the sweeps
pub record StepFactored (a : List Float) (rows columns : ℕ) (sweeps : Sweeps) (u s vt : List Float) : Type 0 where
  pub u-is : take (need_u rows columns) u ≡ u_of a rows columns
  pub s-is : s ≡ s_of a rows columns
  pub vt_is : take (need_vt rows columns) vt ≡ vt_of a rows columns
  pub sweeps-are : sweeps ≡ svd_sweeps a rows columns

-- the answer, and where it is 0 the factors
pub record StepFactors (a : List Float) (rows columns : ℕ) (r : Result Sweeps Refusal) (u s vt : List Float) : Type 0 where
  pub answer : paper r ≡ svd_end (u_of a rows columns) (s_of a rows columns) (vt_of a rows columns)
  pub made : IfOk r (λ sweeps. StepFactored a rows columns sweeps u s vt)

-- the rank, whether a value is dropped, the sweeps, the site and what is carried on at the front of u
pub record StepTaken (a : List Float) (rows columns : ℕ) (epsilon : Float) (limit : ℕ) (old : List Float) (l : Link) (site u : List Float) : Type 0 where
  pub chi-is : l.chi ≡ rank_of (s_of a rows columns) epsilon limit
  pub drops-is : l.drops ≡ discards_of (s_of a rows columns) (rank_of (s_of a rows columns) epsilon limit)
  pub sweeps-are : l.sweeps ≡ svd_sweeps a rows columns
  pub site-is : let chi = rank_of (s_of a rows columns) epsilon limit in
      site ≡ written (rows * chi) (site_cell chi (isometry_cell (u_of a rows columns) rows)) old
  pub carried-is : let chi = rank_of (s_of a rows columns) epsilon limit in
      take (2 * (columns * chi)) u ≡ carried_on a rows columns chi

-- the answer, and where it is 0 what the step leaves
pub record Stepped (a : List Float) (rows columns : ℕ) (epsilon : Float) (limit : ℕ) (old : List Float) (r : Result Link Refusal) (site u : List Float) : Type 0 where
  pub answer : paper r ≡ step_reply a rows columns (rank_of (s_of a rows columns) epsilon limit)
  pub taken : IfOk r (λ l. StepTaken a rows columns epsilon limit old l site u)

-- the lengths that the two fills ask
pub record StepWritten (rows columns chi s vt site u : ℕ) : Type 0 where
  pub rows-some : 1 ≤ rows
  pub columns-some : 1 ≤ columns
  pub few : rows * columns ≤ 4096
  pub kept : chi ≤ side_of rows columns
  pub s-is : s ≡ side_of rows columns
  pub vt_is : vt ≡ need_vt rows columns
  pub site-fits : 2 * (rows * chi) ≤ site
  pub u-is : u ≡ 2 * (rows * columns)

-- the lengths that the second half of a step asks
pub record StepKeeping (rows columns limit s vt site u : ℕ) : Type 0 where
  pub rows-some : 1 ≤ rows
  pub columns-some : 1 ≤ columns
  pub few : rows * columns ≤ 4096
  pub s-is : s ≡ side_of rows columns
  pub vt_is : vt ≡ need_vt rows columns
  pub site-fits : 2 * (rows * min (side_of rows columns) limit) ≤ site
  pub u-is : u ≡ 2 * (rows * columns)

pub record StepKept (s u vt : List Float) (rows columns : ℕ) (epsilon : Float) (limit : ℕ) (sweeps : Sweeps) (old : List Float) (r : Result Link Refusal) (site u' : List Float) : Type 0 where
  pub answer : paper r ≡ carried_reply (carried_by s vt columns (rank_of s epsilon limit))
  pub link-is : IfOk r (λ l. l ≡ record { chi = rank_of s epsilon limit; drops = discards_of s (rank_of s epsilon limit); sweeps = sweeps })
  pub site-is : site ≡ written (rows * rank_of s epsilon limit) (site_cell (rank_of s epsilon limit) (isometry_cell u rows)) old
  pub carried-is : take (2 * (columns * rank_of s epsilon limit)) u' ≡ carried_by s vt columns (rank_of s epsilon limit)
