-- The chain of sites taken by hand: the calls `svd_jacobi`, `truncated_svd_rank`, `discards_resolvable_weight`, `fill_isometry_site_data` and
-- `fill_scaled_vt_data` in this order, step after step, each over any buffers and each answered 0. Definitions only.
use Rattle.std.specs.Prelude.{◌≡◌, Bool, List, [], ◌∷◌, ◌++◌, ℕ, zero, suc, ◌+◌, ◌-◌, ◌*◌, ◌^◌, length, take, Float, Result}
use Rattle.answers.specs.Paper.{Answer, paper, given, and_then}
use Rattle.site_lines.specs.Sources.{site_cell, isometry_cell, scaled_vt_cell}
use Rattle.sites.specs.Calls.{column_sizes, row_sizes, plain_reply, scaled_vt_reply, Filled}
use Rattle.site_ranks.specs.Ranks.{rank_of, discards_of}
use Rattle.sweeps.specs.declared.Sweeps.{Sweeps}
use Rattle.answers.specs.declared.Refusal.{Refusal}
use Rattle.sweeps.specs.Sweeping.{no_sweeps}
use Rattle.svd.specs.Svd.{side_of, Svd}
use Rattle.chain_step.specs.Step.{columnwise}
use Rattle.cut_marks.specs.Marks.{one_if, cut_marks}
use Rattle.chain_walk.specs.Chain.{Links, links_to}

-- one step: its rank, whether it drops a value, how its sweeps went, its site, and what is carried on
pub record HandStep (carried : List Float) (bond columns : ℕ) (epsilon : Float) (limit chi : ℕ) (drops : Bool) (sweeps : Sweeps) (site on : List Float) : Type 0 where
  -- what is lent
  pub u : List Float
  pub s : List Float
  pub vt : List Float
  pub scratch : List Float
  pub room : List Float
  pub rest : List Float
  -- what comes back
  pub factors : Result Sweeps Refusal
  pub u' : List Float
  pub s' : List Float
  pub vt' : List Float
  pub scratch' : List Float
  pub filled : Answer
  pub room' : List Float
  pub scaled : Answer
  pub rest' : List Float
  -- the shape (chi, physical, right) of what is carried on
  pub physical : ℕ
  pub right : ℕ
  pub shape : physical * right ≡ columns
  -- the calls
  pub svd : Svd (columnwise carried (2 * bond) columns) (2 * bond) columns u s vt scratch factors u' s' vt' scratch'
  pub svd-done : (paper factors).0 ≡ 0
  pub sweeps-are : sweeps ≡ given no_sweeps factors
  pub rank_is : chi ≡ rank_of (take (side_of (2 * bond) columns) s') epsilon limit
  pub drops-is : drops ≡ discards_of (take (side_of (2 * bond) columns) s') chi
  pub isometry : Filled (and_then (column_sizes (2 * bond) bond chi) (plain_reply u' (2 * bond) (2 * bond) chi (length room)))
      (2 * bond * chi) (site_cell chi (isometry_cell u' (2 * bond))) room filled room'
  pub isometry-done : (paper filled).0 ≡ 0
  pub carry : Filled (and_then (row_sizes columns chi physical right) (scaled_vt_reply s' vt' columns (physical * right) chi (length rest)))
      (physical * right * chi) (site_cell (physical * right) (scaled_vt_cell s' vt' columns)) rest scaled rest'
  pub carry-done : (paper scaled).0 ≡ 0
  -- the cells that the two fills wrote
  pub site-is : site ≡ take (2 * (2 * bond * chi)) room'
  pub on-is : on ≡ take (2 * (columns * chi)) rest'

-- one step more, by hand
pub record HandLinked (l : Links) (columns : ℕ) (epsilon : Float) (limit : ℕ) (w : Links) : Type 0 where
  pub chi : ℕ
  pub drops : Bool
  pub sweeps : Sweeps
  pub site : List Float
  pub on : List Float
  pub step : HandStep l.carried l.bond columns epsilon limit chi drops sweeps site on
  pub is : w
      ≡ record {
        bond = chi;
        at = l.at + 2 * l.bond * chi;
        carried = on;
        sites = l.sites ++ site;
        ranks = l.ranks ++ chi ∷ [];
        ends = l.ends ++ (l.at + 2 * l.bond * chi) ∷ [];
        marks = l.marks ++ cut_marks sweeps;
        dropped = l.dropped + one_if drops;
      }

-- so many steps from the rows `first`, by hand
unfoldable pub HandWalk : List Float → ℕ → Float → ℕ → ℕ → Links → Type 0
HandWalk first n epsilon limit zero w = w ≡ links_to first n epsilon limit zero
HandWalk first n epsilon limit (suc j) w = (l : Links) × HandWalk first n epsilon limit j l × HandLinked l (2 ^ (n - 1 - j)) epsilon limit w
