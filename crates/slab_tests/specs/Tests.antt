-- The tests of a slab, of data and of a site number, and what each call answers. Assumes nothing.
use Rattle.std.specs.Prelude.{◌≡◌, Bool, true, false, not, ◌&&◌, ◌||◌, List, ℕ, ◌/◌, ◌%◌, leb, ltb, eqb, Option, Some, None, Result}
use Rattle.answers.specs.declared.Refusal.{Refusal}
use Rattle.answers.specs.Paper.{Reply, paper, given, done, refuse, if_done}
use Rattle.slab_runs.specs.Runs.{lowest}
use Rattle.slab_sites.specs.Sites.{count, each_apart, find_site}
use Rattle.slab_cells.specs.Cells.{map_of, clean}

-- ---- the tests

-- at most 64 sites, each with a cell and inside the slab, no two with a number or a cell in common, and every
-- free cell +0.0. No entry has the number 64, so entry 64 is none to pass over
unfoldable pub sound : List ℕ → List ℕ → Bool
sound cells index = leb (count index) 64 && (each_apart index (count index) && clean (map_of index 64 (count index)) cells)

-- data of no cells, of an odd count of numbers or of more than 4,096 cells
abbrev pub bad_data : ℕ → Bool
bad_data len = eqb len 0 || (eqb (len % 2) 1 || ltb 8192 len)

-- the entry of the site, or the count where it is not held
abbrev pub entry_of : List ℕ → ℕ → ℕ
entry_of index site = find_site index site (count index)

abbrev pub holds : List ℕ → ℕ → Bool
holds index site = ltb (entry_of index site) (count index)

-- the lowest run that len numbers take, as if the cells of entry skip were free
unfoldable pub room : List ℕ → ℕ → ℕ → Option ℕ
room index skip len = lowest (len / 2) 0 (map_of index skip (count index))

abbrev pub is_nowhere : Option ℕ → Bool
is_nowhere (Some s) = false
is_nowhere None = true

-- its first cell
abbrev pub spot : Option ℕ → ℕ
spot (Some s) = s
spot None = 0

-- ---- the answers

abbrev pub put_reply : List ℕ → List ℕ → ℕ → ℕ → Reply
put_reply cells index site len =
    refuse (not (sound cells index)) (1, 0)
    (refuse (bad_data len) (1, 0)
    (refuse (holds index site) (13, 0)
    (refuse (is_nowhere (room index 64 len)) (14, 0) (refuse (eqb (count index) 64) (15, 0) done))))

abbrev pub drop_reply : List ℕ → List ℕ → ℕ → Reply
drop_reply cells index site =
    refuse (not (sound cells index)) (1, 0)
    (refuse (not (holds index site)) (13, 0) done)

abbrev pub replace_reply : List ℕ → List ℕ → ℕ → ℕ → Reply
replace_reply cells index site len =
    refuse (not (sound cells index)) (1, 0)
    (refuse (bad_data len) (1, 0)
    (refuse (not (holds index site)) (13, 0)
    (refuse (is_nowhere (room index (entry_of index site) len)) (14, 0) done)))

-- a put needs a number that is not held, a replace one that is
abbrev pub misplaced : Bool → Bool → Bool
misplaced true held = not held
misplaced false held = held

-- the entry whose cells count as free: a replace's own
abbrev pub skipped : Bool → ℕ → ℕ
skipped true i = i
skipped false i = 64

-- a put needs a spare entry
abbrev pub is_full : Bool → ℕ → Bool
is_full true n = false
is_full false n = eqb n 64

-- both at once: `reply false` is `put_reply` and `reply true` is `replace_reply`
abbrev pub reply : Bool → List ℕ → List ℕ → ℕ → ℕ → Reply
reply again cells index site len =
    refuse (not (sound cells index)) (1, 0)
    (refuse (bad_data len) (1, 0)
    (refuse (misplaced again (holds index site)) (13, 0)
    (refuse (is_nowhere (room index (skipped again (entry_of index site)) len)) (14, 0) (refuse (is_full again (count index)) (15, 0) done))))

-- what the tests of a put and of a replace find
pub record Judged (again : Bool) (cells index : List ℕ) (site len : ℕ) (r : Result ℕ Refusal) : Type 0 where
  pub answer-is : paper r ≡ reply again cells index site len
  pub start_is : given 0 r ≡ if_done (paper r).0 (spot (room index (skipped again (entry_of index site)) len)) 0
