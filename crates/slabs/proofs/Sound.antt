-- A sound slab as facts, and the index after each call. Assumes nothing.
use mathlib.Core.Path.{◌≡◌, sym, ◌∙◌}
use mathlib.Core.Bool.{true, false, ◌&&◌}
use mathlib.Core.List.{List}
use Prim.Native.Nat.{ℕ, ◌+◌, ◌-◌, ◌*◌, ◌/◌, ◌≤◌, ◌<◌}
use native.Mathlib.Omega.{arith}
use lib.Dec.{leb}
use lib.ListN.{length, get_or}
use lib.Seq.{get_or-set_same}
use borrow.Author.Tests.{le-leb}
use Rattle.std.proofs.Common.{Some}
use Rattle.slab_runs.proofs.Theorems.{lowest-cell}
use Rattle.slab_sites.specs.Sites.{count, site_at, set_site, covers, each_apart, shifted}
use Rattle.slab_sites.proofs.EveryLaws.{both}
use Rattle.slab_sites.proofs.SiteLaws.{set_same, set_other, set-elsewhere, length-set-site, shift-low, shift-moved, length-shifted, count-apart}
use Rattle.slab_sites.proofs.IndexLaws.{Inside, Apart, each-inside, each-pair, each_all, held-not, not-held}
use Rattle.slab_cells.specs.Cells.{map_of, clean}
use Rattle.slab_cells.proofs.CellLaws.{map_at}
use Rattle.slab_cells.proofs.PasteLaws.{clean-says, says-clean}
use Rattle.slab_tests.specs.Tests.{sound, bad_data, room}
use Rattle.slab_changes.specs.Changes.{site_of, put_index, drop_index, replace_index}
use Rattle.slab_tests.proofs.TestLaws.{sound-count, sound-apart, sound-clean, one_cell, room_fits}

-- at most 64 sites, each with a cell and inside the slab, no two with a number or a cell in common, every free
-- cell +0.0
pub record Sound (cells index : List ℕ) : Type 0 where
  pub few : count index ≤ 64
  pub each : (i : ℕ) → i < count index → Inside (site_at index i)
  pub pairs : (j i : ℕ) → j < count index → i < count index → (j ≡ i → ⊥) → Apart (site_at index j) (site_at index i)
  pub zeros : (c : ℕ) → c < 4096 → ((i : ℕ) → i < count index → covers (site_at index i) c ≡ false) → (get_or cells (2 * c) 0 ≡ 0) × (get_or cells (2 * c + 1) 0 ≡ 0)

pub sound-says : (cells index : List ℕ) → sound cells index ≡ true → Sound cells index
sound-says cells index s = record {
  few = sound-count cells index s;
  each = each-inside index (count index) (sound-apart cells index s);
  pairs = each-pair index (count index) (sound-apart cells index s);
  zeros = λ c h f. clean-says index cells 64 (count index) (sound-clean cells index s) c h (not-held index 64 (count index) c (λ i l d. f i l));
}

pub says-sound : (cells index : List ℕ) → Sound cells index → sound cells index ≡ true
unfolding sound
says-sound cells index s =
    both (leb (count index) 64) (each_apart index (count index) && clean (map_of index 64 (count index)) cells) (le-leb (count index) 64 s.few)
    (both (each_apart index (count index)) (clean (map_of index 64 (count index)) cells)
    (each_all index (count index) s.each (λ j i h l. s.pairs j i (omega arith) l (λ e. omega arith)))
    (says-clean index cells 64 (count index)
    (λ c h f. s.zeros c h (λ i l. held-not index 64 (count index) c f i l (λ e. omega (arith, s.few))))))

-- ---- the index after each call

module _ (index : List ℕ) (site start k : ℕ) (long : length index ≡ 193) (h : count index < 64) where
  pub put_count : count (put_index index site start k) ≡ count index + 1
  put_count =
      get_or-set_same (set_site index (count index) (site_of site start k)) 0 (count index + 1) 0
      (omega (arith, length-set-site index (count index) (site_of site start k)))

  pub put-new : site_at (put_index index site start k) (count index) ≡ site_of site start k
  put-new =
      count-apart (set_site index (count index) (site_of site start k)) (count index + 1) (count index)
      ∙ set_same index (count index) (site_of site start k) (omega arith)

  pub put-old : (j : ℕ) → (j ≡ count index → ⊥) → site_at (put_index index site start k) j ≡ site_at index j
  put-old j n =
      count-apart (set_site index (count index) (site_of site start k)) (count index + 1) j ∙ set_other index (count index) (site_of site start k) j n

module _ (index : List ℕ) (i : ℕ) (long : length index ≡ 193) (few : count index ≤ 64) (h : i < count index) where
  abbrev gap : List ℕ
  gap = shifted index i (count index - 1 - i)

  pub drop-count : count (drop_index index i) ≡ count index - 1
  drop-count =
      get_or-set_same (set_site gap (count index - 1) (site_of 0 0 0)) 0 (count index - 1) 0
      (omega (arith, length-set-site gap (count index - 1) (site_of 0 0 0), length-shifted index i (count index - 1 - i)))

  -- an entry before the gap
  pub drop-low : (j : ℕ) → j < i → site_at (drop_index index i) j ≡ site_at index j
  drop-low j l =
      count-apart (set_site gap (count index - 1) (site_of 0 0 0)) (count index - 1) j
      ∙ set_other gap (count index - 1) (site_of 0 0 0) j (λ e. omega arith)
      ∙ shift-low index i (count index - 1 - i) j l

  -- an entry behind it
  pub drop-high : (j : ℕ) → i ≤ j → j + 1 < count index → site_at (drop_index index i) j ≡ site_at index (j + 1)
  drop-high j l m =
      count-apart (set_site gap (count index - 1) (site_of 0 0 0)) (count index - 1) j
      ∙ set_other gap (count index - 1) (site_of 0 0 0) j (λ e. omega arith)
      ∙ shift-moved index i (count index - 1 - i) j l (omega arith) (omega arith)

module _ (index : List ℕ) (i site start k : ℕ) where
  pub replace-count : count (replace_index index i site start k) ≡ count index
  replace-count = set-elsewhere index i (site_of site start k) 0 (λ e. omega arith) (λ e. omega arith) (λ e. omega arith)

  pub replace-other : (j : ℕ) → (j ≡ i → ⊥) → site_at (replace_index index i site start k) j ≡ site_at index j
  replace-other j n = set_other index i (site_of site start k) j n

  pub replace-new : length index ≡ 193 → i < 64 → site_at (replace_index index i site start k) i ≡ site_of site start k
  replace-new long h = set_same index i (site_of site start k) (omega arith)

-- ---- the run

-- no site but the one passed over covers a cell of the run
pub room-free : (index : List ℕ) (skip len s c : ℕ) → bad_data len ≡ false → room index skip len ≡ Some s → s ≤ c → c < s + len / 2
    → (i : ℕ) → i < count index → (i ≡ skip → ⊥) → covers (site_at index i) c ≡ false
unfolding room
room-free index skip len s c b e h l i m d =
    let w = room_fits index skip len s b e in
    held-not index skip (count index) c
    (sym (map_at index skip (count index) c (omega arith)) ∙ lowest-cell (len / 2) (map_of index skip (count index)) (one_cell len b) s c e h l)
    i m d
