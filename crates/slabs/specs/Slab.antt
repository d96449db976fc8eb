-- What each call answers and leaves. Assumes nothing.
use Rattle.std.specs.Prelude.{◌≡◌, List, ℕ, ◌*◌, ◌/◌, length}
use Rattle.answers.specs.Paper.{Answer, paper, if_done}
use Rattle.slab_sites.specs.Sites.{site_at}
use Rattle.slab_cells.specs.Cells.{pasted}
use Rattle.slab_tests.specs.Tests.{entry_of, room, spot, put_reply, drop_reply, replace_reply}
use Rattle.slab_changes.specs.Changes.{put_index, drop_index, replace_index, freed}

-- a put: its answer, and the cells and the index at its end; on a refusal both are as they were
pub record Put (cells index : List ℕ) (site : ℕ) (given : List ℕ) (r : Answer) (cells' index' : List ℕ) : Type 0 where
  pub answer : paper r ≡ put_reply cells index site (length given)
  pub cells_is : cells' ≡ if_done (paper r).0 (pasted (2 * spot (room index 64 (length given))) given cells) cells
  pub index_is : index' ≡ if_done (paper r).0 (put_index index site (spot (room index 64 (length given))) (length given / 2)) index

-- a drop
pub record Dropped (cells index : List ℕ) (site : ℕ) (r : Answer) (cells' index' : List ℕ) : Type 0 where
  pub answer : paper r ≡ drop_reply cells index site
  pub cells_is : cells' ≡ if_done (paper r).0 (freed (site_at index (entry_of index site)) cells) cells
  pub index_is : index' ≡ if_done (paper r).0 (drop_index index (entry_of index site)) index

-- a replace: the old cells are freed, then the data stand in the run
pub record Replaced (cells index : List ℕ) (site : ℕ) (given : List ℕ) (r : Answer) (cells' index' : List ℕ) : Type 0 where
  pub answer : paper r ≡ replace_reply cells index site (length given)
  pub cells_is : cells' ≡ if_done (paper r).0 (pasted (2 * spot (room index (entry_of index site) (length given))) given (freed (site_at index (entry_of index site)) cells)) cells
  pub index_is : index' ≡ if_done (paper r).0 (replace_index index (entry_of index site) site (spot (room index (entry_of index site) (length given))) (length given / 2)) index
