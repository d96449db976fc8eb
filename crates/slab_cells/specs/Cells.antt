-- The cells of a slab, as a list of 8,192 patterns, and which of them are held. Assumes nothing.
use Rattle.std.specs.Prelude.{Bool, true, false, cond, ◌&&◌, ◌||◌, List, ℕ, zero, suc, ◌+◌, ◌*◌, eqb, get_or, set, replicate}
use Rattle.std.proofs.lemmas.List.Edits.{sets}
use Rattle.tables.specs.Tables.{table}
use Rattle.slab_sites.specs.declared.Site.{Site}
use Rattle.slab_sites.specs.Every.{every}
use Rattle.slab_sites.specs.Sites.{held}

-- both numbers of the cell c have the pattern of +0.0
abbrev pub blank : List ℕ → ℕ → Bool
blank cells c = eqb (get_or cells (2 * c) 0) 0 && eqb (get_or cells (2 * c + 1) 0) 0

-- every cell is held or +0.0
unfoldable pub clean : List Bool → List ℕ → Bool
clean map cells = every (λ c. get_or map c false || blank cells c) 4096

-- which cells the first n sites hold, entry skip not counted
unfoldable pub map_of : List ℕ → ℕ → ℕ → List Bool
map_of index skip n = table 4096 (held index skip n)

-- the map with the cells from start on held, count of them
unfoldable pub marked : ℕ → ℕ → List Bool → List Bool
marked start zero map = map
marked start (suc count) map = set (marked start count map) (start + count) true

-- the map with the cells of entry i held, unless that entry is not counted
unfoldable pub marked_entry : Site → ℕ → ℕ → List Bool → List Bool
unfolding marked
marked_entry x i skip map = cond (eqb i skip) map (marked x.start x.cells map)

-- the numbers with the data stored from number at on
unfoldable pub pasted : ℕ → List ℕ → List ℕ → List ℕ
pasted at given cells = sets cells at given

-- the cells from start on, count of them, +0.0
unfoldable pub wiped : ℕ → ℕ → List ℕ → List ℕ
unfolding pasted
wiped start count cells = pasted (2 * start) (replicate (2 * count) 0) cells
