-- The index and the cells after a call. Assumes nothing.
use Rattle.std.specs.Prelude.{List, ℕ, ◌+◌, ◌-◌, set}
use Rattle.slab_sites.specs.declared.Site.{Site}
use Rattle.slab_sites.specs.Sites.{count, set_site, shifted}
use Rattle.slab_cells.specs.Cells.{wiped}

-- ---- the index after a call

abbrev pub site_of : ℕ → ℕ → ℕ → Site
site_of number start cells = record { number = number; start = start; cells = cells }

-- one entry more
abbrev pub put_index : List ℕ → ℕ → ℕ → ℕ → List ℕ
put_index index site start cells = set (set_site index (count index) (site_of site start cells)) 0 (count index + 1)

-- the entries behind entry i have moved down by one, and the last is zeros
abbrev pub drop_index : List ℕ → ℕ → List ℕ
drop_index index i = set (set_site (shifted index i (count index - 1 - i)) (count index - 1) (site_of 0 0 0)) 0 (count index - 1)

-- entry i is new
abbrev pub replace_index : List ℕ → ℕ → ℕ → ℕ → ℕ → List ℕ
replace_index index i site start cells = set_site index i (site_of site start cells)

-- the cells of a site turn to +0.0
abbrev pub freed : Site → List ℕ → List ℕ
freed x cells = wiped x.start x.cells cells
