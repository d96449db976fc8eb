-- The index of a slab and its sites. Assumes nothing.
use Rattle.std.specs.Prelude.{Bool, not, ◌&&◌, ◌||◌, List, ℕ, zero, suc, ◌+◌, ◌*◌, leb, ltb, eqb, get_or, set}
use Rattle.slab_sites.specs.declared.Site.{Site}
use Rattle.slab_sites.specs.Every.{every, some, seek}

-- how many sites are held
abbrev pub count : List ℕ → ℕ
count index = get_or index 0 0

-- entry i: a site's number, its first cell and its count of cells
abbrev pub site_at : List ℕ → ℕ → Site
site_at index i = record { number = get_or index (1 + 3 * i) 0; start = get_or index (2 + 3 * i) 0; cells = get_or index (3 + 3 * i) 0 }

-- the index with entry i set
abbrev pub set_site : List ℕ → ℕ → Site → List ℕ
set_site index i x = set (set (set index (1 + 3 * i) x.number) (2 + 3 * i) x.start) (3 + 3 * i) x.cells

-- the cell c is one of the site's
abbrev pub covers : Site → ℕ → Bool
covers x c = leb x.start c && ltb c (x.start + x.cells)

-- the site has a cell and does not leave the slab
abbrev pub inside : Site → Bool
inside x = not (eqb x.cells 0) && leb (x.start + x.cells) 4096

-- the two share neither their number nor a cell
abbrev pub apart : Site → Site → Bool
apart a b = not (eqb a.number b.number) && (leb (a.start + a.cells) b.start || leb (b.start + b.cells) a.start)

-- the site is apart from each of the first n
unfoldable pub apart_from : List ℕ → Site → ℕ → Bool
apart_from index x n = every (λ j. apart (site_at index j) x) n

-- each of the first n is inside, and apart from all before it
unfoldable pub each_apart : List ℕ → ℕ → Bool
unfolding apart_from
each_apart index n = every (λ i. inside (site_at index i) && apart_from index (site_at index i) i) n

-- the cell c is held by one of the first n sites, entry skip not counted
unfoldable pub held : List ℕ → ℕ → ℕ → ℕ → Bool
held index skip n c = some (λ i. not (eqb i skip) && covers (site_at index i) c) n

-- the first entry with that number, or n where none of the first n has it
unfoldable pub find_site : List ℕ → ℕ → ℕ → ℕ
find_site index number n = seek (λ i. eqb (site_at index i).number number) 0 n

-- the m entries behind entry i moved down by one
unfoldable pub shifted : List ℕ → ℕ → ℕ → List ℕ
shifted index i zero = index
shifted index i (suc m) = set_site (shifted index i m) (i + m) (site_at index (i + m + 1))
