-- The chain of sites: what its first steps leave, and the room that they ask. Definitions only.
use Rattle.std.specs.Prelude.{List, [], ◌∷◌, ◌++◌, ℕ, zero, suc, ◌+◌, ◌-◌, ◌*◌, ◌^◌, min, Float}
use Rattle.answers.specs.Paper.{Reply, done, and_then}
use Rattle.site_ranks.specs.Ranks.{rank_of, discards_of}
use Rattle.cut_marks.specs.Marks.{one_if, cut_marks}
use Rattle.svd.specs.Svd.{s_of, svd_sweeps}
use Rattle.chain_step.specs.Step.{columnwise, step_site, carried_on, step_reply}

-- after so many steps: the bond, the cells of the sites so far, what is carried, the sites one after another, the rank of each cut, the cell
-- after each site, the marks of each cut's SVD, and how many cuts dropped a value above the resolution
pub record Links : Type 0 where
  pub bond : ℕ
  pub at : ℕ
  pub carried : List Float
  pub sites : List Float
  pub ranks : List ℕ
  pub ends : List ℕ
  pub marks : List ℕ
  pub dropped : ℕ

-- the next step's matrix, of so many columns, and its rank
abbrev pub next_matrix : Links → ℕ → List Float
next_matrix l columns = columnwise l.carried (2 * l.bond) columns

abbrev pub next_rank : Links → ℕ → Float → ℕ → ℕ
next_rank l columns epsilon limit = rank_of (s_of (next_matrix l columns) (2 * l.bond) columns) epsilon limit

-- one step more
abbrev pub linked : Links → ℕ → Float → ℕ → Links
linked l columns epsilon limit =
    let rows = 2 * l.bond in
    let a = next_matrix l columns in
    let chi = next_rank l columns epsilon limit in
    record {
      bond = chi;
      at = l.at + rows * chi;
      carried = carried_on a rows columns chi;
      sites = l.sites ++ step_site a rows columns chi;
      ranks = l.ranks ++ chi ∷ [];
      ends = l.ends ++ (l.at + rows * chi) ∷ [];
      marks = l.marks ++ cut_marks (svd_sweeps a rows columns);
      dropped = l.dropped + one_if (discards_of (s_of a rows columns) chi);
    }

-- from the rows `first`
unfoldable pub links_to : List Float → ℕ → Float → ℕ → ℕ → Links
links_to first n epsilon limit zero = record { bond = 1; at = 0; carried = first; sites = []; ranks = []; ends = []; marks = []; dropped = 0 }
links_to first n epsilon limit (suc j) = linked (links_to first n epsilon limit j) (2 ^ (n - 1 - j)) epsilon limit

-- the answer of the first so many steps
unfoldable pub reply_to : List Float → ℕ → Float → ℕ → ℕ → Reply
unfolding links_to
reply_to first n epsilon limit zero = done
reply_to first n epsilon limit (suc j) =
    let l = links_to first n epsilon limit j in
    let columns = 2 ^ (n - 1 - j) in
    and_then (reply_to first n epsilon limit j) (step_reply (next_matrix l columns) (2 * l.bond) columns (next_rank l columns epsilon limit))

-- ---- the room

-- B(j): the widest that the bond before site j can be
unfoldable pub most_of : ℕ → ℕ → ℕ → ℕ
most_of n limit j = min limit (min (2 ^ j) (2 ^ (n - j)))

-- the cells that the first j sites can take
unfoldable pub room_to : ℕ → ℕ → ℕ → ℕ
unfolding most_of
room_to n limit zero = 0
room_to n limit (suc j) = room_to n limit j + 2 * most_of n limit j * most_of n limit (suc j)
