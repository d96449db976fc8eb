-- The lengths that the page of a chain's cuts asks, and its refusals before the work. Definitions only.
use Rattle.std.specs.Prelude.{List, [], ◌∷◌, ℕ, ◌+◌, ◌-◌, ◌*◌, ◌/◌, ◌^◌, length, Float}
use Rattle.answers.specs.Paper.{Reply, and_then, exactly, room}
use Rattle.complex.specs.Cells.{components}
use Rattle.cut_sides.specs.Sides.{cut_refusal}
use Rattle.profile_cut.specs.Cut.{marks_each}
use Rattle.profile_walk.specs.Page.{cuts_room}

-- ---- the needed lengths

-- a count and an offset for each of the n - 1 cuts
abbrev pub page_header : ℕ → ℕ
page_header n = 2 * (n - 1)

-- the sum over j < n - 1 of 2^min(j + 1, n - 1 - j)
abbrev pub page_values : ℕ → ℕ
page_values n = cuts_room n (n - 1)

abbrev pub page_marks : ℕ → ℕ
page_marks n = marks_each * (n - 1)

abbrev pub page_scratch : ℕ → ℕ
page_scratch n = 8 * 2 ^ n + 2 * 2 ^ (n / 2)

-- ---- the refusals, in their order

-- 6 of the state, slice 0, which has exactly 2·2^n numbers, and of header, values and largest
unfoldable pub page_lengths : ℕ → ℕ → ℕ → ℕ → ℕ → Reply
page_lengths n state header values largest =
    and_then (exactly 0 state (2 * 2 ^ n))
    (and_then (room 1 header (page_header n)) (and_then (room 2 values (page_values n)) (room 3 largest (n - 1))))

-- 6 of ranks, marks and scratch
unfoldable pub index_lengths : ℕ → ℕ → ℕ → ℕ → Reply
index_lengths n ranks marks scratch =
    and_then (room 4 ranks (n - 1)) (and_then (room 5 marks (page_marks n)) (room 6 scratch (page_scratch n)))

-- 1, and 5 where n is 1, as the cut that names qubit 0; then 6, then 7
unfoldable pub profile_tests : List Float → ℕ → ℕ → ℕ → ℕ → ℕ → ℕ → ℕ → ℕ → Reply
profile_tests s n cap header values largest ranks marks scratch =
    and_then (cut_refusal (0 ∷ []) n cap)
    (and_then (page_lengths n (length s) header values largest) (and_then (index_lengths n ranks marks scratch) (components 0 s)))
