-- Whole numbers with a sign: over less under. Definitions only.
use Rattle.std.specs.Prelude.{Bool, ℕ, ◌+◌, ◌-◌, ◌*◌, leb}
use Rattle.countersign_sums.specs.declared.Whole.{Whole}

abbrev pub whole_of : ℕ → ℕ → Whole
whole_of p m = record { over = p; under = m }

abbrev pub plus_of : Whole → Whole → Whole
plus_of a b = whole_of (a.over + b.over) (a.under + b.under)

abbrev pub times_of : Whole → Whole → Whole
times_of a b = whole_of (a.over * b.over + a.under * b.under) (a.over * b.under + a.under * b.over)

abbrev pub opposite_of : Whole → Whole
opposite_of a = whole_of a.under a.over

-- how far it is from 0: one of the two differences is 0
abbrev pub apart : Whole → ℕ
apart a = a.over - a.under + (a.under - a.over)

-- a is b or less: both with what is under added to both sides
abbrev pub at_most : Whole → Whole → Bool
at_most a b = leb (a.over + b.under) (b.over + a.under)

-- what bounds both of its numbers, and those of sums and products
abbrev pub weight : Whole → ℕ
weight a = a.over + a.under
