-- The marks of a cut. Definitions only.
use Rattle.std.specs.Prelude.{Bool, true, false, List, [], ◌∷◌, ℕ}
use Rattle.sweeps.specs.declared.Sweeps.{Sweeps}

-- 1 where it is so, else 0
abbrev pub one_if : Bool → ℕ
one_if true = 1
one_if false = 0

-- the marks of a cut: the sweeps begun, 1 where the last was quiet else 0, the turned pairs
abbrev pub cut_marks : Sweeps → List ℕ
cut_marks t = t.begun ∷ one_if t.quiet ∷ t.turned ∷ []
