-- The lowest run of free cells. Assumes nothing.
use Rattle.std.specs.Prelude.{Bool, true, false, cond, List, [], ◌∷◌, ℕ, zero, suc, Option, Some, None}

-- whether the first k cells are there and none of them is held
unfoldable pub free : ℕ → List Bool → Bool
free zero m = true
free (suc k) [] = false
free (suc k) (held ∷ m) = cond held false (free k m)

-- the first place, counted from s, from which k cells are free
unfoldable pub lowest : ℕ → ℕ → List Bool → Option ℕ
unfolding free
lowest k s [] = cond (free k []) (Some s) None
lowest k s (held ∷ m) = cond (free k (held ∷ m)) (Some s) (lowest k (suc s) m)
