-- The lists of a plan: padded to twelve places, with a qubit left out, and whether two are the same. Assumes nothing.
use Rattle.std.specs.Prelude.{Bool, true, false, cond, ◌&&◌, List, [], ◌∷◌, ℕ, eqb, replicate}
use Rattle.qubit_offsets.specs.Calls.{fronted}

-- twelve places whose front is the list; the others hold 0
abbrev pub padded : List ℕ → List ℕ
padded l = fronted l (replicate 12 0)

-- the list without q, in its order
unfoldable pub without : ℕ → List ℕ → List ℕ
without q [] = []
without q (x ∷ l) = cond (eqb x q) (without q l) (x ∷ without q l)

-- the same numbers at the same places
unfoldable pub same_list : List ℕ → List ℕ → Bool
same_list [] [] = true
same_list [] (y ∷ m) = false
same_list (x ∷ l) [] = false
same_list (x ∷ l) (y ∷ m) = eqb x y && same_list l m
