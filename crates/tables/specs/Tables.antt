-- The list style of every contract that fills a lent slice. Assumes nothing.
use Rattle.std.specs.Prelude.{List, [], ◌∷◌, ◌++◌, ℕ, zero, suc, drop}

-- m values, the i-th of them f i
unfoldable pub table : {A : Type 0} → ℕ → (ℕ → A) → List A
table zero f = []
table (suc m) f = table m f ++ f m ∷ []

-- the m first values are f's, and what lies past them is as it was
unfoldable pub filled : {A : Type 0} → ℕ → (ℕ → A) → List A → List A
unfolding table
filled m f old = table m f ++ drop m old
