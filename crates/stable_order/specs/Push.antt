-- A value put into a list at a place: those from there on move up by one, and the last one falls off. Assumes nothing.
use Rattle.std.specs.Prelude.{List, [], ◌∷◌, ◌++◌, ℕ, take, drop}

unfoldable pub push : {A : Type 0} → A → List A → List A
push x [] = []
push x (y ∷ ys) = x ∷ push y ys

unfoldable pub push_at : {A : Type 0} → List A → ℕ → A → List A
push_at l i x = take i l ++ push x (drop i l)
