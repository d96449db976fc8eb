-- Whether each number of a list is an allowed component, and that nothing is refused then. Assumes nothing.
use Rattle.std.specs.Prelude.{Bool, true, ◌&&◌, List, [], ◌∷◌, Float}
use Rattle.numbers.specs.Numbers.{allowed}

unfoldable pub every_allowed : List Float → Bool
every_allowed [] = true
every_allowed (x ∷ l) = allowed x && every_allowed l
