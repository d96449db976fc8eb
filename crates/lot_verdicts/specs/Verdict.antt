-- The single result of a file. Definitions only.
use Rattle.std.specs.Prelude.{List, ℕ, length}
use Rattle.answers.specs.Paper.{if_done}
use Rattle.cutfile_result.specs.Result.{file_reply, file_values}

-- the number that the file is answered by, and how many values it keeps, 0 where it is refused
unfoldable pub verdict_of : List ℕ → ℕ × ℕ
unfolding file_reply
verdict_of file = ((file_reply file).0, if_done (file_reply file).0 (length (file_values file)) 0)
