-- `decode::decode_list` meets its contract. The loop's invariant: the first i cells are the entries, the others as they were.
-- Assumes nothing.
use mathlib.Core.Path.{◌≡◌}
use Rattle.cutfile.specs.Layout.{file_entry}
use Rattle.tables.specs.Tables.{filled}
use Rattle.decode.proofs.decode_list.Given as goal

abbrev pub invariant-loop-i : goal.invariant-loop-i
invariant-loop-i l = l.out ≡ filled l.i (file_entry l.file) l.initial.out
