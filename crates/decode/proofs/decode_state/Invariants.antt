-- `decode::decode_state` meets its contract. The loop's invariant: the first j cells are the file's components, the others as they were.
-- Assumes nothing.
use mathlib.Core.Path.{◌≡◌}
use Rattle.cutfile.specs.Layout.{component_at}
use Rattle.tables.specs.Tables.{filled}
use Rattle.decode.proofs.decode_state.Given as goal

abbrev pub invariant-loop-j : goal.invariant-loop-j
invariant-loop-j l = l.out ≡ filled l.j (component_at l.file l.k) l.initial.out
