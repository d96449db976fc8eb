-- `replay::next_word`: the word goes on in the text. Assumes nothing.
use Rattle.std.proofs.Common.{◌<◌, ◌≤◌, length}
use Rattle.replay.proofs.next_word.Given as goal

abbrev pub invariant-loop-i : goal.invariant-loop-i
invariant-loop-i l = (l.next ≤ length l.text) × (l.start < l.next → l.start < length l.text)
