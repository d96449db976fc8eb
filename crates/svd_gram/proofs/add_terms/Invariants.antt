-- `svd_gram::add_terms` meets its contract. The loop's invariant: the sums have the terms below j. Assumes nothing.
use mathlib.Core.Path.{◌≡◌}
use Rattle.svd_gram.specs.Terms.{added_to}
use Rattle.svd_gram.proofs.add_terms.Given as goal

abbrev pub invariant-loop-j : goal.invariant-loop-j
invariant-loop-j l = l.sums ≡ added_to l.initial.sums l.terms l.j
