-- `svd_gram::fill_terms` meets its contract. The loop's invariant: the terms below j are there. Assumes nothing.
use Rattle.svd_gram.specs.Terms.{Terms}
use Rattle.svd_gram.proofs.fill_terms.Given as goal

abbrev pub invariant-loop-j : goal.invariant-loop-j
invariant-loop-j l = Terms l.xs l.c l.a l.b l.j l.terms
