-- What an answer of 0 says of the call, and the bonds and the starts that it leaves. Assumes nothing.
use mathlib.Core.Path.{◌≡◌, sym, ap, ◌∙◌}
use mathlib.Core.List.{List, ◌++◌}
use Prim.Native.Nat.{ℕ, ◌+◌, ◌<◌}
use native.Mathlib.Omega.{arith}
use lib.ListN.{length, drop, get_or, get_or-append}
use lib.Ieee.{Float}
use Rattle.answers.specs.Paper.{Reply, paper}
use Rattle.answers.proofs.PaperLaws.{and_then-done, end-new}
use Rattle.std.specs.Prelude.{Result}
use Rattle.answers.specs.declared.Refusal.{Refusal}
use Rattle.chain_fill.specs.Fill.{bonds_of, starts_of, work_reply}
use Rattle.chain_checks.specs.Checks.{chain_tests, ChainAccepted}
use Rattle.chain_checks.proofs.CheckLaws.{accepted}
use Rattle.chains.specs.Chains.{chain_reply, ChainOfSites}
use Rattle.chains.proofs.BondLaws.{bonds-long, starts-long}

pub accepted-of : {s : List Float} {n : ℕ} {epsilon : Float} {limit : ℕ} {sites : List Float} {bonds starts marks : List ℕ} {matrix u vt scratch : List Float} {r : Result ℕ Refusal}
    {sites' : List Float} {bonds' starts' marks' : List ℕ} {matrix' u' vt' scratch' : List Float}
    → ChainOfSites s n epsilon limit sites bonds starts marks matrix u vt scratch r sites' bonds' starts' marks' matrix' u' vt' scratch' → (paper r).0 ≡ 0
    → ChainAccepted n limit (length s) (length sites) (length bonds) (length starts) (length marks) (length matrix) (length u) (length vt) (length scratch)
unfolding chain_reply
accepted-of {s = s} {n = n} {epsilon = epsilon} {limit = limit} {sites = sites} {bonds = bonds} {starts = starts} {marks = marks} {matrix = matrix} {u = u} {vt = vt} {scratch = scratch} c z =
    accepted s n limit (length sites) (length bonds) (length starts) (length marks) (length matrix) (length u) (length vt) (length scratch)
    (and_then-done (chain_tests s n limit (length sites) (length bonds) (length starts) (length marks) (length matrix) (length u) (length vt) (length scratch))
    (work_reply s n epsilon limit) (ap (λ (x : Reply). x.0) (sym c.answer) ∙ z)).0

pub bond-at : {s : List Float} {n : ℕ} {epsilon : Float} {limit : ℕ} {sites : List Float} {bonds starts marks : List ℕ} {matrix u vt scratch : List Float} {r : Result ℕ Refusal}
    {sites' : List Float} {bonds' starts' marks' : List ℕ} {matrix' u' vt' scratch' : List Float}
    → ChainOfSites s n epsilon limit sites bonds starts marks matrix u vt scratch r sites' bonds' starts' marks' matrix' u' vt' scratch' → (paper r).0 ≡ 0
    → (j : ℕ) → j < n + 1 → get_or bonds' j 0 ≡ get_or (bonds_of s n epsilon limit) j 0
bond-at {s = s} {n = n} {epsilon = epsilon} {limit = limit} {bonds = bonds} {r = r} c z j h =
    ap (λ (l : List ℕ). get_or l j 0) (c.bonds-is ∙ sym (end-new (paper r).0 (bonds_of s n epsilon limit ++ drop (n + 1) bonds) _ bonds z))
    ∙ get_or-append (bonds_of s n epsilon limit) (drop (n + 1) bonds) 0 j (omega (arith, bonds-long s n epsilon limit (accepted-of c z).some))

pub start-at : {s : List Float} {n : ℕ} {epsilon : Float} {limit : ℕ} {sites : List Float} {bonds starts marks : List ℕ} {matrix u vt scratch : List Float} {r : Result ℕ Refusal}
    {sites' : List Float} {bonds' starts' marks' : List ℕ} {matrix' u' vt' scratch' : List Float}
    → ChainOfSites s n epsilon limit sites bonds starts marks matrix u vt scratch r sites' bonds' starts' marks' matrix' u' vt' scratch' → (paper r).0 ≡ 0
    → (j : ℕ) → j < n + 1 → get_or starts' j 0 ≡ get_or (starts_of s n epsilon limit) j 0
start-at {s = s} {n = n} {epsilon = epsilon} {limit = limit} {starts = starts} {r = r} c z j h =
    ap (λ (l : List ℕ). get_or l j 0) (c.starts_is ∙ sym (end-new (paper r).0 (starts_of s n epsilon limit ++ drop (n + 1) starts) _ starts z))
    ∙ get_or-append (starts_of s n epsilon limit) (drop (n + 1) starts) 0 j (omega (arith, starts-long s n epsilon limit (accepted-of c z).some))
