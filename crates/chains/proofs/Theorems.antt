-- What a reader may want to know of the chain of sites. Assumes nothing.
use mathlib.Core.Path.{◌≡◌, refl, sym, ap, ◌∙◌}
use mathlib.Core.Bool.{Bool}
use mathlib.Core.List.{List, [], ◌∷◌, ◌++◌}
use Prim.Native.Nat.{ℕ, suc, ◌+◌, ◌-◌, ◌*◌, ◌≤◌, ◌<◌}
use native.Mathlib.Omega.{arith}
use lib.ListN.{get_or}
use lib.Ieee.{Float}
use Rattle.answers.specs.Paper.{paper, given}
use Rattle.answers.proofs.Theorems.{result-one}
use Rattle.site_ranks.specs.Ranks.{rank_of, discards_of, widest_of}
use Rattle.sweeps.specs.declared.Sweeps.{Sweeps}
use Rattle.svd.specs.Svd.{s_of, svd_sweeps}
use Rattle.chain_start.specs.Start.{carried_first}
use Rattle.chain_step.specs.Step.{columnwise, step_site, carried_on}
use Rattle.chain_walk.specs.Chain.{Links, most_of}
use Rattle.std.specs.Prelude.{Result}
use Rattle.answers.specs.declared.Refusal.{Refusal}
use Rattle.chain_fill.specs.Fill.{last_of, chain_of, bonds_of, starts_of, marks_of, dropped_of}
use Rattle.chains.specs.Chains.{ChainOfSites}
use Rattle.chains.specs.ByHand.{HandStep, HandWalk}
use Rattle.chains.proofs.BondLaws.{bond-few, bond-first, bond-last, start_first, start-next}
use Rattle.chains.proofs.OutcomeLaws.{accepted-of, bond-at, start-at}
use Rattle.chains.proofs.HandLaws.{hand-made, hand-walked}

-- Only one outcome meets the contract of `chain_of_sites`: its answer, its count of drops, and every cell of the eight lent slices.
pub chain-of-sites-one : (s : List Float) (n : ℕ) (epsilon : Float) (limit : ℕ) (sites : List Float) (bonds starts marks : List ℕ) (matrix u vt scratch : List Float)
    (r q : Result ℕ Refusal) (sites' : List Float) (bonds' starts' marks' : List ℕ) (matrix' u' vt' scratch' : List Float)
    (sites'' : List Float) (bonds'' starts'' marks'' : List ℕ) (matrix'' u'' vt'' scratch'' : List Float)
    → ChainOfSites s n epsilon limit sites bonds starts marks matrix u vt scratch r sites' bonds' starts' marks' matrix' u' vt' scratch'
    → ChainOfSites s n epsilon limit sites bonds starts marks matrix u vt scratch q sites'' bonds'' starts'' marks'' matrix'' u'' vt'' scratch''
    → (r ≡ q) × (sites' ≡ sites'') × (bonds' ≡ bonds'') × (starts' ≡ starts'') × (marks' ≡ marks'')
    × (matrix' ≡ matrix'') × (u' ≡ u'') × (vt' ≡ vt'') × (scratch' ≡ scratch'')
chain-of-sites-one s n epsilon limit sites bonds starts marks matrix u vt scratch r q sites' bonds' starts' marks' matrix' u' vt' scratch' sites'' bonds'' starts'' marks'' matrix'' u'' vt'' scratch'' x y =
    let e : paper r ≡ paper q = x.answer ∙ sym y.answer in (
      result-one r q e (λ a b f g. ap (given 0) (sym f) ∙ x.dropped-is ∙ rw e (sym y.dropped-is) ∙ ap (given 0) g),
      x.sites-is ∙ rw e (sym y.sites-is),
      x.bonds-is ∙ rw e (sym y.bonds-is),
      x.starts_is ∙ rw e (sym y.starts_is),
      x.marks-is ∙ rw e (sym y.marks-is),
      x.matrix-is ∙ rw e (sym y.matrix-is),
      x.u-is ∙ rw e (sym y.u-is),
      x.vt_is ∙ rw e (sym y.vt_is),
      x.scratch-is ∙ rw e (sym y.scratch-is),
    )

-- No inner bond of a chain exceeds the limit, or B(j), or what `widest_block_cut` says of a block of n sites whose ends are 1.
pub bond-most : {s : List Float} {n : ℕ} {epsilon : Float} {limit : ℕ} {sites : List Float} {bonds starts marks : List ℕ} {matrix u vt scratch : List Float} {r : Result ℕ Refusal}
    {sites' : List Float} {bonds' starts' marks' : List ℕ} {matrix' u' vt' scratch' : List Float}
    → ChainOfSites s n epsilon limit sites bonds starts marks matrix u vt scratch r sites' bonds' starts' marks' matrix' u' vt' scratch' → (paper r).0 ≡ 0
    → (j : ℕ) → 1 ≤ j → j < n → (get_or bonds' j 0 ≤ limit) × (get_or bonds' j 0 ≤ most_of n limit j) × (get_or bonds' j 0 ≤ widest_of 1 1 n)
bond-most {s = s} {n = n} {epsilon = epsilon} {limit = limit} c z j h k =
    let a = accepted-of c z in
    rw (bond-at c z j (omega arith)) (bond-few s n epsilon limit j a.limit-some h k)

-- The shapes chain up: the first bond and the last are 1, the first site starts at cell 0, and site j, of shape (bonds[j], 2, bonds[j+1]), takes the
-- cells from starts[j] to starts[j+1].
pub shapes-chain : {s : List Float} {n : ℕ} {epsilon : Float} {limit : ℕ} {sites : List Float} {bonds starts marks : List ℕ} {matrix u vt scratch : List Float} {r : Result ℕ Refusal}
    {sites' : List Float} {bonds' starts' marks' : List ℕ} {matrix' u' vt' scratch' : List Float}
    → ChainOfSites s n epsilon limit sites bonds starts marks matrix u vt scratch r sites' bonds' starts' marks' matrix' u' vt' scratch' → (paper r).0 ≡ 0
    → (get_or bonds' 0 0 ≡ 1) × (get_or bonds' n 0 ≡ 1) × (get_or starts' 0 0 ≡ 0)
    × ((j : ℕ) → j < n → get_or starts' (suc j) 0 ≡ get_or starts' j 0 + 2 * get_or bonds' j 0 * get_or bonds' (suc j) 0)
shapes-chain {s = s} {n = n} {epsilon = epsilon} {limit = limit} c z =
    let a = accepted-of c z in (
      bond-at c z 0 (omega arith) ∙ bond-first s n epsilon limit,
      bond-at c z n (omega arith) ∙ bond-last s n epsilon limit n a.some refl,
      start-at c z 0 (omega arith) ∙ start_first s n epsilon limit,
      λ j h.
          rw (start-at c z (suc j) (omega arith), start-at c z j (omega arith), bond-at c z j (omega arith), bond-at c z (suc j) (omega arith))
          (start-next s n epsilon limit j h),
    )

-- One step by hand: where `svd_jacobi`, the two ranks and the two fills, called in that order over any buffers, answer 0, their rank, their mark, their
-- sweeps and their cells are the step's.
pub step-by-hand : (carried : List Float) (bond columns : ℕ) (epsilon : Float) (limit chi : ℕ) (drops : Bool) (sweeps : Sweeps) (site on : List Float)
    → HandStep carried bond columns epsilon limit chi drops sweeps site on
    → let a = columnwise carried (2 * bond) columns in
    (chi ≡ rank_of (s_of a (2 * bond) columns) epsilon limit) × (drops ≡ discards_of (s_of a (2 * bond) columns) chi) × (sweeps ≡ svd_sweeps a (2 * bond) columns)
    × (site ≡ step_site a (2 * bond) columns chi) × (on ≡ carried_on a (2 * bond) columns chi)
step-by-hand carried bond columns epsilon limit chi drops sweeps site on h =
    let m = hand-made carried bond columns epsilon limit chi drops sweeps site on h in (m.chi-is, m.drops-is, m.sweeps-are, m.site-is, m.on-is)

-- The whole chain by hand: where every call of n - 1 steps answers 0, the sites, the bonds, the marks and the count of drops that they leave are the call's.
pub by_hand : (s : List Float) (n : ℕ) (epsilon : Float) (limit : ℕ) (w : Links) → HandWalk (carried_first s n) n epsilon limit (n - 1) w
    → (chain_of s n epsilon limit ≡ w.sites ++ w.carried) × (bonds_of s n epsilon limit ≡ 1 ∷ (w.ranks ++ 1 ∷ []))
    × (starts_of s n epsilon limit ≡ 0 ∷ (w.ends ++ (w.at + 2 * w.bond) ∷ [])) × (marks_of s n epsilon limit ≡ w.marks) × (dropped_of s n epsilon limit ≡ w.dropped)
unfolding last_of chain_of bonds_of starts_of marks_of dropped_of
by_hand s n epsilon limit w h =
    let e = hand-walked (carried_first s n) n epsilon limit (n - 1) w h in (
      ap (λ (l : Links). l.sites ++ l.carried) (sym e),
      ap (λ (l : Links). 1 ∷ (l.ranks ++ 1 ∷ [])) (sym e),
      ap (λ (l : Links). 0 ∷ (l.ends ++ (l.at + 2 * l.bond) ∷ [])) (sym e),
      ap (λ (l : Links). l.marks) (sym e),
      ap (λ (l : Links). l.dropped) (sym e),
    )
