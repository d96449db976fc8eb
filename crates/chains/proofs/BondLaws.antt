-- The bonds and the starts of a chain, number by number. Assumes nothing.
use mathlib.Core.Path.{◌≡◌, refl, ap, ap₂, ◌∙◌}
use mathlib.Core.Bool.{Bool, true, false}
use mathlib.Core.List.{List, [], ◌∷◌, ◌++◌}
use Prim.Native.Nat.{ℕ, zero, suc, ◌+◌, ◌-◌, ◌*◌, ◌^◌, ◌≤◌, ◌<◌, min, max}
use native.Mathlib.Nat.{le_trans}
use native.Mathlib.Omega.{arith}
use lib.ListN.{length, length-append, get_or, get_or-append}
use lib.Seq.{get_or_at}
use lib.Dec.{ltb}
use lib.Ieee.{Float}
use borrow.Author.Tests.{ltb-true, ltb-false}
use Rattle.site_ranks.specs.Ranks.{cut_after, widest_to, widest_of}
use Rattle.chain_start.specs.Start.{carried_first}
use Rattle.chain_walk.specs.Chain.{Links, links_to, most_of}
use Rattle.chain_walk.proofs.ChainLaws.{bounds}
use Rattle.chain_fill.specs.Fill.{last_of, bonds_of, starts_of}

-- a list with one number more
more-before : (l : List ℕ) (x i : ℕ) → i < length l → get_or (l ++ x ∷ []) i 0 ≡ get_or l i 0
more-before l x i h = get_or-append l (x ∷ []) 0 i h

more-last : (l : List ℕ) (x i : ℕ) → length l ≡ i → get_or (l ++ x ∷ []) i 0 ≡ x
more-last l x i e = get_or_at l x [] 0 i e

module _ (first : List Float) (n : ℕ) (epsilon : Float) (limit : ℕ) where
  steps : ℕ → Links
  steps j = links_to first n epsilon limit j

  ranks-long : (m : ℕ) → length (links_to first n epsilon limit m).ranks ≡ m
  unfolding links_to
  ranks-long zero = refl
  ranks-long (suc m) = length-append (links_to first n epsilon limit m).ranks _ ∙ omega (arith, ranks-long m)

  ends-long : (m : ℕ) → length (links_to first n epsilon limit m).ends ≡ m
  unfolding links_to
  ends-long zero = refl
  ends-long (suc m) = length-append (links_to first n epsilon limit m).ends _ ∙ omega (arith, ends-long m)

  -- the rank of cut i is the bond after step i
  rank-at : (m i : ℕ) → i < m → get_or (links_to first n epsilon limit m).ranks i 0 ≡ (links_to first n epsilon limit (suc i)).bond
  unfolding links_to
  rank-at zero i h = absurd (omega arith)
  rank-at (suc m) i h = pick (ltb i m) refl (λ (k : i < m). rank-at m i k)
    where
      pick : (b : Bool) → ltb i m ≡ b → (i < m → get_or (links_to first n epsilon limit m).ranks i 0 ≡ (links_to first n epsilon limit (suc i)).bond) → get_or (links_to first n epsilon limit (suc m)).ranks i 0 ≡ (links_to first n epsilon limit (suc i)).bond
      pick true e before =
          let k : i < m = ltb-true i m e in
          let l : i < length (links_to first n epsilon limit m).ranks = omega (arith, ranks-long m) in
          more-before (links_to first n epsilon limit m).ranks _ i l ∙ before k
      pick false e before =
          let k : m ≤ i = ltb-false i m e in
          let j : m ≡ i = omega arith in
          more-last (links_to first n epsilon limit m).ranks _ i (ranks-long m ∙ j) ∙ ap (λ (x : ℕ). (links_to first n epsilon limit (suc x)).bond) j

  end-at : (m i : ℕ) → i < m → get_or (links_to first n epsilon limit m).ends i 0 ≡ (links_to first n epsilon limit (suc i)).at
  unfolding links_to
  end-at zero i h = absurd (omega arith)
  end-at (suc m) i h = pick (ltb i m) refl (λ (k : i < m). end-at m i k)
    where
      pick : (b : Bool) → ltb i m ≡ b → (i < m → get_or (links_to first n epsilon limit m).ends i 0 ≡ (links_to first n epsilon limit (suc i)).at) → get_or (links_to first n epsilon limit (suc m)).ends i 0 ≡ (links_to first n epsilon limit (suc i)).at
      pick true e before =
          let k : i < m = ltb-true i m e in
          let l : i < length (links_to first n epsilon limit m).ends = omega (arith, ends-long m) in
          more-before (links_to first n epsilon limit m).ends _ i l ∙ before k
      pick false e before =
          let k : m ≤ i = ltb-false i m e in
          let j : m ≡ i = omega arith in
          more-last (links_to first n epsilon limit m).ends _ i (ends-long m ∙ j) ∙ ap (λ (x : ℕ). (links_to first n epsilon limit (suc x)).at) j

  -- a site's cells: where it ends
  at_next : (j : ℕ) → (links_to first n epsilon limit (suc j)).at
      ≡ (links_to first n epsilon limit j).at + 2 * (links_to first n epsilon limit j).bond * (links_to first n epsilon limit (suc j)).bond
  unfolding links_to
  at_next j = refl

module _ (s : List Float) (n : ℕ) (epsilon : Float) (limit : ℕ) where
  first : List Float
  first = carried_first s n

  pub bonds-long : 1 ≤ n → length (bonds_of s n epsilon limit) ≡ n + 1
  unfolding bonds_of last_of
  bonds-long h =
      let a = length-append (links_to (carried_first s n) n epsilon limit (n - 1)).ranks (1 ∷ []) in
      omega (arith, a, ranks-long (carried_first s n) n epsilon limit (n - 1))

  pub starts-long : 1 ≤ n → length (starts_of s n epsilon limit) ≡ n + 1
  unfolding starts_of last_of
  starts-long h =
      let l = links_to (carried_first s n) n epsilon limit (n - 1) in
      let a = length-append l.ends ((l.at + 2 * l.bond) ∷ []) in
      omega (arith, a, ends-long (carried_first s n) n epsilon limit (n - 1))

  -- the bond before step j, j at most n - 1
  pub bond-of : (j : ℕ) → j < n → get_or (bonds_of s n epsilon limit) j 0 ≡ (links_to (carried_first s n) n epsilon limit j).bond
  unfolding bonds_of last_of links_to
  bond-of zero h = refl
  bond-of (suc i) h =
      let k : i < n - 1 = omega arith in
      let l : i < length (links_to (carried_first s n) n epsilon limit (n - 1)).ranks = omega (arith, ranks-long (carried_first s n) n epsilon limit (n - 1)) in
      more-before (links_to (carried_first s n) n epsilon limit (n - 1)).ranks 1 i l ∙ rank-at (carried_first s n) n epsilon limit (n - 1) i k

  pub bond-first : get_or (bonds_of s n epsilon limit) 0 0 ≡ 1
  unfolding bonds_of
  bond-first = refl

  pub start_first : get_or (starts_of s n epsilon limit) 0 0 ≡ 0
  unfolding starts_of
  start_first = refl

  pub bond-last : (j : ℕ) → 1 ≤ n → j ≡ n → get_or (bonds_of s n epsilon limit) j 0 ≡ 1
  unfolding bonds_of last_of
  bond-last zero h e = absurd (omega arith)
  bond-last (suc i) h e =
      let k : length (links_to (carried_first s n) n epsilon limit (n - 1)).ranks ≡ i = omega (arith, ranks-long (carried_first s n) n epsilon limit (n - 1)) in
      more-last (links_to (carried_first s n) n epsilon limit (n - 1)).ranks 1 i k

  pub start_of : (j : ℕ) → j < n → get_or (starts_of s n epsilon limit) j 0 ≡ (links_to (carried_first s n) n epsilon limit j).at
  unfolding starts_of last_of links_to
  start_of zero h = refl
  start_of (suc i) h =
      let k : i < n - 1 = omega arith in
      let l : i < length (links_to (carried_first s n) n epsilon limit (n - 1)).ends = omega (arith, ends-long (carried_first s n) n epsilon limit (n - 1)) in
      more-before (links_to (carried_first s n) n epsilon limit (n - 1)).ends _ i l ∙ end-at (carried_first s n) n epsilon limit (n - 1) i k

  pub start-last : (j : ℕ) → 1 ≤ n → j ≡ n
      → get_or (starts_of s n epsilon limit) j 0 ≡ (links_to (carried_first s n) n epsilon limit (n - 1)).at + 2 * (links_to (carried_first s n) n epsilon limit (n - 1)).bond
  unfolding starts_of last_of
  start-last zero h e = absurd (omega arith)
  start-last (suc i) h e =
      let k : length (links_to (carried_first s n) n epsilon limit (n - 1)).ends ≡ i = omega (arith, ends-long (carried_first s n) n epsilon limit (n - 1)) in
      more-last (links_to (carried_first s n) n epsilon limit (n - 1)).ends _ i k

  -- each site starts where the one before ends
  pub start-next : (j : ℕ) → j < n
      → get_or (starts_of s n epsilon limit) (suc j) 0
      ≡ get_or (starts_of s n epsilon limit) j 0 + 2 * get_or (bonds_of s n epsilon limit) j 0 * get_or (bonds_of s n epsilon limit) (suc j) 0
  start-next j h = pick (ltb (suc j) n) refl
    where
      pick : (b : Bool) → ltb (suc j) n ≡ b
          → get_or (starts_of s n epsilon limit) (suc j) 0
          ≡ get_or (starts_of s n epsilon limit) j 0 + 2 * get_or (bonds_of s n epsilon limit) j 0 * get_or (bonds_of s n epsilon limit) (suc j) 0
      pick true e =
          let k : suc j < n = ltb-true (suc j) n e in
          rw (start_of (suc j) k, start_of j h, bond-of j h, bond-of (suc j) k) (at_next (carried_first s n) n epsilon limit j)
      pick false e =
          let k : n ≤ suc j = ltb-false (suc j) n e in
          let g : suc j ≡ n = omega arith in
          let i : n - 1 ≡ j = omega arith in
          let some : 1 ≤ n = omega arith in
          let l = links_to (carried_first s n) n epsilon limit j in
          let o : get_or (starts_of s n epsilon limit) (suc j) 0 ≡ l.at + 2 * l.bond =
          start-last (suc j) some g ∙ ap (λ (x : ℕ). (links_to (carried_first s n) n epsilon limit x).at + 2 * (links_to (carried_first s n) n epsilon limit x).bond) i in
          rw (o, start_of j h, bond-of j h, bond-last (suc j) some g) (omega arith)

-- ---- the bounds

most-limit : (n limit j : ℕ) → most_of n limit j ≤ limit
unfolding most_of
most-limit n limit j = omega arith

widest-has : (left right n m k : ℕ) → k < m → cut_after left right n k ≤ widest_to left right n m
unfolding widest_to
widest-has left right n zero k h = absurd (omega arith)
widest-has left right n (suc m) k h = pick (ltb k m) refl (λ (i : k < m). widest-has left right n m k i)
  where
    pick : (b : Bool) → ltb k m ≡ b → (k < m → cut_after left right n k ≤ widest_to left right n m) → cut_after left right n k ≤ max (widest_to left right n m) (cut_after left right n m)
    pick true e before = omega (arith, before (ltb-true k m e))
    pick false e before =
        let i : m ≤ k = ltb-false k m e in
        let g : k ≡ m = omega arith in
        rw g (omega arith)

cut-is : (n i : ℕ) → i + 1 ≡ suc i → n - 1 - i ≡ n - suc i → cut_after 1 1 n i ≡ min (2 ^ suc i) (2 ^ (n - suc i))
unfolding cut_after
cut-is n i a b =
    let p : 1 * 2 ^ (i + 1) ≡ 2 ^ suc i = rw a (omega arith) in
    let q : 1 * 2 ^ (n - 1 - i) ≡ 2 ^ (n - suc i) = rw b (omega arith) in
    ap₂ min p q

-- B(j) is at most what a block of n sites with ends of one carries
most-widest : (n limit i : ℕ) → suc i < n → most_of n limit (suc i) ≤ widest_of 1 1 n
unfolding most_of widest_of
most-widest n limit i h =
    let a : i + 1 ≡ suc i = omega arith in
    let b : n - 1 - i ≡ n - suc i = omega arith in
    let c : cut_after 1 1 n i ≡ min (2 ^ suc i) (2 ^ (n - suc i)) = cut-is n i a b in
    let k : i < n - 1 = omega arith in
    omega (arith, c, widest-has 1 1 n (n - 1) i k)

pub bond-few : (s : List Float) (n : ℕ) (epsilon : Float) (limit j : ℕ) → 1 ≤ limit → 1 ≤ j → j < n
    → (get_or (bonds_of s n epsilon limit) j 0 ≤ limit) × (get_or (bonds_of s n epsilon limit) j 0 ≤ most_of n limit j) × (get_or (bonds_of s n epsilon limit) j 0 ≤ widest_of 1 1 n)
bond-few s n epsilon limit zero some h k = absurd (omega arith)
bond-few s n epsilon limit (suc i) some h k =
    let b : get_or (bonds_of s n epsilon limit) (suc i) 0 ≤ most_of n limit (suc i) =
    rw (bond-of s n epsilon limit (suc i) k) (bounds (carried_first s n) n epsilon limit (suc i) k some).bond-few in
    (le_trans b (most-limit n limit (suc i)), b, le_trans b (most-widest n limit i k))
