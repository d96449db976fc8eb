-- Laws of the lowest run: what a scan that counts free cells keeps, and that the run found is free and the
-- lowest. Assumes nothing.
use mathlib.Core.Path.{◌≡◌, refl, sym, ap, ap₂, subst, ◌∙◌}
use mathlib.Core.Bool.{Bool, true, false, cond, true≢false}
use mathlib.Core.List.{List, [], ◌∷◌}
use Prim.Native.Nat.{ℕ, zero, suc, ◌+◌, ◌-◌, ◌≤◌, ◌<◌}
use native.Mathlib.Numerals.{add-one}
use native.Mathlib.Omega.{arith}
use lib.ListN.{length, get_or, drop, length-drop}
use lib.Seq.{get_or-drop, drop-drop}
use Rattle.std.proofs.Common.{Some, None}
use Rattle.slab_runs.specs.Runs.{free, lowest}

-- a held cell among the first k: they are not free
pub held-among : (k r : ℕ) (m : List Bool) → r < k → get_or m r false ≡ true → free k m ≡ false
unfolding free
held-among zero r m h e = absurd (omega arith)
held-among (suc k) r [] h e = refl
held-among (suc k) zero (b ∷ m) h e = ap (λ (x : Bool). cond x false (free k m)) e
held-among (suc k) (suc r) (true ∷ m) h e = refl
held-among (suc k) (suc r) (false ∷ m) h e = held-among k r m (omega arith) e

-- too few cells are left
pub few : (k : ℕ) (m : List Bool) → length m < k → free k m ≡ false
unfolding free
few zero m h = absurd (omega arith)
few (suc k) [] h = refl
few (suc k) (true ∷ m) h = refl
few (suc k) (false ∷ m) h = few k m (omega arith)

-- enough cells, and not all free: one of them is held
pub held_in : (k : ℕ) (m : List Bool) → k ≤ length m → free k m ≡ false → (r : ℕ) × (r < k) × (get_or m r false ≡ true)
unfolding free
held_in zero m h e = absurd (true≢false e)
held_in (suc k) [] h e = absurd (omega arith)
held_in (suc k) (true ∷ m) h e = (0, omega arith, refl)
held_in (suc k) (false ∷ m) h e =
    let p = held_in k m (omega arith) e in
    (suc p.0, omega (arith, p.1), p.2)

-- one free cell more
one_more : (r : ℕ) (m : List Bool) → r < length m → free r m ≡ true → get_or m r false ≡ false → free (suc r) m ≡ true
unfolding free
one_more zero [] h f e = absurd (omega arith)
one_more zero (b ∷ m) h f e = ap (λ (x : Bool). cond x false true) e
one_more (suc r) [] h f e = absurd (omega arith)
one_more (suc r) (true ∷ m) h f e = f
one_more (suc r) (false ∷ m) h f e = one_more r m (omega arith) f e

-- no run begins here
not-here : (k s : ℕ) (b : Bool) (m : List Bool) → free k (b ∷ m) ≡ false → lowest k s (b ∷ m) ≡ lowest k (suc s) m
unfolding lowest
not-here k s b m e = rw e refl

-- a held cell with fewer than k before it: no run begins before it or at it
past : (k r s : ℕ) (m : List Bool) → r < k → r < length m → get_or m r false ≡ true → lowest k s m ≡ lowest k (suc (s + r)) (drop (suc r) m)
past k r s [] h l e = absurd (omega arith)
past k zero s (b ∷ m) h l e = not-here k s b m (held-among k 0 (b ∷ m) h e) ∙ ap (λ (x : ℕ). lowest k (suc x) m) (omega arith)
past k (suc r) s (b ∷ m) h l e =
    not-here k s b m (held-among k (suc r) (b ∷ m) h e)
    ∙ past k r (suc s) m (omega arith) (omega arith) e
    ∙ ap (λ (x : ℕ). lowest k x (drop (suc r) m)) (omega arith)

none : (k s : ℕ) (m : List Bool) → length m < k → None ≡ lowest k s m
unfolding lowest
none k s [] h = rw (few k [] h) refl
none k s (b ∷ m) h = rw (few k (b ∷ m) h) (none k (suc s) m (omega arith))

found : (k s : ℕ) (m : List Bool) → free k m ≡ true → Some s ≡ lowest k s m
unfolding lowest
found k s [] f = rw f refl
found k s (b ∷ m) f = rw f refl

-- ---- the scan: run free cells stand right before cell c, too few, and no run begins before them

pub record Scanned (k : ℕ) (map : List Bool) (run c : ℕ) : Type 0 where
  pub within : run ≤ c
  pub inside : c ≤ length map
  pub short : run < k
  pub clear : free run (drop (c - run) map) ≡ true
  pub rest : lowest k 0 map ≡ lowest k (c - run) (drop (c - run) map)

module _ (k : ℕ) (map : List Bool) where
  pub scan_begins : 1 ≤ k → Scanned k map 0 0
  unfolding free
  scan_begins h = record { within = omega arith; inside = omega arith; short = h; clear = refl; rest = refl }

  module _ (run c : ℕ) (s : Scanned k map run c) (h : c < length map) where
    at : (b : Bool) → get_or map c false ≡ b → get_or (drop (c - run) map) run false ≡ b
    at b e = get_or-drop (c - run) map run false ∙ ap (λ (x : ℕ). get_or map x false) (omega (arith, s.within)) ∙ e

    left : run < length (drop (c - run) map)
    left = omega (arith, length-drop (c - run) map, s.within)

    -- a held cell begins the count anew
    pub scan-held : get_or map c false ≡ true → Scanned k map 0 (c + 1)
    unfolding free
    scan-held e =
        let next : suc ((c - run) + run) ≡ c + 1 - 0 = omega (arith, s.within) in
        let same : (c - run) + suc run ≡ c + 1 - 0 = omega (arith, s.within) in
        record {
          within = omega arith;
          inside = omega arith;
          short = omega (arith, s.short);
          clear = refl;
          rest =
              s.rest
              ∙ past k run (c - run) (drop (c - run) map) s.short left (at true e)
              ∙ ap₂ (λ (x : ℕ) (l : List Bool). lowest k x l) next (drop-drop (suc run) (c - run) map ∙ ap (λ (x : ℕ). drop x map) same);
        }

    more : get_or map c false ≡ false → free (suc run) (drop (c - run) map) ≡ true
    more e = one_more run (drop (c - run) map) left s.clear (at false e)

    -- a free cell is counted
    pub scan-free : get_or map c false ≡ false → (run + 1 ≡ k → ⊥) → Scanned k map (run + 1) (c + 1)
    scan-free e n =
        let same : (c + 1) - (run + 1) ≡ c - run = omega arith in
        record {
          within = omega (arith, s.within);
          inside = omega arith;
          short = omega (arith, s.short);
          clear = rw (same, add-one) (more e);
          rest = rw same s.rest;
        }

    -- or fills the run
    pub scan-found : get_or map c false ≡ false → run + 1 ≡ k → Some (c - run) ≡ lowest k 0 map
    scan-found e n = found k (c - run) (drop (c - run) map) (subst (λ (x : ℕ). free x (drop (c - run) map) ≡ true) (omega arith) (more e)) ∙ sym s.rest

  pub scan-ends : (run c : ℕ) → Scanned k map run c → length map ≤ c → None ≡ lowest k 0 map
  scan-ends run c s h = none k (c - run) (drop (c - run) map) (omega (arith, length-drop (c - run) map, s.short, s.within, s.inside)) ∙ sym s.rest

  pub scan-as : (run other c : ℕ) → run ≡ other → Scanned k map other c → Scanned k map run c
  scan-as run other c e s = subst (λ (r : ℕ). Scanned k map r c) (sym e) s
