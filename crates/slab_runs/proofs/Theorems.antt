-- What the lowest run is. Assumes nothing.
use mathlib.Core.Path.{◌≡◌, refl, sym, ap, subst, ◌∙◌}
use mathlib.Core.Bool.{Bool, true, false, true≢false}
use mathlib.Core.List.{List}
use Prim.Native.Nat.{ℕ, ◌+◌, ◌-◌, ◌≤◌, ◌<◌}
use native.Mathlib.Omega.{arith}
use lib.Dec.{leb}
use borrow.Author.Tests.{leb-true, leb-false}
use lib.ListN.{length, get_or, drop, length-drop}
use lib.Seq.{get_or-drop}
use Rattle.std.proofs.Common.{Option, Some, None}
use Rattle.slab_runs.specs.Runs.{free, lowest}
use Rattle.slab_runs.proofs.Meaning.{Lowest, lowest-is, nowhere-is}
use Rattle.slab_runs.proofs.RunLaws.{few, held-among}

module _ (k : ℕ) (m : List Bool) (h : 1 ≤ k) where
  said : (r : Option ℕ) → lowest k 0 m ≡ r → Lowest k 0 m r
  said r e = subst (λ (x : Option ℕ). Lowest k 0 m x) e (lowest-is k 0 m h)

  -- The run found is free: the k cells from it on are there and none is held.
  pub lowest-free : (s : ℕ) → lowest k 0 m ≡ Some s → free k (drop s m) ≡ true
  lowest-free s e =
      let z : s - 0 ≡ s = omega arith in
      rw z at (said (Some s) e).1

  -- So no cell of the run is held.
  pub lowest-cell : (s c : ℕ) → lowest k 0 m ≡ Some s → s ≤ c → c < s + k → get_or m c false ≡ false
  lowest-cell s c e a b = by-cell (get_or (drop s m) (c - s) false) refl
    where
      there : get_or (drop s m) (c - s) false ≡ get_or m c false
      there = get_or-drop s m (c - s) false ∙ ap (λ (x : ℕ). get_or m x false) (omega arith)

      by-cell : (t : Bool) → get_or (drop s m) (c - s) false ≡ t → get_or m c false ≡ false
      by-cell true f = absurd (true≢false (sym (lowest-free s e) ∙ held-among k (c - s) (drop s m) (omega arith) f))
      by-cell false f = sym there ∙ f

  -- The run lies within the map.
  pub lowest-fits : (s : ℕ) → lowest k 0 m ≡ Some s → s + k ≤ length m
  lowest-fits s e = by_length (leb k (length (drop s m))) refl
    where
      by_length : (b : Bool) → leb k (length (drop s m)) ≡ b → s + k ≤ length m
      by_length true l = omega (arith, leb-true k (length (drop s m)) l, length-drop s m)
      by_length false l = absurd (true≢false (sym (lowest-free s e) ∙ few k (drop s m) (leb-false k (length (drop s m)) l)))

  -- From no lower cell on are k cells free.
  pub lowest-least : (s : ℕ) → lowest k 0 m ≡ Some s → (u : ℕ) → u < s → free k (drop u m) ≡ false
  lowest-least s e u l = (said (Some s) e).2 u (omega arith)

  -- Where there is none, no k cells in a row are free;
  pub lowest-none : lowest k 0 m ≡ None → (u : ℕ) → free k (drop u m) ≡ false
  lowest-none e = said None e

  -- and where no k cells in a row are free, there is none.
  pub none-lowest : ((u : ℕ) → free k (drop u m) ≡ false) → lowest k 0 m ≡ None
  none-lowest f = nowhere-is k m h f
