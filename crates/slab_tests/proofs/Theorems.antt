-- What the run of a put or a replace is. Assumes nothing.
use mathlib.Core.Path.{◌≡◌, refl, sym, ap, ◌∙◌}
use mathlib.Core.Bool.{Bool, true, false}
use mathlib.Core.List.{List}
use Prim.Native.Nat.{ℕ, ◌+◌, ◌-◌, ◌/◌, ◌≤◌, ◌<◌}
use native.Mathlib.Omega.{arith}
use lib.Dec.{leb}
use lib.ListN.{get_or, drop, length-drop}
use lib.Seq.{get_or-drop}
use borrow.Author.Tests.{leb-true, leb-false}
use Rattle.std.proofs.Common.{Some, None}
use Rattle.slab_runs.specs.Runs.{free}
use Rattle.slab_runs.proofs.RunLaws.{few, held-among, held_in}
use Rattle.slab_runs.proofs.Theorems.{lowest-cell, lowest-fits, lowest-least, lowest-none, none-lowest}
use Rattle.slab_sites.specs.Sites.{count, held}
use Rattle.slab_cells.specs.Cells.{map_of}
use Rattle.slab_cells.proofs.CellLaws.{map_at, length-map}
use Rattle.slab_tests.specs.Tests.{bad_data, room}
use Rattle.slab_tests.proofs.TestLaws.{one_cell}

module _ (index : List ℕ) (skip len : ℕ) (b : bad_data len ≡ false) where
  abbrev map : List Bool
  map = map_of index skip (count index)

  -- a row of cells that is not free has a held one
  one-held : (u : ℕ) → u + len / 2 ≤ 4096 → free (len / 2) (drop u (map_of index skip (count index))) ≡ false
      → (c : ℕ) × (u ≤ c) × (c < u + len / 2) × (held index skip (count index) c ≡ true)
  one-held u h e =
      let p = held_in (len / 2) (drop u map) (omega (arith, length-drop u map, length-map index skip (count index))) e in
      (u + p.0, omega arith, omega (arith, p.1), sym (map_at index skip (count index) (u + p.0) (omega (arith, p.1))) ∙ sym (get_or-drop u map p.0 false) ∙ p.2)

  -- The run's cells are inside the slab, and no site but the one passed over holds one of them.
  pub room-is-free : (s : ℕ) → room index skip len ≡ Some s → (s + len / 2 ≤ 4096) × ((c : ℕ) → s ≤ c → c < s + len / 2 → held index skip (count index) c ≡ false)
  unfolding room
  room-is-free s e =
      let w = lowest-fits (len / 2) map (one_cell len b) s e in
      let v : s + len / 2 ≤ 4096 = omega (arith, w, length-map index skip (count index)) in
      (v, λ c h l. sym (map_at index skip (count index) c (omega arith)) ∙ lowest-cell (len / 2) map (one_cell len b) s c e h l)

  -- It is the lowest: each run of that length that starts lower has a held cell.
  pub room-is-lowest : (s : ℕ) → room index skip len ≡ Some s → (u : ℕ) → u < s → (c : ℕ) × (u ≤ c) × (c < u + len / 2) × (held index skip (count index) c ≡ true)
  unfolding room
  room-is-lowest s e u h =
      let w = lowest-fits (len / 2) map (one_cell len b) s e in
      one-held u (omega (arith, w, length-map index skip (count index))) (lowest-least (len / 2) map (one_cell len b) s e u h)

  -- Where there is none, each run of that length in the slab has a held cell;
  pub none_free : room index skip len ≡ None → (u : ℕ) → u + len / 2 ≤ 4096 → (c : ℕ) × (u ≤ c) × (c < u + len / 2) × (held index skip (count index) c ≡ true)
  unfolding room
  none_free e u h = one-held u h (lowest-none (len / 2) map (one_cell len b) e u)

  -- and where each has one, there is none.
  pub free-none : ((u : ℕ) → u + len / 2 ≤ 4096 → (c : ℕ) × (u ≤ c) × (c < u + len / 2) × (held index skip (count index) c ≡ true)) → room index skip len ≡ None
  unfolding room
  free-none f = none-lowest (len / 2) map (one_cell len b) (λ u. by_end u (leb (u + len / 2) 4096) refl)
    where
      by_end : (u : ℕ) (t : Bool) → leb (u + len / 2) 4096 ≡ t → free (len / 2) (drop u (map_of index skip (count index))) ≡ false
      by_end u true e =
          let v = leb-true (u + len / 2) 4096 e in
          let p = f u v in
          let q : u + (p.0 - u) ≡ p.0 = omega (arith, p.1) in
          held-among (len / 2) (p.0 - u) (drop u map) (omega (arith, p.1, p.2, one_cell len b))
          (get_or-drop u map (p.0 - u) false ∙ ap (λ (x : ℕ). get_or map x false) q ∙ map_at index skip (count index) p.0 (omega (arith, p.2)) ∙ p.3)
      by_end u false e =
          few (len / 2) (drop u map)
          (omega (arith, leb-false (u + len / 2) 4096 e, length-drop u map, length-map index skip (count index), one_cell len b))
