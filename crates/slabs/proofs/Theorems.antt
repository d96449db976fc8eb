-- What a reader asks of the three calls. The lists are those of a slab: 8,192 numbers and an index of 193.
-- Assumes nothing.
use mathlib.Core.Path.{◌≡◌, refl, sym, ap, ap₂, subst, ◌∙◌}
use mathlib.Core.Bool.{Bool, true, false, cond, not}
use mathlib.Core.List.{List}
use Prim.Native.Nat.{ℕ, zero, suc, ◌+◌, ◌-◌, ◌*◌, ◌/◌, ◌≤◌, ◌<◌, ◌^◌}
use native.Mathlib.Omega.{arith}
use lib.Dec.{T, ltb}
use lib.Ieee.{Float, binary64, of_bits, to_bits, is_nan, nan_bits}
use lib.Ieee.Bits.{to_bits-of_bits, nan_bits_is}
use lib.ListN.{length, get_or, length-set}
use borrow.Author.Tests.{le-ltb, ne_eqb}
use Rattle.std.proofs.Common.{Option, None}
use Rattle.answers.specs.Paper.{Answer, Done, Reply, paper, if_done}
use Rattle.answers.proofs.PaperLaws.{done-new}
use Rattle.answers.proofs.Theorems.{paper-one}
use Rattle.slab_sites.specs.Sites.{count, site_at, set_site, covers}
use Rattle.slab_sites.proofs.SiteLaws.{length-set-site}
use Rattle.slab_sites.proofs.IndexLaws.{covers-says, off-it}
use Rattle.slab_cells.specs.Cells.{pasted}
use Rattle.slab_tests.specs.Tests.{sound, entry_of, room, spot, bad_data, holds}
use Rattle.slab_changes.specs.Changes.{site_of, put_index, drop_index, replace_index, freed}
use Rattle.slabs.specs.Slab.{Put, Dropped, Replaced}
use Rattle.slab_tests.proofs.TestLaws.{PutPasses, DropPasses, ReplacePasses, put-passed, drop-passed, replace-passed, drop-accepted, same-answers, put-14-none, none-put-14, replace-14-none, none-replace-14}
use Rattle.slabs.proofs.Sound.{sound-says, says-sound, put_count, put-new, put-old, drop-count, drop-low, replace-count, replace-new, replace-other}
use Rattle.slabs.proofs.Calls.{put_holds, put_keeps, put-reads-back, put-spare, drop-holds, drop_keeps, drop-finds, replace-holds, replace-keeps, replace-reads-back, rep-known, rep-was, drop-was, drop-known, left-count}
use Rattle.slabs.proofs.Undo.{put-entry, put-dropped, put-undone, left-room, left-absent}
use mathlib.Core.Logic.{inl, inr, ⊎_elim}

-- ---- one outcome

same_end : (a b : Answer) (new old : List ℕ) {x y : List ℕ} → a ≡ b → x ≡ if_done (paper a).0 new old → y ≡ if_done (paper b).0 new old → x ≡ y
same_end a b new old e f g = f ∙ ap (λ (r : Answer). if_done (paper r).0 new old) e ∙ sym g

-- A put has one outcome: its answer, every cell and every number of the index are fixed by what it was lent.
pub put_one : (cells index : List ℕ) (site : ℕ) (given : List ℕ) {a b : Answer} {c d i j : List ℕ} → Put cells index site given a c i → Put cells index site given b d j
    → (a ≡ b) × (c ≡ d) × (i ≡ j)
put_one cells index site given {a} {b} p q =
    let e = paper-one a b (p.answer ∙ sym q.answer) in
    (e, same_end a b _ _ e p.cells_is q.cells_is, same_end a b _ _ e p.index_is q.index_is)

-- So has a drop,
pub drop-one : (cells index : List ℕ) (site : ℕ) {a b : Answer} {c d i j : List ℕ} → Dropped cells index site a c i → Dropped cells index site b d j
    → (a ≡ b) × (c ≡ d) × (i ≡ j)
drop-one cells index site {a} {b} p q =
    let e = paper-one a b (p.answer ∙ sym q.answer) in
    (e, same_end a b _ _ e p.cells_is q.cells_is, same_end a b _ _ e p.index_is q.index_is)

-- and so has a replace.
pub replace-one : (cells index : List ℕ) (site : ℕ) (given : List ℕ) {a b : Answer} {c d i j : List ℕ} → Replaced cells index site given a c i
    → Replaced cells index site given b d j → (a ≡ b) × (c ≡ d) × (i ≡ j)
replace-one cells index site given {a} {b} p q =
    let e = paper-one a b (p.answer ∙ sym q.answer) in
    (e, same_end a b _ _ e p.cells_is q.cells_is, same_end a b _ _ e p.index_is q.index_is)

-- ---- put

zero_of : (a : Answer) {x : Reply} → paper a ≡ x → (paper a).0 ≡ 0 → x.0 ≡ 0
zero_of a e z = ap (λ (r : Reply). r.0) (sym e) ∙ z

on-done : (n : ℕ) (new old : List ℕ) {x : List ℕ} → n ≡ 0 → x ≡ if_done n new old → x ≡ new
on-done n new old z e = e ∙ sym (done-new n new old z)

module _ (cells index : List ℕ) (site : ℕ) (given : List ℕ) (lc : length cells ≡ 8192) (li : length index ≡ 193) {r : Answer} {cells' index' : List ℕ}
    (p : Put cells index site given r cells' index') where
  passes : (paper r).0 ≡ 0 → PutPasses cells index site (length given)
  passes z = put-passed cells index site (length given) (zero_of r p.answer z)

  -- A sound slab stays sound under a put, accepted or refused.
  pub put-sound : sound cells index ≡ true → sound cells' index' ≡ true
  put-sound s = by_number (paper r).0 refl p.cells_is p.index_is
    where
      by_number : (n : ℕ) → (paper r).0 ≡ n → cells' ≡ if_done n (pasted (2 * spot (room index 64 (length given))) given cells) cells
          → index' ≡ if_done n (put_index index site (spot (room index 64 (length given))) (length given / 2)) index → sound cells' index' ≡ true
      by_number zero z e f = ap₂ sound e f ∙ says-sound _ _ (put_holds cells index site given lc li (passes z))
      by_number (suc n) z e f = ap₂ sound e f ∙ s

  module _ (z : (paper r).0 ≡ 0) where
    is-cells : cells' ≡ pasted (2 * spot (room index 64 (length given))) given cells
    is-cells = on-done (paper r).0 _ _ z p.cells_is

    is-index : index' ≡ put_index index site (spot (room index 64 (length given))) (length given / 2)
    is-index = on-done (paper r).0 _ _ z p.index_is

    spare : count index < 64
    spare = put-spare cells index site given lc li (passes z)

    -- What was put is read back: the site is the last entry, with its number, the lowest run that fits and its
    -- count of cells, and its numbers are the data, bit for bit.
    pub put_reads : (count index' ≡ count index + 1) × (site_at index' (count index) ≡ site_of site (spot (room index 64 (length given))) (length given / 2))
        × ((t : ℕ) → t < length given → get_or cells' (2 * spot (room index 64 (length given)) + t) 0 ≡ get_or given t 0)
    put_reads = (
      ap count is-index ∙ put_count index site (spot (room index 64 (length given))) (length given / 2) li spare,
      ap (λ (l : List ℕ). site_at l (count index)) is-index ∙ put-new index site (spot (room index 64 (length given))) (length given / 2) li spare,
      λ t h. ap (λ (l : List ℕ). get_or l (2 * spot (room index 64 (length given)) + t) 0) is-cells ∙ put-reads-back cells index site given lc li (passes z) t h,
    )

    -- Every other site is in the index as it was, in its place, and its numbers are as they were.
    pub put-others : (j : ℕ) → j < count index → (site_at index' j ≡ site_at index j)
        × ((q : ℕ) → 2 * (site_at index j).start ≤ q → q < 2 * ((site_at index j).start + (site_at index j).cells) → get_or cells' q 0 ≡ get_or cells q 0)
    put-others j h = (
      ap (λ (l : List ℕ). site_at l j) is-index ∙ put-old index site (spot (room index 64 (length given))) (length given / 2) li spare j (λ e. omega arith),
      λ q l m. ap (λ (x : List ℕ). get_or x q 0) is-cells ∙ put_keeps cells index site given lc li (passes z) j h q l m,
    )

-- ---- drop

module _ (cells index : List ℕ) (site : ℕ) (lc : length cells ≡ 8192) (li : length index ≡ 193) {r : Answer} {cells' index' : List ℕ}
    (p : Dropped cells index site r cells' index') where
  drop-ok : (paper r).0 ≡ 0 → DropPasses cells index site
  drop-ok z = drop-passed cells index site 0 (zero_of r p.answer z)

  -- A sound slab stays sound under a drop.
  pub drop-sound : sound cells index ≡ true → sound cells' index' ≡ true
  drop-sound s = by_number (paper r).0 refl p.cells_is p.index_is
    where
      by_number : (n : ℕ) → (paper r).0 ≡ n → cells' ≡ if_done n (freed (site_at index (entry_of index site)) cells) cells
          → index' ≡ if_done n (drop_index index (entry_of index site)) index → sound cells' index' ≡ true
      by_number zero z e f = ap₂ sound e f ∙ says-sound _ _ (drop-holds cells index site lc li (drop-ok z))
      by_number (suc n) z e f = ap₂ sound e f ∙ s

  -- Every other site is in the index as it was, one entry earlier where it stood behind, and its numbers are
  -- as they were.
  pub drop-others : (paper r).0 ≡ 0 → (j : ℕ) → j < count index → (j ≡ entry_of index site → ⊥)
      → (site_at index' (cond (ltb j (entry_of index site)) j (j - 1)) ≡ site_at index j)
      × ((q : ℕ) → 2 * (site_at index j).start ≤ q → q < 2 * ((site_at index j).start + (site_at index j).cells) → get_or cells' q 0 ≡ get_or cells q 0)
  drop-others z j h d = (
    ap (λ (l : List ℕ). site_at l (cond (ltb j (entry_of index site)) j (j - 1))) (on-done (paper r).0 _ _ z p.index_is) ∙ (drop-finds cells index site lc li (drop-ok z) j h d).1,
    λ q l m. ap (λ (x : List ℕ). get_or x q 0) (on-done (paper r).0 _ _ z p.cells_is) ∙ drop_keeps cells index site lc li (drop-ok z) j h d q l m,
  )

-- ---- replace

module _ (cells index : List ℕ) (site : ℕ) (given : List ℕ) (lc : length cells ≡ 8192) (li : length index ≡ 193) {r : Answer} {cells' index' : List ℕ}
    (p : Replaced cells index site given r cells' index') where
  replace-ok : (paper r).0 ≡ 0 → ReplacePasses cells index site (length given)
  replace-ok z = replace-passed cells index site (length given) (zero_of r p.answer z)

  -- A sound slab stays sound under a replace.
  pub replace-sound : sound cells index ≡ true → sound cells' index' ≡ true
  replace-sound s = by_number (paper r).0 refl p.cells_is p.index_is
    where
      by_number : (n : ℕ) → (paper r).0 ≡ n
          → cells' ≡ if_done n (pasted (2 * spot (room index (entry_of index site) (length given))) given (freed (site_at index (entry_of index site)) cells)) cells
          → index' ≡ if_done n (replace_index index (entry_of index site) site (spot (room index (entry_of index site) (length given))) (length given / 2)) index
          → sound cells' index' ≡ true
      by_number zero z e f = ap₂ sound e f ∙ says-sound _ _ (replace-holds cells index site given lc li (replace-ok z))
      by_number (suc n) z e f = ap₂ sound e f ∙ s

  module _ (z : (paper r).0 ≡ 0) where
    -- What was put in its place is read back, from the site's own entry.
    pub replace-reads : (count index' ≡ count index)
        × (site_at index' (entry_of index site) ≡ site_of site (spot (room index (entry_of index site) (length given))) (length given / 2))
        × ((t : ℕ) → t < length given → get_or cells' (2 * spot (room index (entry_of index site) (length given)) + t) 0 ≡ get_or given t 0)
    replace-reads = (
      ap count (on-done (paper r).0 _ _ z p.index_is) ∙ replace-count index (entry_of index site) site (spot (room index (entry_of index site) (length given))) (length given / 2),
      ap (λ (l : List ℕ). site_at l (entry_of index site)) (on-done (paper r).0 _ _ z p.index_is)
          ∙ replace-new index (entry_of index site) site (spot (room index (entry_of index site) (length given))) (length given / 2) li
          (omega (arith, rep-known cells index site given lc li (replace-ok z), (rep-was cells index site given lc li (replace-ok z)).few)),
      λ t h.
          ap (λ (l : List ℕ). get_or l (2 * spot (room index (entry_of index site) (length given)) + t) 0) (on-done (paper r).0 _ _ z p.cells_is)
          ∙ replace-reads-back cells index site given lc li (replace-ok z) t h,
    )

    -- Every other site is in the index as it was, in its place, and its numbers are as they were.
    pub replace-others : (j : ℕ) → j < count index → (j ≡ entry_of index site → ⊥) → (site_at index' j ≡ site_at index j)
        × ((q : ℕ) → 2 * (site_at index j).start ≤ q → q < 2 * ((site_at index j).start + (site_at index j).cells) → get_or cells' q 0 ≡ get_or cells q 0)
    replace-others j h d = (
      ap (λ (l : List ℕ). site_at l j) (on-done (paper r).0 _ _ z p.index_is)
          ∙ replace-other index (entry_of index site) site (spot (room index (entry_of index site) (length given))) (length given / 2) j d,
      λ q l m. ap (λ (x : List ℕ). get_or x q 0) (on-done (paper r).0 _ _ z p.cells_is) ∙ replace-keeps cells index site given lc li (replace-ok z) j h d q l m,
    )

-- ---- 14

-- A put that answers 14 found no run that fits: with `none_free` of `slab_tests`, every run of that length has
-- a held cell.
pub put-14 : (cells index : List ℕ) (site : ℕ) (given : List ℕ) {r : Answer} {cells' index' : List ℕ} → Put cells index site given r cells' index' → (paper r).0 ≡ 14
    → room index 64 (length given) ≡ None
put-14 cells index site given {r} p e = put-14-none cells index site (length given) (ap (λ (x : Reply). x.0) (sym p.answer) ∙ e)

-- And where there is none, a put of good data under a new number answers 14, though 64 sites be held.
pub none-put : (cells index : List ℕ) (site : ℕ) (given : List ℕ) {r : Answer} {cells' index' : List ℕ} → Put cells index site given r cells' index'
    → sound cells index ≡ true → bad_data (length given) ≡ false → holds index site ≡ false → room index 64 (length given) ≡ None → paper r ≡ (14, 0)
none-put cells index site given p s b h e = p.answer ∙ sym (none-put-14 cells index site (length given) s b h e)

-- A replace that answers 14 found no run that fits where its own cells are free.
pub replace-14 : (cells index : List ℕ) (site : ℕ) (given : List ℕ) {r : Answer} {cells' index' : List ℕ} → Replaced cells index site given r cells' index'
    → (paper r).0 ≡ 14 → room index (entry_of index site) (length given) ≡ None
replace-14 cells index site given {r} p e = replace-14-none cells index site (length given) (ap (λ (x : Reply). x.0) (sym p.answer) ∙ e)

-- And where there is none, a replace of a held site by good data answers 14.
pub none-replace : (cells index : List ℕ) (site : ℕ) (given : List ℕ) {r : Answer} {cells' index' : List ℕ} → Replaced cells index site given r cells' index'
    → sound cells index ≡ true → bad_data (length given) ≡ false → holds index site ≡ true → room index (entry_of index site) (length given) ≡ None
    → paper r ≡ (14, 0)
none-replace cells index site given p s b h e = p.answer ∙ sym (none-replace-14 cells index site (length given) s b h e)

-- ---- every sound slab

-- A slab of zeros is sound: it holds no site, and every cell is +0.0.
pub empty-sound : (cells index : List ℕ) → ((q : ℕ) → get_or cells q 0 ≡ 0) → ((q : ℕ) → get_or index q 0 ≡ 0) → sound cells index ≡ true
empty-sound cells index f g =
    let none = g 0 in
    says-sound cells index (record {
      few = omega (arith, none);
      each = λ i h. absurd (omega (arith, none));
      pairs = λ j i h l d. absurd (omega (arith, none));
      zeros = λ c h o. (f (2 * c), f (2 * c + 1));
    })

-- Sites never overlap: no cell is covered by two of them.
pub never-overlap : (cells index : List ℕ) → sound cells index ≡ true → (j i c : ℕ) → j < count index → i < count index → (j ≡ i → ⊥)
    → covers (site_at index j) c ≡ true → covers (site_at index i) c ≡ false
never-overlap cells index s j i c h l d e =
    let a = (sound-says cells index s).pairs j i h l d in
    let q = covers-says (site_at index j) c e in
    off-it (site_at index i) c
    (⊎_elim (λ (m : (site_at index j).start + (site_at index j).cells ≤ (site_at index i).start). inl (omega (arith, q.1)))
    (λ (m : (site_at index i).start + (site_at index i).cells ≤ (site_at index j).start). inr (omega (arith, q.0))) a.rooms)

-- ---- calls one after the other

not-below : (a b : ℕ) → (a < b → ⊥) → b ≤ a
not-below a b f = omega (arith, f)

length-put : (index : List ℕ) (site start k : ℕ) → length (put_index index site start k) ≡ length index
length-put index site start k =
    length-set (set_site index (count index) (site_of site start k)) 0 (count index + 1) ∙ length-set-site index (count index) (site_of site start k)

done-is : (a : Answer) {x : Reply} → paper a ≡ x → (0, 0) ≡ x → a ≡ Done
done-is a e f = paper-one a Done (e ∙ sym f)

number_is : (a : Answer) → a ≡ Done → (paper a).0 ≡ 0
number_is a d = ap (λ (x : Answer). (paper x).0) d

-- Dropping what was put gives back the cells as they were, and the sites.
pub put-drop : (cells index : List ℕ) (site : ℕ) (given : List ℕ) → length cells ≡ 8192 → length index ≡ 193 → {r q : Answer} {cells₁ index₁ cells₂ index₂ : List ℕ}
    → Put cells index site given r cells₁ index₁ → (paper r).0 ≡ 0 → Dropped cells₁ index₁ site q cells₂ index₂
    → (q ≡ Done) × (cells₂ ≡ cells) × (count index₂ ≡ count index) × ((j : ℕ) → j < count index → site_at index₂ j ≡ site_at index j)
put-drop cells index site given lc li {r} {q} {cells₁} {index₁} {cells₂} {index₂} p z d =
    (is-done, at_cells, at_count, at-sites)
  where
    ok : PutPasses cells index site (length given)
    ok = put-passed cells index site (length given) (zero_of r p.answer z)

    undo : Dropped (pasted (2 * (spot (room index 64 (length given)))) given cells) (put_index index site (spot (room index 64 (length given))) (length given / 2)) site q cells₂ index₂
    undo =
        subst (λ (l : List ℕ). Dropped l (put_index index site (spot (room index 64 (length given))) (length given / 2)) site q cells₂ index₂) (on-done (paper r).0 _ _ z p.cells_is)
        (subst (λ (l : List ℕ). Dropped cells₁ l site q cells₂ index₂) (on-done (paper r).0 _ _ z p.index_is) d)

    is-done : q ≡ Done
    is-done = done-is q undo.answer (drop-accepted (pasted (2 * (spot (room index 64 (length given)))) given cells) (put_index index site (spot (room index 64 (length given))) (length given / 2)) site (put-dropped cells index site given lc li ok))

    at_cells : cells₂ ≡ cells
    at_cells = on-done (paper q).0 _ _ (number_is q is-done) undo.cells_is ∙ put-undone cells index site given lc li ok

    at-index : index₂ ≡ drop_index (put_index index site (spot (room index 64 (length given))) (length given / 2)) (entry_of (put_index index site (spot (room index 64 (length given))) (length given / 2)) site)
    at-index = on-done (paper q).0 _ _ (number_is q is-done) undo.index_is

    entry : entry_of (put_index index site (spot (room index 64 (length given))) (length given / 2)) site ≡ count index
    entry = put-entry cells index site given lc li ok

    more : count (put_index index site (spot (room index 64 (length given))) (length given / 2)) ≡ count index + 1
    more = put_count index site (spot (room index 64 (length given))) (length given / 2) li (put-spare cells index site given lc li ok)

    long : length (put_index index site (spot (room index 64 (length given))) (length given / 2)) ≡ 193
    long = length-put index site (spot (room index 64 (length given))) (length given / 2) ∙ li

    few : count (put_index index site (spot (room index 64 (length given))) (length given / 2)) ≤ 64
    few = omega (arith, more, put-spare cells index site given lc li ok)

    at_count : count index₂ ≡ count index
    at_count =
        ap count at-index
        ∙ drop-count (put_index index site (spot (room index 64 (length given))) (length given / 2)) (entry_of (put_index index site (spot (room index 64 (length given))) (length given / 2)) site) long few (omega (arith, entry, more))
        ∙ omega (arith, more)

    at-sites : (j : ℕ) → j < count index → site_at index₂ j ≡ site_at index j
    at-sites j h =
        ap (λ (l : List ℕ). site_at l j) at-index
        ∙ drop-low (put_index index site (spot (room index 64 (length given))) (length given / 2)) (entry_of (put_index index site (spot (room index 64 (length given))) (length given / 2)) site) long few (omega (arith, entry, more)) j (omega (arith, entry))
        ∙ put-old index site (spot (room index 64 (length given))) (length given / 2) li (put-spare cells index site given lc li ok) j (λ e. omega arith)

module _ (cells index : List ℕ) (site : ℕ) (given : List ℕ) (lc : length cells ≡ 8192) (li : length index ≡ 193) {r q u : Answer}
    {cells' index' cells₁ index₁ cells₂ index₂ : List ℕ} (p : Replaced cells index site given r cells' index') (d : Dropped cells index site q cells₁ index₁)
    (w : Put cells₁ index₁ site given u cells₂ index₂) (z : (paper q).0 ≡ 0) where
  was : DropPasses cells index site
  was = drop-passed cells index site 0 (zero_of q d.answer z)

  next : Put (freed (site_at index (entry_of index site)) cells) (drop_index index (entry_of index site)) site given u cells₂ index₂
  next =
      subst (λ (l : List ℕ). Put l (drop_index index (entry_of index site)) site given u cells₂ index₂) (on-done (paper q).0 _ _ z d.cells_is)
      (subst (λ (l : List ℕ). Put cells₁ l site given u cells₂ index₂) (on-done (paper q).0 _ _ z d.index_is) w)

  -- A replace answers what a put of the same data answers after the site is dropped: it is refused by 14
  -- exactly when that put is.
  pub replace-answers-as : paper r ≡ paper u
  replace-answers-as =
      p.answer
      ∙ sym
      (same-answers (freed (site_at index (entry_of index site)) cells) (drop_index index (entry_of index site)) cells index site (length given)
      (says-sound _ _ (drop-holds cells index site lc li was))
      (le-ltb (entry_of (drop_index index (entry_of index site)) site) (count (drop_index index (entry_of index site)))
      (not-below (entry_of (drop_index index (entry_of index site)) site) (count (drop_index index (entry_of index site))) (left-absent cells index site lc li was)))
      (ne_eqb (count (drop_index index (entry_of index site))) 64 (λ e. omega (arith, left-count cells index site lc li was, (drop-was cells index site lc li was).few, drop-known cells index site lc li was)))
      was.sound-is was.known (left-room cells index site lc li was (length given)))
      ∙ sym next.answer

  -- And it leaves the cells that the drop and then the put leave.
  pub replace-as : (paper r).0 ≡ 0 → cells' ≡ cells₂
  replace-as y =
      on-done (paper r).0 _ _ y p.cells_is
      ∙ ap (λ (x : Option ℕ). pasted (2 * spot x) given (freed (site_at index (entry_of index site)) cells)) (sym (left-room cells index site lc li was (length given)))
      ∙ sym (on-done (paper u).0 _ _ (ap (λ (x : Reply). x.0) (sym replace-answers-as) ∙ y) next.cells_is)

-- ---- +0.0

-- The pattern 0, which the tests ask of a free cell, is that of +0.0 and of no other number.
pub zero_bits : (b : ℕ) → b < 2 ^ 64 → of_bits binary64 b ≡ of_bits binary64 0 → b ≡ 0
unfolding nan_bits
zero_bits b h e =
    sym (to_bits-of_bits binary64 b h (subst (λ (x : Float). T (not (is_nan x))) (sym e) real))
    ∙ ap (to_bits binary64) e
    ∙ to_bits-of_bits binary64 0 (omega arith) real
  where
    real : T (not (is_nan (of_bits binary64 0)))
    real = subst (λ (z : Bool). T (not z)) (nan_bits_is binary64 0) tt
