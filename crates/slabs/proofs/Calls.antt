-- What each accepted call leaves: a sound slab, the other sites as they were, and the data. Assumes nothing.
use mathlib.Core.Path.{◌≡◌, refl, sym, ap, subst, ◌∙◌}
use mathlib.Core.Bool.{Bool, true, false, cond}
use mathlib.Core.List.{List}
use mathlib.Core.Logic.{◌⊎◌, inl, inr, ⊎_elim}
use Prim.Native.Nat.{ℕ, ◌+◌, ◌-◌, ◌*◌, ◌/◌, ◌≤◌, ◌<◌}
use native.Mathlib.Nat.{eq-or-lt_of_le}
use native.Mathlib.Omega.{arith}
use lib.Dec.{ltb, eqb}
use lib.ListN.{length, get_or}
use borrow.Author.Tests.{ltb-true, ltb-false, eqb-true, eqb-false}
use Rattle.std.proofs.Common.{Some}
use Rattle.slab_sites.specs.declared.Site.{Site}
use Rattle.slab_sites.specs.Sites.{count, site_at, covers}
use Rattle.slab_sites.proofs.IndexLaws.{Inside, Apart, apart-back, covers-says, covers-not, off-run, find-is, find-before}
use Rattle.slab_cells.specs.Cells.{pasted}
use Rattle.slab_cells.proofs.PasteLaws.{length-wiped, pasted-off, pasted-on, wiped-off, wiped-on}
use Rattle.slab_tests.specs.Tests.{entry_of, room, spot}
use Rattle.slab_changes.specs.Changes.{site_of, put_index, drop_index, replace_index, freed}
use Rattle.slab_tests.proofs.TestLaws.{PutPasses, DropPasses, ReplacePasses, found, room_fits, one_cell, whole_cells}
use Rattle.slabs.proofs.Sound.{Sound, sound-says, put_count, put-new, put-old, drop-count, drop-low, drop-high, replace-count, replace-other, replace-new, room-free}

apart-as : {a b c d : Site} → a ≡ b → c ≡ d → Apart b d → Apart a c
apart-as {a} {b} {c} {d} e f h = subst (λ (x : Site). Apart x c) (sym e) (subst (λ (y : Site). Apart b y) (sym f) h)

-- the two numbers of a cell off a run, off what is pasted there
off-first : (s len c : ℕ) → 2 * (len / 2) ≡ len → (c < s) ⊎ (s + len / 2 ≤ c) → (2 * c < 2 * s) ⊎ (2 * s + len ≤ 2 * c)
off-first s len c w h = ⊎_elim (λ (l : c < s). inl (omega arith)) (λ (l : s + len / 2 ≤ c). inr (omega arith)) h

off-second : (s len c : ℕ) → 2 * (len / 2) ≡ len → (c < s) ⊎ (s + len / 2 ≤ c) → (2 * c + 1 < 2 * s) ⊎ (2 * s + len ≤ 2 * c + 1)
off-second s len c w h = ⊎_elim (λ (l : c < s). inl (omega arith)) (λ (l : s + len / 2 ≤ c). inr (omega arith)) h

-- a number of a site that lies off a run
site-off : (x : Site) (s len p : ℕ) → 2 * (len / 2) ≡ len → (x.start + x.cells ≤ s) ⊎ (s + len / 2 ≤ x.start) → 2 * x.start ≤ p → p < 2 * (x.start + x.cells)
    → (p < 2 * s) ⊎ (2 * s + len ≤ p)
site-off x s len p w h l m = ⊎_elim (λ (a : x.start + x.cells ≤ s). inl (omega arith)) (λ (a : s + len / 2 ≤ x.start). inr (omega arith)) h

-- a number of one site that lies off another
sites-off : (x y : Site) (p : ℕ) → Apart x y → 2 * x.start ≤ p → p < 2 * (x.start + x.cells) → (p < 2 * y.start) ⊎ (2 * (y.start + y.cells) ≤ p)
sites-off x y p h l m = ⊎_elim (λ (a : x.start + x.cells ≤ y.start). inl (omega arith)) (λ (a : y.start + y.cells ≤ x.start). inr (omega arith)) h.rooms

-- ---- put

module _ (cells index : List ℕ) (site : ℕ) (given : List ℕ) (lc : length cells ≡ 8192) (li : length index ≡ 193) (ok : PutPasses cells index site (length given)) where
  pub put-was : Sound cells index
  put-was = sound-says cells index ok.sound-is

  pub put-at : room index 64 (length given) ≡ Some (spot (room index 64 (length given)))
  put-at = found (room index 64 (length given)) ok.fits

  pub put-spare : count index < 64
  put-spare = omega (arith, put-was.few, eqb-false (count index) 64 ok.spare)

  put-within : 2 * spot (room index 64 (length given)) + length given ≤ 8192
  put-within = room_fits index 64 (length given) (spot (room index 64 (length given))) ok.good put-at

  -- a site that was held lies off the run
  put-off : (j : ℕ) → j < count index
      → ((site_at index j).start + (site_at index j).cells ≤ spot (room index 64 (length given))) ⊎ (spot (room index 64 (length given)) + length given / 2 ≤ (site_at index j).start)
  put-off j h =
      off-run (site_at index j) (spot (room index 64 (length given))) (length given / 2) (put-was.each j h).not-empty (one_cell (length given) ok.good)
      (λ c a b.
      room-free index 64 (length given) (spot (room index 64 (length given))) c ok.good put-at a b j h (λ e. omega (arith, put-was.few)))

  abbrev put-site : Site
  put-site = site_of site (spot (room index 64 (length given))) (length given / 2)

  abbrev put-cells : List ℕ
  put-cells = pasted (2 * spot (room index 64 (length given))) given cells

  abbrev put-list : List ℕ
  put-list = put_index index site (spot (room index 64 (length given))) (length given / 2)

  old : (j : ℕ) → j < count index → site_at put-list j ≡ site_at index j
  old j h = put-old index site (spot (room index 64 (length given))) (length given / 2) li put-spare j (λ e. omega arith)

  new : site_at put-list (count index) ≡ put-site
  new = put-new index site (spot (room index 64 (length given))) (length given / 2) li put-spare

  counted : count put-list ≡ count index + 1
  counted = put_count index site (spot (room index 64 (length given))) (length given / 2) li put-spare

  new-at : (j : ℕ) → j ≡ count index → site_at put-list j ≡ put-site
  new-at j e = ap (site_at put-list) e ∙ new

  pub put-number-new : (j : ℕ) → j < count index → (site_at index j).number ≡ site → ⊥
  put-number-new j h = find-before index site (count index) j (omega (arith, ltb-false (entry_of index site) (count index) ok.new))

  new_apart : (j : ℕ) → j < count index → Apart (site_at index j) put-site
  new_apart j h = record { numbers = put-number-new j h; rooms = put-off j h }

  last-or-old : (i : ℕ) → i < count put-list → (i ≡ count index) ⊎ (i < count index)
  last-or-old i h = eq-or-lt_of_le (omega (arith, counted))

  pub put_holds : Sound put-cells put-list
  put_holds = record {
    few = omega (arith, counted, put-spare);
    each =
        λ i h.
        ⊎_elim
        (λ (e : i ≡ count index). subst Inside (sym (new-at i e)) (record { not-empty = one_cell (length given) ok.good; within = omega (arith, put-within, whole_cells (length given) ok.good) }))
        (λ (e : i < count index). subst Inside (sym (old i e)) (put-was.each i e))
        (last-or-old i h);
    pairs =
        λ j i hj hi d.
        ⊎_elim
        (λ (e : j ≡ count index).
        ⊎_elim (λ (f : i ≡ count index). absurd (d (e ∙ sym f))) (λ (f : i < count index). apart-as (new-at j e) (old i f) (apart-back (new_apart i f))) (last-or-old i hi))
        (λ (e : j < count index).
        ⊎_elim
        (λ (f : i ≡ count index). apart-as (old j e) (new-at i f) (new_apart j e))
        (λ (f : i < count index). apart-as (old j e) (old i f) (put-was.pairs j i e f d))
        (last-or-old i hi))
        (last-or-old j hj);
    zeros =
        λ c h f.
        let z = put-was.zeros c h (λ i l. sym (ap (λ (x : Site). covers x c) (old i l)) ∙ f i (omega (arith, counted))) in
        let o = covers-not put-site c (sym (ap (λ (x : Site). covers x c) new) ∙ f (count index) (omega (arith, counted))) in
        let w = whole_cells (length given) ok.good in (
          pasted-off (2 * spot (room index 64 (length given))) given cells (2 * c) (off-first (spot (room index 64 (length given))) (length given) c w o) ∙ z.0,
          pasted-off (2 * spot (room index 64 (length given))) given cells (2 * c + 1) (off-second (spot (room index 64 (length given))) (length given) c w o) ∙ z.1,
        );
  }

  -- the other sites
  pub put_keeps : (j : ℕ) → j < count index → (p : ℕ) → 2 * (site_at index j).start ≤ p → p < 2 * ((site_at index j).start + (site_at index j).cells)
      → get_or put-cells p 0 ≡ get_or cells p 0
  put_keeps j h p l m =
      pasted-off (2 * spot (room index 64 (length given))) given cells p
      (site-off (site_at index j) (spot (room index 64 (length given))) (length given) p (whole_cells (length given) ok.good) (put-off j h) l m)

  pub put-reads-back : (t : ℕ) → t < length given → get_or put-cells (2 * spot (room index 64 (length given)) + t) 0 ≡ get_or given t 0
  put-reads-back t h = pasted-on (2 * spot (room index 64 (length given))) given cells t h (omega (arith, put-within))

-- ---- drop

module _ (cells index : List ℕ) (site : ℕ) (lc : length cells ≡ 8192) (li : length index ≡ 193) (ok : DropPasses cells index site) where
  pub drop-was : Sound cells index
  drop-was = sound-says cells index ok.sound-is

  pub drop-known : entry_of index site < count index
  drop-known = ltb-true (entry_of index site) (count index) ok.known

  abbrev drop_cells : List ℕ
  drop_cells = freed (site_at index (entry_of index site)) cells

  abbrev drop-list : List ℕ
  drop-list = drop_index index (entry_of index site)

  pub left-count : count drop-list ≡ count index - 1
  left-count = drop-count index (entry_of index site) li drop-was.few drop-known

  -- where an entry comes from
  abbrev from : ℕ → ℕ
  from j = cond (ltb j (entry_of index site)) j (j + 1)

  pub from_is : (j : ℕ) → j < count drop-list → site_at drop-list j ≡ site_at index (from j)
  from_is j h = by_side (ltb j (entry_of index site)) refl
    where
      by_side : (b : Bool) → ltb j (entry_of index site) ≡ b → site_at drop-list j ≡ site_at index (cond b j (j + 1))
      by_side true e = drop-low index (entry_of index site) li drop-was.few drop-known j (ltb-true j (entry_of index site) e)
      by_side false e =
          drop-high index (entry_of index site) li drop-was.few drop-known j (ltb-false j (entry_of index site) e) (omega (arith, left-count))

  pub from-known : (j : ℕ) → j < count drop-list → from j < count index
  from-known j h = by_side (ltb j (entry_of index site))
    where
      by_side : (b : Bool) → cond b j (j + 1) < count index
      by_side true = omega (arith, left-count)
      by_side false = omega (arith, left-count)

  pub from-other : (j : ℕ) → from j ≡ entry_of index site → ⊥
  from-other j = by_side (ltb j (entry_of index site)) refl
    where
      by_side : (b : Bool) → ltb j (entry_of index site) ≡ b → cond b j (j + 1) ≡ entry_of index site → ⊥
      by_side true e f = omega (arith, ltb-true j (entry_of index site) e)
      by_side false e f = omega (arith, ltb-false j (entry_of index site) e)

  from_one : (j i : ℕ) → from j ≡ from i → j ≡ i
  from_one j i = by-sides (ltb j (entry_of index site)) (ltb i (entry_of index site)) refl refl
    where
      by-sides : (a b : Bool) → ltb j (entry_of index site) ≡ a → ltb i (entry_of index site) ≡ b → cond a j (j + 1) ≡ cond b i (i + 1) → j ≡ i
      by-sides true true e f g = g
      by-sides true false e f g = absurd (omega (arith, ltb-true j (entry_of index site) e, ltb-false i (entry_of index site) f))
      by-sides false true e f g = absurd (omega (arith, ltb-false j (entry_of index site) e, ltb-true i (entry_of index site) f))
      by-sides false false e f g = omega arith

  -- where an entry that stays is found
  pub drop-finds : (m : ℕ) → m < count index → (m ≡ entry_of index site → ⊥) → (cond (ltb m (entry_of index site)) m (m - 1) < count drop-list) × (site_at drop-list (cond (ltb m (entry_of index site)) m (m - 1)) ≡ site_at index m)
  drop-finds m h d = by_side (ltb m (entry_of index site)) refl
    where
      by_side : (b : Bool) → ltb m (entry_of index site) ≡ b → (cond b m (m - 1) < count drop-list) × (site_at drop-list (cond b m (m - 1)) ≡ site_at index m)
      by_side true e =
          let l = ltb-true m (entry_of index site) e in
          (omega (arith, left-count, drop-known), drop-low index (entry_of index site) li drop-was.few drop-known m l)
      by_side false e =
          let l = ltb-false m (entry_of index site) e in
          let g : m - 1 + 1 ≡ m = omega (arith, d) in (
            omega (arith, left-count, d),
            drop-high index (entry_of index site) li drop-was.few drop-known (m - 1) (omega (arith, d)) (omega (arith, d)) ∙ ap (site_at index) g,
          )

  -- a cell that no site of the new index covers, and the old one does not either
  drop-uncovered : (c : ℕ) → ((i : ℕ) → i < count drop-list → covers (site_at drop-list i) c ≡ false)
      → (m : ℕ) → m < count index → (m ≡ entry_of index site → ⊥) → covers (site_at index m) c ≡ false
  drop-uncovered c f m h d =
      let q = drop-finds m h d in
      sym (ap (λ (x : Site). covers x c) q.1) ∙ f (cond (ltb m (entry_of index site)) m (m - 1)) q.0

  pub drop-zeros : (c : ℕ) → c < 4096 → ((m : ℕ) → m < count index → (m ≡ entry_of index site → ⊥) → covers (site_at index m) c ≡ false)
      → (get_or drop_cells (2 * c) 0 ≡ 0) × (get_or drop_cells (2 * c + 1) 0 ≡ 0)
  drop-zeros c h f = by-own (covers (site_at index (entry_of index site)) c) refl
    where
      inner : Inside (site_at index (entry_of index site))
      inner = drop-was.each (entry_of index site) drop-known

      all-off : covers (site_at index (entry_of index site)) c ≡ false → (m : ℕ) → m < count index → covers (site_at index m) c ≡ false
      all-off e m l = by-same (eqb m (entry_of index site)) refl
        where
          by-same : (b : Bool) → eqb m (entry_of index site) ≡ b → covers (site_at index m) c ≡ false
          by-same true g = ap (λ (x : ℕ). covers (site_at index x) c) (eqb-true m (entry_of index site) g) ∙ e
          by-same false g = f m l (eqb-false m (entry_of index site) g)

      by-own : (b : Bool) → covers (site_at index (entry_of index site)) c ≡ b → (get_or drop_cells (2 * c) 0 ≡ 0) × (get_or drop_cells (2 * c + 1) 0 ≡ 0)
      by-own true e =
          let q = covers-says (site_at index (entry_of index site)) c e in
          let x = site_at index (entry_of index site) in (
            wiped-on x.start x.cells cells (2 * c) (omega (arith, q.0)) (omega (arith, q.1)) (omega (arith, inner.within)),
            wiped-on x.start x.cells cells (2 * c + 1) (omega (arith, q.0)) (omega (arith, q.1)) (omega (arith, inner.within)),
          )
      by-own false e =
          let x = site_at index (entry_of index site) in
          let z = drop-was.zeros c h (all-off e) in
          let o = covers-not x c e in (
            wiped-off x.start x.cells cells (2 * c) (⊎_elim (λ (l : c < x.start). inl (omega arith)) (λ (l : x.start + x.cells ≤ c). inr (omega arith)) o) ∙ z.0,
            wiped-off x.start x.cells cells (2 * c + 1) (⊎_elim (λ (l : c < x.start). inl (omega arith)) (λ (l : x.start + x.cells ≤ c). inr (omega arith)) o) ∙ z.1,
          )

  pub drop-holds : Sound drop_cells drop-list
  drop-holds = record {
    few = omega (arith, left-count, drop-was.few);
    each = λ i h. subst Inside (sym (from_is i h)) (drop-was.each (from i) (from-known i h));
    pairs = λ j i hj hi d. apart-as (from_is j hj) (from_is i hi) (drop-was.pairs (from j) (from i) (from-known j hj) (from-known i hi) (λ e. d (from_one j i e)));
    zeros = λ c h f. drop-zeros c h (drop-uncovered c f);
  }

  pub drop_keeps : (j : ℕ) → j < count index → (j ≡ entry_of index site → ⊥) → (p : ℕ) → 2 * (site_at index j).start ≤ p → p < 2 * ((site_at index j).start + (site_at index j).cells)
      → get_or drop_cells p 0 ≡ get_or cells p 0
  drop_keeps j h d p l m =
      wiped-off (site_at index (entry_of index site)).start (site_at index (entry_of index site)).cells cells p
      (sites-off (site_at index j) (site_at index (entry_of index site)) p (drop-was.pairs j (entry_of index site) h drop-known d) l m)

-- ---- replace

module _ (cells index : List ℕ) (site : ℕ) (given : List ℕ) (lc : length cells ≡ 8192) (li : length index ≡ 193) (ok : ReplacePasses cells index site (length given)) where
  abbrev own : ℕ
  own = entry_of index site

  dropped : DropPasses cells index site
  dropped = record { sound-is = ok.sound-is; known = ok.known }

  pub rep-was : Sound cells index
  rep-was = sound-says cells index ok.sound-is

  pub rep-known : entry_of index site < count index
  rep-known = ltb-true (entry_of index site) (count index) ok.known

  rep_at : room index own (length given) ≡ Some (spot (room index own (length given)))
  rep_at = found (room index own (length given)) ok.fits

  rep-within : 2 * spot (room index own (length given)) + length given ≤ 8192
  rep-within = room_fits index own (length given) (spot (room index own (length given))) ok.good rep_at

  abbrev rep-freed : List ℕ
  rep-freed = freed (site_at index own) cells

  abbrev rep-cells : List ℕ
  rep-cells = pasted (2 * spot (room index own (length given))) given rep-freed

  abbrev rep-list : List ℕ
  rep-list = replace_index index own site (spot (room index own (length given))) (length given / 2)

  abbrev rep-site : Site
  rep-site = site_of site (spot (room index own (length given))) (length given / 2)

  rep-count : count rep-list ≡ count index
  rep-count = replace-count index own site (spot (room index own (length given))) (length given / 2)

  rep-old : (j : ℕ) → (j ≡ entry_of index site → ⊥) → site_at rep-list j ≡ site_at index j
  rep-old j d = replace-other index own site (spot (room index own (length given))) (length given / 2) j d

  rep-new : site_at rep-list (entry_of index site) ≡ rep-site
  rep-new = replace-new index own site (spot (room index own (length given))) (length given / 2) li (omega (arith, rep-known, rep-was.few))

  -- another site lies off the run
  rep-off : (j : ℕ) → j < count index → (j ≡ entry_of index site → ⊥)
      → ((site_at index j).start + (site_at index j).cells ≤ spot (room index own (length given))) ⊎ (spot (room index own (length given)) + length given / 2 ≤ (site_at index j).start)
  rep-off j h d =
      off-run (site_at index j) (spot (room index own (length given))) (length given / 2) (rep-was.each j h).not-empty (one_cell (length given) ok.good)
      (λ c a b. room-free index own (length given) (spot (room index own (length given))) c ok.good rep_at a b j h d)

  rep-apart : (j : ℕ) → j < count index → (j ≡ entry_of index site → ⊥) → Apart (site_at index j) rep-site
  rep-apart j h d = record {
    numbers = λ e. (rep-was.pairs j own h rep-known d).numbers (e ∙ sym (find-is index site (count index) rep-known));
    rooms = rep-off j h d;
  }

  own-or-other : (i : ℕ) → (i ≡ entry_of index site) ⊎ (i ≡ entry_of index site → ⊥)
  own-or-other i = by-same (eqb i (entry_of index site)) refl
    where
      by-same : (b : Bool) → eqb i (entry_of index site) ≡ b → (i ≡ entry_of index site) ⊎ (i ≡ entry_of index site → ⊥)
      by-same true e = inl (eqb-true i (entry_of index site) e)
      by-same false e = inr (eqb-false i (entry_of index site) e)

  own_at : (i : ℕ) → i ≡ entry_of index site → site_at rep-list i ≡ rep-site
  own_at i e = ap (site_at rep-list) e ∙ rep-new

  pub replace-holds : Sound rep-cells rep-list
  replace-holds = record {
    few = omega (arith, rep-count, rep-was.few);
    each =
        λ i h.
        ⊎_elim
        (λ (e : i ≡ entry_of index site).
        subst Inside (sym (own_at i e)) (record { not-empty = one_cell (length given) ok.good; within = omega (arith, rep-within, whole_cells (length given) ok.good) }))
        (λ (e : i ≡ entry_of index site → ⊥). subst Inside (sym (rep-old i e)) (rep-was.each i (omega (arith, rep-count))))
        (own-or-other i);
    pairs =
        λ j i hj hi d.
        ⊎_elim
        (λ (e : j ≡ entry_of index site).
        ⊎_elim
        (λ (f : i ≡ entry_of index site). absurd (d (e ∙ sym f)))
        (λ (f : i ≡ entry_of index site → ⊥). apart-as (own_at j e) (rep-old i f) (apart-back (rep-apart i (omega (arith, rep-count)) f)))
        (own-or-other i))
        (λ (e : j ≡ entry_of index site → ⊥).
        ⊎_elim
        (λ (f : i ≡ entry_of index site). apart-as (rep-old j e) (own_at i f) (rep-apart j (omega (arith, rep-count)) e))
        (λ (f : i ≡ entry_of index site → ⊥). apart-as (rep-old j e) (rep-old i f) (rep-was.pairs j i (omega (arith, rep-count)) (omega (arith, rep-count)) d))
        (own-or-other i))
        (own-or-other j);
    zeros =
        λ c h f.
        let z = drop-zeros cells index site lc li dropped c h (λ m l d. sym (ap (λ (x : Site). covers x c) (rep-old m d)) ∙ f m (omega (arith, rep-count))) in
        let o = covers-not rep-site c (sym (ap (λ (x : Site). covers x c) rep-new) ∙ f (entry_of index site) (omega (arith, rep-count, rep-known))) in
        let w = whole_cells (length given) ok.good in (
          pasted-off (2 * spot (room index own (length given))) given rep-freed (2 * c) (off-first (spot (room index own (length given))) (length given) c w o) ∙ z.0,
          pasted-off (2 * spot (room index own (length given))) given rep-freed (2 * c + 1) (off-second (spot (room index own (length given))) (length given) c w o) ∙ z.1,
        );
  }

  pub replace-keeps : (j : ℕ) → j < count index → (j ≡ entry_of index site → ⊥) → (p : ℕ) → 2 * (site_at index j).start ≤ p
      → p < 2 * ((site_at index j).start + (site_at index j).cells) → get_or rep-cells p 0 ≡ get_or cells p 0
  replace-keeps j h d p l m =
      pasted-off (2 * spot (room index own (length given))) given rep-freed p
      (site-off (site_at index j) (spot (room index own (length given))) (length given) p (whole_cells (length given) ok.good) (rep-off j h d) l m)
      ∙ drop_keeps cells index site lc li dropped j h d p l m

  pub replace-reads-back : (t : ℕ) → t < length given → get_or rep-cells (2 * spot (room index own (length given)) + t) 0 ≡ get_or given t 0
  replace-reads-back t h =
      pasted-on (2 * spot (room index own (length given))) given rep-freed t h
      (omega (arith, rep-within, length-wiped (site_at index own).start (site_at index own).cells cells))
