-- Laws of a chain's lines: how long they are, a step of each loop, and the whole. Assumes nothing.
use mathlib.Core.Path.{◌≡◌, refl, sym, ap, ap₂, subst, ◌∙◌}
use mathlib.Core.Bool.{Bool, true, false, cond}
use mathlib.Core.List.{List, [], ◌∷◌, ◌++◌}
use Prim.Native.Nat.{ℕ, zero, suc, ◌+◌, ◌-◌, ◌*◌, ◌≤◌, ◌<◌}
use native.Mathlib.Numerals.{add-one}
use native.Mathlib.Omega.{arith}
use borrow.Author.Tests.{ltb-true}
use lib.Dec.{eqb, ltb}
use lib.Ieee.{Float, nan, binary64, to_bits}
use lib.ListN.{length, get_or, length-append}
use Rattle.complex.specs.declared.Complex.{Complex}
use Rattle.complex.specs.Cells.{cell_at}
use Rattle.texts.specs.Text.{Puts, item_text, line, pair_line}
use Rattle.texts.proofs.TextLaws.{puts_then, puts-as, puts_none, length-item, length-line, length-pair}
use Rattle.lines.specs.Lines.{cut_word, blank}
use Rattle.page_lines.specs.PageLines.{hex_item, bits_line}
use Rattle.page_lines.proofs.PageLineLaws.{length-hex-item, length-bits}
use Rattle.chain_lines.specs.ChainLines.{chain_word, site_word, site_cell_word, dropped_word, quiet_word, site_line, site_cell_line, site_cell_lines, rank_line, cut_behind, site_text, site_texts, chain_text, ChainLaid}

-- ---- how long each line is

pub length-shape : (j a b : ℕ) → length (site_line j a b) ≤ 68
unfolding site_line
length-shape j a b = omega (arith, length-append (item_text site_word j) (pair_line blank a b), length-item site_word j, length-pair blank a b)

pub length-cell : (k a b : ℕ) → length (site_cell_line k a b) ≤ 60
unfolding site_cell_line
length-cell k a b =
    omega (
      arith,
      length-append (item_text site_cell_word k ++ hex_item blank a) (bits_line blank b),
      length-append (item_text site_cell_word k) (hex_item blank a),
      length-item site_cell_word k,
      length-hex-item blank a,
      length-bits blank b,
    )

pub length-quiet-word : (q : ℕ) → length (quiet_word q) ≤ 5
length-quiet-word q = go (eqb q 1)
  where
    go : (t : Bool) → length {A = ℕ} (cond t (32 ∷ 121 ∷ 101 ∷ 115 ∷ 32 ∷ []) (32 ∷ 110 ∷ 111 ∷ 32 ∷ [])) ≤ 5
    go true = omega arith
    go false = omega arith

pub length-rank : (j r s q t : ℕ) → length (rank_line j r s q t) ≤ 92
unfolding rank_line
length-rank j r s q t =
    let a = item_text cut_word j in
    let b = item_text blank r in
    let c = item_text blank s in
    omega (
      arith,
      length-append (a ++ b ++ c) (line (quiet_word q) t),
      length-append (a ++ b) c,
      length-append a b,
      length-item cut_word j,
      length-item blank r,
      length-item blank s,
      length-line (quiet_word q) t,
      length-quiet-word q,
    )

pub length-behind : (n : ℕ) (bonds marks : List ℕ) (j : ℕ) → length (cut_behind n bonds marks j) ≤ 92
unfolding cut_behind
length-behind n bonds marks j = go (ltb (j + 1) n) (rank_line j (get_or bonds (j + 1) 0) (get_or marks (3 * j) 0) (get_or marks (3 * j + 1) 0) (get_or marks (3 * j + 2) 0)) (length-rank j (get_or bonds (j + 1) 0) (get_or marks (3 * j) 0) (get_or marks (3 * j + 1) 0) (get_or marks (3 * j + 2) 0))
  where
    go : (t : Bool) (l : List ℕ) → length l ≤ 92 → length (cond t l []) ≤ 92
    go true l h = h
    go false l h = omega arith

pub length-cells : (s : List Float) (from m : ℕ) → length (site_cell_lines s from m) ≤ 60 * m
unfolding site_cell_lines
length-cells s from zero = omega arith
length-cells s from (suc m) =
    let a = to_bits binary64 (cell_at s (from + m)).re in
    let b = to_bits binary64 (cell_at s (from + m)).im in
    omega (arith, length-append (site_cell_lines s from m) (site_cell_line m a b), length-cells s from m, length-cell m a b)

-- ---- the loop over a site's cells

pub cells-none : (s : List Float) (from at : ℕ) (d : List ℕ) → Puts at (site_cell_lines s from 0) d at d
unfolding site_cell_lines
cells-none s from at d = puts_none at d

module _ (s : List Float) (from count at : ℕ) (old : List ℕ) (fits : at + 60 * count ≤ length old) where
  pub cells-step : (m r t a b : ℕ) (z : Complex) (mid new : List ℕ) → m < count → z ≡ cell_at s (from + m) → a ≡ to_bits binary64 z.re → b ≡ to_bits binary64 z.im
      → Puts at (site_cell_lines s from m) old r mid → Puts r (site_cell_line m a b) mid t new → Puts at (site_cell_lines s from (m + 1)) old t new
  unfolding site_cell_lines
  cells-step m r t a b z mid new h e f g p q =
      let l = length-cells s from m in
      rw add-one
      (puts_then at r t (site_cell_lines s from m) _ old mid new (omega arith) p
      (puts-as r t _ _ mid new
      (ap₂ (site_cell_line m) (f ∙ ap (λ (y : Complex). to_bits binary64 y.re) e) (g ∙ ap (λ (y : Complex). to_bits binary64 y.im) e)) q))

-- ---- the texts, one after the other

pub three-texts : (at r s t : ℕ) (x y z old a b c : List ℕ) → at + length x + length y ≤ length old → Puts at x old r a → Puts r y a s b → Puts s z b t c → Puts at (x ++ y ++ z) old t c
three-texts at r s t x y z old a b c room p q v =
    puts_then at s t (x ++ y) z old b c (omega (arith, length-append x y)) (puts_then at r s x y old a b (omega arith) p q) v

pub four-texts : (at r s t u : ℕ) (w x y z old a b c d : List ℕ) → at + length w + length x + length y ≤ length old
    → Puts at w old r a → Puts r x a s b → Puts s y b t c → Puts t z c u d → Puts at (w ++ x ++ y ++ z) old u d
four-texts at r s t u w x y z old a b c d room p q v i =
    puts_then at t u (w ++ x ++ y) z old c d (omega (arith, length-append (w ++ x) y, length-append w x)) (three-texts at r s t w x y old a b c (omega arith) p q v) i

-- ---- a chain

module _ (n : ℕ) (sites : List Float) (bonds starts marks : List ℕ) (room : ℕ) (is : ChainLaid n sites bonds starts marks room) where
  -- no site starts past the end of the last
  before-end : (m j : ℕ) → j + m ≡ n → get_or starts j 0 ≤ get_or starts n 0
  before-end zero j e = let h : j ≡ n = omega arith in subst (λ (x : ℕ). get_or starts j 0 ≤ get_or starts x 0) h (omega arith)
  before-end (suc m) j e = omega (arith, is.rising j (omega arith), before-end m (j + 1) (omega arith))

  pub starts-most : (j : ℕ) → j ≤ n → get_or starts j 0 ≤ get_or starts n 0
  starts-most j h = before-end (n - j) j (omega arith)

  -- a site's lines have room where they begin, and its cells are there
  pub site-room : (j at : ℕ) → j < n → at ≤ 60 * get_or starts j 0 + 160 * j + 27 → at + 160 + 60 * (get_or starts (j + 1) 0 - get_or starts j 0) ≤ room
  site-room j at h k = omega (arith, is.rising j h, starts-most (j + 1) (omega arith), is.fits)

  pub site-cells : (j : ℕ) → j < n → 2 * (get_or starts j 0 + (get_or starts (j + 1) 0 - get_or starts j 0)) ≤ length sites
  site-cells j h = omega (arith, is.rising j h, starts-most (j + 1) (omega arith), is.cells-hold)

  pub length-site : (j : ℕ) → j < n → length (site_text n sites bonds starts marks j) + 60 * get_or starts j 0 ≤ 160 + 60 * get_or starts (j + 1) 0
  unfolding site_text
  length-site j h =
      let a = site_line j (get_or bonds j 0) (get_or bonds (j + 1) 0) in
      let b = site_cell_lines sites (get_or starts j 0) (get_or starts (j + 1) 0 - get_or starts j 0) in
      omega (
        arith,
        length-append (a ++ b) (cut_behind n bonds marks j),
        length-append a b,
        length-shape j (get_or bonds j 0) (get_or bonds (j + 1) 0),
        length-cells sites (get_or starts j 0) (get_or starts (j + 1) 0 - get_or starts j 0),
        length-behind n bonds marks j,
        is.rising j h,
      )

  pub length-sites : (j : ℕ) → j ≤ n → length (site_texts n sites bonds starts marks j) ≤ 60 * get_or starts j 0 + 160 * j
  unfolding site_texts
  length-sites zero h = omega arith
  length-sites (suc j) h =
      let g = length-site j (omega arith) in
      let e : get_or starts (suc j) 0 ≡ get_or starts (j + 1) 0 = ap (λ (x : ℕ). get_or starts x 0) (sym (add-one j)) in
      omega (arith, length-append (site_texts n sites bonds starts marks j) (site_text n sites bonds starts marks j), length-sites j (omega arith), g, e)

  pub length-chain : (dropped : ℕ) → length (chain_text n dropped sites bonds starts marks) ≤ 60 * get_or starts n 0 + 160 * n + 56
  unfolding chain_text
  length-chain dropped =
      let a = line chain_word n in
      let b = site_texts n sites bonds starts marks n in
      omega (arith, length-append (a ++ b) (line dropped_word dropped), length-append a b, length-line chain_word n, length-sites n (omega arith), length-line dropped_word dropped)

  pub sites-none : (at : ℕ) (d : List ℕ) → Puts at (site_texts n sites bonds starts marks 0) d at d
  unfolding site_texts
  sites-none at d = puts_none at d

  pub sites-step : (at : ℕ) (old : List ℕ) → at ≤ 27 → length old ≡ room → (j r t : ℕ) (mid new : List ℕ) → j < n
      → Puts at (site_texts n sites bonds starts marks j) old r mid → Puts r (site_text n sites bonds starts marks j) mid t new → Puts at (site_texts n sites bonds starts marks (j + 1)) old t new
  unfolding site_texts
  sites-step at old front e j r t mid new h p q =
      let l = length-sites j (omega arith) in
      rw add-one (puts_then at r t (site_texts n sites bonds starts marks j) _ old mid new (omega (arith, starts-most j (omega arith), is.fits)) p q)

  -- the three texts of a site, and of the whole
  pub site-texts : (j at r s t : ℕ) (old a b c : List ℕ) → j < n → at ≤ 60 * get_or starts j 0 + 160 * j + 27 → length old ≡ room
      → Puts at (site_line j (get_or bonds j 0) (get_or bonds (j + 1) 0)) old r a
      → Puts r (site_cell_lines sites (get_or starts j 0) (get_or starts (j + 1) 0 - get_or starts j 0)) a s b → Puts s (cut_behind n bonds marks j) b t c
      → Puts at (site_text n sites bonds starts marks j) old t c
  unfolding site_text
  site-texts j at r s t old a b c h k e p q v =
      let d = get_or starts (j + 1) 0 - get_or starts j 0 in
      three-texts at r s t _ _ _ old a b c
      (omega (arith, site-room j at h k, length-shape j (get_or bonds j 0) (get_or bonds (j + 1) 0), length-cells sites (get_or starts j 0) d)) p q v

  pub chain-texts : (dropped r s t : ℕ) (old a b c : List ℕ) → length old ≡ room
      → Puts 0 (line chain_word n) old r a → Puts r (site_texts n sites bonds starts marks n) a s b → Puts s (line dropped_word dropped) b t c
      → Puts 0 (chain_text n dropped sites bonds starts marks) old t c
  unfolding chain_text
  chain-texts dropped r s t old a b c e p q v =
      three-texts 0 r s t _ _ _ old a b c (omega (arith, length-line chain_word n, length-sites n (omega arith), is.fits)) p q v

-- ---- lists that hold the same chain

-- what two chains' lists have in common: all that the lines look at
pub record SameChain (n : ℕ) (sites : List Float) (bonds starts marks : List ℕ) (sites' : List Float) (bonds' starts' marks' : List ℕ) : Type 0 where
  pub sites-same : (i : ℕ) → i < 2 * get_or starts n 0 → get_or sites' i nan ≡ get_or sites i nan
  pub bonds-same : (j : ℕ) → j ≤ n → get_or bonds' j 0 ≡ get_or bonds j 0
  pub starts-same : (j : ℕ) → j ≤ n → get_or starts' j 0 ≡ get_or starts j 0
  pub marks-same : (i : ℕ) → i < 3 * (n - 1) → get_or marks' i 0 ≡ get_or marks i 0

same-cells : (s t : List Float) (from m : ℕ) → ((i : ℕ) → i < 2 * (from + m) → get_or t i nan ≡ get_or s i nan) → site_cell_lines t from m ≡ site_cell_lines s from m
unfolding site_cell_lines
same-cells s t from zero h = refl
same-cells s t from (suc m) h =
    ap₂ ◌++◌ (same-cells s t from m (λ i l. h i (omega arith)))
    (ap₂ (site_cell_line m) (ap (to_bits binary64) (h (2 * (from + m)) (omega arith))) (ap (to_bits binary64) (h (2 * (from + m) + 1) (omega arith))))

module _ (n : ℕ) (sites : List Float) (bonds starts marks : List ℕ) (room : ℕ) (is : ChainLaid n sites bonds starts marks room)
    (sites' : List Float) (bonds' starts' marks' : List ℕ) (same : SameChain n sites bonds starts marks sites' bonds' starts' marks') where
  same-behind : (j : ℕ) → j < n → cut_behind n bonds' marks' j ≡ cut_behind n bonds marks j
  unfolding cut_behind
  same-behind j h = go (ltb (j + 1) n) refl
    where
      go : (t : Bool) → ltb (j + 1) n ≡ t
          → cond t (rank_line j (get_or bonds' (j + 1) 0) (get_or marks' (3 * j) 0) (get_or marks' (3 * j + 1) 0) (get_or marks' (3 * j + 2) 0)) []
          ≡ cond t (rank_line j (get_or bonds (j + 1) 0) (get_or marks (3 * j) 0) (get_or marks (3 * j + 1) 0) (get_or marks (3 * j + 2) 0)) []
      go false e = refl
      go true e =
          let k : j + 1 < n = ltb-true (j + 1) n e in
          rw (same.bonds-same (j + 1) (omega arith), same.marks-same (3 * j) (omega arith), same.marks-same (3 * j + 1) (omega arith), same.marks-same (3 * j + 2) (omega arith)) refl

  same-site : (j : ℕ) → j < n → site_text n sites' bonds' starts' marks' j ≡ site_text n sites bonds starts marks j
  unfolding site_text
  same-site j h =
      let c = same-cells sites sites' (get_or starts j 0) (get_or starts (j + 1) 0 - get_or starts j 0)
      (λ i l. same.sites-same i (omega (arith, is.rising j h, starts-most n sites bonds starts marks room is (j + 1) (omega arith)))) in
      ap₂ ◌++◌
      (ap₂ ◌++◌ (ap₂ (site_line j) (same.bonds-same j (omega arith)) (same.bonds-same (j + 1) (omega arith)))
      (ap₂ (λ (f t : ℕ). site_cell_lines sites' f (t - f)) (same.starts-same j (omega arith)) (same.starts-same (j + 1) (omega arith)) ∙ c))
      (same-behind j h)

  same-sites : (j : ℕ) → j ≤ n → site_texts n sites' bonds' starts' marks' j ≡ site_texts n sites bonds starts marks j
  unfolding site_texts
  same-sites zero h = refl
  same-sites (suc j) h = ap₂ ◌++◌ (same-sites j (omega arith)) (same-site j (omega arith))

  -- the text of a chain is that of its first n sites: what lies past them in the lists does not count
  pub same_text : (dropped : ℕ) → chain_text n dropped sites' bonds' starts' marks' ≡ chain_text n dropped sites bonds starts marks
  unfolding chain_text
  same_text dropped = ap (λ (t : List ℕ). line chain_word n ++ t ++ line dropped_word dropped) (same-sites n (omega arith))
