-- Laws of the check: a step of the comparing loop, the ways out of each stage, and that the two densities are the same. Assumes nothing.
use mathlib.Core.Bool.{Bool, true, false, ◌&&◌, true≢false}
use mathlib.Core.Path.{◌≡◌, refl, sym, ap, ap₂, ◌∙◌}
use mathlib.Core.List.{List, [], ◌∷◌}
use Prim.Native.Nat.{ℕ, suc, ◌+◌, ◌-◌, ◌*◌, ◌/◌, ◌^◌, ◌≤◌, ◌<◌}
use native.Mathlib.Omega.{arith}
use native.Mathlib.Numerals.{add-one}
use borrow.Author.Tests.{eq-eqb, ne_eqb, eqb-true}
use lib.Dec.{T, eqb}
use lib.Ieee.{Float, nan, binary64, to_bits, fits, of_bits}
use lib.Ieee.Bits.{of_bits-to_bits}
use lib.ListN.{length, get_or, take, drop, drop_of_length-le}
use lib.Seq.{drop-cons}
use Rattle.std.specs.Prelude.{Ok, Err}
use Rattle.answers.specs.declared.Refusal.{Refusal}
use Rattle.answers.specs.Paper.{Answer, Done, Reply, paper, table, and_then, if_done}
use Rattle.answers.proofs.Stopped.{stopped-number, was-done}
use Rattle.answers.proofs.PaperLaws.{and_then-done, stays, done-old}
use Rattle.complex.specs.Cells.{written, components}
use Rattle.submasks.specs.Submasks.{others}
use Rattle.submasks.proofs.SubmaskLaws.{others-lt}
use Rattle.qubits.specs.Lists.{subsystem}
use Rattle.qubits.specs.Spread.{named, row_offset}
use Rattle.qubits.proofs.SpreadLaws.{spread-lt}
use Rattle.cut_sides.specs.Sides.{cut_sizes, cut_refusal, Parted, side, named_rows}
use Rattle.cuts.specs.Cut.{cut_cell, cut_lengths, cut_answer, CutMatrix}
use Rattle.cuts.proofs.CutLaws.{lengths-done}
use Rattle.densities.specs.Density.{density_answer, density_list}
use Rattle.densities.proofs.DensityLaws.{side-small, even_power}
use Rattle.density_entries.specs.Entries.{density_cell, setting_amplitude}
use Rattle.density_entries.specs.Filled.{table_entry, EntriesReady}
use Rattle.density_entries.proofs.EntryLaws.{table-entry}
use Rattle.agreement.specs.FromCut.{cut_amplitude, cut_density_cell}
use Rattle.agreement.proofs.SameDensity.{same-density, same-amplitude, entry-same}
use Rattle.agreement.proofs.AgreementLaws.{written_same}
use Rattle.agreement.proofs.Theorems.{cut-parted, cut_left}
use Rattle.density_recount.specs.declared.Layout.{Layout}
use Rattle.density_recount.specs.Recount.{recount_sizes, recounted, layout_of, Numbers}
use Rattle.density_recount.proofs.RecountLaws.{mask-in, number_in, entry-is, sizes-done, parted-done}
use Rattle.density_recount.proofs.Pages.{front}
use Rattle.pages.specs.Agree.{same_floats, both_answer, pages_answer, pages_same, Says, Held}
use Rattle.pages.specs.Blocks.{same_rows}
use Rattle.pages.proofs.BlocksLaws.{and-false, rows-yes}
use Rattle.pages.proofs.Both.{goes, matrix-length, density-accepted, density-done}

-- ---- two lists

-- a list has the same bits as itself
pub same_self : (a : List Float) → same_floats a a ≡ true
unfolding same_floats
same_self [] = refl
same_self (x ∷ a) = ap (λ (t : Bool). t && same_floats a a) (eq-eqb (to_bits binary64 x) (to_bits binary64 x) refl) ∙ same_self a

and_both : (t u : Bool) → (t && u) ≡ true → (t ≡ true) × (u ≡ true)
and_both true u h = (refl, h)
and_both false u h = absurd (true≢false (sym h))

-- two lists of floats that fit and have the same bits are the same list
pub same-sound : (a b : List Float) → ((k : ℕ) → k < length a → T (fits binary64 (get_or a k nan))) → ((k : ℕ) → k < length b → T (fits binary64 (get_or b k nan)))
    → same_floats a b ≡ true → a ≡ b
unfolding same_floats
same-sound [] [] f g h = refl
same-sound [] (y ∷ b) f g h = absurd (true≢false (sym h))
same-sound (x ∷ a) [] f g h = absurd (true≢false (sym h))
same-sound (x ∷ a) (y ∷ b) f g h =
    let p = and_both (eqb (to_bits binary64 x) (to_bits binary64 y)) (same_floats a b) h in
    let e : x ≡ y =
    sym (of_bits-to_bits binary64 x (f 0 (omega arith))) ∙ ap (of_bits binary64) (eqb-true (to_bits binary64 x) (to_bits binary64 y) p.0)
    ∙ of_bits-to_bits binary64 y (g 0 (omega arith)) in
    ap₂ (λ (z : Float) (c : List Float). z ∷ c) e (same-sound a b (λ k q. f (suc k) (omega arith)) (λ k q. g (suc k) (omega arith)) p.1)

pub same-short : (a b : List Float) → (length a ≡ length b → ⊥) → same_floats a b ≡ false
unfolding same_floats
same-short [] [] h = absurd (h refl)
same-short [] (y ∷ b) h = refl
same-short (x ∷ a) [] h = refl
same-short (x ∷ a) (y ∷ b) h =
    ap (λ (t : Bool). eqb (to_bits binary64 x) (to_bits binary64 y) && t) (same-short a b (λ e. h (ap suc e))) ∙ and-false (eqb (to_bits binary64 x) (to_bits binary64 y))

module _ (a b : List Float) (i : ℕ) (h : i < length a) (g : i < length b) where
  same_next : same_floats (drop i a) (drop i b)
      ≡ (eqb (to_bits binary64 (get_or a i nan)) (to_bits binary64 (get_or b i nan)) && same_floats (drop (suc i) a) (drop (suc i) b))
  unfolding same_floats
  same_next = ap₂ same_floats (drop-cons a i nan h) (drop-cons b i nan g)

  pub same_step : to_bits binary64 (get_or a i nan) ≡ to_bits binary64 (get_or b i nan) → same_floats (drop i a) (drop i b) ≡ same_floats (drop (i + 1) a) (drop (i + 1) b)
  same_step e =
      same_next ∙ ap (λ (t : Bool). t && same_floats (drop (suc i) a) (drop (suc i) b)) (eq-eqb _ _ e)
      ∙ ap (λ (k : ℕ). same_floats (drop k a) (drop k b)) (sym (add-one i))

  pub same_stop : (to_bits binary64 (get_or a i nan) ≡ to_bits binary64 (get_or b i nan) → ⊥) → same_floats (drop i a) (drop i b) ≡ false
  same_stop e = same_next ∙ ap (λ (t : Bool). t && same_floats (drop (suc i) a) (drop (suc i) b)) (ne_eqb _ _ e)

pub same_end : (a b : List Float) (i : ℕ) → length a ≤ i → length b ≤ i → same_floats (drop i a) (drop i b) ≡ true
unfolding same_floats
same_end a b i h g = ap₂ same_floats (drop_of_length-le a h) (drop_of_length-le b g)

-- ---- answers

-- a call's refusal stays, and the check says no
module _ (f : Refusal) (x b : Reply) (e : table f ≡ x) where
  stopped : table f ≡ and_then x b
  stopped = e ∙ stays x b (λ z. stopped-number f (ap (λ (r : Reply). r.0) e ∙ z))

  says-no : (t : Bool) → false ≡ if_done (and_then x b).0 t false
  says-no t = done-old (and_then x b).0 t false (λ z. stopped-number f (ap (λ (r : Reply). r.0) stopped ∙ z))

-- ---- the cut

cut-lengths : (s : List Float) (n : ℕ) (l : List ℕ) (cap o : ℕ) → (cut_answer s n l cap o).0 ≡ 0 → (length s ≡ 2 * 2 ^ n) × (2 * 2 ^ n ≤ o)
cut-lengths s n l cap o e =
    let p = and_then-done (cut_refusal l n cap) (and_then (cut_lengths n (length s) o) (components 0 s)) e in
    lengths-done n (length s) o (and_then-done (cut_lengths n (length s) o) (components 0 s) p.1).0

-- the density summed from the cut matrix alone is the state's
same-densities : (s : List Float) (n : ℕ) (l : List ℕ) → Parted l n → (room : List Float)
    → recounted n l (written (2 ^ n) (cut_cell s n l) []) room ≡ density_list n l s room
same-densities s n l p room =
    written_same (2 ^ length l * 2 ^ length l) (cut_density_cell n l (written (2 ^ n) (cut_cell s n l) [])) (density_cell n l s) room
    (λ k h. same-density n l p s [] k)

pub pages-same : (s : List Float) (n : ℕ) (l : List ℕ) → Parted l n → pages_same s n l ≡ true
unfolding pages_same
pages-same s n l p = ap (same_floats (density_list n l s [])) (same-densities s n l p []) ∙ same_self (density_list n l s [])

-- ---- the check

module _ (s : List Float) (n : ℕ) (l : List ℕ) (cap : ℕ) where
  pub pages-refused : (f : Refusal) → table f ≡ recount_sizes n (length l) cap → Says (pages_answer s n l cap) (pages_same s n l) (Err f)
  pages-refused f e = record { answer = stopped f _ _ e; agree = says-no f _ _ e (pages_same s n l) }

  -- past the sizes
  module _ (sized : (recount_sizes n (length l) cap).0 ≡ 0) (o : List Float) (b : Answer) (m : List Float) (c : CutMatrix s n l cap o b m) (eo : length o ≡ 8192) where
    cut-said : paper b ≡ cut_answer s n l cap 8192
    cut-said = c.answer ∙ ap (cut_answer s n l cap) eo

    sizes-said : both_answer s n l cap ≡ pages_answer s n l cap
    sizes-said = goes (recount_sizes n (length l) cap) (both_answer s n l cap) sized

    pub cut-refused : (f : Refusal) → b ≡ Err f → Says (pages_answer s n l cap) (pages_same s n l) (Err f)
    cut-refused f d =
        let e : table f ≡ cut_answer s n l cap 8192 = ap paper (sym d) ∙ cut-said in
        record {
          answer = stopped f _ _ e ∙ sizes-said;
          agree = says-no f _ _ e (pages_same s n l) ∙ ap (λ (x : Reply). if_done x.0 (pages_same s n l) false) sizes-said;
        }

    -- past the cut
    module _ (z : b ≡ Done) where
      zero-said : (paper b).0 ≡ 0
      zero-said = ap (λ (x : Answer). (paper x).0) z

      taken : (cut_answer s n l cap 8192).0 ≡ 0
      taken = was-done b _ cut-said z

      state-length : length s ≡ 2 * 2 ^ n
      state-length = (cut-lengths s n l cap 8192 taken).0

      pub state-fits : length s ≤ 8192
      state-fits = omega (arith, state-length, (cut-lengths s n l cap 8192 taken).1)

      -- what was cut, as a matrix of its own
      pub held : Held s (take (length s) m) n l
      held =
          let g = and_then-done (cut_refusal l n cap) (and_then (cut_lengths n (length s) 8192) (components 0 s)) taken in
          record {
            parted = cut-parted s n l cap o b m c zero-said;
            some = (parted-done n l (and_then-done (cut_sizes n cap) (subsystem n l) g.0).1).1;
            few = (sizes-done n (length l) cap sized).1;
            state = state-length;
            matrix =
                ap (λ (k : ℕ). take k m) state-length ∙ ap (take (2 * 2 ^ n)) (cut_left s n l cap o b m c zero-said) ∙ front (2 ^ n) (cut_cell s n l) o;
          }

      -- THE ANSWER IS 0, AND YES IS THE COMPARISON
      pub agreed : (y : Bool) → y ≡ pages_same s n l → Says (pages_answer s n l cap) (pages_same s n l) (Ok y)
      agreed y ey =
          let q : (0, 0) ≡ pages_answer s n l cap =
          sym (density-done s n l cap taken (density-accepted s n l cap sized taken)) ∙ goes (cut_answer s n l cap 8192) (density_answer s n l cap 8192 128) taken ∙ sizes-said in
          record { answer = q; agree = ey ∙ ap (λ (x : Reply). if_done x.0 (pages_same s n l) false) q }

-- ---- the comparison, a block at a time

module _ (s m : List Float) (n : ℕ) (l : List ℕ) (p : Held s m n l) (dim : ℕ) (ed : dim ≡ 2 ^ length l) where
  pub held_small : dim ≤ 64
  held_small = rw ed (side-small (length l) p.few)

  pub held-state : (rest : ℕ) (table : List ℕ) → rest ≡ others n (named l) → ((k : ℕ) → k < dim → get_or table k 0 ≡ row_offset l k) → dim ≤ length table
      → EntriesReady n s rest table dim
  held-state rest table er t room = record {
    small = p.parted.listed.small;
    long = p.state;
    mask_lt = rw er (others-lt n (named l));
    even = rw ed (even_power (length l) p.some);
    table = room;
    below = λ k h. rw (t k h) (spread-lt n l k p.parted.listed.below);
  }

  module _ (z : Layout) (ez : z ≡ layout_of (named_rows l n) (2 ^ side l n) (2 ^ n)) where
    pub held-matrix : (old table : List ℕ) → Numbers l n z.scale dim old table dim → dim ≤ length old → EntriesReady n m z.mask table dim
    held-matrix old table t room = record {
      small = p.parted.listed.small;
      long = ap length p.matrix ∙ matrix-length s n l;
      mask_lt = mask-in l n p.parted z ez;
      even = rw ed (even_power (length l) p.some);
      table = omega (arith, t.long);
      below = λ k h. rw (t.are k h) (number_in l n p.parted z ez k);
    }

    -- THE BLOCKS ARE THE SAME, and so are the two densities
    pub held_same : (rest groups : ℕ) (table old' table' : List ℕ) (y : Bool) → rest ≡ others n (named l) → groups ≡ 2 ^ (n - length l)
        → ((k : ℕ) → k < dim → get_or table k 0 ≡ row_offset l k) → Numbers l n z.scale dim old' table' dim
        → y ≡ same_rows (table_entry n s rest groups table) (table_entry n m z.mask groups table') (dim / 2) → y ≡ pages_same s n l
    held_same rest groups table old' table' y er eg t t' ey =
        let entry : (r c : ℕ) → r < dim → c < dim → table_entry n s rest groups table r c ≡ table_entry n m z.mask groups table' r c
        = λ r c hr hc.
        rw (er, eg, p.matrix)
        (table-entry n l s table dim r c p.parted.listed t hr hc
        ∙ sym (entry-same (2 ^ (n - length l)) (cut_amplitude n l (written (2 ^ n) (cut_cell s n l) [])) (setting_amplitude n l s) (same-amplitude n l p.parted s []) r c)
        ∙ sym (entry-is l n p.parted z ez (written (2 ^ n) (cut_cell s n l) []) dim old' table' r c t' hr hc)) in
        ey ∙ rows-yes _ _ dim entry (dim / 2) (omega arith) ∙ sym (pages-same s n l p.parted)
