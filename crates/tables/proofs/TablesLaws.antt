-- Laws of a list that is filled from the front. Assumes nothing.
use mathlib.Core.Path.{◌≡◌, refl, ◌∙◌}
use mathlib.Core.Logic.{⊎_elim}
use mathlib.Core.List.{List, [], ◌∷◌, append_assoc, append-nil}
use Prim.Native.Nat.{ℕ, zero, suc, ◌+◌, ◌≤◌, ◌<◌}
use native.Mathlib.Nat.{eq-or-lt_of_le}
use native.Mathlib.Numerals.{add-one}
use native.Mathlib.Omega.{arith}
use lib.ListN.{length, get_or, set, take, drop, length-append, length-drop, drop_of_length-le, get_or-append}
use lib.Seq.{set_at, take_at, drop-cons, get_or_at}
use Rattle.tables.specs.Tables.{table, filled}

module _ {A : Type 0} where
  pub length-table : (m : ℕ) (f : ℕ → A) → length (table m f) ≡ m
  unfolding table
  length-table zero f = refl
  length-table (suc m) f = length-append (table m f) (f m ∷ []) ∙ omega (arith, length-table m f)

  -- what stands there
  pub table_at : (d : A) (m i : ℕ) (f : ℕ → A) → i < m → get_or (table m f) i d ≡ f i
  unfolding table
  table_at d zero i f h = absurd (omega arith)
  table_at d (suc m) i f h =
      ⊎_elim
      (λ (e : i ≡ m). rw e (get_or_at (table m f) (f m) [] d m (length-table m f)))
      (λ (e : i < m). get_or-append (table m f) (f m ∷ []) d i (omega (arith, length-table m f)) ∙ table_at d m i f e)
      (eq-or-lt_of_le (omega arith))

  -- two that give the same values
  pub table_same : (m : ℕ) (f g : ℕ → A) → ((i : ℕ) → i < m → f i ≡ g i) → table m f ≡ table m g
  unfolding table
  table_same zero f g h = refl
  table_same (suc m) f g h = rw (table_same m f g (λ i l. h i (omega arith)), h m (omega arith))

  pub filled_none : (f : ℕ → A) (old : List A) → old ≡ filled 0 f old
  unfolding filled table
  filled_none f old = refl

  pub length-filled : (m : ℕ) (f : ℕ → A) (old : List A) → m ≤ length old → length (filled m f old) ≡ length old
  unfolding filled
  length-filled m f old h = length-append (table m f) (drop m old) ∙ omega (arith, length-table m f, length-drop m old)

  -- a step of a loop that fills the list in order
  pub filled_more : (m : ℕ) (f : ℕ → A) (old : List A) → m < length old → set (filled m f old) m (f m) ≡ filled (m + 1) f old
  unfolding filled table
  filled_more m f old h =
      rw (add-one, drop-cons old m (f m), set_at (table m f) (get_or old m (f m)) (drop (suc m) old) (f m) m (length-table m f))
      (simp append_assoc)

  -- a list that is filled to its end
  pub filled-all : (m : ℕ) (f : ℕ → A) (old : List A) → length old ≡ m → filled m f old ≡ table m f
  unfolding filled
  filled-all m f old h =
      let e : length old ≤ m = omega arith in
      rw (drop_of_length-le old e, append-nil)

  -- the part that was filled
  pub take-filled : (m : ℕ) (f : ℕ → A) (old : List A) → take m (filled m f old) ≡ table m f
  unfolding filled
  take-filled m f old = take_at (table m f) (drop m old) m (length-table m f)
