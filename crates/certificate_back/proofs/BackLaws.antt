-- Laws of the second part of the pages: how long it is, and what its calls ask. Assumes nothing.
use mathlib.Core.Path.{◌≡◌, ap, ap₂, ◌∙◌}
use mathlib.Core.Bool.{Bool}
use mathlib.Core.List.{List}
use Prim.Native.Nat.{ℕ, ◌+◌, ◌*◌, ◌^◌, ◌≤◌}
use native.Mathlib.Omega.{arith}
use lib.Ieee.{Float, binary64, to_bits}
use lib.ListN.{length, take, length-append}
use Rattle.cutfile.specs.Layout.{component_at}
use Rattle.cutfile.proofs.LayoutLaws.{small_power}
use Rattle.cutfile_result.specs.Result.{state_of}
use Rattle.tables.specs.Tables.{filled}
use Rattle.tables.proofs.TablesLaws.{take-filled, length-table}
use Rattle.cut_values.specs.Schmidt.{singular_values}
use Rattle.cut_totals.specs.Totals.{kept_total, Totalled}
use Rattle.texts.specs.Text.{Puts}
use Rattle.texts.proofs.TextLaws.{puts_then, puts-as}
use Rattle.page_two.specs.PageTwo.{page_two_text}
use Rattle.page_two.proofs.PageTwoLaws.{length_two}
use Rattle.certificate_back.specs.Back.{total_bits, last_line, back_text, BackReady}

pub length_back : (s : List Float) (n : ℕ) (l : List ℕ) (accepted : Bool) → length (back_text s n l accepted) ≤ 98410
unfolding back_text
length_back s n l accepted =
    omega (arith, length-append (page_two_text s n l accepted (total_bits s n l)) last_line, length_two s n l accepted (total_bits s n l))

pub two-next : (s : List Float) (n : ℕ) (l : List ℕ) (accepted : Bool) (total at r : ℕ) (old new : List ℕ) → Puts at (page_two_text s n l accepted total) old r new → r ≤ at + 98400
two-next s n l accepted total at r old new p = omega (arith, p.next, length_two s n l accepted total)

module _ (file : List ℕ) (n k : ℕ) (l : List ℕ) (at room : ℕ) (is : BackReady file n k l at room) where
  pub components-fit : 2 * 2 ^ n ≤ 1024
  components-fit = omega (arith, small_power n is.fits.n-small)

  -- the front of what was decoded is the state
  module _ (m : ℕ) (before state : List Float) (em : m ≡ 2 * 2 ^ n) (es : state ≡ filled (2 * 2 ^ n) (component_at file k) before) where
    pub state-is : take m state ≡ state_of file n k
    state-is = ap₂ (λ (j : ℕ) (x : List Float). take j x) em es ∙ take-filled (2 * 2 ^ n) (component_at file k) before

    pub totalled : Totalled (take m state) n l
    totalled = record {
      small = is.fits.n-small;
      taken = is.taken;
      state = ap length state-is ∙ length-table (2 * 2 ^ n) (component_at file k);
    }

    pub back_done : (accepted : Bool) (total : Float) (bits r t : ℕ) (old mid new : List ℕ) → room ≡ length old → total ≡ kept_total (singular_values (take m state) n l) → bits ≡ to_bits binary64 total
        → Puts at (page_two_text (take m state) n l accepted bits) old r mid → Puts r last_line mid t new → Puts at (back_text (state_of file n k) n l accepted) old t new
    unfolding back_text total_bits
    back_done accepted total bits r t old mid new er et eb p q =
        let S = state_of file n k in
        let e : page_two_text (take m state) n l accepted bits ≡ page_two_text S n l accepted (total_bits S n l) =
        ap₂ (λ (x : List Float) (b : ℕ). page_two_text x n l accepted b) state-is
        (eb ∙ ap (to_bits binary64) (et ∙ ap (λ (x : List Float). kept_total (singular_values x n l)) state-is)) in
        puts_then at r t (page_two_text S n l accepted (total_bits S n l)) last_line old mid new (omega (arith, length_two S n l accepted (total_bits S n l), is.room-left, er)) (puts-as at r _ _ old mid e p) q
