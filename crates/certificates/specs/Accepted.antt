-- What is printed of a cut that the library accepts. Assumes nothing.
use Rattle.std.specs.Prelude.{◌≡◌, Bool, List, ℕ, ◌-◌, ◌^◌, ◌≤◌, Float, length}
use Rattle.cut_sides.specs.Sides.{cut_refusal, side, side_list}
use Rattle.texts.specs.Text.{Puts}
use Rattle.lines.specs.Lines.{listing}
use Rattle.entropy_totals.specs.Totals.{totals_of}

-- n, k, rows and columns; the smaller side's list; the values; the sums of their entropy's band; how many they are, how many sweeps were begun, whether the last was quiet
unfoldable pub accepted_text : ℕ → List ℕ → List Float → ℕ → Bool → List ℕ
accepted_text n list values sweeps quiet =
    listing n (length list) (2 ^ side list n) (2 ^ (n - side list n)) (side_list list n) values (totals_of values).low (totals_of values).high (totals_of values).whole sweeps quiet

-- the same of a part that is the smaller side's list
unfoldable pub sided_text : ℕ → ℕ → List ℕ → List Float → ℕ → Bool → List ℕ
sided_text n k part values sweeps quiet =
    listing n k (2 ^ length part) (2 ^ (n - length part)) part values (totals_of values).low (totals_of values).high (totals_of values).whole sweeps quiet

-- what these lines ask: a cut that is not refused by 1 to 5, and the values that a cut of 9 qubits can have
pub record Printable (list : List ℕ) (n : ℕ) (values : List Float) : Type 0 where
  pub small : n ≤ 9
  pub taken : (cut_refusal list n 10).0 ≡ 0
  pub few : length values ≤ 16

-- a call put text at the front of old, which became new, and answered r, its length; it fits the program's buffer
pub record Printed (text old : List ℕ) (r : ℕ) (new : List ℕ) : Type 0 where
  pub puts : Puts 0 text old r new
  pub short : length text ≤ 2048
