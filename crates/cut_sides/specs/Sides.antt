-- The two sides of a cut: which is refused, which side becomes the rows, their masks and sizes, and the smaller side's list.
-- Assumes nothing.
use Rattle.std.specs.Prelude.{Bool, false, cond, ◌≡◌, List, [], ℕ, ◌+◌, ◌-◌, ◌^◌, ◌<◌, min, leb, ltb, length, take}
use Rattle.answers.specs.Paper.{Answer, Reply, paper, done, refuse, and_then, if_done}
use Rattle.submasks.specs.Submasks.{others}
use Rattle.qubits.specs.Lists.{register, subsystem, Listed}
use Rattle.qubits.specs.Spread.{named, other_qubits}
use Rattle.qubit_offsets.specs.Calls.{fronted}
use Rattle.cut_sides.specs.declared.Sides.{Sides}

-- ---- the answer

-- 1: the register, and n+1 against the cap, which is at most 13
abbrev pub cut_sizes : ℕ → ℕ → Reply
cut_sizes n cap = register n (refuse (ltb (min cap 13) (n + 1)) (1, 0) done)

-- 1 to 5
abbrev pub cut_refusal : List ℕ → ℕ → ℕ → Reply
cut_refusal l n cap = and_then (cut_sizes n cap) (subsystem n l)

-- what a list that a cut accepts is: as a density's, and it leaves a qubit out
pub record Parted (l : List ℕ) (n : ℕ) : Type 0 where
  pub listed : Listed n l
  pub part : length l < n

-- ---- the sides

-- how many qubits the smaller side has
abbrev pub side : List ℕ → ℕ → ℕ
side l n = min (length l) (n - length l)

-- the named qubits are the rows where they are no more than the others
abbrev pub named_rows : List ℕ → ℕ → Bool
named_rows l n = leb (length l) (n - length l)

abbrev pub row_mask : List ℕ → ℕ → ℕ
row_mask l n = cond (named_rows l n) (named l) (others n (named l))

abbrev pub column_mask : List ℕ → ℕ → ℕ
column_mask l n = cond (named_rows l n) (others n (named l)) (named l)

-- masks, sizes and which side is the rows, in one record
abbrev pub sides_of : List ℕ → ℕ → Sides
sides_of l n = record {
  row = row_mask l n;
  column = column_mask l n;
  rows = 2 ^ side l n;
  columns = 2 ^ (n - side l n);
  named = named_rows l n;
}

-- sides that some accepted list has: what an inner function over sides asks of them
pub record Sided (n : ℕ) (z : Sides) : Type 0 where
  pub list : List ℕ
  pub parted : Parted list n
  pub are : z ≡ sides_of list n

-- ---- the smaller side's list

abbrev pub side_list : List ℕ → ℕ → List ℕ
side_list l n = cond (named_rows l n) l (other_qubits n l)

-- 6: `others`, slice 1, is needed only where the others are the smaller side
abbrev pub others_short : List ℕ → ℕ → ℕ → Bool
others_short l n room = cond (named_rows l n) false (ltb room (n - length l))

-- 1 to 6
abbrev pub side_answer : List ℕ → ℕ → ℕ → ℕ → Reply
side_answer l n cap room = and_then (cut_refusal l n cap) (refuse (others_short l n room) (6, 1) done)

-- a call of `smaller_side`: the answer r, and what the lent slice holds at the end
pub record SmallerSide (l : List ℕ) (n cap : ℕ) (o : List ℕ) (r : Answer) (end : List ℕ) : Type 0 where
  pub answer : paper r ≡ side_answer l n cap (length o)
  pub numbers : end ≡ if_done (side_answer l n cap (length o)).0 (cond (named_rows l n) o (fronted (other_qubits n l) o)) o

-- the part that `side_part` hands back: of the caller's list, or of the slice of the others; an empty part on a refusal
abbrev pub side_part : List ℕ → ℕ → ℕ → List ℕ → List ℕ
side_part l n cap o = if_done (side_answer l n cap (length o)).0 (cond (named_rows l n) l (take (n - length l) o)) []
