-- Where the bits of an index land: on the listed qubits, on the other qubits; and the mask of a list. Assumes nothing.
use Rattle.std.specs.Prelude.{Bool, true, false, List, [], ◌∷◌, ◌++◌, ℕ, zero, suc, ◌+◌, ◌*◌, ◌/◌, ◌%◌, ◌^◌, length}
use Rattle.std.specs.Int.Bits.{bit_or}
use Rattle.tables.specs.Tables.{table}
use Rattle.qubits.specs.Lists.{stands}

-- bit i of x lands on the i-th listed qubit; further bits of x are dropped
unfoldable pub spread : List ℕ → ℕ → ℕ
spread [] x = 0
spread (q ∷ l) x = bit_or (x % 2 * 2 ^ q) (spread l (x / 2))

-- q, where the list has it not
abbrev pub unless : Bool → ℕ → List ℕ
unless true q = []
unless false q = q ∷ []

-- the qubits below n that the list does not name, rising
unfoldable pub other_qubits : ℕ → List ℕ → List ℕ
other_qubits zero l = []
other_qubits (suc q) l = other_qubits q l ++ unless (stands q l) q

-- the row offset of t: bit i of t on the i-th listed qubit. The list's order is kept
abbrev pub row_offset : List ℕ → ℕ → ℕ
row_offset l t = spread l t

-- the row offsets of t from 0 on, as many as the listed qubits have settings
abbrev pub row_offsets : List ℕ → List ℕ
row_offsets l = table (2 ^ length l) (row_offset l)

-- the traced base of e: its bits spread over the other qubits, lowest first
abbrev pub traced_base : ℕ → List ℕ → ℕ → ℕ
traced_base n l e = spread (other_qubits n l) e

-- bits at q and above move up one, bit q is zero
unfoldable pub insert_zero_bit : ℕ → ℕ → ℕ
insert_zero_bit x q = x / 2 ^ q * 2 ^ suc q + x % 2 ^ q

-- the mask m with the list's qubits added, and the mask of the list
unfoldable pub mask_from : ℕ → List ℕ → ℕ
mask_from m [] = m
mask_from m (q ∷ l) = mask_from (bit_or m (2 ^ q)) l

abbrev pub named : List ℕ → ℕ
named l = mask_from 0 l
