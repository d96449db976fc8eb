-- The density's contract at each way out, and what its stages hand on. Assumes nothing.
use mathlib.Core.Path.{◌≡◌, refl, sym, ap, ◌∙◌}
use mathlib.Core.Bool.{not}
use mathlib.Core.List.{List}
use Prim.Native.Nat.{ℕ, zero, suc, ◌-◌, ◌*◌, ◌/◌, ◌%◌, ◌^◌, ◌≤◌, ◌<◌}
use native.Mathlib.Omega.{arith}
use borrow.Author.Tests.{eqb-true, ltb-false, not-false}
use lib.Dec.{eqb, ltb}
use lib.Ieee.{Float}
use lib.ListN.{length, get_or}
use lib.Pow.{pow_mono}
use native.Mathlib.Nat.{pow-suc}
use Rattle.answers.specs.Paper.{Answer, Reply, done, refuse, after, if_done}
use Rattle.answers.proofs.PaperLaws.{refuse-done, and_then-done}
use Rattle.complex.specs.Cells.{components, written}
use Rattle.complex.specs.Zeros.{zeroed}
use Rattle.components.proofs.EveryLaws.{every-from-done}
use Rattle.submasks.specs.Submasks.{others}
use Rattle.submasks.proofs.SubmaskLaws.{others-lt}
use Rattle.qubits.specs.Lists.{density_sizes, qubit_set}
use Rattle.qubits.proofs.NamedLaws.{not-empty, pow_small, sizes-product}
use Rattle.qubits.specs.Spread.{named, row_offset}
use Rattle.qubits.proofs.SpreadLaws.{spread-lt}
use Rattle.qubit_offsets.specs.Calls.{density_refusal}
use Rattle.qubit_offsets.proofs.CallLaws.{density-listed}
use Rattle.density_entries.specs.Squares.{Square, entry_at, mirrored}
use Rattle.density_entries.specs.Entries.{lower_entry, density_cell}
use Rattle.density_entries.specs.Filled.{EntriesReady, LowerSteps, table_entry}
use Rattle.density_entries.proofs.EntryLaws.{table-entry, mirrored-density}
use Rattle.densities.specs.Density.{density_lengths, density_rest, density_answer, density_list, Density, DensityListed, DensityOver, DensityAccepted}

-- ---- the refusals that did not come

pub positive : (k : ℕ) → (k ≡ 0 → ⊥) → 1 ≤ k
positive zero h = absurd (h refl)
positive (suc k) h = omega arith

pub lengths-done : (size dim s o w : ℕ) → (density_lengths size dim s o w).0 ≡ 0 → (s ≡ 2 * size) × (2 * (dim * dim) ≤ o) × (2 * dim ≤ w)
lengths-done size dim s o w e =
    let a = refuse-done (not (eqb s (2 * size))) 5 0 (refuse (ltb o (2 * (dim * dim))) (6, 2) (refuse (ltb w (2 * dim)) (6, 3) done)) e in
    let b = refuse-done (ltb o (2 * (dim * dim))) 5 2 (refuse (ltb w (2 * dim)) (6, 3) done) a.1 in (
      eqb-true s (2 * size) (not-false (eqb s (2 * size)) a.0),
      ltb-false o (2 * (dim * dim)) b.0,
      ltb-false w (2 * dim) (refuse-done (ltb w (2 * dim)) 5 3 done b.1).0,
    )

-- a list that 1 to 4 do not refuse
pub density-named : (n : ℕ) (l : List ℕ) (cap rest : ℕ) → (density_refusal n cap l).0 ≡ 0 → rest ≡ others n (named l) → DensityListed n l rest
density-named n l cap rest e m =
    let q = density-listed n cap l e in
    let z : length l ≡ 0 → ⊥ = not-empty n l (and_then-done (density_sizes n (length l) cap) (qubit_set n l) e).1 in
    record { listed = q.0; some = positive (length l) z; few = q.1; mask = m }

-- nor 6 and 7
pub rest-accepted : (s : List Float) (n : ℕ) (l : List ℕ) (rest o w : ℕ) → DensityListed n l rest → (density_rest s n (length l) o w).0 ≡ 0
    → DensityAccepted s n l o × (2 * 2 ^ length l ≤ w)
rest-accepted s n l rest o w p e =
    let b = and_then-done (density_lengths (2 ^ n) (2 ^ length l) (length s) o w) (components 0 s) e in
    let d = lengths-done (2 ^ n) (2 ^ length l) (length s) o w b.0 in
    (record { listed = p.listed; some = p.some; few = p.few; state = d.0; room = d.1; allowed = every-from-done s 0 b.1 }, d.2)

pub accepted : (s : List Float) (n : ℕ) (l : List ℕ) (cap o w : ℕ) → (density_answer s n l cap o w).0 ≡ 0 → DensityAccepted s n l o × (2 * 2 ^ length l ≤ w)
accepted s n l cap o w e =
    let a = and_then-done (density_refusal n cap l) (density_rest s n (length l) o w) e in
    rest-accepted s n l (others n (named l)) o w (density-named n l cap (others n (named l)) a.0 refl) a.1

-- ---- the stages

pub side-small : (k : ℕ) → k ≤ 6 → 2 ^ k ≤ 64
side-small k h = pow_mono h

pub even_power : (k : ℕ) → 1 ≤ k → 2 ^ k % 2 ≡ 0
even_power (suc k) h = omega (arith, pow-suc 2 k)
even_power zero h = elim h [ ]

module _ (s : List Float) (n : ℕ) (l : List ℕ) (o : List Float) (p : DensityAccepted s n l (length o)) where
  -- the matrix has room
  pub density-square : (dim : ℕ) → dim ≡ 2 ^ length l → Square dim o
  density-square dim e = record { small = rw e (side-small (length l) p.few); room = rw e p.room }

  -- the amplitudes are those of the register
  pub density-few : (dim groups : ℕ) → dim ≡ 2 ^ length l → groups ≡ 2 ^ (n - length l) → groups * dim ≤ 4096
  density-few dim groups e eg = rw (e, eg, sizes-product n (length l) p.listed.short) (pow_small n p.listed.small)

  pub density-ready : (dim rest : ℕ) (table : List ℕ) → dim ≡ 2 ^ length l → ((k : ℕ) → k < dim → get_or table k 0 ≡ row_offset l k) → dim ≤ length table
      → rest ≡ others n (named l) → EntriesReady n s rest table dim
  density-ready dim rest table e t room em = record {
    small = p.listed.small;
    long = p.state;
    mask_lt = rw em (others-lt n (named l));
    even = rw e (even_power (length l) p.some);
    table = room;
    below = λ k h. rw (t k h) (spread-lt n l k p.listed.below);
  }

  -- the lower half filled and mirrored
  pub density-end : (dim rest groups : ℕ) (table : List ℕ) (mid end : List Float) → dim ≡ 2 ^ length l → ((k : ℕ) → k < dim → get_or table k 0 ≡ row_offset l k)
      → rest ≡ others n (named l) → groups ≡ 2 ^ (n - length l)
      → LowerSteps dim (table_entry n s rest groups table) o mid (dim / 2) → end ≡ mirrored mid dim → end ≡ density_list n l s o
  density-end dim rest groups table mid end e t em eg i ee =
      let ev : dim % 2 ≡ 0 = rw e (even_power (length l) p.some) in
      let rows : (r c : ℕ) → r < dim → c ≤ r → entry_at mid dim r c ≡ lower_entry n l s r c
      = λ r c hr hc. i.rows r c (omega arith) hc ∙ rw (em, eg) (table-entry n l s table dim r c p.listed t hr (omega arith)) in
      ee ∙ mirrored-density n l s o mid dim e i.surplus rows ∙ ap (λ (d : ℕ). written (d * d) (density_cell n l s) o) e

-- ---- the call

module _ (s : List Float) (n : ℕ) (l : List ℕ) (cap : ℕ) (o w : List Float) (r : Answer) where
  -- THE CALL IS ITS WORK, where 1 to 4 do not refuse
  pub density-is-over : (out scratch : List Float) → (density_refusal n cap l).0 ≡ 0 → DensityOver s n l o w r out scratch → Density s n l cap o w r out scratch
  density-is-over out scratch h c =
      let b = density_rest s n (length l) (length o) (length w) in
      let e : b ≡ density_answer s n l cap (length o) (length w) = sym (ap (λ (k : ℕ). after k (density_refusal n cap l) b) h) in
      record {
        answer = c.answer ∙ e;
        matrix = c.matrix ∙ ap (λ (x : Reply). if_done x.0 (density_list n l s o) o) e;
        cleared = c.cleared ∙ ap (λ (x : Reply). if_done x.0 (zeroed (2 * 2 ^ length l) w) w) e;
      }
