-- What a reader may want to know of the lists that name a cut. Assumes nothing.
use mathlib.Core.Path.{◌≡◌, sym, ap, ◌∙◌}
use mathlib.Core.Logic.{⊎_elim}
use mathlib.Core.Bool.{true, false}
use mathlib.Core.List.{List, ◌∷◌}
use Prim.Native.Nat.{ℕ, suc, ◌-◌, ◌/◌, ◌%◌, ◌^◌, ◌≤◌, ◌<◌}
use native.Mathlib.Nat.{zero-div, zero-add, div-eq_of_lt}
use native.Mathlib.Omega.{arith}
use borrow.Author.Tests.{ne_eqb}
use lib.Dec.{eqb, ltb}
use lib.ListN.{length, get_or, take, drop}
use lib.Pow.{pow_mono}
use lib.Seq.{take-length, split_at}
use Rattle.answers.specs.Paper.{Reply, done, refuse}
use Rattle.answers.proofs.PaperLaws.{refuse-done, and_then-done}
use Rattle.submasks.specs.Submasks.{others}
use Rattle.submasks.proofs.SubmaskLaws.{le-or-lt, others-lt, others-digit}
use Rattle.submasks.proofs.BitLaws.{same_digits}
use Rattle.qubits.specs.Lists.{stands, places_from, places, qubit_set, subsystem, Listed}
use Rattle.qubits.specs.Spread.{named, other_qubits}
use Rattle.qubits.proofs.NamedLaws.{named-lt, not-empty, not_there}
use Rattle.qubits.proofs.OtherLaws.{there, others-length}
use Rattle.cut_sides.specs.Sides.{cut_refusal, Parted, cut_sizes}
use Rattle.cut_sides.proofs.SideLaws.{is-parted}
use Rattle.cut_naming.specs.Reordered.{times, Reordered}
use Rattle.cut_naming.proofs.ReorderedLaws.{set-of-cut, pass, times_none, times-some, either, times-append, times-self, stands_at, stands-index, at-most-once, places-pass}
use Rattle.cut_naming.proofs.Others.{stands-named, stands-other, times-named, times-other, times-past}

other-below : (n q : ℕ) (l : List ℕ) → stands q (other_qubits n l) ≡ true → q < n
other-below n q l h =
    ⊎_elim (λ (g : n ≤ q). absurd (omega (arith, times-past n q l g, times-some q (other_qubits n l) h))) (λ (g : q < n). g) (le-or-lt n q)

other-once : (n q : ℕ) (l : List ℕ) → times q (other_qubits n l) ≤ 1
other-once n q l =
    ⊎_elim (λ (h : stands q l ≡ true). omega (arith, times-named n q l h))
    (λ (h : stands q l ≡ false).
    ⊎_elim (λ (g : n ≤ q). omega (arith, times-past n q l g)) (λ (g : q < n). omega (arith, times-other n q l g h)) (le-or-lt n q))
    (either q l)

module _ (n cap : ℕ) (l : List ℕ) (ok : (cut_refusal l n cap).0 ≡ 0) where
  set : (qubit_set n l).0 ≡ 0
  set = set-of-cut n cap l ok

  parted : Parted l n
  parted = is-parted l n cap ok

  -- The other side has the qubits that are left: n less those that are named.
  pub other_length : length (other_qubits n l) ≡ n - length l
  other_length = others-length n l parted.listed

  below : (k : ℕ) → k < length (other_qubits n l) → get_or (other_qubits n l) k 0 < n
  below k h = other-below n (get_or (other_qubits n l) k 0) l (stands_at (other_qubits n l) k h)

  apart : (k : ℕ) → k < length (other_qubits n l) → stands (get_or (other_qubits n l) k 0) (take k (other_qubits n l)) ≡ false
  apart k h =
      let o = other_qubits n l in
      let q = get_or o k 0 in
      ⊎_elim
      (λ (g : stands q (take k o) ≡ true).
      absurd (omega (
        arith,
        times-some q (take k o) g,
        other-once n q l,
        ap (times q) (split_at o k 0 h),
        times-append q (take k o) (q ∷ drop (suc k) o),
        times-self q (drop (suc k) o),
      )))
      (λ (g : stands q (take k o) ≡ false). g)
      (either q (take k o))

  -- A cut accepts the other side where it accepts the named one.
  pub other-accepted : (cut_refusal (other_qubits n l) n cap).0 ≡ 0
  other-accepted =
      let o = other_qubits n l in
      let s = and_then-done (cut_sizes n cap) (subsystem n l) ok in
      let a = refuse-done (ltb n 1) 0 0 (refuse (ltb 12 n) (1, 0) (places n l)) set in
      let b = refuse-done (ltb 12 n) 0 0 (places n l) a.1 in
      let p : places_from n o 0 o ≡ done = places-pass n o 0 o (λ k h. (below k h, rw zero-add (apart k h))) in
      let z : eqb (length o) 0 ≡ false = ne_eqb (length o) 0 (λ e. omega (arith, other_length, parted.part)) in
      let w : eqb (length o) n ≡ false = ne_eqb (length o) n (λ e. not-empty n l set (omega (arith, other_length, parted.part))) in
      let q : qubit_set n o ≡ done = rw (a.0, b.0, p, z) in
      let whole : (refuse (eqb (length o) n) (5, 0) done).0 ≡ 0 = rw w in
      ap (λ (x : Reply). x.0)
      (pass (cut_sizes n cap) (subsystem n o) s.0 ∙ pass (qubit_set n o) (refuse (eqb (length o) n) (5, 0) done) (ap (λ (x : Reply). x.0) q))
      ∙ whole

  other-listed : Listed n (other_qubits n l)
  other-listed = (is-parted (other_qubits n l) n cap other-accepted).listed

  no_digit : (x q : ℕ) → x < 2 ^ n → n ≤ q → x / 2 ^ q % 2 ≡ 0
  no_digit x q h g =
      let m : 2 ^ n ≤ 2 ^ q = pow_mono g in
      let z : x / 2 ^ q ≡ 0 = div-eq_of_lt (omega arith) in
      rw z

  -- The mask of the other side has the register's bits that the named mask has not.
  pub other-mask : named (other_qubits n l) ≡ others n (named l)
  other-mask =
      let o = other_qubits n l in
      let lt = named-lt n l parted.listed in
      same_digits (named o) (others n (named l))
      (λ q. ⊎_elim
      (λ (g : n ≤ q). no_digit (named o) q (named-lt n o other-listed) g ∙ sym (no_digit (others n (named l)) q (others-lt n (named l)) g))
      (λ (g : q < n).
      ⊎_elim
      (λ (h : stands q l ≡ true).
      omega (arith, not_there 0 o q (stands-named n q l h) (rw zero-div), others-digit n (named l) q lt g, there 0 l q h))
      (λ (h : stands q l ≡ false).
      omega (arith, there 0 o q (stands-other n q l g h), others-digit n (named l) q lt g, not_there 0 l q h (rw zero-div)))
      (either q l))
      (le-or-lt n q))

  -- Naming the other side twice gives the first list's set back: each qubit as often, in rising order.
  pub twice : Reordered l (other_qubits n (other_qubits n l))
  twice q =
      let o = other_qubits n l in
      ⊎_elim
      (λ (h : stands q l ≡ true).
      let g : q < n = stands-index q l h n parted.listed.below in
      let m : times q l ≤ 1 = rw (take-length l) at (at-most-once l parted.listed.apart q (length l) (omega arith)) in
      omega (arith, times-some q l h, m, times-other n q o g (stands-named n q l h)))
      (λ (h : stands q l ≡ false).
      ⊎_elim
      (λ (g : n ≤ q). times_none q l h ∙ sym (times-past n q o g))
      (λ (g : q < n). times_none q l h ∙ sym (times-named n q o (stands-other n q l g h)))
      (le-or-lt n q))
      (either q l)
