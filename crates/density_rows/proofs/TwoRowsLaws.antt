-- Laws of what `specs/TwoRows.antt` defines. Assumes nothing.
use mathlib.Core.Path.{◌≡◌, refl, sym, ap, ap₂, subst, ◌∙◌}
use mathlib.Core.List.{List}
use mathlib.Core.Logic.{⊎_elim}
use Prim.Native.Nat.{ℕ, ◌+◌, ◌≤◌, ◌<◌}
use native.Mathlib.Nat.{eq-or-lt_of_le}
use native.Mathlib.Omega.{arith}
use lib.Ieee.{Float}
use lib.ListN.{length}
use Rattle.complex.specs.declared.Complex.{Complex}
use Rattle.complex.specs.Planes.{plane_at, set_plane}
use Rattle.complex.proofs.PlanesLaws.{length-set_plane}
use Rattle.density_entries.specs.Blocks.{added}
use Rattle.density_rows.proofs.PlaneChanges.{plane-same, plane-other}
use Rattle.density_rows.specs.TwoRows.{Added, TermSteps}

pub added-same : {s s' a a' b b' : Complex} → s ≡ s' → a ≡ a' → b ≡ b' → added s a b ≡ added s' a' b'
added-same {s} {s'} {a} {a'} {b} {b'} e f g = ap₂ (λ (x y : Complex). added x y b) e f ∙ ap (added s' a') g

-- a write of the row's next sum
added_more : (a : Complex) (b : ℕ → Complex) (w : ℕ) (old now : List Float) (u i : ℕ) (z : Complex) → Added a b w old now u → i ≡ w + u → u < 64 → w ≤ 64
    → length now ≡ 256 → z ≡ added (plane_at old 128 i) a (b u) → Added a b w old (set_plane now 128 i z) (u + 1)
added_more a b w old now u i z p ei h hw l ez = record {
  more = λ k g.
      ⊎_elim
      (λ (e : k ≡ u).
      let same : w + k ≡ i = omega arith in
      ap (plane_at (set_plane now 128 i z) 128) same ∙ plane-same now 128 i z (omega arith) (omega arith) ∙ ez
      ∙ ap₂ (λ (x y : ℕ). added (plane_at old 128 x) a (b y)) (sym same) (sym e))
      (λ (q : k < u). plane-other now 128 i (w + k) z (omega arith) (omega arith) (λ e. omega arith) ∙ p.more k q)
      (eq-or-lt_of_le (omega arith));
  left = λ k g q. plane-other now 128 i (w + k) z (omega arith) (omega arith) (λ e. omega arith) ∙ p.left k (omega arith) q;
}

-- a write in the other row
added-kept : (a : Complex) (b : ℕ → Complex) (w : ℕ) (old now : List Float) (u i : ℕ) (z : Complex) → Added a b w old now u → i < 128 → u ≤ 64 → w ≤ 64
    → ((k : ℕ) → k < 64 → w + k ≡ i → ⊥) → Added a b w old (set_plane now 128 i z) u
added-kept a b w old now u i z p hi h hw n = record {
  more = λ k g. plane-other now 128 i (w + k) z hi (omega arith) (n k (omega arith)) ∙ p.more k g;
  left = λ k g q. plane-other now 128 i (w + k) z hi (omega arith) (n k q) ∙ p.left k g q;
}

module _ (planes : List Float) (at r : ℕ) (old : List Float) where
  pub term-step : (now end : List Float) (u : ℕ) (x y : Complex) → length old ≡ 256 → TermSteps planes at r old now u → u < 64
      → x ≡ added (plane_at now 128 u) (plane_at planes 4096 (at + r)) (plane_at planes 4096 (at + u))
      → y ≡ added (plane_at now 128 (64 + u)) (plane_at planes 4096 (at + r + 1)) (plane_at planes 4096 (at + u))
      → end ≡ set_plane (set_plane now 128 u x) 128 (64 + u) y → TermSteps planes at r old end (u + 1)
  term-step now end u x y l i h ex ey ee =
      let a0 = plane_at planes 4096 (at + r) in
      let a1 = plane_at planes 4096 (at + r + 1) in
      let b : ℕ → Complex = λ k. plane_at planes 4096 (at + k) in
      let mid = set_plane now 128 u x in
      let ln : length now ≡ 256 = i.long ∙ l in
      let lm : length mid ≡ 256 = length-set_plane now 128 u x ∙ ln in
      let zero : 0 + u ≡ u = omega arith in
      let ou : plane_at now 128 u ≡ plane_at old 128 u
      = ap (plane_at now 128) (sym zero) ∙ i.upper.left u (omega arith) h ∙ ap (plane_at old 128) zero in
      let whole : TermSteps planes at r old (set_plane mid 128 (64 + u) y) (u + 1)
      = record {
        long = length-set_plane mid 128 (64 + u) y ∙ lm ∙ sym l;
        upper = added-kept a0 b 0 old mid (u + 1) (64 + u) y
            (added_more a0 b 0 old now u u x i.upper (sym zero) h (omega arith) ln (ex ∙ ap (λ (s : Complex). added s a0 (b u)) ou))
            (omega arith) (omega arith) (omega arith) (λ k g e. omega arith);
        lower = added_more a1 b 64 old mid u (64 + u) y
            (added-kept a1 b 64 old now u u x i.lower (omega arith) (omega arith) (omega arith) (λ k g e. omega arith))
            refl h (omega arith) lm (ey ∙ ap (λ (s : Complex). added s a1 (b u)) (i.lower.left u (omega arith) h));
      } in
      subst (λ (s : List Float). TermSteps planes at r old s (u + 1)) (sym ee) whole
