-- Matrices that are alike give Gram sums and decisions that are alike, and what is done by those leaves them alike. Assumes nothing.
use mathlib.Core.Path.{◌≡◌, refl, ap₂}
use mathlib.Core.Bool.{Bool, true, false, cond}
use mathlib.Core.List.{List}
use Prim.Native.Nat.{ℕ, zero, suc, ◌+◌, ◌≤◌}
use native.Mathlib.Omega.{arith}
use lib.Ieee as Ieee
use lib.Ieee.{Float, binary64}
use lib.ListN.{length}
use Rattle.complex.specs.declared.Complex.{Complex}
use Rattle.complex.specs.Arithmetic.{norm_sqr}
use Rattle.complex.specs.Planes.{plane_at}
use Rattle.modulus.specs.Modulus.{modulus_of}
use Rattle.zero_signs.proofs.Cells.{Like, like-self, like-product, like-sum, like-conjugate, like-quotient, like-norm, like-modulus}
use Rattle.svd_gram.specs.declared.GramSums.{GramSums}
use Rattle.svd_gram.specs.Gram.{no_sums, one_row, gram_to}
use Rattle.std.proofs.Common.{None, Some}
use Rattle.svd_pair.specs.Decisions.{Decision, skip_bound, tau_of, tangent_of, turn_at, decision_of}
use Rattle.svd_pair.specs.Turns.{Making, exact, real, turn_factors, applied}
use Rattle.svd_pair.specs.Plain.{plain}
use Rattle.svd_pair.proofs.ZeroProductsLaws.{factors-real}
use Rattle.sweeps.specs.declared.Sweeps.{Sweeps}
use Rattle.sweeps.specs.Sweeping.{counted}
use Rattle.plain_sweeps.proofs.Planes.{Fine, Alike, SameTurn, rows-length, rows_back, rows_alike}

-- ---- the Gram sums

-- the sums of the squares are the same, and the mixed sums are alike
pub record AlikeSums (g g' : GramSums) : Type 0 where
  pub pp : g.pp ≡ g'.pp
  pub qq : g.qq ≡ g'.qq
  pub pq : Like g.pq g'.pq

-- one row more of cells that are alike
row-sums : (g g' : GramSums) (ap aq ap' aq' : Complex) → AlikeSums g g' → Like ap ap' → Like aq aq' → AlikeSums (one_row g ap aq) (one_row g' ap' aq')
unfolding one_row
row-sums g g' ap aq ap' aq' s h i =
    record {
      pp = ap₂ (Ieee.add binary64) s.pp (like-norm h);
      qq = ap₂ (Ieee.add binary64) s.qq (like-norm i);
      pq = like-sum s.pq (like-product (like-conjugate h) i);
    }

-- the Gram sums of two columns, in matrices that are alike
pub gram-alike : (xs ys : List Float) (c a b k : ℕ) → a + k ≤ c → b + k ≤ c → Alike c xs ys → AlikeSums (gram_to xs c a b k) (gram_to ys c a b k)
unfolding gram_to
gram-alike xs ys c a b zero ha hb s = record { pp = refl; qq = refl; pq = like-self no_sums.pq }
gram-alike xs ys c a b (suc k) ha hb s =
    row-sums (gram_to xs c a b k) (gram_to ys c a b k) (plane_at xs c (a + k)) (plane_at xs c (b + k)) (plane_at ys c (a + k)) (plane_at ys c (b + k))
    (gram-alike xs ys c a b k (omega arith) (omega arith) s) (s.cells (a + k) (omega arith)) (s.cells (b + k) (omega arith))

-- ---- the decision

-- both leave the pair, or both turn it with the same cosine and sine and with phases that are alike
pub data AlikeDecisions : Decision → Decision → Type 0 where
  both-leave : AlikeDecisions None None
  both-turn : (cosine sine : Float) {phase phase' : Complex} → Like phase phase'
      → AlikeDecisions (Some (record { cosine = cosine; sine = sine; phase = phase })) (Some (record { cosine = cosine; sine = sine; phase = phase' }))

-- the same test, over turns that are alike
tested : (b : Bool) {d d' : Decision} → AlikeDecisions d d' → AlikeDecisions (cond b None d) (cond b None d')
tested true h = both-leave
tested false h = h

-- the same tangent, and mixed sums that are alike over the same modulus
turned : (beta t : Float) {pq pq' : Complex} → Like pq pq' → AlikeDecisions (Some (turn_at pq beta t)) (Some (turn_at pq' beta t))
unfolding turn_at
turned beta t h = both-turn _ _ (like-quotient beta h)

-- the decision by the parts of the sums, where the norm and the modulus of the mixed sum are known
abbrev decided : Float → Float → Float → Float → Complex → Decision
decided pp qq norm beta pq =
    let g : GramSums = record { pp = pp; qq = qq; pq = pq } in
    cond (Ieee.le norm (skip_bound g)) None (Some (turn_at pq beta (tangent_of (tau_of g beta))))

-- sums that are alike give decisions that are alike
pub decided-alike : (g g' : GramSums) → AlikeSums g g' → AlikeDecisions (decision_of g) (decision_of g')
unfolding decision_of
decided-alike g g' s =
    let same : decided g.pp g.qq (norm_sqr g.pq) (modulus_of g.pq) g.pq ≡ decided g'.pp g'.qq (norm_sqr g'.pq) (modulus_of g'.pq) g.pq =
    rw (s.pp, s.qq, like-norm s.pq, like-modulus s.pq) in
    rw same (tested (Ieee.le (norm_sqr g'.pq) (skip_bound g')) (turned (modulus_of g'.pq) (tangent_of (tau_of g' (modulus_of g'.pq))) s.pq))

-- both are counted alike
pub counted-alike : {d d' : Decision} (s : Sweeps) → AlikeDecisions d d' → counted d s ≡ counted d' s
unfolding counted
counted-alike s both-leave = refl
counted-alike s (both-turn cosine sine h) = refl

-- the factors of two turns with phases that are alike
pub factors-alike : (cosine sine : Float) {phase phase' : Complex} → Like phase phase' → SameTurn (turn_factors cosine sine phase) (turn_factors cosine sine phase')
unfolding turn_factors
factors-alike cosine sine {phase} {phase'} h =
    record {
      real = factors-real cosine sine phase' refl;
      pp = refl;
      qp = refl;
      pq = like-product (like-self (real sine)) (like-conjugate h);
      qq = like-product (like-self (real cosine)) (like-conjugate h);
    }

-- ---- what a decision does to two columns

-- the list keeps its length
pub applied-length : (g : Making) (d : Decision) (c a b m : ℕ) (xs : List Float) → length (applied g d c a b m xs) ≡ length xs
unfolding applied
applied-length g None c a b m xs = refl
applied-length g (Some t) c a b m xs = rows-length g (turn_factors t.cosine t.sine t.phase) c a b m xs

-- what is finite after it was finite before
pub applied_back : (d : Decision) (c a b m : ℕ) (ys : List Float) → a + m ≤ b → b + m ≤ c → Fine c (applied plain d c a b m ys) → Fine c ys
unfolding applied
applied_back None c a b m ys ha hb h = h
applied_back (Some t) c a b m ys ha hb h = rows_back (turn_factors t.cosine t.sine t.phase) c a b m ys ha hb h

-- decisions that are alike leave matrices alike, one exactly and the other plainly, where what the plain one leaves is finite
pub applied-alike : {d d' : Decision} (c a b m : ℕ) (xs ys : List Float) → a + m ≤ b → b + m ≤ c → AlikeDecisions d d' → Fine c (applied plain d' c a b m ys) → Alike c xs ys
    → Alike c (applied exact d c a b m xs) (applied plain d' c a b m ys)
unfolding applied
applied-alike c a b m xs ys ha hb both-leave h s = s
applied-alike c a b m xs ys ha hb (both-turn cosine sine t) h s = rows_alike c a b m xs ys ha hb (factors-alike cosine sine t) h s
