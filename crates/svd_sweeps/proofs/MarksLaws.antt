-- Laws of what `specs/Marks.antt` defines. Assumes nothing.
use mathlib.Core.Path.{◌≡◌, refl, sym, ap, subst, ◌∙◌}
use mathlib.Core.Logic.{⊎_elim}
use mathlib.Core.List.{List}
use Prim.Native.Nat.{ℕ, suc, ◌+◌, ◌-◌, ◌*◌, ◌≤◌, ◌<◌}
use native.Mathlib.Nat.{eq-or-lt_of_le, lt_of_not-le}
use native.Mathlib.Omega.{arith}
use lib.Ieee.{Float}
use lib.ListN.{length, get_or, set, replicate, get_or-replicate, length-set}
use lib.Seq.{get_or-set_same, get_or-set_other}
use Rattle.svd_pair.specs.Decisions.{Decision}
use Rattle.std.proofs.Common.{None, Some}
use Rattle.svd_pair.specs.Turns.{Making, applied}
use Rattle.sweeps.specs.declared.Sweeps.{Sweeps}
use Rattle.sweeps.specs.Sweeping.{State, state, counted, pair_by, pair_step}
use Rattle.svd_sweeps.specs.Sweeping.{svd_pairing}
use Rattle.svd_sweeps.specs.Untouched.{decision_at}
use Rattle.svd_sweeps.proofs.UntouchedLaws.{decision-other}
use Rattle.svd_sweeps.specs.Marks.{look, Seen}

-- ---- the numbers

same-p : (k p q k' p' q' : ℕ) → p < 64 → q < 64 → p' < 64 → q' < 64 → look k' p' q' ≡ look k p q → p' ≡ p
same-p k p q k' p' q' a b c d e = omega arith

same-q : (k p q k' p' q' : ℕ) → p < 64 → q < 64 → p' < 64 → q' < 64 → look k' p' q' ≡ look k p q → q' ≡ q
same-q k p q k' p' q' a b c d e = omega arith

-- no pair has a number between those of the second argument and the first
into-column : (k p k' p' q' : ℕ) → p < 64 → p' < q' → q' < 64 → look k' p' q' < look k p (p + 1) → look k' p' q' < look k p 0
into-column k p k' p' q' a b c e = omega arith

past-column : (k p n k' p' q' : ℕ) → p < 64 → n ≤ 64 → p' < q' → q' < n → look k' p' q' < look k (p + 1) 0 → look k' p' q' < look k p n
past-column k p n k' p' q' a b c d e = omega arith

past-sweep : (k n k' p' q' : ℕ) → n ≤ 64 → p' < q' → q' < n → look k' p' q' < look (k + 1) 0 0 → look k' p' q' < look k n 0
past-sweep k n k' p' q' a b c e =
    let up : k' < suc k = lt_of_not-le (λ l. omega (arith, l)) in
    omega (arith, up)

-- ---- what a look leaves

-- before the first sweep
pub seen_first : (m n : ℕ) (work : List Float) → n ≤ 64 → Seen m n (look 1 0 0) (replicate 64 4096) work
seen_first m n work h =
    record { left = λ k p q l g a b c d. absurd (omega (arith, rw (get_or-replicate {A = ℕ} 64 p 4096 0 (omega arith)) at c)) }

-- the pair was left
pub seen-left : (m n k p q : ℕ) (marks : List ℕ) (work : List Float) → n ≤ 64 → p < q → q < n → None ≡ decision_at m n p q work
    → Seen m n (look k p q) marks work → Seen m n (look k p q + 1) marks work
seen-left m n k p q marks work h l g e s =
    record {
      left =
          λ k' p' q' l' g' a b c d.
          ⊎_elim
          (λ (f : look k' p' q' ≡ look k p q).
          let x : p' ≡ p = same-p k p q k' p' q' (omega arith) (omega arith) (omega arith) (omega arith) f in
          let y : q' ≡ q = same-q k p q k' p' q' (omega arith) (omega arith) (omega arith) (omega arith) f in
          rw (x, y) e)
          (λ (f : look k' p' q' < look k p q). s.left k' p' q' l' g' f (omega arith) c d)
          (eq-or-lt_of_le (omega arith));
    }

-- the pair was turned, and its columns are marked
pub seen_turned : (g : Making) (m n k p q : ℕ) (marks : List ℕ) (work : List Float) (d : Decision) {work' : List Float} → n ≤ 64 → p < q → q < n → length marks ≡ 64
    → work' ≡ applied g d (n * m) (p * m) (q * m) m work
    → Seen m n (look k p q) marks work → Seen m n (look k p q + 1) (set (set marks p (look k p q)) q (look k p q)) work'
seen_turned g m n k p q marks work d {work'} h l inside len e s =
    let t = look k p q in
    let one = set marks p t in
    let at-q : get_or (set one q t) q 0 ≡ t = get_or-set_same one q t 0 (omega (arith, length-set marks p t)) in
    let at_p : get_or (set one q t) p 0 ≡ t = get_or-set_other one q p t 0 (λ f. omega arith) ∙ get_or-set_same marks p t 0 (omega arith) in
    record {
      left =
          λ k' p' q' l' g' a b c f.
          let not-p : (x : ℕ) → get_or (set one q t) x 0 < look k' p' q' → x ≡ p → ⊥ = λ x o i. omega (arith, subst (λ (y : ℕ). get_or (set one q t) y 0 < look k' p' q') i o, at_p) in
          let not-q : (x : ℕ) → get_or (set one q t) x 0 < look k' p' q' → x ≡ q → ⊥ = λ x o i. omega (arith, subst (λ (y : ℕ). get_or (set one q t) y 0 < look k' p' q') i o, at-q) in
          let same : (x : ℕ) → (x ≡ p → ⊥) → (x ≡ q → ⊥) → get_or (set one q t) x 0 ≡ get_or marks x 0 = λ x i j. get_or-set_other one q x t 0 j ∙ get_or-set_other marks p x t 0 i in
          let pp = not-p p' c in
          let pq = not-q p' c in
          let qp = not-p q' f in
          let qq = not-q q' f in
          ⊎_elim
          (λ (i : look k' p' q' ≡ t). absurd (pp (same-p k p q k' p' q' (omega arith) (omega arith) (omega arith) (omega arith) i)))
          (λ (i : look k' p' q' < t).
          s.left k' p' q' l' g' i (omega arith) (rw (same p' pp pq) at c) (rw (same q' qp qq) at f)
          ∙ sym (ap (decision_at m n p' q') e ∙ decision-other g d m n p q p' q' work (omega arith) inside (omega arith) g' pp pq qp qq))
          (eq-or-lt_of_le (omega arith));
    }

-- no pair stands between two numbers
later : (m n t u : ℕ) (marks : List ℕ) (work : List Float) → t ≤ u → ((k p q : ℕ) → p < q → q < n → look k p q < u → look k p q < t)
    → Seen m n t marks work → Seen m n u marks work
later m n t u marks work h f s = record { left = λ k p q l g a b c d. s.left k p q l g (f k p q l g a) (omega arith) c d }

pub seen-into : (m n k p : ℕ) (marks : List ℕ) (work : List Float) → n ≤ 64 → p < n → Seen m n (look k p 0) marks work → Seen m n (look k p (p + 1)) marks work
seen-into m n k p marks work h g =
    later m n (look k p 0) (look k p (p + 1)) marks work (omega arith) (λ k' p' q' a b c. into-column k p k' p' q' (omega arith) a (omega arith) c)

pub seen-column : (m n k p : ℕ) (marks : List ℕ) (work : List Float) → n ≤ 64 → p < n → Seen m n (look k p n) marks work → Seen m n (look k (p + 1) 0) marks work
seen-column m n k p marks work h g =
    later m n (look k p n) (look k (p + 1) 0) marks work (omega arith) (λ k' p' q' a b c. past-column k p n k' p' q' (omega arith) h a b c)

pub seen-sweep : (m n k : ℕ) (marks : List ℕ) (work : List Float) → n ≤ 64 → Seen m n (look k n 0) marks work → Seen m n (look (k + 1) 0 0) marks work
seen-sweep m n k marks work h =
    later m n (look k n 0) (look (k + 1) 0 0) marks work (omega arith) (λ k' p' q' a b c. past-sweep k n k' p' q' h a b c)

-- ---- what the counts and the marks say of a pair

-- marks older than the last look
pub seen-old : (m n k p q : ℕ) (marks : List ℕ) (work : List Float) → 1 ≤ k → p < q → q < n → get_or marks p 0 < look k p q - 4096
    → get_or marks q 0 < look k p q - 4096 → Seen m n (look k p q) marks work → None ≡ decision_at m n p q work
seen-old m n k p q marks work h l g c d s = s.left (k - 1) p q l g (omega arith) (omega arith) (omega arith) (omega arith)

pub seen_at : {m n t u : ℕ} {marks : List ℕ} {work : List Float} → t ≡ u → Seen m n t marks work → Seen m n u marks work
seen_at {m} {n} {marks = marks} {work = work} e = subst (λ (x : ℕ). Seen m n x marks work) e

pub seen_same : {m n t : ℕ} {marks : List ℕ} {work work' : List Float} → work ≡ work' → Seen m n t marks work → Seen m n t marks work'
seen_same {m} {n} {t} {marks} e = subst (Seen m n t marks) e

by-counts : (g : Making) (d : Decision) (m n p q : ℕ) (s : State) {work v : List Float} {t : Sweeps} → state work v t ≡ pair_by (svd_pairing g m n) d p q s → t.turned ≡ s.sweeps.turned
    → (None ≡ d) × (s.work ≡ work)
unfolding svd_pairing pair_by counted applied
by-counts g None m n p q s e h = (refl, sym (ap (λ (x : State). x.work) e))
by-counts g (Some t) m n p q s e h = absurd (omega (arith, ap (λ (x : State). x.sweeps.turned) e))

-- a pair that was not counted was left
pub uncounted : (g : Making) (m n p q : ℕ) (s : State) {work v : List Float} {t : Sweeps} → state work v t ≡ pair_step (svd_pairing g m n) p q s → t.turned ≡ s.sweeps.turned
    → (None ≡ decision_at m n p q s.work) × (s.work ≡ work)
unfolding svd_pairing pair_step decision_at
uncounted g m n p q s e h = by-counts g (decision_at m n p q s.work) m n p q s e h

-- any pair is turned as decided
pub done-to : (g : Making) (m n p q : ℕ) (s : State) {work v : List Float} {t : Sweeps} → state work v t ≡ pair_step (svd_pairing g m n) p q s
    → work ≡ applied g (decision_at m n p q s.work) (n * m) (p * m) (q * m) m s.work
unfolding svd_pairing pair_step pair_by decision_at
done-to g m n p q s e = ap (λ (x : State). x.work) e

-- a pair that would be left changes nothing
leave-step : (g : Making) (d : Decision) (m n p q : ℕ) (s : State) → None ≡ d → s ≡ pair_by (svd_pairing g m n) d p q s
unfolding svd_pairing pair_by counted applied
leave-step g d m n p q s e = rw (← e)

pub passed_over : (g : Making) (m n p q : ℕ) (s : State) → None ≡ decision_at m n p q s.work → s ≡ pair_step (svd_pairing g m n) p q s
unfolding svd_pairing pair_step decision_at
passed_over g m n p q s e = leave-step g (decision_at m n p q s.work) m n p q s e
