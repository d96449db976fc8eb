-- Laws of plans: two with the same numbers are one, what a made plan is, and that a list's plan is made. Assumes nothing.
use mathlib.Core.Path.{◌≡◌, refl, sym, ap, ◌∙◌}
use mathlib.Core.Bool.{Bool, true, false, ◌&&◌, and-false}
use mathlib.Core.List.{List}
use Prim.Native.Nat.{ℕ, ◌+◌, ◌-◌, ◌≤◌, ◌<◌, min}
use native.Mathlib.Omega.{arith}
use borrow.Author.Tests.{eqb-true, eq-eqb, ne_eqb, le-leb, lt-leb, leb-true, ltb-false, le-ltb}
use lib.Dec.{eqb, leb, ltb}
use lib.Pointwise.{pointwise}
use lib.ListN.{length}
use Rattle.std.specs.Prelude.{Result}
use Rattle.answers.specs.declared.Refusal.{Refusal}
use Rattle.answers.specs.Paper.{Reply, given, done, refuse, and_then}
use Rattle.answers.proofs.PaperLaws.{refuse-done, and_then-done, done-new}
use Rattle.qubits.specs.Lists.{subsystem}
use Rattle.cut_sides.specs.declared.Sides.{Sides}
use Rattle.cut_sides.specs.Sides.{cut_sizes, cut_refusal, Parted, sides_of}
use Rattle.cut_sides.proofs.SideLaws.{is-parted}
use Rattle.plan_lists.specs.Padded.{same_list}
use Rattle.plan_lists.proofs.PaddedLaws.{first_of, second-of, same-is, is_same, pointwise-same, front-padded}
use Rattle.plans.specs.declared.Plan.{Plan}
use Rattle.plans.specs.Plans.{plan_of, no_plan, CutPlan, list_of, same_plan, made}

-- ---- two plans with the same numbers

eight : {n n' k k' r r' c c' a a' b b' : ℕ} {l l' s s' : List ℕ} → n ≡ n' → k ≡ k' → r ≡ r' → c ≡ c' → a ≡ a' → b ≡ b' → l ≡ l' → s ≡ s'
    → ◌≡◌ {A = Plan}
    (record { n = n; k = k; row_mask = r; column_mask = c; rows = a; columns = b; named = l; smaller = s })
    (record { n = n'; k = k'; row_mask = r'; column_mask = c'; rows = a'; columns = b'; named = l'; smaller = s' })
eight e1 e2 e3 e4 e5 e6 e7 e8 = rw (e1, e2, e3, e4, e5, e6, e7, e8)

pub same-plan-is : (a b : Plan) → same_plan a b ≡ true → a ≡ b
unfolding same_plan
same-plan-is a b e1 =
    let e2 = second-of (eqb a.n b.n) _ e1 in
    let e3 = second-of (eqb a.k b.k) _ e2 in
    let e4 = second-of (eqb a.row_mask b.row_mask) _ e3 in
    let e5 = second-of (eqb a.column_mask b.column_mask) _ e4 in
    let e6 = second-of (eqb a.rows b.rows) _ e5 in
    let e7 = second-of (eqb a.columns b.columns) _ e6 in
    eight
    (eqb-true a.n b.n (first_of (eqb a.n b.n) _ e1))
    (eqb-true a.k b.k (first_of (eqb a.k b.k) _ e2))
    (eqb-true a.row_mask b.row_mask (first_of (eqb a.row_mask b.row_mask) _ e3))
    (eqb-true a.column_mask b.column_mask (first_of (eqb a.column_mask b.column_mask) _ e4))
    (eqb-true a.rows b.rows (first_of (eqb a.rows b.rows) _ e5))
    (eqb-true a.columns b.columns (first_of (eqb a.columns b.columns) _ e6))
    (same-is a.named b.named (first_of (same_list a.named b.named) _ e7))
    (same-is a.smaller b.smaller (second-of (same_list a.named b.named) _ e7))

pub is-same-plan : (a : Plan) → same_plan a a ≡ true
unfolding same_plan
is-same-plan a =
    rw (
      eq-eqb a.n a.n refl,
      eq-eqb a.k a.k refl,
      eq-eqb a.row_mask a.row_mask refl,
      eq-eqb a.column_mask a.column_mask refl,
      eq-eqb a.rows a.rows refl,
      eq-eqb a.columns a.columns refl,
      is_same a.named,
    ) (is_same a.smaller)

-- how `==` compares two plans
pub same-derived : (a b : Plan)
    → (eqb a.n b.n && (eqb a.k b.k && (eqb a.row_mask b.row_mask && (eqb a.column_mask b.column_mask
    && (eqb a.rows b.rows && (eqb a.columns b.columns && (pointwise eqb a.named b.named && pointwise eqb a.smaller b.smaller)))))))
    ≡ same_plan a b
unfolding same_plan
same-derived a b = rw (pointwise-same a.named b.named, pointwise-same a.smaller b.smaller)

-- ---- what a made plan is

module _ (p : Plan) (m : made p ≡ true) where
  tests : ((p.k ≤ 12) × ((cut_refusal (list_of p) p.n 13).0 ≡ 0)) × (same_plan p (plan_of (list_of p) p.n) ≡ true)
  unfolding made
  tests =
      let b = second-of (leb p.k 12) _ m in (
        (leb-true p.k 12 (first_of (leb p.k 12) _ m), eqb-true (cut_refusal (list_of p) p.n 13).0 0 (first_of (eqb (cut_refusal (list_of p) p.n 13).0 0) _ b)),
        second-of (eqb (cut_refusal (list_of p) p.n 13).0 0) _ b,
      )

  -- a cut accepts the list that it keeps
  pub made-accepted : (cut_refusal (list_of p) p.n 13).0 ≡ 0
  made-accepted = tests.0.1

  -- IT IS THE PLAN OF THAT LIST
  pub made-is : p ≡ plan_of (list_of p) p.n
  made-is = same-plan-is p (plan_of (list_of p) p.n) tests.1

  pub made-parted : Parted (list_of p) p.n
  made-parted = is-parted (list_of p) p.n 13 made-accepted

  pub made-count : p.k ≡ length (list_of p)
  made-count = ap (λ (x : Plan). x.k) made-is

-- ---- the tests of `is_made`

module _ (p : Plan) where
  pub made-long : 12 < p.k → made p ≡ false
  unfolding made
  made-long h = rw (lt-leb p.k 12 h)

  pub made-refused : ((cut_refusal (list_of p) p.n 13).0 ≡ 0 → ⊥) → made p ≡ false
  unfolding made
  made-refused h =
      ap (λ (b : Bool). leb p.k 12 && (b && same_plan p (plan_of (list_of p) p.n))) (ne_eqb (cut_refusal (list_of p) p.n 13).0 0 h)
      ∙ and-false (leb p.k 12)

  pub made-same : (l : List ℕ) → list_of p ≡ l → p.k ≤ 12 → (cut_refusal l p.n 13).0 ≡ 0 → made p ≡ same_plan p (plan_of l p.n)
  unfolding made
  made-same l e h g =
      ap (λ (x : List ℕ). leb p.k 12 && (eqb (cut_refusal x p.n 13).0 0 && same_plan p (plan_of x p.n))) e
      ∙ ap (λ (b : Bool). b && (eqb (cut_refusal l p.n 13).0 0 && same_plan p (plan_of l p.n))) (le-leb p.k 12 h)
      ∙ ap (λ (b : Bool). b && same_plan p (plan_of l p.n)) (eq-eqb (cut_refusal l p.n 13).0 0 g)

-- A LIST'S PLAN IS MADE
pub made-plan : (l : List ℕ) (n : ℕ) → (cut_refusal l n 13).0 ≡ 0 → made (plan_of l n) ≡ true
made-plan l n e =
    let p = is-parted l n 13 e in
    made-same (plan_of l n) l (front-padded l) (omega (arith, p.part, p.listed.small)) e ∙ is-same-plan (plan_of l n)

-- the list is read back
pub list-plan : (l : List ℕ) (n : ℕ) → list_of (plan_of l n) ≡ l
list-plan l n = front-padded l

-- what a smaller cap accepts, 13 accepts
pub cap-wider : (l : List ℕ) (n cap : ℕ) → (cut_refusal l n cap).0 ≡ 0 → (cut_refusal l n 13).0 ≡ 0
cap-wider l n cap e =
    let a = and_then-done (cut_sizes n cap) (subsystem n l) e in
    let b = refuse-done (ltb n 1) 0 0 (refuse (ltb 12 n) (1, 0) (refuse (ltb (min cap 13) (n + 1)) (1, 0) done)) a.0 in
    let c = refuse-done (ltb 12 n) 0 0 (refuse (ltb (min cap 13) (n + 1)) (1, 0) done) b.1 in
    let h : n ≤ 12 = ltb-false 12 n c.0 in
    let w : ltb (min 13 13) (n + 1) ≡ false = le-ltb (min 13 13) (n + 1) (omega arith) in
    let s : cut_sizes n 13 ≡ done = rw (b.0, c.0, w) in
    ap (λ (x : Reply). (and_then x (subsystem n l)).0) s ∙ a.1

-- what the call gives where it is not refused
pub plan-given : (l : List ℕ) (n cap : ℕ) (r : Result Plan Refusal) → CutPlan l n cap r → (cut_refusal l n cap).0 ≡ 0 → given no_plan r ≡ plan_of l n
plan-given l n cap r c h = c.plan ∙ sym (done-new _ _ no_plan h)

-- the sides that a made plan keeps
pub sides-kept : (p : Plan) → made p ≡ true → (b : Bool) → b ≡ leb p.k (p.n - p.k)
    → ◌≡◌ {A = Sides} (record { row = p.row_mask; column = p.column_mask; rows = p.rows; columns = p.columns; named = b }) (sides_of (list_of p) p.n)
sides-kept p m b f =
    let e = made-is p m in
    five (ap (λ (x : Plan). x.row_mask) e) (ap (λ (x : Plan). x.column_mask) e) (ap (λ (x : Plan). x.rows) e) (ap (λ (x : Plan). x.columns) e)
    (f ∙ ap (λ (x : ℕ). leb x (p.n - x)) (made-count p m))
  where
    five : {r r' c c' a a' b b' : ℕ} {t t' : Bool} → r ≡ r' → c ≡ c' → a ≡ a' → b ≡ b' → t ≡ t'
        → ◌≡◌ {A = Sides} (record { row = r; column = c; rows = a; columns = b; named = t }) (record { row = r'; column = c'; rows = a'; columns = b'; named = t' })
    five e1 e2 e3 e4 e5 = rw (e1, e2, e3, e4, e5)
