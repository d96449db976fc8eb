-- Laws of a plan's changes: the room that each list has, and a change at each way out. Assumes nothing.
use mathlib.Core.Path.{◌≡◌, sym, ap, ap₂, ◌∙◌}
use mathlib.Core.Bool.{Bool, true, not}
use mathlib.Core.List.{List}
use Prim.Native.Nat.{ℕ, ◌+◌, ◌-◌, ◌≤◌, ◌<◌}
use native.Mathlib.Numerals.{add-one}
use native.Mathlib.Omega.{arith}
use lib.ListN.{length, set, take, length-set}
use lib.Seq.{take-suc-set, length-take-le}
use Rattle.std.specs.Prelude.{Result, Ok, Err}
use Rattle.answers.specs.declared.Refusal.{Refusal}
use Rattle.answers.proofs.PaperLaws.{done-new, done-old}
use Rattle.answers.proofs.Stopped.{stopped-number}
use Rattle.answers.specs.Paper.{Reply, table, done, refuse, and_then}
use Rattle.qubits.specs.Lists.{stands}
use Rattle.qubits.specs.Spread.{other_qubits}
use Rattle.qubits.proofs.OtherLaws.{others-length}
use Rattle.cut_sides.specs.Sides.{cut_refusal}
use Rattle.plan_lists.specs.Padded.{padded}
use Rattle.plan_lists.proofs.PaddedLaws.{length-padded, front-padded}
use Rattle.plans.specs.declared.Plan.{Plan}
use Rattle.plans.specs.Plans.{plan_of, list_of, made, CutPlan}
use Rattle.plans.proofs.PlanLaws.{made-is, made-parted, made-count, plan-given}
use Rattle.plan_changes.specs.Changes.{Change, adding, dropping, changed_list, unlisted, change_reply, changed, Changed}

-- ---- the room of a made plan's lists

module _ (p : Plan) (m : made p ≡ true) where
  -- a place is left for one more
  pub place_left : p.k < 12
  place_left = omega (arith, made-count p m, (made-parted p m).part, (made-parted p m).listed.small)

  pub long-named : length p.named ≡ 12
  long-named =
      ap (λ (x : Plan). length x.named) (made-is p m)
      ∙ length-padded (list_of p) (omega (arith, (made-parted p m).part, (made-parted p m).listed.small))

  pub short-list : length (list_of p) ≤ 12
  short-list = omega (arith, made-count p m, place_left)

  -- the list with the qubit at its end
  pub list-added : (q : ℕ) → take (p.k + 1) (set p.named p.k q) ≡ changed_list (adding q) p
  list-added q =
      ap (λ (j : ℕ). take j (set p.named p.k q)) (add-one p.k) ∙ take-suc-set p.named p.k q (omega (arith, long-named, place_left))

  pub room-added : (q : ℕ) → p.k + 1 ≤ length (set p.named p.k q)
  room-added q = omega (arith, length-set p.named p.k q, long-named, place_left)

  pub part-added : (q : ℕ) → p.k + 1 ≡ length (take (p.k + 1) (set p.named p.k q))
  part-added q =
      sym (length-take-le (p.k + 1) (set p.named p.k q) (room-added q))

  pub few-others : p.n - p.k ≡ length (other_qubits p.n (list_of p))
  few-others = ap (λ (j : ℕ). p.n - j) (made-count p m) ∙ sym (others-length p.n (list_of p) (made-parted p m).listed)

-- ---- the front of a padded list

module _ (v list : List ℕ) (count : ℕ) (e : list ≡ padded v) (f : count ≡ length v) where
  pub front-is : take count list ≡ v
  front-is = ap₂ take f e ∙ front-padded v

  pub front-part : count ≡ length (take count list)
  front-part = f ∙ sym (ap length front-is)

  pub front-room : length v ≤ 12 → count ≤ length list
  front-room h = omega (arith, f, h, ap length e ∙ length-padded v h)

-- ---- a change at each way out

module _ (c : Change) (p : Plan) where
  module _ (m : made p ≡ true) (later : unlisted c p (cut_refusal (changed_list c p) p.n 13) ≡ cut_refusal (changed_list c p) p.n 13) where
    pub reply-list : change_reply c p ≡ cut_refusal (changed_list c p) p.n 13
    unfolding change_reply
    reply-list = ap (λ (b : Bool). and_then (refuse (not b) (1, 0) done) (unlisted c p (cut_refusal (changed_list c p) p.n 13))) m ∙ later

    -- what is made of the changed list
    pub change-made : (l : List ℕ) → l ≡ changed_list c p → (w : Result Plan Refusal) → CutPlan l p.n 13 w → Changed c p w
    unfolding changed
    change-made l e (Ok q) k =
        let a : done ≡ change_reply c p = k.answer ∙ ap (λ (x : List ℕ). cut_refusal x p.n 13) e ∙ sym reply-list in
        let z : (change_reply c p).0 ≡ 0 = ap (λ (x : Reply). x.0) (sym a) in
        record {
          answer = a;
          plan =
              plan-given l p.n 13 (Ok q) k (ap (λ (x : Reply). x.0) (sym k.answer))
              ∙ ap (λ (x : List ℕ). plan_of x p.n) e
              ∙ done-new (change_reply c p).0 (plan_of (changed_list c p) p.n) p z;
        }
    change-made l e (Err f) k =
        let a : table f ≡ change_reply c p = k.answer ∙ ap (λ (x : List ℕ). cut_refusal x p.n 13) e ∙ sym reply-list in
        record { answer = a; plan = done-old (change_reply c p).0 (plan_of (changed_list c p) p.n) p (λ z. stopped-number f (ap (λ (x : Reply). x.0) a ∙ z)) }

-- a listed qubit is not refused by 12
pub drop-listed : (q : ℕ) (p : Plan) → stands q (list_of p) ≡ true → (later : Reply) → unlisted (dropping q) p later ≡ later
drop-listed q p e later = rw e

pub few-switched : (p : Plan) → made p ≡ true → length (other_qubits p.n (list_of p)) ≤ 12
few-switched p m = omega (arith, few-others p m, (made-parted p m).listed.small)
