-- The numbers of a made plan. Assumes nothing.
use mathlib.Core.Path.{◌≡◌, refl, sym, ap, ◌∙◌}
use mathlib.Core.Bool.{Bool, true, false, cond}
use mathlib.Core.List.{List}
use Prim.Native.Nat.{ℕ, zero, suc, ◌≤◌}
use lib.ListN.{length}
use Rattle.std.specs.Prelude.{Result, Ok, Err}
use Rattle.answers.specs.declared.Refusal.{Refusal}
use Rattle.answers.specs.Paper.{Reply, Answer, Done, paper, table, done, if_done}
use Rattle.answers.proofs.PaperLaws.{done-new, done-old}
use Rattle.answers.proofs.Stopped.{stopped-number}
use Rattle.qubits.specs.Spread.{other_qubits}
use Rattle.cut_sides.specs.Sides.{named_rows, side_list}
use Rattle.plan_lists.proofs.PaddedLaws.{length-padded}
use Rattle.plans.specs.declared.Plan.{Plan}
use Rattle.plans.specs.Plans.{list_of, made}
use Rattle.plans.proofs.PlanLaws.{made-is}
use Rattle.plan_changes.specs.Changes.{Change, change_reply, changed, Changed}
use Rattle.plan_calls.specs.Stored.{numbers_kept, ChangeStored}
use Rattle.plan_changes.proofs.ChangeLaws.{short-list, long-named, few-switched}
use Rattle.plan_numbers.specs.Numbers.{numbers_of, plan_at}
use Rattle.plan_numbers.proofs.Theorems.{read_back}

-- a change of the plan that the numbers are, refused or stored
module _ (c : Change) (w : List ℕ) (p : Plan) (e : p ≡ plan_at w) where
  pub change-kept : (f : Refusal) → Changed c p (Err f) → ChangeStored c w (Err f) w
  change-kept f h =
      let a : table f ≡ change_reply c (plan_at w) = h.answer ∙ ap (change_reply c) e in
      record { answer = a; numbers = done-old _ _ w (λ z. stopped-number f (ap (λ (x : Reply). x.0) a ∙ z)) }

  pub change-stored : (q : Plan) (end : List ℕ) → Changed c p (Ok q) → end ≡ numbers_of q → ChangeStored c w Done end
  change-stored q end h g =
      let a : done ≡ change_reply c (plan_at w) = h.answer ∙ ap (change_reply c) e in
      record { answer = a; numbers = g ∙ ap numbers_of (h.plan ∙ ap (changed c) e) ∙ done-new _ _ w (ap (λ (x : Reply). x.0) (sym a)) }

  pub change-told : (r : Result Plan Refusal) (a : Answer) (end : List ℕ) → Changed c p r → paper a ≡ paper r → end ≡ numbers_kept r w
      → ChangeStored c w a end
  change-told (Ok q) a end h s k = let z = change-stored q end h k in record { answer = s ∙ z.answer; numbers = z.numbers }
  change-told (Err f) a end h s k = let z = change-kept f h in record { answer = s ∙ z.answer; numbers = k ∙ z.numbers }

no_longer : (b : Bool) (x y : List ℕ) → length x ≤ 12 → length y ≤ 12 → length (cond b x y) ≤ 12
no_longer true x y h g = h
no_longer false x y h g = g

pub made-read : (p : Plan) → made p ≡ true → plan_at (numbers_of p) ≡ p
made-read p m =
    let l = list_of p in
    let s : length (side_list l p.n) ≤ 12 = no_longer (named_rows l p.n) l (other_qubits p.n l) (short-list p m) (few-switched p m) in
    read_back p (long-named p m) (ap (λ (x : Plan). length x.smaller) (made-is p m) ∙ length-padded (side_list l p.n) s)

pub kept : (x : ℕ) (new old : Plan) → if_done x (numbers_of (if_done x new old)) (numbers_of old) ≡ numbers_of (if_done x new old)
kept zero new old = refl
kept (suc x) new old = refl
