-- The three changes of a plan: what each answers, the list that it leaves, and the plan at its end. Assumes nothing.
use Rattle.std.specs.Prelude.{not, ◌≡◌, List, [], ◌∷◌, ◌++◌, ℕ, zero, suc, Result}
use Rattle.answers.specs.declared.Refusal.{Refusal}
use Rattle.answers.specs.Paper.{Reply, paper, given, refuse, and_then, if_done}
use Rattle.qubits.specs.Lists.{stands}
use Rattle.qubits.specs.Spread.{other_qubits, unless}
use Rattle.cut_sides.specs.Sides.{cut_refusal}
use Rattle.plan_lists.specs.Padded.{without}
use Rattle.plans.specs.declared.Plan.{Plan}
use Rattle.plans.specs.Plans.{plan_of, list_of, made_reply}

-- a qubit added, a qubit dropped, the other side named
pub data Change : Type 0 where
  adding dropping : ℕ → Change
  switching : Change

-- the list that the change would leave: the qubit at its end, the gap closed, the other side rising
abbrev pub changed_list : Change → Plan → List ℕ
changed_list (adding q) p = list_of p ++ q ∷ []
changed_list (dropping q) p = without q (list_of p)
changed_list switching p = other_qubits p.n (list_of p)

-- 12, of a qubit to drop that is not listed
abbrev pub unlisted : Change → Plan → Reply → Reply
unlisted (adding q) p later = later
unlisted (dropping q) p later = refuse (not (stands q (list_of p))) (12, 0) later
unlisted switching p later = later

-- 1 for a plan that no list makes, then 12, then what refuses the changed list
unfoldable pub change_reply : Change → Plan → Reply
change_reply c p = and_then (made_reply p) (unlisted c p (cut_refusal (changed_list c p) p.n 13))

-- the plan of the changed list; on a refusal the old one
unfoldable pub changed : Change → Plan → Plan
changed c p = if_done (change_reply c p).0 (plan_of (changed_list c p) p.n) p

-- a call of a change: the answer, and the plan, which on a refusal is the caller's
pub record Changed (c : Change) (p : Plan) (r : Result Plan Refusal) : Type 0 where
  pub answer : paper r ≡ change_reply c p
  pub plan : given p r ≡ changed c p

-- changes one after the other
unfoldable pub changes : List Change → Plan → Plan
changes [] p = p
changes (c ∷ cs) p = changes cs (changed c p)

-- the qubits below n that the list names, rising
unfoldable pub rising : ℕ → List ℕ → List ℕ
rising zero l = []
rising (suc q) l = rising q l ++ unless (not (stands q l)) q
