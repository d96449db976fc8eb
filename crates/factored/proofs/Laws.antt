-- Laws of what `specs/Factored.antt` defines. Assumes nothing.
use mathlib.Core.Path.{◌≡◌, sym, ap, subst, ◌∙◌}
use Prim.Native.Nat.{ℕ, zero, suc}
use Rattle.std.specs.Prelude.{Result, Ok}
use Rattle.answers.specs.declared.Refusal.{Refusal}
use Rattle.answers.specs.Paper.{Reply, paper, given, if_done}
use Rattle.answers.proofs.PaperLaws.{done-new, done-old}
use Rattle.answers.proofs.Theorems.{result-one}
use Rattle.sweeps.specs.declared.Sweeps.{Sweeps}
use Rattle.sweeps.specs.Sweeping.{no_sweeps}
use Rattle.factored.specs.declared.Counted.{Counted}
use Rattle.factored.specs.Factored.{kept_sweeps, no_count}
use Rattle.sweeps.proofs.Ceiling.{Ceiling, none_within}

-- a call that is done keeps its sweeps
pub kept-done : {A : Type 0} (a : Result A Refusal) (s : Sweeps) {x : A} → a ≡ Ok x → s ≡ kept_sweeps a s
kept-done a s e = done-new (paper a).0 s no_sweeps (ap (λ (r : Reply). r.0) (ap paper e))

-- a refused one has none
pub kept-none : {A : Type 0} (a : Result A Refusal) (s : Sweeps) {r : Sweeps} → ((paper a).0 ≡ 0 → ⊥) → r ≡ no_sweeps → r ≡ kept_sweeps a s
kept-none a s h e = e ∙ done-old (paper a).0 s no_sweeps h

-- the sweeps of the work, under the answer that is handed on
pub kept_by : {A B : Type 0} (a : Result A Refusal) (b : Result B Refusal) {s t r : Sweeps} → paper a ≡ paper b → s ≡ t → r ≡ kept_sweeps b s → r ≡ kept_sweeps a t
kept_by a b f g e = rw (f, ← g) e

-- two with the same parts are the same
pub factored-one : (r q : Result Sweeps Refusal) → paper r ≡ paper q → given no_sweeps r ≡ given no_sweeps q → r ≡ q
factored-one r q e f = result-one r q e (λ x y g h. rw (g, h) at f)

pub counted-one : (r q : Result Counted Refusal) → paper r ≡ paper q → (given no_count r).count ≡ (given no_count q).count
    → (given no_count r).sweeps ≡ (given no_count q).sweeps → r ≡ q
counted-one r q e f k = result-one r q e (λ x y g h. same x y (rw (g, h) at f) (rw (g, h) at k))
  where
    same : (x y : Counted) → x.count ≡ y.count → x.sweeps ≡ y.sweeps → x ≡ y
    same x y f k = rw (← f, ← k)

done-ceiling : (cap n x : ℕ) (s : Sweeps) → Ceiling cap n s → Ceiling cap n (if_done x s no_sweeps)
done-ceiling cap n zero s h = h
done-ceiling cap n (suc x) s h = none_within cap n

-- a ceiling on the turned pairs of the work is one for every outcome
pub kept-ceiling : {A : Type 0} (cap n : ℕ) (a : Result A Refusal) {s r : Sweeps} → r ≡ kept_sweeps a s → Ceiling cap n s → Ceiling cap n r
kept-ceiling cap n a {s} {r} e h =
    subst (Ceiling cap n) (sym e) (done-ceiling cap n (paper a).0 s h)
