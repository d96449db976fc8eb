-- What a reader may want to know of this crate's definitions and calls. Assumes nothing.
use mathlib.Core.Path.{◌≡◌, refl, sym, ap, ◌∙◌}
use Prim.Native.Nat.{ℕ, zero, suc}
use Rattle.std.specs.Prelude.{Result, Ok, Err}
use Rattle.answers.specs.declared.Refusal.{Refusal}
use Rattle.answers.specs.declared.Refusal.TheVariants.{Size, OutOfRange, Twice, Empty, Whole, Length, Component, NoWeight, NotFinite, Malformed, OffGrid, NotListed, SiteNumber, NoRun, Full, BrokenLot}
use Rattle.answers.specs.Paper.{Reply, paper, table, Answer, Done}
use Rattle.answers.proofs.Stopped.{stopped-number}

-- the number and the place say which answer it is: a contract that states them has one outcome
unpaper : ℕ → ℕ → Answer
unpaper zero p = Done
unpaper (suc zero) p = Err Size
unpaper (suc (suc zero)) p = Err (OutOfRange p)
unpaper (suc (suc (suc zero))) p = Err (Twice p)
unpaper (suc (suc (suc (suc zero)))) p = Err Empty
unpaper (suc (suc (suc (suc (suc zero))))) p = Err Whole
unpaper (suc (suc (suc (suc (suc (suc zero)))))) p = Err (Length p)
unpaper (suc (suc (suc (suc (suc (suc (suc zero))))))) p = Err (Component p)
unpaper (suc (suc (suc (suc (suc (suc (suc (suc zero)))))))) p = Err NoWeight
unpaper (suc (suc (suc (suc (suc (suc (suc (suc (suc zero))))))))) p = Err NotFinite
unpaper (suc (suc (suc (suc (suc (suc (suc (suc (suc (suc zero)))))))))) p = Err Malformed
unpaper (suc (suc (suc (suc (suc (suc (suc (suc (suc (suc (suc zero))))))))))) p = Err (OffGrid p)
unpaper (suc (suc (suc (suc (suc (suc (suc (suc (suc (suc (suc (suc zero)))))))))))) p = Err NotListed
unpaper (suc (suc (suc (suc (suc (suc (suc (suc (suc (suc (suc (suc (suc zero))))))))))))) p = Err SiteNumber
unpaper (suc (suc (suc (suc (suc (suc (suc (suc (suc (suc (suc (suc (suc (suc zero)))))))))))))) p = Err NoRun
unpaper (suc (suc (suc (suc (suc (suc (suc (suc (suc (suc (suc (suc (suc (suc (suc zero))))))))))))))) p = Err Full
unpaper (suc (suc (suc (suc (suc (suc (suc (suc (suc (suc (suc (suc (suc (suc (suc (suc k)))))))))))))))) p = Err BrokenLot

back : (a : Answer) → unpaper (paper a).0 (paper a).1 ≡ a
unfolding unpaper
back (Ok tt) = refl
back (Err Size) = refl
back (Err (OutOfRange p)) = refl
back (Err (Twice p)) = refl
back (Err Empty) = refl
back (Err Whole) = refl
back (Err (Length p)) = refl
back (Err (Component p)) = refl
back (Err NoWeight) = refl
back (Err NotFinite) = refl
back (Err Malformed) = refl
back (Err (OffGrid p)) = refl
back (Err NotListed) = refl
back (Err SiteNumber) = refl
back (Err NoRun) = refl
back (Err Full) = refl
back (Err BrokenLot) = refl

-- An answer's number and place say which answer it is, so a contract that states them leaves one answer.
pub paper-one : (a b : Answer) → paper a ≡ paper b → a ≡ b
paper-one a b e = sym (back a) ∙ ap (λ (r : Reply). unpaper r.0 r.1) e ∙ back b

of-refusal : Answer → Refusal
of-refusal (Ok x) = Size
of-refusal (Err e) = e

-- The same of two refusals.
pub table-one : (e f : Refusal) → table e ≡ table f → e ≡ f
unfolding of-refusal
table-one e f h = ap of-refusal (paper-one (Err e) (Err f) h)

-- The same of a call that gives a value: its answer and its value say what it returned.
pub result-one : {A : Type 0} (r q : Result A Refusal) → paper r ≡ paper q → ((x y : A) → r ≡ Ok x → q ≡ Ok y → x ≡ y) → r ≡ q
result-one (Ok x) (Ok y) e h = ap Ok (h x y refl refl)
result-one (Ok x) (Err f) e h = absurd (stopped-number f (sym (ap (λ (r : Reply). r.0) e)))
result-one (Err f) (Ok y) e h = absurd (stopped-number f (ap (λ (r : Reply). r.0) e))
result-one (Err e) (Err f) p h = ap Err (table-one e f p)
