-- What a reader may want to know: sweeps without the products by zeros leave what the exact sweeps leave, where every number of it is finite and no zero, and the
-- same norms where every number is finite. Assumes nothing.
use mathlib.Core.Path.{◌≡◌, refl, sym, ap, ap₂, ◌∙◌}
use mathlib.Core.Bool.{true, false, ◌&&◌}
use mathlib.Core.List.{List, []}
use Prim.Native.Nat.{ℕ, zero, suc, ◌+◌, ◌-◌, ◌*◌, ◌≤◌, ◌<◌}
use native.Mathlib.Decide.{dec_le}
use native.Mathlib.Nat.{lt_of_not-le}
use native.Mathlib.Omega.{arith}
use lib.Ieee.{Float, nan, inf, fin, binary64, add}
use lib.ListN.{length, get_or}
use lib.Seq.{ext_get_or}
use Rattle.numbers.specs.Numbers.{is_finite}
use Rattle.numbers.specs.Root.{sqrt_of}
use Rattle.whole_numbers.proofs.WholeLaws.{column_fits}
use Rattle.tables.proofs.TablesLaws.{table_same}
use Rattle.complex.specs.Planes.{plane_at}
use Rattle.complex.specs.Squares.{squares_to}
use Rattle.clean_numbers.specs.Clean.{clean, EachClean}
use Rattle.exact_roots.specs.Exact.{exact_root, all_exact}
use Rattle.zero_signs.proofs.Bare.{bare, is_zero, bare-same}
use Rattle.zero_signs.proofs.Cells.{like-norm}
use Rattle.svd_gram.specs.Gram.{gram_to}
use Rattle.svd_pair.specs.Decisions.{Decision, decision_of}
use Rattle.svd_pair.specs.Turns.{Making, exact, applied}
use Rattle.svd_pair.specs.Plain.{plain}
use Rattle.svd_pair.proofs.TurnsLaws.{applied-nothing}
use Rattle.sweeps.specs.Sweeping.{State, state}
use Rattle.sweeps.proofs.Alongside.{Along, settled-alongside}
use Rattle.svd_sweeps.specs.Sweeping.{svd_pairing, settled_with, settled}
use Rattle.svd_columns.specs.Columns.{plane_from, norms_of, norms_exact}
use Rattle.plain_sweeps.proofs.Planes.{Fine, Alike, alike_self}
use Rattle.plain_sweeps.proofs.Decided.{AlikeDecisions, gram-alike, decided-alike, counted-alike, applied-length, applied_back, applied-alike}

-- ---- clean numbers

-- a clean number is finite
clean-finite : (x : Float) → clean x ≡ true → is_finite x ≡ true
unfolding clean is_finite
clean-finite nan h = h
clean-finite (inf s) h = h
clean-finite (fin s zero e) h = refl
clean-finite (fin s (suc m) e) h = refl

-- and no zero
clean-nonzero : (x : Float) → clean x ≡ true → is_zero x ≡ false
unfolding clean is_zero
clean-nonzero nan h = refl
clean-nonzero (inf s) h = refl
clean-nonzero (fin s zero e) h = sym h
clean-nonzero (fin s (suc m) e) h = refl

-- a matrix of clean numbers is finite
clean-fine : (c : ℕ) (ys : List Float) → length ys ≡ 2 * c → EachClean ys → Fine c ys
unfolding plane_at
clean-fine c ys l h =
    record {
      size = l;
      cells = λ i k. record { re = clean-finite _ (h i (omega arith)); im = clean-finite _ (h (c + i) (omega arith)) };
    }

-- number by number, two matrices that are alike differ in the signs of zeros alone
number-alike : (c : ℕ) (xs ys : List Float) (k : ℕ) → Alike c xs ys → k < 2 * c → bare (get_or xs k nan) ≡ bare (get_or ys k nan)
unfolding plane_at
number-alike c xs ys k a h = go (dec_le c k)
  where
    go : Dec (c ≤ k) → bare (get_or xs k nan) ≡ bare (get_or ys k nan)
    go (no n) = (a.cells k (lt_of_not-le n)).re
    go (yes l) =
        let e : c + (k - c) ≡ k = omega arith in
        rw e at (a.cells (k - c) (omega arith)).im

-- matrices that are alike are the same, where every number of the second is clean
pub clean-same : (c : ℕ) (xs ys : List Float) → Alike c xs ys → EachClean ys → ys ≡ xs
clean-same c xs ys a h =
    ext_get_or nan ys xs (a.second ∙ sym a.first)
    (λ k l. bare-same (get_or ys k nan) (get_or xs k nan) (clean-nonzero _ (h k l)) (sym (number-alike c xs ys k a (omega (arith, a.second)))))

-- ---- the norms

-- the squared moduli of the first k cells from the cell `at` on, added
squares-alike : (xs ys : List Float) (c at k : ℕ) → at + k ≤ c → Alike c xs ys → squares_to (plane_from xs c at) k ≡ squares_to (plane_from ys c at) k
unfolding squares_to
squares-alike xs ys c at zero h a = refl
squares-alike xs ys c at (suc k) h a =
    ap₂ (add binary64) (squares-alike xs ys c at k (omega arith) a) (like-norm (a.cells (at + k) (omega arith)))

-- the same numbers have roots that are exact alike
exact_same : (k : ℕ) (f g : ℕ → Float) → ((i : ℕ) → i < k → f i ≡ g i) → all_exact k f ≡ all_exact k g
unfolding all_exact
exact_same zero f g h = refl
exact_same (suc k) f g h = ap₂ ◌&&◌ (exact_same k f g (λ i l. h i (omega arith))) (ap exact_root (h k (omega arith)))

-- ---- the sweeps

-- the pair p, q is decided alike in work matrices that are alike
alike : (m n p q : ℕ) (work work' : List Float) → p < q → q < n → Alike (n * m) work work'
    → AlikeDecisions (decision_of (gram_to work (n * m) (p * m) (q * m) m)) (decision_of (gram_to work' (n * m) (p * m) (q * m) m))
alike m n p q work work' h i a =
    decided-alike (gram_to work (n * m) (p * m) (q * m) m) (gram_to work' (n * m) (p * m) (q * m) m)
    (gram-alike work work' (n * m) (p * m) (q * m) m (column_fits p n m (omega arith)) (column_fits q n m i) a)

-- The exact sweeps and the plain ones go side by side: matrices that are alike stay so, where the plain ones are finite at the end.
pub svd-along : (m n : ℕ) → Along n (svd_pairing exact m n) (svd_pairing plain m n)
    (λ (work v : List Float). Fine (n * m) work × Fine (n * n) v)
    (λ (work v work' v' : List Float). Alike (n * m) work work' × Alike (n * n) v v')
unfolding svd_pairing
svd-along m n =
    record {
      back = λ p q work v h i g. (
        applied_back _ (n * m) (p * m) (q * m) m work (column_fits p q m h) (column_fits q n m i) g.0,
        applied_back _ (n * n) (p * n) (q * n) n v (column_fits p q n h) (column_fits q n n i) g.1,
      );
      kept = λ p q work v work' v' h i a g.
          let d = alike m n p q work work' h i a.0 in (
            applied-alike (n * m) (p * m) (q * m) m work work' (column_fits p q m h) (column_fits q n m i) d g.0 a.0,
            applied-alike (n * n) (p * n) (q * n) n v v' (column_fits p q n h) (column_fits q n n i) d g.1 a.1,
          );
      same = λ p q work v work' v' s h i a g. counted-alike s (alike m n p q work work' h i a.0);
    }

-- The same where there is no V.
pub alone-along : (m n : ℕ) → Along n (svd_pairing exact m n) (svd_pairing plain m n)
    (λ (work v : List Float). Fine (n * m) work)
    (λ (work v work' v' : List Float). Alike (n * m) work work' × ((v ≡ []) × (v' ≡ [])))
unfolding svd_pairing
alone-along m n =
    record {
      back = λ p q work v h i g. applied_back _ (n * m) (p * m) (q * m) m work (column_fits p q m h) (column_fits q n m i) g;
      kept = λ p q work v work' v' h i a g. (
        applied-alike (n * m) (p * m) (q * m) m work work' (column_fits p q m h) (column_fits q n m i) (alike m n p q work work' h i a.0) g a.0,
        (nothing exact _ n p q v a.1.0, nothing plain _ n p q v' a.1.1),
      );
      same = λ p q work v work' v' s h i a g. counted-alike s (alike m n p q work work' h i a.0);
    }
  where
    nothing : (g : Making) (d : Decision) (n p q : ℕ) (v : List Float) → v ≡ [] → applied g d (n * n) (p * n) (q * n) n v ≡ []
    nothing g d n p q v e = ap (applied g d (n * n) (p * n) (q * n) n) e ∙ sym (applied-nothing g d (n * n) (p * n) (q * n) n)

-- two lists that are the same, and of a length
record Kept (l : ℕ) (xs ys : List Float) : Type 0 where
  pub same : xs ≡ ys
  pub size : length ys ≡ l

-- the sweeps beside themselves: the lists keep their lengths
length-along : (g : Making) (m n lw lv : ℕ) → Along n (svd_pairing g m n) (svd_pairing g m n)
    (λ (work v : List Float). Unit {0})
    (λ (work v work' v' : List Float). Kept lw work work' × Kept lv v v')
unfolding svd_pairing
length-along g m n lw lv =
    record {
      back = λ p q work v h i t. tt;
      kept = λ p q work v work' v' h i a t. (
        record { same = rw a.0.same; size = applied-length g _ (n * m) (p * m) (q * m) m work' ∙ a.0.size },
        record { same = rw (a.0.same, a.1.same); size = applied-length g _ (n * n) (p * n) (q * n) n v' ∙ a.1.size },
      );
      same = λ p q work v work' v' s h i a t. rw a.0.same;
    }

-- The sweeps keep the lengths of the work matrix and of V.
pub settled-lengths : (g : Making) (m n : ℕ) (work v : List Float)
    → (length (settled_with g m n work v).work ≡ length work) × (length (settled_with g m n work v).v ≡ length v)
unfolding settled_with
settled-lengths g m n work v =
    let r =
    settled-alongside n 100 (svd_pairing g m n) (svd_pairing g m n) (λ (work v : List Float). Unit {0})
    (λ (work' v' work'' v'' : List Float). Kept (length work) work' work'' × Kept (length v) v' v'')
    (length-along g m n (length work) (length v)) work v (record { same = refl; size = refl }, record { same = refl; size = refl }) tt in
    (r.0.0.size, r.0.1.size)

-- states of the same lists and counts are the same
same-state : {s t : State} → s.work ≡ t.work → s.v ≡ t.v → s.sweeps ≡ t.sweeps → s ≡ t
same-state {s} {t} w v c = ap₂ (λ (x y : List Float). state x y s.sweeps) w v ∙ ap (state t.work t.v) c

-- Where every number that the plain sweeps leave in the work matrix and in V is finite and no zero, they leave what the exact sweeps leave: the same lists and the same counts.
pub plain-is-exact : (m n : ℕ) (work v : List Float) → length work ≡ 2 * (n * m) → length v ≡ 2 * (n * n)
    → EachClean (settled_with plain m n work v).work → EachClean (settled_with plain m n work v).v → settled_with plain m n work v ≡ settled m n work v
unfolding settled settled_with
plain-is-exact m n work v lw lv hw hv =
    let l = settled-lengths plain m n work v in
    let r =
    settled-alongside n 100 (svd_pairing exact m n) (svd_pairing plain m n)
    (λ (work v : List Float). Fine (n * m) work × Fine (n * n) v)
    (λ (work v work' v' : List Float). Alike (n * m) work work' × Alike (n * n) v v')
    (svd-along m n) work v (alike_self (n * m) work lw, alike_self (n * n) v lv)
    (clean-fine (n * m) _ (l.0 ∙ lw) hw, clean-fine (n * n) _ (l.1 ∙ lv) hv) in
    same-state (clean-same (n * m) _ _ r.0.0 hw) (clean-same (n * n) _ _ r.0.1 hv) (sym r.1)

-- Where there is no V, it is enough that every number that the plain sweeps leave in the work matrix is finite: then the exact sweeps leave one that is alike but for the signs of zeros, and the same counts.
pub plain-alike-alone : (m n : ℕ) (work : List Float) → length work ≡ 2 * (n * m) → Fine (n * m) (settled_with plain m n work []).work
    → Alike (n * m) (settled m n work []).work (settled_with plain m n work []).work × ((settled m n work []).sweeps ≡ (settled_with plain m n work []).sweeps)
unfolding settled settled_with
plain-alike-alone m n work l h =
    let r =
    settled-alongside n 100 (svd_pairing exact m n) (svd_pairing plain m n)
    (λ (work v : List Float). Fine (n * m) work)
    (λ (work v work' v' : List Float). Alike (n * m) work work' × ((v ≡ []) × (v' ≡ [])))
    (alone-along m n) work [] (alike_self (n * m) work l, (refl, refl)) h in
    (r.0.0, r.1)

-- Work matrices that are alike have columns of the same norms, to the last bit.
pub norms-alike : (rows side : ℕ) (work work' : List Float) → Alike (side * rows) work work' → norms_of work rows side ≡ norms_of work' rows side
unfolding norms_of
norms-alike rows side work work' a =
    table_same side _ _ (λ j h. ap sqrt_of (squares-alike work work' (side * rows) (j * rows) rows (column_fits j side rows h) a))

-- And the roots of these come out even in both or in neither.
pub marks-alike : (rows side : ℕ) (work work' : List Float) → Alike (side * rows) work work' → norms_exact work rows side ≡ norms_exact work' rows side
unfolding norms_exact
marks-alike rows side work work' a =
    exact_same side _ _ (λ j h. squares-alike work work' (side * rows) (j * rows) rows (column_fits j side rows h) a)
