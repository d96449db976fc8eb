-- What a reader may want to know of a plan's thirty numbers. Assumes nothing.
use mathlib.Core.Path.{◌≡◌, refl}
use mathlib.Core.List.{List, [], ◌∷◌}
use Prim.Native.Nat.{ℕ}
use native.Mathlib.Omega.{arith}
use lib.ListN.{length, get_or}
use Rattle.plans.specs.declared.Plan.{Plan}
use Rattle.plan_numbers.specs.Numbers.{numbers_of, plan_at}

-- a list of twelve, place by place
all-twelve : (l : List ℕ) → length l ≡ 12 → get_or l 0 0 ∷ get_or l 1 0 ∷ get_or l 2 0 ∷ get_or l 3 0 ∷ get_or l 4 0 ∷ get_or l 5 0 ∷ get_or l 6 0 ∷ get_or l 7 0 ∷ get_or l 8 0 ∷ get_or l 9 0 ∷ get_or l 10 0 ∷ get_or l 11 0 ∷ [] ≡ l
all-twelve [] e = absurd (omega arith)
all-twelve (x0 ∷ []) e = absurd (omega arith)
all-twelve (x0 ∷ x1 ∷ []) e = absurd (omega arith)
all-twelve (x0 ∷ x1 ∷ x2 ∷ []) e = absurd (omega arith)
all-twelve (x0 ∷ x1 ∷ x2 ∷ x3 ∷ []) e = absurd (omega arith)
all-twelve (x0 ∷ x1 ∷ x2 ∷ x3 ∷ x4 ∷ []) e = absurd (omega arith)
all-twelve (x0 ∷ x1 ∷ x2 ∷ x3 ∷ x4 ∷ x5 ∷ []) e = absurd (omega arith)
all-twelve (x0 ∷ x1 ∷ x2 ∷ x3 ∷ x4 ∷ x5 ∷ x6 ∷ []) e = absurd (omega arith)
all-twelve (x0 ∷ x1 ∷ x2 ∷ x3 ∷ x4 ∷ x5 ∷ x6 ∷ x7 ∷ []) e = absurd (omega arith)
all-twelve (x0 ∷ x1 ∷ x2 ∷ x3 ∷ x4 ∷ x5 ∷ x6 ∷ x7 ∷ x8 ∷ []) e = absurd (omega arith)
all-twelve (x0 ∷ x1 ∷ x2 ∷ x3 ∷ x4 ∷ x5 ∷ x6 ∷ x7 ∷ x8 ∷ x9 ∷ []) e = absurd (omega arith)
all-twelve (x0 ∷ x1 ∷ x2 ∷ x3 ∷ x4 ∷ x5 ∷ x6 ∷ x7 ∷ x8 ∷ x9 ∷ x10 ∷ []) e = absurd (omega arith)
all-twelve (x0 ∷ x1 ∷ x2 ∷ x3 ∷ x4 ∷ x5 ∷ x6 ∷ x7 ∷ x8 ∷ x9 ∷ x10 ∷ x11 ∷ []) e = refl
all-twelve (x0 ∷ x1 ∷ x2 ∷ x3 ∷ x4 ∷ x5 ∷ x6 ∷ x7 ∷ x8 ∷ x9 ∷ x10 ∷ x11 ∷ x12 ∷ l) e = absurd (omega arith)

lists : (p : Plan) {l l' s s' : List ℕ} → l ≡ l' → s ≡ s'
    → ◌≡◌ {A = Plan}
    (record { n = p.n; k = p.k; row_mask = p.row_mask; column_mask = p.column_mask; rows = p.rows; columns = p.columns; named = l; smaller = s })
    (record { n = p.n; k = p.k; row_mask = p.row_mask; column_mask = p.column_mask; rows = p.rows; columns = p.columns; named = l'; smaller = s' })
lists p e f = rw (e, f)

-- A plan whose lists have twelve places, as its type has them, is read back from its thirty numbers.
pub read_back : (p : Plan) → length p.named ≡ 12 → length p.smaller ≡ 12 → plan_at (numbers_of p) ≡ p
read_back p e f = lists p (all-twelve p.named e) (all-twelve p.smaller f)
