-- The list 0..j is accepted by a cut where j + 1 < n, and what its call then gives. Assumes nothing.
use mathlib.Core.Path.{◌≡◌, refl, sym, ap, ap₂, ◌∙◌}
use mathlib.Core.Bool.{Bool, true, false, ◌||◌}
use mathlib.Core.List.{List, [], ◌∷◌, ◌++◌, append_assoc}
use Prim.Native.Nat.{ℕ, zero, suc, ◌+◌, ◌-◌, ◌*◌, ◌^◌, ◌≤◌, ◌<◌, min}
use native.Mathlib.Omega.{arith}
use borrow.Author.Tests.{ne_eqb, eqb-true, eqb-false, ltb-false}
use lib.Arith.{lt_of_le-ne}
use lib.Dec.{ltb, eqb}
use lib.ListN.{length, take, drop, get_or, set, length-append, length-drop}
use lib.Seq.{take_at, length-take-le, take-length, take-append-le, get_or_at, take-suc-set, take-append_seam}
use lib.Ieee.{Float}
use Rattle.std.specs.Prelude.{Result, Ok, Err}
use Rattle.answers.specs.declared.Refusal.{Refusal}
use Rattle.answers.specs.Paper.{Reply, paper, given, done, refuse, if_done}
use Rattle.answers.proofs.PaperLaws.{refuse-done, done-new, end-new}
use Rattle.complex.specs.Zeros.{zeros}
use Rattle.qubits.specs.Lists.{stands, places_from, qubit_set, subsystem}
use Rattle.cut_sides.specs.declared.Sides.{Sides}
use Rattle.cut_sides.specs.Sides.{cut_sizes, cut_refusal, sides_of, Parted}
use Rattle.cut_sides.proofs.SideLaws.{is-parted}
use Rattle.cut_naming.proofs.ReorderedLaws.{pass, places-pass}
use Rattle.sweeps.specs.declared.Sweeps.{Sweeps}
use Rattle.cut_values.specs.declared.CutCounted.{CutCounted}
use Rattle.factored.specs.Factored.{kept_sweeps}
use Rattle.cut_marks.specs.Marks.{one_if, cut_marks}
use Rattle.finish.specs.Finish.{finish_of, padded}
use Rattle.cut_values.specs.Schmidt.{cut_rows, singular_values, cut_sweeps, cut_exact, cut_values_tests, values_reply, cut_values_answer, singular_of, sweeps_of, columns_exact_of, no_cut, CutValuesSized, CutValuesMade, Schmidt}
use Rattle.cut_values.proofs.SchmidtLaws.{sized}
use Rattle.profile_cut.specs.Cut.{first_qubits, cut_list, room_at, values_at, reply_at, result_at, marks_of, marks_each, CutRoom, AloneAt}

-- ---- the first qubits

pub length-first : (k : ℕ) → length (first_qubits k) ≡ k
unfolding first_qubits
length-first zero = refl
length-first (suc k) = length-append (first_qubits k) (k ∷ []) ∙ omega (arith, length-first k)

take-first : (d i : ℕ) → take i (first_qubits (d + i)) ≡ first_qubits i
unfolding first_qubits
take-first zero i =
    let e : 0 + i ≡ i = omega arith in
    rw e (ap (λ (x : ℕ). take x (first_qubits i)) (sym (length-first i)) ∙ take-length (first_qubits i))
take-first (suc d) i =
    let e : suc d + i ≡ suc (d + i) = omega arith in
    rw e (take-append-le i (first_qubits (d + i)) ((d + i) ∷ []) (omega (arith, length-first (d + i))) ∙ take-first d i)

get_or-more : (l : List ℕ) (x i : ℕ) → i < length l → get_or (l ++ x ∷ []) i 0 ≡ get_or l i 0
get_or-more [] x i h = absurd (omega (arith, h))
get_or-more (y ∷ l) x zero h = refl
get_or-more (y ∷ l) x (suc i) h = get_or-more l x i (omega (arith, h))

get_or-pick : (k i : ℕ) (b : Bool) → eqb i k ≡ b → i < suc k → (i < k → get_or (first_qubits k) i 0 ≡ i) → get_or (first_qubits k ++ k ∷ []) i 0 ≡ i
get_or-pick k i true e h f = let z : i ≡ k = eqb-true i k e in get_or_at (first_qubits k) k [] 0 i (length-first k ∙ sym z) ∙ sym z
get_or-pick k i false e h f =
    let z : i ≡ k → ⊥ = eqb-false i k e in
    let l : i < k = lt_of_le-ne (omega arith) z in
    get_or-more (first_qubits k) k i (omega (arith, length-first k)) ∙ f l

get_or-first : (k i : ℕ) → i < k → get_or (first_qubits k) i 0 ≡ i
unfolding first_qubits
get_or-first zero i h = absurd (omega arith)
get_or-first (suc k) i h = get_or-pick k i (eqb i k) refl h (λ l. get_or-first k i l)

or-none : (a b c : Bool) → (a || b) ≡ false → (b ≡ false → c ≡ false) → (a || c) ≡ false
or-none true b c e f = e
or-none false b c e f = f e

stands-more : (q x : ℕ) (l : List ℕ) → stands q l ≡ false → (x ≡ q → ⊥) → stands q (l ++ x ∷ []) ≡ false
unfolding stands
stands-more q x [] e h = let z : eqb x q ≡ false = ne_eqb x q h in rw z
stands-more q x (y ∷ l) e h = or-none (eqb y q) (stands q l) (stands q (l ++ x ∷ [])) e (λ g. stands-more q x l g h)

stands-first : (q k : ℕ) → k ≤ q → stands q (first_qubits k) ≡ false
unfolding first_qubits stands
stands-first q zero h = refl
stands-first q (suc k) h = stands-more q k (first_qubits k) (stands-first q k (omega arith)) (λ e. omega (arith, e))

pub names-few : (n j : ℕ) → suc j < n → n ≤ 12 → j < 12
names-few n j h k = omega arith

pub names-are : (j : ℕ) → j < 12 → take (j + 1) (0 ∷ 1 ∷ 2 ∷ 3 ∷ 4 ∷ 5 ∷ 6 ∷ 7 ∷ 8 ∷ 9 ∷ 10 ∷ 11 ∷ []) ≡ cut_list j
unfolding first_qubits
names-are zero h = refl
names-are (suc zero) h = refl
names-are (suc (suc zero)) h = refl
names-are (suc (suc (suc zero))) h = refl
names-are (suc (suc (suc (suc zero)))) h = refl
names-are (suc (suc (suc (suc (suc zero))))) h = refl
names-are (suc (suc (suc (suc (suc (suc zero)))))) h = refl
names-are (suc (suc (suc (suc (suc (suc (suc zero))))))) h = refl
names-are (suc (suc (suc (suc (suc (suc (suc (suc zero)))))))) h = refl
names-are (suc (suc (suc (suc (suc (suc (suc (suc (suc zero))))))))) h = refl
names-are (suc (suc (suc (suc (suc (suc (suc (suc (suc (suc zero)))))))))) h = refl
names-are (suc (suc (suc (suc (suc (suc (suc (suc (suc (suc (suc zero))))))))))) h = refl
names-are (suc (suc (suc (suc (suc (suc (suc (suc (suc (suc (suc (suc j)))))))))))) h = absurd (omega (arith, h))

-- ---- the cut is accepted

-- what 1 leaves
pub sizes-small : (n cap : ℕ) → (cut_sizes n cap).0 ≡ 0 → (1 ≤ n) × (n ≤ 12)
sizes-small n cap e =
    let a = refuse-done (ltb n 1) 0 0 _ e in
    let b = refuse-done (ltb 12 n) 0 0 _ a.1 in
    (ltb-false n 1 a.0, ltb-false 12 n b.0)

-- Past 1 the list 0..j is refused by none of 2 to 5 where j + 1 < n.
pub first-accepted : (n cap j : ℕ) → (cut_sizes n cap).0 ≡ 0 → suc j < n → (cut_refusal (cut_list j) n cap).0 ≡ 0
first-accepted n cap j s h =
    let l = cut_list j in
    let len : length l ≡ suc j = length-first (suc j) in
    let a = refuse-done (ltb n 1) 0 0 _ s in
    let b = refuse-done (ltb 12 n) 0 0 _ a.1 in
    let each : (k : ℕ) → k < length l → (get_or l k 0 < n) × (stands (get_or l k 0) (take (0 + k) l) ≡ false) = λ k g.
    let i : k < suc j = omega (arith, len, g) in
    let e : get_or l k 0 ≡ k = get_or-first (suc j) k i in
    let d : suc j - k + k ≡ suc j = omega arith in
    let t : take k l ≡ first_qubits k = rw d at (take-first (suc j - k) k) in
    let z : 0 + k ≡ k = omega arith in
    (omega (arith, e), rw (e, z, t) (stands-first k k (omega arith))) in
    let p : places_from n l 0 l ≡ done = places-pass n l 0 l each in
    let y : eqb (length l) 0 ≡ false = ne_eqb (length l) 0 (λ e. omega (arith, len, e)) in
    let w : eqb (length l) n ≡ false = ne_eqb (length l) n (λ e. omega (arith, len, e)) in
    let q : qubit_set n l ≡ done = rw (a.0, b.0, p, y) in
    let whole : (refuse (eqb (length l) n) (5, 0) done).0 ≡ 0 = rw w in
    ap (λ (x : Reply). x.0)
    (pass (cut_sizes n cap) (subsystem n l) s ∙ pass (qubit_set n l) (refuse (eqb (length l) n) (5, 0) done) (ap (λ (x : Reply). x.0) q))
    ∙ whole

pub rows_are : (n j : ℕ) → cut_rows n (cut_list j) ≡ room_at n j
rows_are n j = ap (λ (k : ℕ). 2 ^ min k (n - k)) (length-first (suc j))

-- the list 0..j parts the qubits
pub first-parted : (s : List Float) (n j cap out scratch : ℕ) (names : List ℕ) → CutRoom s n j cap out scratch → names ≡ cut_list j → Parted names n
first-parted s n j cap out scratch names p e = rw e (is-parted (cut_list j) n cap (first-accepted n cap j p.sizes p.inside))

-- what the work asks of the sides of cut j
pub sides-ready : (s : List Float) (n j cap out scratch : ℕ) (names : List ℕ) (z : Sides) → CutRoom s n j cap out scratch → names ≡ cut_list j → z ≡ sides_of names n
    → CutValuesSized n z s × (z.rows ≤ out) × (2 * 2 ^ n ≤ scratch)
sides-ready s n j cap out scratch names z p e h =
    let rows : z.rows ≡ room_at n j = rw (h, e) (rows_are n j) in (
      sized s n names z (first-parted s n j cap out scratch names p e) h p.state-is,
      omega (arith, rows, p.out-fits),
      omega (arith, p.scratch-fits),
    )

-- what the call of cut j leaves, by its parts
alone-by : (s : List Float) (n j : ℕ) (out : List Float) (r : Result CutCounted Refusal) {out' : List Float} → let kept = finish_of (singular_values s n (cut_list j)) in
    paper r ≡ values_reply (singular_values s n (cut_list j)) → (given no_cut r).count ≡ if_done (paper r).0 (length kept) 0
    → ((paper r).0 ≡ 0 → out' ≡ padded (cut_rows n (cut_list j)) kept out) → (given no_cut r).sweeps ≡ kept_sweeps r (cut_sweeps s n (cut_list j))
    → (given no_cut r).exact ≡ if_done (paper r).0 (cut_exact s n (cut_list j)) false → AloneAt s n j r out'
unfolding reply_at result_at values_at padded
alone-by s n j out (Err e) a c o w x = record { answer = a; result = tt; values = tt }
alone-by s n j out (Ok r) a c o w x =
    let kept = finish_of (singular_values s n (cut_list j)) in
    let rows = cut_rows n (cut_list j) in
    let more = zeros (rows - length kept) in
    let inside : length kept ≤ length (kept ++ more) = omega (arith, length-append kept more) in
    record {
      answer = a;
      result =
          ap₂ (λ (k : ℕ) (t : Sweeps). record { count = k; sweeps = t; exact = r.exact }) c w
          ∙ ap (λ (b : Bool). record { count = length kept; sweeps = cut_sweeps s n (cut_list j); exact = b }) x;
      values =
          ap (take (length kept)) (o refl)
          ∙ take-append-le (length kept) (kept ++ more) (drop rows out) inside
          ∙ take-append_seam kept more;
    }

-- the call of cut j, by what it leaves
pub alone-is : (s : List Float) (n j cap : ℕ) (out scratch : List Float) (r : Result CutCounted Refusal) {out' scratch' : List Float}
    → (cut_values_tests s n (cut_list j) cap (length out) (length scratch)).0 ≡ 0
    → Schmidt s n (cut_list j) cap out scratch r out' scratch' → AloneAt s n j r out'
unfolding cut_values_answer
alone-is s n j cap out scratch r t x =
    alone-by s n j out r
    (x.answer ∙ pass (cut_values_tests s n (cut_list j) cap (length out) (length scratch)) (values_reply (singular_values s n (cut_list j))) t)
    x.count
    (λ d. x.out-is ∙ sym (end-new (paper r).0 _ _ out d))
    x.sweeps-are
    x.exact-is

-- the work of cut j, by what it leaves
made-is : (s : List Float) (n j : ℕ) (out : List Float) (r : Result CutCounted Refusal) {out' : List Float} → CutValuesMade s n (sides_of (cut_list j) n) out r out' → AloneAt s n j r out'
unfolding singular_values cut_sweeps cut_exact singular_of sweeps_of columns_exact_of
made-is s n j out r x = alone-by s n j out r x.answer x.count (λ d. x.out-is ∙ sym (done-new (paper r).0 _ _ d)) x.sweeps-are x.exact-is

pub alone-made : (s : List Float) (n j : ℕ) (out : List Float) (names : List ℕ) (z : Sides) (r : Result CutCounted Refusal) {out' : List Float}
    → names ≡ cut_list j → z ≡ sides_of names n → CutValuesMade s n z out r out' → AloneAt s n j r out'
alone-made s n j out names z r e h x = made-is s n j out r (rw (h, e) at x)

-- ---- the marks

-- the fourth mark has room behind the three of the sweeps
pub marks-room : (l : List ℕ) (j : ℕ) (t : Sweeps) {l' : List ℕ} → marks_each * j + marks_each ≤ length l
    → l' ≡ take (4 * j) l ++ (cut_marks t ++ drop (4 * j + 3) l) → 4 * j + 3 < length l'
marks-room l j t h e =
    omega
    (arith, ap length e, length-append (take (4 * j) l) (cut_marks t ++ drop (4 * j + 3) l), length-take-le (4 * j) l (omega (arith, h)), length-drop (4 * j + 3) l, h)

pub marks-put : (l : List ℕ) (j : ℕ) (r : CutCounted) {l' : List ℕ} {exact : ℕ} → marks_each * j + marks_each ≤ length l
    → l' ≡ take (4 * j) l ++ (cut_marks r.sweeps ++ drop (4 * j + 3) l) → exact ≡ one_if r.exact
    → take (marks_each * suc j) (set l' (4 * j + 3) exact) ≡ take (marks_each * j) l ++ marks_of r
marks-put l j r {l'} {exact} h e f =
    let m : 4 * suc j ≡ suc (4 * j + 3) = omega arith in
    let front = take (4 * j) l ++ cut_marks r.sweeps in
    let long : length front ≡ 4 * j + 3 = length-append (take (4 * j) l) (cut_marks r.sweeps) ∙ omega (arith, length-take-le (4 * j) l (omega (arith, h))) in
    let g : l' ≡ front ++ drop (4 * j + 3) l = e ∙ sym (append_assoc (take (4 * j) l) (cut_marks r.sweeps) (drop (4 * j + 3) l)) in
    rw m
    (take-suc-set l' (4 * j + 3) exact (marks-room l j r.sweeps h e)
    ∙ ap₂ (λ (x : List ℕ) (y : ℕ). x ++ y ∷ []) (ap (take (4 * j + 3)) g ∙ take_at front (drop (4 * j + 3) l) (4 * j + 3) long) f
    ∙ append_assoc (take (4 * j) l) (cut_marks r.sweeps) (one_if r.exact ∷ []))
