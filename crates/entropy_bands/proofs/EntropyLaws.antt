-- The work and the call at each way out. Assumes nothing.
use mathlib.Core.Path.{◌≡◌, refl, sym, ap, ap₂, subst, ◌∙◌}
use mathlib.Core.Bool.{Bool, true, false}
use mathlib.Core.Logic.{inl, inr}
use mathlib.Core.List.{List, [], ◌++◌, append_assoc}
use Prim.Native.Nat.{ℕ, zero, suc, ◌-◌, ◌*◌, ◌≤◌, ◌<◌}
use native.Mathlib.Omega.{arith}
use lib.Dec.{eqb}
use lib.Ieee.{Float}
use lib.ListN.{length, take, drop, replicate, length-append, length-replicate}
use lib.Seq.{take_at}
use Rattle.std.proofs.Common.{Result, Ok, Err}
use Rattle.answers.specs.declared.Refusal.{Refusal}
use Rattle.answers.specs.Paper.{Reply, paper, table, given, done, refuse, after, and_then, if_done, at_end}
use Rattle.answers.proofs.Stopped.{stopped-number}
use Rattle.answers.proofs.PaperLaws.{stays, done-old, Ended, worked-new, worked-old, end-old, end-worked}
use Rattle.complex.specs.Zeros.{zeros, zeroed}
use Rattle.finish.specs.Finish.{finish_of, padded}
use Rattle.sweeps.specs.declared.Sweeps.{Sweeps}
use Rattle.sweeps.specs.Sweeping.{no_sweeps}
use Rattle.cut_values.specs.declared.CutCounted.{CutCounted}
use Rattle.factored.specs.Factored.{kept_sweeps}
use Rattle.cut_values.specs.Schmidt.{cut_rows, singular_values, cut_sweeps, cut_values_scratch, cut_values_tests, values_reply, cut_values_answer, no_cut, Schmidt}
use Rattle.cut_values.proofs.SchmidtLaws.{values-number}
use Rattle.entropy_sums.specs.Sums.{weights_left, whole_weight, low_sum, high_sum}
use Rattle.entropy_bands.specs.declared.Entropy.{Entropy}
use Rattle.entropy_bands.specs.Bands.{entropy_tests, entropy_reply, entropy_answer, cut_values, padded_cells, bands_left, SumReady, SummedUp, EntropyWorked, EntropyBand}
use Rattle.entropy_bands.proofs.BandsLaws.{tests-small}

-- ---- the cut's values

module _ (s : List Float) (n : ℕ) (l : List ℕ) (cap rows : ℕ) (out scratch : List Float) (q : Result CutCounted Refusal) (out' scratch' : List Float)
    (got : Schmidt s n l cap out scratch q out' scratch') (lo : length out ≡ rows) (er : rows ≡ cut_rows n l) (passed : (cut_values_tests s n l cap rows (length scratch)).0 ≡ 0) where
  got-answer : paper q ≡ values_reply (singular_values s n l)
  unfolding cut_values_answer
  got-answer =
      let v = values_reply (singular_values s n l) in
      got.answer ∙ ap (λ (k : ℕ). and_then (cut_values_tests s n l cap k (length scratch)) v) lo
      ∙ ap (λ (k : ℕ). after k (cut_values_tests s n l cap rows (length scratch)) v) passed

  got-ended : Ended (paper q).0
  got-ended = subst (λ (y : Reply). Ended y.0) (sym got-answer) (values-number (singular_values s n l))

  got-scratch : scratch' ≡ zeroed (cut_values_scratch n rows) scratch
  got-scratch =
      got.scratch-is ∙ sym (worked-new (paper q).0 (zeroed (cut_values_scratch n (cut_rows n l)) scratch) scratch got-ended)
      ∙ ap (λ (y : ℕ). zeroed (cut_values_scratch n y) scratch) (sym er)

  -- refused by 8 or 9
  pub work-refused : (e : Refusal) (bands' : List ℕ) → q ≡ Err e → bands' ≡ replicate (3 * rows) 0 → EntropyWorked s n l rows scratch (Err e) bands' scratch'
  unfolding entropy_reply
  work-refused e bands' d b =
      let nz : (table e).0 ≡ 0 → ⊥ = stopped-number e in
      record {
        answer =
            stays (table e) (refuse (eqb (length (weights_left (cut_values s n l))) 0) (8, 0) done) nz
            ∙ ap (λ (y : Reply). and_then y (refuse (eqb (length (weights_left (cut_values s n l))) 0) (8, 0) done)) (sym (ap paper d) ∙ got-answer);
        told = record {
          count = done-old (table e).0 (length (weights_left (cut_values s n l))) 0 nz;
          low = done-old (table e).0 (low_sum (whole_weight (cut_values s n l)) (weights_left (cut_values s n l))) 0 nz;
          high = done-old (table e).0 (high_sum (whole_weight (cut_values s n l)) (weights_left (cut_values s n l))) 0 nz;
          whole = done-old (table e).0 (4096 * whole_weight (cut_values s n l)) 0 nz;
          sweeps-are = done-old (table e).0 (cut_sweeps s n l) no_sweeps nz;
        };
        bands-are = b ∙ done-old (table e).0 (bands_left (cut_values s n l) ++ replicate (3 * rows - length (bands_left (cut_values s n l))) 0) (replicate (3 * rows) 0) nz;
        scratch-is = got-scratch;
      }

  -- accepted: the values stand at the front
  module _ {v : CutCounted} (is : q ≡ Ok v) (long : length out' ≡ rows) where
    number : (paper q).0 ≡ 0
    number = ap (λ (a : Result CutCounted Refusal). (paper a).0) is

    values-are : out' ≡ cut_values s n l ++ zeros (cut_rows n l - length (cut_values s n l)) ++ drop (cut_rows n l) out
    unfolding padded
    values-are =
        got.out-is ∙ ap (λ (y : ℕ). at_end y (padded (cut_rows n l) (cut_values s n l) out) (zeroed (cut_rows n l) out) out) number

    count-is : v.count ≡ length (cut_values s n l)
    count-is =
        sym (ap (λ (a : Result CutCounted Refusal). (given no_cut a).count) is) ∙ got.count ∙ ap (λ (y : ℕ). if_done y (length (cut_values s n l)) 0) number

    count_fits : v.count ≤ rows
    count_fits =
        let f = cut_values s n l in
        let z = zeros (cut_rows n l - length f) in
        let d = drop (cut_rows n l) out in
        omega (arith, count-is, long, ap length values-are, length-append (f ++ z) d, length-append f z)

    values-front : (rest : List Float) → take v.count (out' ++ rest) ≡ cut_values s n l
    values-front rest =
        let f = cut_values s n l in
        let z = zeros (cut_rows n l - length f) in
        let d = drop (cut_rows n l) out in
        ap (λ (y : List Float). take v.count (y ++ rest)) values-are
        ∙ ap (take v.count) (append_assoc (f ++ z) d rest ∙ append_assoc f z (d ++ rest))
        ∙ take_at f (z ++ (d ++ rest)) v.count (sym count-is)

    pub front-count : (rest : List Float) → length (take v.count (out' ++ rest)) ≡ v.count
    front-count rest = ap length (values-front rest) ∙ sym count-is

    pub front_fits : (rest : List Float) → v.count ≤ length (out' ++ rest)
    front_fits rest = omega (arith, count_fits, long, length-append out' rest)

    pub sum-ready : (rest : List Float) (bands : List ℕ) → bands ≡ replicate (3 * rows) 0 → rows ≤ 64 → SumReady (take v.count (out' ++ rest)) bands
    sum-ready rest bands f h =
        let b : length bands ≡ 3 * rows = ap length f ∙ length-replicate (3 * rows) 0 in
        record {
          few = omega (arith, front-count rest, count_fits, h);
          long = omega (arith, front-count rest, count_fits, b);
          blank = f ∙ ap (λ (y : ℕ). replicate y 0) (sym b);
        }

    pub work-done : (rest : List Float) (r : Result Entropy Refusal) (room : ℕ) (bands' : List ℕ) → room ≡ 3 * rows → SummedUp (take v.count (out' ++ rest)) v.sweeps room r bands'
        → EntropyWorked s n l rows scratch r bands' scratch'
    unfolding entropy_reply
    work-done rest r room bands' eb u =
        let sw : v.sweeps ≡ cut_sweeps s n l =
        sym (ap (λ (a : Result CutCounted Refusal). (given no_cut a).sweeps) is) ∙ got.sweeps-are ∙ ap (λ (a : Result CutCounted Refusal). kept_sweeps a (cut_sweeps s n l)) is in
        let c : values_reply (singular_values s n l) ≡ done = sym got-answer ∙ ap paper is in
        let w : SummedUp (cut_values s n l) (cut_sweeps s n l) (3 * rows) r bands'
        = subst (λ (y : ℕ). SummedUp (cut_values s n l) (cut_sweeps s n l) y r bands') eb
        (subst (λ (y : List Float). SummedUp y (cut_sweeps s n l) room r bands') (values-front rest) (subst (λ (y : Sweeps). SummedUp (take v.count (out' ++ rest)) y room r bands') sw u)) in
        record {
          answer = w.answer ∙ ap (λ (y : Reply). and_then y (refuse (eqb (length (weights_left (cut_values s n l))) 0) (8, 0) done)) (sym c);
          told = w.told;
          bands-are = w.bands-are;
          scratch-is = got-scratch;
        }

-- ---- the call

pub entropy-refused : (s : List Float) (n : ℕ) (l : List ℕ) (cap : ℕ) (bands : List ℕ) (scratch : List Float) (e : Refusal)
    → table e ≡ entropy_tests s n l cap (length bands) (length scratch) → EntropyBand s n l cap bands scratch (Err e) bands scratch
unfolding entropy_answer
entropy-refused s n l cap bands scratch e f =
    let nz : (table e).0 ≡ 0 → ⊥ = stopped-number e in
    let small : (table e).0 < 8 = subst (λ (y : Reply). y.0 < 8) (sym f) (tests-small s n l cap (length bands) (length scratch)) in
    let x = (table e).0 in
    record {
      answer = stays (table e) (entropy_reply (singular_values s n l)) nz ∙ ap (λ (y : Reply). and_then y (entropy_reply (singular_values s n l))) f;
      count = done-old x _ 0 nz;
      low = done-old x _ 0 nz;
      high = done-old x _ 0 nz;
      whole = done-old x _ 0 nz;
      sweeps-are = done-old x _ no_sweeps nz;
      bands-are = end-old x _ _ bands nz small;
      scratch-is = worked-old x _ scratch nz small;
    }

-- 0, 8 or 9
entropy-number : (values : List Float) → Ended (entropy_reply values).0
unfolding entropy_reply
entropy-number values = go (values_reply values) (values-number values) (eqb (length (weights_left (finish_of values))) 0)
  where
    last : (b : Bool) → Ended (refuse b (8, 0) done).0
    last true = inr (omega arith, omega arith)
    last false = inl refl

    go : (v : Reply) → Ended v.0 → (b : Bool) → Ended (and_then v (refuse b (8, 0) done)).0
    go v (inl e) b = subst (λ (k : ℕ). Ended (after k v (refuse b (8, 0) done)).0) (sym e) (last b)
    go v (inr w) b = subst (λ (y : Reply). Ended y.0) (stays v (refuse b (8, 0) done) (λ z. omega (arith, z, w.0))) (inr w)

cleared : (m : ℕ) (old : List ℕ) → replicate m 0 ++ drop m old ≡ padded_cells m [] old
unfolding padded_cells
cleared m old = let z : m ≡ m - 0 = omega arith in ap (λ (k : ℕ). replicate k 0 ++ drop m old) z

pub entropy-worked : (s : List Float) (n : ℕ) (l : List ℕ) (cap rows : ℕ) (bands : List ℕ) (scratch : List Float) (r : Result Entropy Refusal) (bands' : List ℕ) (scratch' : List Float) (k : ℕ)
    → rows ≡ cut_rows n l → k ≡ 3 * rows → (entropy_tests s n l cap (length bands) (length scratch)).0 ≡ 0
    → EntropyWorked s n l rows scratch r bands' scratch' → EntropyBand s n l cap bands scratch r (bands' ++ drop k bands) scratch'
unfolding entropy_answer padded_cells
entropy-worked s n l cap rows bands scratch r bands' scratch' k er ek passed w =
    let x = (paper r).0 in
    let v = cut_values s n l in
    let y = entropy_tests s n l cap (length bands) (length scratch) in
    let ended : Ended x = subst (λ (z : Reply). Ended z.0) (sym w.answer) (entropy-number (singular_values s n l)) in
    let m : k ≡ 3 * cut_rows n l = ek ∙ ap (λ (z : ℕ). 3 * z) er in
    record {
      answer = w.answer ∙ sym (ap (λ (z : ℕ). after z y (entropy_reply (singular_values s n l))) passed);
      count = w.told.count;
      low = w.told.low;
      high = w.told.high;
      whole = w.told.whole;
      sweeps-are = w.told.sweeps-are;
      bands-are =
          ap₂ (λ (a : List ℕ) (b : ℕ). a ++ drop b bands) w.bands-are m
          ∙ ap (λ (z : ℕ). if_done x (bands_left v ++ replicate (z - length (bands_left v)) 0) (replicate z 0) ++ drop (3 * cut_rows n l) bands) (ap (λ (z : ℕ). 3 * z) er)
          ∙ spread x (bands_left v ++ replicate (3 * cut_rows n l - length (bands_left v)) 0) (replicate (3 * cut_rows n l) 0) (drop (3 * cut_rows n l) bands)
          ∙ ap (λ (z : List ℕ). if_done x (padded_cells (3 * cut_rows n l) (bands_left v) bands) z) (cleared (3 * cut_rows n l) bands)
          ∙ end-worked x _ _ bands ended;
      scratch-is = w.scratch-is ∙ ap (λ (z : ℕ). zeroed (cut_values_scratch n z) scratch) er ∙ worked-new x _ scratch ended;
    }
  where
    spread : (x : ℕ) (a b d : List ℕ) → if_done x a b ++ d ≡ if_done x (a ++ d) (b ++ d)
    spread zero a b d = refl
    spread (suc x) a b d = refl
