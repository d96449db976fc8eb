-- From the outcome of `chain_of_sites` to the text. Assumes nothing.
use mathlib.Core.Path.{◌≡◌, refl, sym, ap, ap₂, subst, ◌∙◌}
use mathlib.Core.List.{List, ◌++◌}
use Prim.Native.Nat.{ℕ, zero, suc, ◌+◌, ◌-◌, ◌*◌, ◌^◌, ◌≤◌}
use native.Mathlib.Nat.{mul-le-mul}
use lib.Pow.{pow_mono}
use native.Mathlib.Numerals.{add-one}
use native.Mathlib.Omega.{arith}
use lib.ListN.{length, take, drop, get_or, length-append, get_or-append}
use lib.Seq.{length-take-le}
use lib.Ieee.{Float, nan}
use Rattle.io.specs.Counts.{IsPrefixLen}
use Rattle.std.specs.Prelude.{Result, Ok, Err, IfOk}
use Rattle.answers.specs.declared.Refusal.{Refusal}
use Rattle.answers.specs.Paper.{Reply, paper, table, given, if_done}
use Rattle.answers.proofs.Stopped.{stopped-number}
use Rattle.answers.proofs.PaperLaws.{done-new, done-old, end-new}
use Rattle.complex.specs.Zeros.{zeros}
use Rattle.complex.proofs.ZerosLaws.{length-zeros}
use Rattle.cutfile.specs.declared.Header.{Header}
use Rattle.cutfile.specs.Bytes.{word32}
use Rattle.cutfile.specs.Layout.{Header·is, header_answer, component_at}
use Rattle.cutfile_result.specs.Result.{state_of}
use Rattle.tables.specs.Tables.{filled}
use Rattle.tables.proofs.TablesLaws.{take-filled}
use Rattle.texts.specs.Text.{Puts}
use Rattle.texts.proofs.TextLaws.{puts-as, length-puts}
use Rattle.lines.specs.Lines.{refused_line}
use Rattle.lines.proofs.LineLaws.{length-refused}
use Rattle.chain_start.specs.Start.{carried_first}
use Rattle.chain_walk.specs.Chain.{most_of, room_to}
use Rattle.chain_walk.proofs.ChainLaws.{bounds, room_next}
use Rattle.chain_checks.specs.Checks.{need_sites, need_marks}
use Rattle.chain_fill.specs.Fill.{last_of, chain_of, bonds_of, starts_of, marks_of, dropped_of}
use Rattle.chains.specs.Chains.{sites_filled, ChainOfSites}
use Rattle.chains.proofs.BondLaws.{start-last}
use Rattle.chains.proofs.OutcomeLaws.{accepted-of, bond-at, start-at}
use Rattle.chains.proofs.Theorems.{shapes-chain}
use Rattle.chain_lines.specs.ChainLines.{chain_text, ChainLaid}
use Rattle.chain_lines.proofs.ChainLineLaws.{SameChain, same_text, length-chain}
use Rattle.chainprint.specs.Printout.{threshold, told_text, state_reply, state_text, file_text}

-- a text that was put at the front of a buffer with room for it
text-counts : (t old : List ℕ) (r : ℕ) (new : List ℕ) → length t ≤ length old → Puts 0 t old r new → IsPrefixLen r new
text-counts t old r new h p =
    let l : length new ≡ length old = length-puts 0 r t old new (omega arith) p in
    let k : r ≤ length new = omega (arith, p.next) in
    (k, sym (length-take-le r new k))

-- ---- what the call answered

pub refused-counts : (r : Reply) (old : List ℕ) (m : ℕ) (new : List ℕ) → 50 ≤ length old → Puts 0 (refused_line r) old m new → IsPrefixLen m new
refused-counts r old m new h p = text-counts (refused_line r) old m new (omega (arith, length-refused r)) p

pub chain-counts : (n dropped : ℕ) (sites : List Float) (bonds starts marks old : List ℕ) (m : ℕ) (new : List ℕ) → ChainLaid n sites bonds starts marks (length old)
    → Puts 0 (chain_text n dropped sites bonds starts marks) old m new → IsPrefixLen m new
chain-counts n dropped sites bonds starts marks old m new is p =
    text-counts (chain_text n dropped sites bonds starts marks) old m new (omega (arith, length-chain n sites bonds starts marks (length old) is dropped, is.fits)) p

module _ (n : ℕ) (sites : List Float) (bonds starts marks old : List ℕ) (m : ℕ) (new : List ℕ) where
  pub told-refused : (e : Refusal) → Puts 0 (refused_line (table e)) old m new → Puts 0 (told_text n (Err e) sites bonds starts marks) old m new
  unfolding told_text
  told-refused e p =
      puts-as 0 m (refused_line (table e)) _ old new
      (done-old (table e).0 (chain_text n 0 sites bonds starts marks) (refused_line (table e)) (stopped-number e)) p

  pub told-chain : (dropped : ℕ) → Puts 0 (chain_text n dropped sites bonds starts marks) old m new → Puts 0 (told_text n (Ok dropped) sites bonds starts marks) old m new
  unfolding told_text
  told-chain dropped p = p

-- ---- the outcome of the call

most-end : (n limit : ℕ) → 1 ≤ limit → 1 ≤ most_of n limit n
unfolding most_of
most-end n limit h =
    let e : n - n ≡ 0 = omega arith in
    let z : 2 ^ (n - n) ≡ 1 = ap (λ (x : ℕ). 2 ^ x) e in
    let p : 1 ≤ 2 ^ n = pow_mono {i = 0} {j = n} (omega arith) in
    omega (arith, z, p)

room-last : (n limit j : ℕ) → suc j ≡ n → 1 ≤ limit → room_to n limit j + 2 * most_of n limit j ≤ room_to n limit n
room-last n limit j e h =
    let a = room_next n limit j in
    let b : room_to n limit (suc j) ≡ room_to n limit n = ap (room_to n limit) e in
    let c : 1 ≤ most_of n limit (suc j) = subst (λ (x : ℕ). 1 ≤ most_of n limit x) (sym e) (most-end n limit h) in
    let d : 2 * most_of n limit j * 1 ≤ 2 * most_of n limit j * most_of n limit (suc j) = mul-le-mul {n₁ = 2 * most_of n limit j} {m₁ = 1} {n₂ = 2 * most_of n limit j} {m₂ = most_of n limit (suc j)} (omega arith) c in
    omega arith

done-same : {A : Type 0} (x : ℕ) (a b c : A) → (x ≡ 0 → a ≡ b) → if_done x a c ≡ if_done x b c
done-same zero a b c h = h refl
done-same (suc x) a b c h = refl

module _ {s : List Float} {n : ℕ} {sites : List Float} {bonds starts marks : List ℕ} {matrix u vt scratch : List Float} {r : Result ℕ Refusal}
    {sites' : List Float} {bonds' starts' marks' : List ℕ} {matrix' u' vt' scratch' : List Float}
    (c : ChainOfSites s n threshold 64 sites bonds starts marks matrix u vt scratch r sites' bonds' starts' marks' matrix' u' vt' scratch') where
  -- no cell of the chain lies past what the sites need
  starts-within : (paper r).0 ≡ 0 → 2 * get_or starts' n 0 ≤ need_sites n 64
  starts-within z =
      let a = accepted-of c z in
      let e = start-at c z n (omega arith) ∙ start-last s n threshold 64 n a.some refl in
      let b = bounds (carried_first s n) n threshold 64 (n - 1) (omega (arith, a.some)) (omega arith) in
      omega (arith, e, b.at-few, b.bond-few, room-last n 64 (n - 1) (omega (arith, a.some)) (omega arith))

  pub state-laid : {room : ℕ} → n ≤ 9 → length sites' ≡ 2384 → length sites ≡ 2384 → length bonds' ≡ 10 → length starts' ≡ 10 → length marks' ≡ 24 → room ≡ 73016
      → (paper r).0 ≡ 0 → ChainLaid n sites' bonds' starts' marks' room
  state-laid {room = room} h ls lo lb lt lm lr z =
      let a = accepted-of c z in
      let w = starts-within z in
      record {
        small = omega arith;
        bonds-hold = omega arith;
        starts-hold = omega arith;
        marks-hold = omega arith;
        rising = λ j k. subst (λ (x : ℕ). get_or starts' j 0 ≤ get_or starts' x 0) (sym (add-one j)) (omega (arith, (shapes-chain c z).3 j k));
        cells-hold = omega (arith, w, a.sites-fit);
        fits = omega (arith, w, a.sites-fit);
      }

  -- the same, as the program asks it
  pub state-ready : {room : ℕ} → n ≤ 9 → length sites' ≡ 2384 → length sites ≡ 2384 → length bonds' ≡ 10 → length starts' ≡ 10 → length marks' ≡ 24 → room ≡ 73016
      → IfOk r (λ _. ChainLaid n sites' bonds' starts' marks' room)
  state-ready {room = room} h ls lo lb lt lm lr = pick r (state-laid h ls lo lb lt lm lr)
    where
      pick : (q : Result ℕ Refusal) → ((paper q).0 ≡ 0 → ChainLaid n sites' bonds' starts' marks' room) → IfOk q (λ _. ChainLaid n sites' bonds' starts' marks' room)
      pick (Ok x) f = f refl
      pick (Err e) f = tt

  -- the lists hold the chain of the definitions
  long-enough : need_sites n 64 ≤ length (sites_filled s n threshold 64)
  unfolding sites_filled
  long-enough =
      omega (
        arith,
        length-append (chain_of s n threshold 64) (zeros (need_sites n 64 - length (chain_of s n threshold 64))),
        length-zeros (need_sites n 64 - length (chain_of s n threshold 64)),
      )

  marks-long : 1 ≤ n → length (marks_of s n threshold 64) ≡ need_marks n
  unfolding marks_of last_of
  marks-long h = (bounds (carried_first s n) n threshold 64 (n - 1) (omega arith) (omega arith)).marks-long

  same : (paper r).0 ≡ 0
      → SameChain n sites' bonds' starts' marks' (sites_filled s n threshold 64) (bonds_of s n threshold 64) (starts_of s n threshold 64) (marks_of s n threshold 64)
  same z =
      let a = accepted-of c z in
      record {
        sites-same = λ i h.
            sym (ap (λ (l : List Float). get_or l i nan)
            (c.sites-is ∙ sym (end-new (paper r).0 (sites_filled s n threshold 64 ++ drop (need_sites n 64) sites) _ sites z))
            ∙ get_or-append (sites_filled s n threshold 64) (drop (need_sites n 64) sites) nan i (omega (arith, long-enough, starts-within z)));
        bonds-same = λ j h. sym (bond-at c z j (omega arith));
        starts-same = λ j h. sym (start-at c z j (omega arith));
        marks-same = λ i h.
            sym (ap (λ (l : List ℕ). get_or l i 0)
            (c.marks-is ∙ sym (end-new (paper r).0 (marks_of s n threshold 64 ++ drop (need_marks n) marks) _ marks z))
            ∙ get_or-append (marks_of s n threshold 64) (drop (need_marks n) marks) 0 i (omega (arith, marks-long a.some)));
      }

  pub state-told : {room : ℕ} → n ≤ 9 → length sites ≡ 2384 → length bonds ≡ 10 → length starts ≡ 10 → length marks ≡ 24
      → length matrix ≡ 1024 → length u ≡ 1024 → length vt ≡ 1024 → length scratch ≡ 3104
      → ((paper r).0 ≡ 0 → ChainLaid n sites' bonds' starts' marks' room) → told_text n r sites' bonds' starts' marks' ≡ state_text s n
  unfolding told_text state_text state_reply
  state-told {room = room} h e1 e2 e3 e4 e5 e6 e7 e8 laid =
      let q = state_reply s n in
      let e : paper r ≡ q = c.answer ∙ rw (e1, e2, e3, e4, e5, e6, e7, e8) refl in
      ap (λ (p : Reply). if_done p.0 (chain_text n (given 0 r) sites' bonds' starts' marks') (refused_line p)) e
      ∙ done-same q.0 _ _ (refused_line q)
      (λ x. let z : (paper r).0 ≡ 0 = ap (λ (p : Reply). p.0) e ∙ x in
      ap (λ (d : ℕ). chain_text n d sites' bonds' starts' marks') (c.dropped-is ∙ sym (done-new (paper r).0 (dropped_of s n threshold 64) 0 z))
      ∙ sym (same_text n sites' bonds' starts' marks' room (laid z) _ _ _ _ (same z) (dropped_of s n threshold 64)))

-- ---- the file

pub state-read : (file : List ℕ) (n k bit : ℕ) (state before : List Float) → bit ≡ 2 ^ n → state ≡ filled (2 * 2 ^ n) (component_at file k) before
    → take (2 * bit) state ≡ state_of file n k
state-read file n k bit state before e f = ap₂ (λ (x : ℕ) (l : List Float). take (2 * x) l) e f ∙ take-filled (2 * 2 ^ n) (component_at file k) before

pub file-refused : (file : List ℕ) (e : Refusal) (is : Header·is file (Err e)) (old : List ℕ) (m : ℕ) (new : List ℕ)
    → Puts 0 (refused_line (table e)) old m new → Puts 0 (file_text file) old m new
unfolding file_text
file-refused file e is old m new p =
    puts-as 0 m _ _ old new
    (ap refused_line is.answer-is
    ∙ done-old (header_answer file).0 _ (refused_line (header_answer file)) (λ z. stopped-number e (ap (λ (x : Reply). x.0) is.answer-is ∙ z))) p

pub file-read : (file : List ℕ) (h : Header) (is : Header·is file (Ok h)) (old : List ℕ) (m : ℕ) (new : List ℕ)
    → Puts 0 (state_text (state_of file h.n h.k) h.n) old m new → Puts 0 (file_text file) old m new
unfolding file_text
file-read file h is old m new p =
    let e : (header_answer file).0 ≡ 0 = ap (λ (x : Reply). x.0) (sym is.answer-is) in
    let a : h.n ≡ word32 file 4 = is.n-is ∙ sym (done-new (header_answer file).0 (word32 file 4) 0 e) in
    let b : h.k ≡ word32 file 8 = is.k-is ∙ sym (done-new (header_answer file).0 (word32 file 8) 0 e) in
    puts-as 0 m _ _ old new (ap₂ (λ (x y : ℕ). state_text (state_of file x y) x) a b ∙ done-new (header_answer file).0 _ (refused_line (header_answer file)) e) p
