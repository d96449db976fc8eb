-- What an exported call says leaves one outcome where the call behind it does. Assumes nothing.
use mathlib.Core.Path.{◌≡◌, sym, ap, ◌∙◌}
use Prim.Native.Nat.{ℕ}
use Rattle.std.specs.Prelude.{Result}
use Rattle.answers.specs.declared.Refusal.{Refusal}
use Rattle.answers.specs.Paper.{Answer, paper}
use Rattle.told.specs.Told.{Told, Exported, ExportedWith, ExportedResult}

same-told : {A : Type 0} {a b : Result A Refusal} {n p n' p' : ℕ} → Told a n p → Told b n' p' → a ≡ b → (n ≡ n') × (p ≡ p')
same-told {A} t u e =
    (t.numbered ∙ ap (λ (x : Result A Refusal). (paper x).0) e ∙ sym u.numbered, t.placed ∙ ap (λ (x : Result A Refusal). (paper x).1) e ∙ sym u.placed)

-- Where a call has one answer, its exported face has one number and one place.
pub exported-bare-one : {C D : Answer → Type 0} {n p n' p' : ℕ} → ((a b : Answer) → C a → D b → a ≡ b) → Exported C n p → Exported D n' p'
    → (n ≡ n') × (p ≡ p')
exported-bare-one one x y = same-told x.1 y.1 (one x.0 y.0 x.2 y.2)

-- The same, and all that the call's own theorem says of its lent cells.
pub exported-one : {Rest : Type 0} {C D : Answer → Type 0} {n p n' p' : ℕ} → ((a b : Answer) → C a → D b → (a ≡ b) × Rest)
    → Exported C n p → Exported D n' p' → (n ≡ n') × (p ≡ p') × Rest
exported-one one x y =
    let e = one x.0 y.0 x.2 y.2 in
    let t = same-told x.1 y.1 e.0 in
    (t.0, t.1, e.1)

-- The same of a call that gives a further result.
pub exported-with-one : {R A W Rest : Type 0} {answer : R → Result A Refusal} {value : R → W} {C D : R → Type 0} {n p n' p' : ℕ} {w w' : W}
    → ((k l : R) → C k → D l → (answer k ≡ answer l) × (value k ≡ value l) × Rest)
    → ExportedWith answer value C n p w → ExportedWith answer value D n' p' w' → (n ≡ n') × (p ≡ p') × (w ≡ w') × Rest
exported-with-one one x y =
    let e = one x.0 y.0 x.3 y.3 in
    let t = same-told x.1 y.1 e.0 in
    (t.0, t.1, x.2 ∙ e.1 ∙ sym y.2, e.2)

-- The same of one that lends nothing.
pub exported-value-one : {R A W : Type 0} {answer : R → Result A Refusal} {value : R → W} {C D : R → Type 0} {n p n' p' : ℕ} {w w' : W}
    → ((k l : R) → C k → D l → (answer k ≡ answer l) × (value k ≡ value l))
    → ExportedWith answer value C n p w → ExportedWith answer value D n' p' w' → (n ≡ n') × (p ≡ p') × (w ≡ w')
exported-value-one one x y =
    let e = one x.0 y.0 x.3 y.3 in
    let t = same-told x.1 y.1 e.0 in
    (t.0, t.1, x.2 ∙ e.1 ∙ sym y.2)

-- The same of a call that gives a value, or is refused.
pub exported-result-one : {A W Rest : Type 0} {value : Result A Refusal → W} {C D : Result A Refusal → Type 0} {n p n' p' : ℕ} {w w' : W}
    → ((k l : Result A Refusal) → C k → D l → (k ≡ l) × Rest)
    → ExportedResult value C n p w → ExportedResult value D n' p' w' → (n ≡ n') × (p ≡ p') × (w ≡ w') × Rest
exported-result-one {value = value} one x y =
    let e = one x.0 y.0 x.3 y.3 in
    let t = same-told x.1 y.1 e.0 in
    (t.0, t.1, x.2 ∙ ap value e.0 ∙ sym y.2, e.1)

-- The same of one that lends nothing.
pub exported-result-value-one : {A W : Type 0} {value : Result A Refusal → W} {C D : Result A Refusal → Type 0} {n p n' p' : ℕ} {w w' : W}
    → ((k l : Result A Refusal) → C k → D l → k ≡ l)
    → ExportedResult value C n p w → ExportedResult value D n' p' w' → (n ≡ n') × (p ≡ p') × (w ≡ w')
exported-result-value-one {value = value} one x y =
    let e = one x.0 y.0 x.3 y.3 in
    let t = same-told x.1 y.1 e in
    (t.0, t.1, x.2 ∙ ap value e ∙ sym y.2)
