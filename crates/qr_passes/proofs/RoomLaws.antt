-- Laws of what `specs/Room.antt` defines. Assumes nothing.
use mathlib.Core.Path.{◌≡◌, sym, ap, ◌∙◌}
use Prim.Native.Nat.{ℕ, ◌*◌}
use Rattle.qr_passes.specs.Room.{QrRoom}

-- the same room by another name for the cap, after writes that keep the lengths
pub room-kept : {rows cols cap cap' la lq lr lv lq' lr' : ℕ} → QrRoom rows cols cap la lq lr lv → cap' ≡ cap → lq' ≡ lq → lr' ≡ lr
    → QrRoom rows cols cap' la lq' lr' lv
room-kept {rows} {cols} o e f g =
    record {
      a-is = o.a-is;
      q-is = f ∙ o.q-is ∙ sym (ap (λ (c : ℕ). 2 * (c * rows)) e);
      r-is = g ∙ o.r-is ∙ sym (ap (λ (c : ℕ). 2 * (c * cols)) e);
      v-is = o.v-is;
    }
