-- Texts that are computed. Assumes nothing.
use mathlib.Core.Path.{◌≡◌, refl}
use mathlib.Core.List.{[], ◌∷◌}
use Rattle.texts.specs.Text.{places, decimal, hex, item_text, line, pair_line}

-- `0`, `512`, the bits of 0.5 and `refused 10 0`
pub zero_is : decimal 0 ≡ 48 ∷ []
unfolding decimal places
zero_is = refl

pub decimal-is : decimal 512 ≡ 53 ∷ 49 ∷ 50 ∷ []
unfolding decimal places
decimal-is = refl

pub hex-is : hex 16 0x3fe0_0000_0000_0000 ≡ 51 ∷ 70 ∷ 69 ∷ 48 ∷ 48 ∷ 48 ∷ 48 ∷ 48 ∷ 48 ∷ 48 ∷ 48 ∷ 48 ∷ 48 ∷ 48 ∷ 48 ∷ 48 ∷ []
unfolding hex
hex-is = refl

pub refused-is : pair_line (114 ∷ 101 ∷ 102 ∷ 117 ∷ 115 ∷ 101 ∷ 100 ∷ 32 ∷ []) 10 0 ≡ 114 ∷ 101 ∷ 102 ∷ 117 ∷ 115 ∷ 101 ∷ 100 ∷ 32 ∷ 49 ∷ 48 ∷ 32 ∷ 48 ∷ 10 ∷ []
unfolding pair_line line item_text decimal places
refused-is = refl
