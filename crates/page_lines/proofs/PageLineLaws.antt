-- How long the short lines are. Assumes nothing.
use mathlib.Core.Path.{◌≡◌}
use mathlib.Core.Bool.{Bool}
use mathlib.Core.List.{List, [], ◌∷◌, ◌++◌}
use Prim.Native.Nat.{ℕ, ◌+◌, ◌*◌, ◌≤◌}
use native.Mathlib.Omega.{arith}
use lib.ListN.{length, length-append}
use Rattle.answers.specs.Paper.{Reply}
use Rattle.texts.specs.Text.{hex}
use Rattle.texts.proofs.TextLaws.{length-hex, length-pair}
use Rattle.lines.specs.Lines.{items, quiet_text}
use Rattle.lines.proofs.LineLaws.{length-items, length-quiet}
use Rattle.page_lines.specs.PageLines.{hex_item, bits_line, said_line, list_word, list_line, reply_line}

pub length-hex-item : (w : List ℕ) (b : ℕ) → length (hex_item w b) ≡ length w + 16
unfolding hex_item
length-hex-item w b = omega (arith, length-append w (hex 16 b), length-hex 16 b)

pub length-bits : (w : List ℕ) (b : ℕ) → length (bits_line w b) ≡ length w + 17
unfolding bits_line
length-bits w b = omega (arith, length-append (hex_item w b) (10 ∷ []), length-hex-item w b)

pub length-said : (w : List ℕ) (y : Bool) → length (said_line w y) ≤ length w + 5
unfolding said_line
length-said w y = omega (arith, length-append w (quiet_text y), length-quiet y)

pub length-list : (l : List ℕ) → length (list_line l) ≤ 5 + 21 * length l
unfolding list_line
length-list l = omega (arith, length-append (list_word ++ items (length l) l) (10 ∷ []), length-append list_word (items (length l) l), length-items (length l) l)

pub length-reply : (w : List ℕ) (r : Reply) → length (reply_line w r) ≤ length w + 42
unfolding reply_line
length-reply w r = length-pair w r.0 r.1
