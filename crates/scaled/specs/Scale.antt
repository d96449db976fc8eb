-- A sum is finite only where both its parts are, and a number times 2 ^ 824 only where the number is allowed: 2 ^ 200 times that is 2 ^ 1024,
-- which rounds to an infinity, and rounding keeps the order. Assumes nothing.
use Rattle.std.specs.Prelude.{Float}
use Rattle.std.specs.Float.{binary64}
use Rattle.std.specs.Float.Ieee.{of_bits}

-- 2 ^ 824
abbrev pub scale : Float
scale = of_bits binary64 0x7370_0000_0000_0000
