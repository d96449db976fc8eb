-- `countersign_scans::first_product` meets its contract: the loop's invariant: the cells that are left give the same
-- end. Assumes nothing.
use mathlib.Core.Path.{◌≡◌}
use Prim.Native.Nat.{◌-◌, ◌*◌}
use Rattle.countersign_products.specs.Products.{product_fits}
use Rattle.countersign_scans.specs.Scans.{first_fail}
use Rattle.countersign_scans.proofs.first_product.Given as goal

abbrev pub invariant-loop-c : goal.invariant-loop-c
invariant-loop-c l = first_fail (product_fits l.a l.u l.s l.vt l.m l.n l.k l.tolerance) 0 (l.m * l.n) ≡ first_fail (product_fits l.a l.u l.s l.vt l.m l.n l.k l.tolerance) l.c (l.m * l.n - l.c)
