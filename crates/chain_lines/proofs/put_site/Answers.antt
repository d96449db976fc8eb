-- `chain_lines::put_site` meets its contract. Three texts, one after the other. Assumes nothing.
use mathlib.Core.Path.{refl}
use Prim.Native.Nat.{◌+◌, ◌-◌}
use native.Mathlib.Omega.{arith}
use lib.ListN.{get_or}
use Rattle.chain_lines.proofs.ChainLineLaws.{length-shape, length-cells, site-room, site-cells, site-texts}
use Rattle.chain_lines.proofs.put_site.Goals as goal

pub overflow_sub-count : goal.overflow_sub-count
overflow_sub-count c = c.requires.chain_laid.rising c.args.j c.requires.j_lt_n.0

pub put_shape-past-requires : goal.put_shape-past-requires
put_shape-past-requires c = omega (arith, site-room _ _ _ _ _ _ c.requires.chain_laid _ _ c.requires.j_lt_n.0 c.requires.j_lt_n.1)

pub put_cells-last-requires : goal.put_cells-last-requires
put_cells-last-requires c = (site-cells _ _ _ _ _ _ c.requires.chain_laid _ c.requires.j_lt_n.0, omega (arith, c.put_shape-past.ensures.next, c.put_shape-past.auto.out, length-shape c.args.j (get_or c.args.bonds.now c.args.j 0) (get_or c.args.bonds.now (c.args.j + 1) 0), site-room _ _ _ _ _ _ c.requires.chain_laid _ _ c.requires.j_lt_n.0 c.requires.j_lt_n.1))

pub put_behind-requires : goal.put_behind-requires
put_behind-requires c = (c.requires.j_lt_n.0, c.requires.chain_laid.small, c.requires.chain_laid.bonds-hold, omega (arith, c.requires.chain_laid.marks-hold), omega (arith, c.put_shape-past.ensures.next, c.put_shape-past.auto.out, length-shape c.args.j (get_or c.args.bonds.now c.args.j 0) (get_or c.args.bonds.now (c.args.j + 1) 0), c.put_cells-last.ensures.next, c.put_cells-last.auto.out, length-cells c.args.sites.now (get_or c.args.starts.now c.args.j 0) (get_or c.args.starts.now (c.args.j + 1) 0 - get_or c.args.starts.now c.args.j 0), site-room _ _ _ _ _ _ c.requires.chain_laid _ _ c.requires.j_lt_n.0 c.requires.j_lt_n.1))

pub returns : goal.returns
returns c = site-texts _ _ _ _ _ _ c.requires.chain_laid _ _ _ _ _ _ _ _ _ c.requires.j_lt_n.0 c.requires.j_lt_n.1 refl c.put_shape-past.ensures c.put_cells-last.ensures c.put_behind.ensures
