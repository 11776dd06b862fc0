use Rattle.std.proofs.Common.{◌+◌, ◌*◌, arith}
use Rattle.edge_trace.proofs.CellLemmas.{cell_pushed}
use Rattle.edge_trace.proofs.GrowLemmas.{narrow_of}
use Rattle.edge_trace.proofs.sides.Finding.put_cell.Goals as goal

pub returns-clause-after : goal.returns-clause-after
returns-clause-after c = cell_pushed c.args.regions.now c.args.stride c.args.k c.args.run.row c.args.col (((c.args.run.row + 1) * c.args.stride + (c.args.col + 1)) * 4) c.args.bounds _ _ _ _ _ (narrow_of c.args.regions.now c.args.stride c.requires.shape c.requires.stride) c.requires.bounds (omega arith) c.requires.before c.put.ensures.adds c.put-2.ensures.adds c.put-3.ensures.adds c.put-4.ensures.adds
