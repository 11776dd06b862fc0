use Rattle.std.proofs.Common.{arith}
use Rattle.burn_scanline.proofs.crossing.ActiveEdge.column.Goals as goal

pub returns-in-Some : goal.returns-in-Some
returns-in-Some c = c.requires.active.upright c.in-Some.column c.args.row c.in-Some.is (omega arith) c.requires.active.current
