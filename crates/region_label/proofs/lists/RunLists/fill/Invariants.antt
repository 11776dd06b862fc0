use Rattle.std.proofs.Common.{length, not}
use Rattle.std.specs.Prelude.{nat_eq}
use denote.Param.{value_of, number}
use Rattle.region_label.specs.Inner.Blocks.{AreBeside}
use Rattle.region_label.specs.Inner.Lists.{AreFilled}
use Rattle.region_label.proofs.lists.RunLists.fill.Given as goal

abbrev pub invariant-loop-block : goal.invariant-loop-block
invariant-loop-block g l = AreFilled (AreBeside (not (nat_eq (value_of (number g.row.EIGHT)) 0)) l.rows) (length l.rows.runs.items) l.self l.block
