use Rattle.std.proofs.Common.{not}
use Rattle.std.specs.Prelude.{nat_eq}
use denote.Param.{value_of, number}
use Rattle.region_label.specs.Inner.Blocks.{AreBeside}
use Rattle.region_label.proofs.FillLemmas.{IsUnderWay}
use Rattle.region_label.proofs.lists.RunLists.fill_from.Given as goal

-- so many runs of the list have been looked at
abbrev pub invariant-loop : goal.invariant-loop
invariant-loop g l = IsUnderWay (AreBeside (not (nat_eq (value_of (number g.row.EIGHT)) 0)) l.rows) l.start l.number l.fn.self l.self l.last l.at l.counter
