use Rattle.region_label.specs.Inner.Sizes.{AreCounted}
use Rattle.region_label.proofs.labelling.sizes_of.Given as goal

-- the cells of the runs before this one are counted
abbrev pub invariant-loop-i : goal.invariant-loop-i
invariant-loop-i l = record { counted : AreCounted l.table l.i l.sizes.items }
