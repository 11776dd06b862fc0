use Rattle.region_label.specs.Inner.Blocks.{HasPlaced}
use Rattle.region_label.proofs.rows.RowRuns.find_blocks.Given as goal

-- the runs before this one are in blocks
abbrev pub invariant-loop-run : goal.invariant-loop-run
invariant-loop-run l = HasPlaced l.self l.blocks l.run
