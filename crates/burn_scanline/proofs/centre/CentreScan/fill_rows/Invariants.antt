use Rattle.std.proofs.Common.{◌≡◌}
use Rattle.burn_scanline.specs.Inner.Linking.{edges_in}
use Rattle.burn_scanline.specs.Inner.Scan.{AreCovered, AreTaken}
use Rattle.burn_scanline.proofs.centre.CentreScan.fill_rows.Given as goal

-- the rows before this one are filled
abbrev pub invariant-loop-row : goal.invariant-loop-row
invariant-loop-row l = record {
  table : l.self.table ≡ l.fn.self.table;
  taken : AreTaken l.frame l.row l.row (edges_in l.fn.self.table.edges.items) l.self.active.items;
  covered : AreCovered l.frame l.g l.row l.runs;
}
