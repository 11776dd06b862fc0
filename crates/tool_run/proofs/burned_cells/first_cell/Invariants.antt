use Rattle.std.proofs.Common.{◌≡◌, [], take}
use Rattle.cell_base.specs.Clamped.{clamped}
use Rattle.tool_outcome.specs.Features.{burned_features}
use Rattle.tool_run.proofs.burned_cells.first_cell.Given as goal

-- all features so far are skipped
abbrev pub invariant-features : goal.invariant-features
invariant-features g l = record {
  skipped : burned_features (clamped g.T.Cell.least g.T.Cell.greatest) l.value (take l.feature-index l.features) ≡ [];
}
