use Rattle.std.proofs.Common.{◌≡◌, ◌∙◌, ℤ, to_z, of_z, w64, ap, arith}
use Rattle.std.specs.Prelude.{option_map, unwrap_or}
use Rattle.std.proofs.lemmas.Grind.{common_steps}
use Rattle.wkt_text.specs.declared.geometry.Geometry.{Geometry}
use Rattle.cell_base.specs.Clamped.{clamped}
use Rattle.tool_run.proofs.StrokeLemmas.{adds_one, units_or}
use Rattle.tool_run.proofs.burned_cells.burn_feature.Goals as goal

pub returns : goal.returns
returns g c =
    let cell = g.T.Cell in
    let strokes = c.args.strokes.now in
    let shape : Geometry × ℤ = (c.in-Some.g.now, c.in-Some.value) in
    let value : to_z w64 (of_z w64 c.in-Some.value) ≡ c.in-Some.value = grind (arith, common_steps) in
    let own = units_or cell.units_of strokes.one c.cell_of.result (clamped cell.least cell.greatest c.in-Some.value) (rw value at c.cell_of.ensures) in
    let is_cell : cell.units_of c.unwrap_or-cell.result ≡ unwrap_or (option_map cell.units_of strokes.one) (clamped cell.least cell.greatest c.in-Some.value) = ap cell.units_of c.unwrap_or-cell.ensures ∙ own in
    adds_one cell.units_of cell.least cell.greatest c.args.frame.now c.args.value.now strokes c.args.feature.now shape c.unwrap_or-cell.result c.find.new.self.runs c.args.cells.now c.burn_runs.new.cells (c.in-Some.ensures (clamped cell.least cell.greatest)) is_cell c.in_ok-find.ensures.cells c.burn_runs.ensures
