use Rattle.std.proofs.Common.{◌≡◌, ◌∙◌, Some, ap, arith, subst}
use Rattle.std.specs.Prelude.{slice_get}
use Rattle.std.proofs.lemmas.Grind.{common_steps}
use Rattle.std.proofs.lemmas.Option.{gets}
use Rattle.contour_segments.specs.Segments.{segments_of}
use Rattle.contour_chain.specs.Contours.{AreContours}
use Rattle.ogr_csv.specs.Rows.{text_of_rows}
use Rattle.tool_outcome.specs.Contour.{rows_from}
use Rattle.tool_run.proofs.DrawingLemmas.{few_cells, few_lines, is_contours, left_begun}
use Rattle.tool_run.proofs.drawing.Drawing.begin_level.Goals as goal

pub returns-clause-at : goal.returns-clause-at
returns-clause-at c =
    let drawing = c.args.self.now in
    let cells = drawing.asc.now.cells in
    let valid = drawing.table.valid in
    let level = c.index-as_slice-at.result in
    let lines = c.in_ok-lines.lines in
    let are : AreContours (segments_of cells valid level) lines = subst (λ segments. AreContours segments lines) (c.in_ok-segments.ensures ∙ ap (λ r. segments_of r valid level) c.requires.drawing.cells) c.in_ok-lines.ensures in
    let few = few_lines cells valid level lines (few_cells drawing.asc.now c.requires.drawing.over) are in
    record {
      next = omega arith;
      begun = omega (arith, c.requires.more);
      none = λ zero. absurd (omega (arith, zero));
      lines = λ _. is_contours cells valid level lines are;
      counted = omega (arith, c.requires.at.counted, few);
    }

pub returns-clause-rows : goal.returns-clause-rows
returns-clause-rows c =
    let drawing = c.args.self.now in
    let at = c.args.at.now in
    let cells = drawing.asc.now.cells in
    let valid = drawing.table.valid in
    let level = c.index-as_slice-at.result in
    let lines = c.in_ok-lines.lines in
    let are : AreContours (segments_of cells valid level) lines = subst (λ segments. AreContours segments lines) (c.in_ok-segments.ensures ∙ ap (λ r. segments_of r valid level) c.requires.drawing.cells) c.in_ok-lines.ensures in
    let stands : slice_get drawing.levels.now at.begun ≡ Some level = grind (arith, common_steps, gets) in
    let left = left_begun drawing.asc.now valid drawing.levels.now at.level level at.lines lines at.next at.begun c.requires.done stands (is_contours cells valid level lines are) in
    ap (λ drawn. text_of_rows (rows_from drawing.job.now.field at.written drawn)) left
