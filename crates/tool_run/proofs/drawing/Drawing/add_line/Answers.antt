use Rattle.std.proofs.Common.{◌≡◌, ◌∙◌, Some, arith, sym}
use Rattle.std.specs.Prelude.{slice_get}
use Rattle.std.proofs.lemmas.Grind.{common_steps}
use Rattle.std.proofs.lemmas.Option.{gets}
use Rattle.tool_run.proofs.DrawingLemmas.{line_at, writable}
use Rattle.tool_run.proofs.drawing.Drawing.add_line.Goals as goal

pub print_line-requires-clause-line : goal.print_line-requires-clause-line
print_line-requires-clause-line c =
    let at : slice_get c.args.at.now.lines c.args.at.now.next ≡ Some c.index-as_slice-at.result = grind (arith, common_steps, gets) in
    line_at c.args.self.now c.args.at.now _ c.requires.at at

pub add_row-requires : goal.add_row-requires
add_row-requires c = writable _ c.in-Some.shape (sym c.in-Some.is ∙ c.in_ok-shape.ensures)
