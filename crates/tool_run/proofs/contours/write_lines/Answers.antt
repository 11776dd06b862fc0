use Rattle.std.proofs.Common.{◌≡◌, ◌∙◌, OnErr, OnOk, ap, subst}
use Rattle.rv_outside.specs.Files.{Becomes, with_file}
use Rattle.tool_run.specs.Inner.Contours.{contour_text, text_left}
use Rattle.tool_run.specs.Inner.Steps.{IsPartWritten}
use Rattle.tool_run.proofs.contours.write_lines.Goals as goal

pub returns-clause-ok : goal.returns-clause-ok
returns-clause-ok g c =
    let job = c.args.job.now in
    let text = c.of-text.result in
    let old = (g.F.Folder.state c.args.folder.now).files in
    let new = (g.F.Folder.state c.write_text.new.folder).files in
    let all : text_left text.drawing.now text.has_header text.at ≡ contour_text job c.args.asc.now c.args.valid.now c.args.levels.now =
    c.of-text.ensures ∙ ap (λ table. contour_text job c.args.asc.now table.valid c.args.levels.now) c.in_ok-table.ensures in
    let written = rw c.as_str.ensures at c.write_text.ensures.ok in
    subst (λ t. OnOk c.write_text.result (Becomes old new (with_file job.dest t))) all written

pub returns-clause-part : goal.returns-clause-part
returns-clause-part g c =
    let job = c.args.job.now in
    let text = c.of-text.result in
    let old = (g.F.Folder.state c.args.folder.now).files in
    let new = (g.F.Folder.state c.write_text.new.folder).files in
    let all : text_left text.drawing.now text.has_header text.at ≡ contour_text job c.args.asc.now c.args.valid.now c.args.levels.now =
    c.of-text.ensures ∙ ap (λ table. contour_text job c.args.asc.now table.valid c.args.levels.now) c.in_ok-table.ensures in
    let written = rw c.as_str.ensures at c.write_text.ensures.part in
    subst (λ t. OnErr c.write_text.result (IsPartWritten old new job.dest t)) all written
