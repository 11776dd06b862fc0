use Rattle.tool_run.proofs.ContourLemmas.{WasRead, can_be_done, done, leaves_part}
use Rattle.tool_run.proofs.PolygonizeLemmas.{after_error}
use Rattle.tool_run.proofs.contours.contour.Goals as goal

pub write_lines-requires-clause-aligned : goal.write_lines-requires-clause-aligned
write_lines-requires-clause-aligned g c = c.in_ok-valid.ensures.0

pub returns-in_err-write_lines-clause-part : goal.returns-in_err-write_lines-clause-part
returns-in_err-write_lines-clause-part g c =
    let read = rw c.as_str.ensures at c.in_ok-asc.ensures.source tt in
    let was : WasRead c.args.job.now (g.F.Folder.state c.args.folder.now).files c.in_ok-asc.asc c.in_ok-levels.levels c.in_ok-valid.valid =
    record { read = read; asked = c.in_ok-levels.ensures.levels; few = c.in_ok-levels.ensures.few; mask = c.in_ok-valid.ensures } in
    let written = rw c.in_ok-asc.ensures.leaves.files at c.in_err-write_lines.ensures.part in
    after_error _ (leaves_part _ _ _ _ _ _ was written)

pub returns-in_err-write_lines-clause-write_done : goal.returns-in_err-write_lines-clause-write_done
returns-in_err-write_lines-clause-write_done g c =
    let read = rw c.as_str.ensures at c.in_ok-asc.ensures.source tt in
    let was : WasRead c.args.job.now (g.F.Folder.state c.args.folder.now).files c.in_ok-asc.asc c.in_ok-levels.levels c.in_ok-valid.valid =
    record { read = read; asked = c.in_ok-levels.ensures.levels; few = c.in_ok-levels.ensures.few; mask = c.in_ok-valid.ensures } in
    λ _. can_be_done _ _ _ _ _ was

pub returns-clause-outcome : goal.returns-clause-outcome
returns-clause-outcome g c =
    let read = rw c.as_str.ensures at c.in_ok-asc.ensures.source tt in
    let was : WasRead c.args.job.now (g.F.Folder.state c.args.folder.now).files c.in_ok-asc.asc c.in_ok-levels.levels c.in_ok-valid.valid =
    record { read = read; asked = c.in_ok-levels.ensures.levels; few = c.in_ok-levels.ensures.few; mask = c.in_ok-valid.ensures } in
    let written = rw c.in_ok-asc.ensures.leaves.files at c.in_ok-write_lines.ensures.ok in
    λ _. done _ _ _ _ _ _ was written
