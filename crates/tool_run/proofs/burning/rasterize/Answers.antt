use Rattle.tool_run.proofs.BurnLemmas.{WasBurned, can_be_done, done, leaves_part}
use Rattle.tool_run.proofs.PolygonizeLemmas.{after_error}
use Rattle.tool_run.proofs.burning.rasterize.Goals as goal

pub returns-in_err-write_burned-clause-write_done : goal.returns-in_err-write_burned-clause-write_done
returns-in_err-write_burned-clause-write_done g c =
    let read = rw (c.as_str.ensures, c.field_of.ensures) at c.in_ok-features.ensures.source tt in
    let over = rw c.deref.ensures.value at c.in_ok-frame.ensures.answer in
    let was : WasBurned c.args.job.now (g.F.Folder.state c.args.folder.now).files c.in_ok-features.features.items c.in_ok-frame.frame =
    record { read = read; over = over } in
    λ _. can_be_done _ _ _ _ was

pub returns-clause-outcome : goal.returns-clause-outcome
returns-clause-outcome g c =
    let read = rw (c.as_str.ensures, c.field_of.ensures) at c.in_ok-features.ensures.source tt in
    let over = rw c.deref.ensures.value at c.in_ok-frame.ensures.answer in
    let was : WasBurned c.args.job.now (g.F.Folder.state c.args.folder.now).files c.in_ok-features.features.items c.in_ok-frame.frame =
    record { read = read; over = over } in
    let written = rw (c.deref-2.ensures.value, c.in_ok-features.ensures.leaves.files) at c.in_ok-write_burned.ensures.ok in
    λ _. done _ _ _ _ _ was written

pub returns-in_err-write_burned-clause-part : goal.returns-in_err-write_burned-clause-part
returns-in_err-write_burned-clause-part g c =
    let read = rw (c.as_str.ensures, c.field_of.ensures) at c.in_ok-features.ensures.source tt in
    let over = rw c.deref.ensures.value at c.in_ok-frame.ensures.answer in
    let was : WasBurned c.args.job.now (g.F.Folder.state c.args.folder.now).files c.in_ok-features.features.items c.in_ok-frame.frame =
    record { read = read; over = over } in
    let written = rw (c.deref-2.ensures.value, c.in_ok-features.ensures.leaves.files) at c.in_err-write_burned.ensures.part in
    after_error _ (leaves_part _ _ _ _ _ was written)
