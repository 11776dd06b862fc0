use Rattle.tool_run.proofs.PolygonizeLemmas.{WasTraced, after_error, can_be_done, done, leaves_part}
use Rattle.tool_run.proofs.polygons.polygonize.Goals as goal

pub returns-in_err-write_layer-clause-write_done : goal.returns-in_err-write_layer-clause-write_done
returns-in_err-write_layer-clause-write_done g c =
    let read = rw c.as_str.ensures at c.in_ok-asc.ensures.source tt in
    let was : WasTraced c.args.job.now (g.F.Folder.state c.args.folder.now).files c.in_ok-asc.asc c.in_ok-layer.layer =
    record { read = read; frame = c.in_ok-layer.ensures.frame; traced = c.in_ok-layer.ensures.traced } in
    λ _. can_be_done _ _ _ _ was

pub returns-clause-outcome : goal.returns-clause-outcome
returns-clause-outcome g c =
    let read = rw c.as_str.ensures at c.in_ok-asc.ensures.source tt in
    let was : WasTraced c.args.job.now (g.F.Folder.state c.args.folder.now).files c.in_ok-asc.asc c.in_ok-layer.layer =
    record { read = read; frame = c.in_ok-layer.ensures.frame; traced = c.in_ok-layer.ensures.traced } in
    let written = rw (c.as_str-2.ensures, c.as_str-3.ensures, c.in_ok-asc.ensures.leaves.files) at c.in_ok-write_layer.ensures.ok in
    λ _. done _ _ _ _ _ was written

pub returns-in_err-write_layer-clause-part : goal.returns-in_err-write_layer-clause-part
returns-in_err-write_layer-clause-part g c =
    let read = rw c.as_str.ensures at c.in_ok-asc.ensures.source tt in
    let was : WasTraced c.args.job.now (g.F.Folder.state c.args.folder.now).files c.in_ok-asc.asc c.in_ok-layer.layer =
    record { read = read; frame = c.in_ok-layer.ensures.frame; traced = c.in_ok-layer.ensures.traced } in
    let written = rw (c.as_str-2.ensures, c.as_str-3.ensures, c.in_ok-asc.ensures.leaves.files) at c.in_err-write_layer.ensures.part in
    after_error _ (leaves_part _ _ _ _ _ was written)
