use Rattle.std.proofs.lemmas.Result.{err_from_is_err_and}
use Rattle.tool_run.proofs.CheckLemmas.{WroteGrid, WroteLayer, back_fault, leaves_back, leaves_layer}
use Rattle.tool_run.proofs.PolygonizeLemmas.{after_error}
use Rattle.tool_run.proofs.check.check_runs.Goals as goal

pub returns-in_err-write_layer-clause-part : goal.returns-in_err-write_layer-clause-part
returns-in_err-write_layer-clause-part g c =
    let grid : WroteGrid c.args.job.now (g.F.Folder.state c.args.work.now).files (g.F.Folder.state c.write_grid.new.work).files =
    record { wrote = c.in_ok-count.ensures.ok } in
    after_error _ (leaves_layer c.args.job.now _ _ _ grid c.in_err-write_layer.ensures.part)

pub returns-in_err-write_back-clause-part : goal.returns-in_err-write_back-clause-part
returns-in_err-write_back-clause-part g c =
    let grid : WroteGrid c.args.job.now (g.F.Folder.state c.args.work.now).files (g.F.Folder.state c.write_grid.new.work).files =
    record { wrote = c.in_ok-count.ensures.ok } in
    let layer : WroteLayer c.args.job.now (g.F.Folder.state c.args.work.now).files (g.F.Folder.state c.write_grid.new.work).files (g.F.Folder.state c.write_layer.new.work).files =
    record { grid = grid; wrote = c.in_ok-write_layer.ensures.ok } in
    after_error _ (leaves_back c.args.job.now _ _ _ _ layer c.in_err-write_back.ensures.part)

pub returns-in_err-write_back-clause-kind : goal.returns-in_err-write_back-clause-kind
returns-in_err-write_back-clause-kind g c =
    let grid : WroteGrid c.args.job.now (g.F.Folder.state c.args.work.now).files (g.F.Folder.state c.write_grid.new.work).files =
    record { wrote = c.in_ok-count.ensures.ok } in
    let layer : WroteLayer c.args.job.now (g.F.Folder.state c.args.work.now).files (g.F.Folder.state c.write_grid.new.work).files (g.F.Folder.state c.write_layer.new.work).files =
    record { grid = grid; wrote = c.in_ok-write_layer.ensures.ok } in
    let p = err_from_is_err_and c.from_residual-in_err-write_back.result c.from_residual-in_err-write_back.ensures.1 in
    rw (p.1, p.2) (back_fault c.args.job.now _ _ _ _ layer c.in_err-write_back.ensures.kind)
