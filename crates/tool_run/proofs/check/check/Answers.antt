use Rattle.std.proofs.Common.{◌≡◌, ◌∙◌, ◌*◌, Ok, Err, refl, ap}
use Rattle.std.proofs.lemmas.Result.{err_from_is_err_and}
use Rattle.rv_outside.specs.SureFolder.{sure_files}
use Rattle.tool_run.proofs.CheckEndLemmas.{check_said}
use Rattle.tool_run.proofs.check.check.Goals as goal

pub returns-in_err-say_lines : goal.returns-in_err-say_lines
returns-in_err-say_lines g c =
    let job = c.args.job.now in
    let ran = c.in_ok-polygons.ensures in
    let cells : c.from.result * c.from-2.result ≡ job.width * job.height = rw (c.from.ensures, c.from-2.ensures) refl in
    let p = err_from_is_err_and c.from_residual-in_err-say_lines.result c.from_residual-in_err-say_lines.ensures.1 in
    check_said job _ _ _ c.in_ok-polygons.polygons (sure_files c.new-work.result) (sure_files c.check_runs.new.work) (Err c.in_err-say_lines.field-0.0) _ _ _
    ran.few cells c.from-3.ensures c.length_of-bytes.ensures ran.files ran.count (c.in_err-say_lines.ensures {u = tt}) (p.1 ∙ ap Err p.2)

pub returns : goal.returns
returns g c =
    let job = c.args.job.now in
    let ran = c.in_ok-polygons.ensures in
    let cells : c.from.result * c.from-2.result ≡ job.width * job.height = rw (c.from.ensures, c.from-2.ensures) refl in
    check_said job _ _ _ c.in_ok-polygons.polygons (sure_files c.new-work.result) (sure_files c.check_runs.new.work) (Ok tt) _ _ _
    ran.few cells c.from-3.ensures c.length_of-bytes.ensures ran.files ran.count (c.in_ok-say_lines.ensures {u = tt}) refl
