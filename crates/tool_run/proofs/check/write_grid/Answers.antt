use Rattle.tool_run.proofs.PolygonizeLemmas.{after_error}
use Rattle.tool_run.proofs.check.write_grid.Goals as goal

pub returns-in_err-write_dest-clause-part : goal.returns-in_err-write_dest-clause-part
returns-in_err-write_dest-clause-part g c = after_error _ (rw c.in_ok-asc.ensures at c.in_err-write_dest.ensures.part)
