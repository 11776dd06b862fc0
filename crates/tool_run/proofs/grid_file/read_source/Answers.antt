use Rattle.std.proofs.Common.{arith}
use Rattle.tool_run.proofs.SourceLemmas.{source_read, source_refused}
use Rattle.tool_run.proofs.grid_file.read_source.Goals as goal

pub returns-in_err-asc-clause-source : goal.returns-in_err-asc-clause-source
returns-in_err-asc-clause-source g c =
    let refused = rw c.deref.ensures.value at (c.in_err-asc.ensures {u = tt}).refused in
    let source = source_refused g.T.Cell.read_of _ c.args.name.now c.in_ok-text.text.items c.in_err-asc.field-0.0 (c.in_ok-text.ensures {u = tt}).bytes refused in
    grind (arith, source)

pub returns-clause-source : goal.returns-clause-source
returns-clause-source g c = λ _.
    let grid = rw c.deref.ensures.value at (c.in_ok-asc.ensures {u = tt}).grid in
    source_read g.T.Cell.read_of _ c.args.name.now c.in_ok-text.text.items c.in_ok-asc.asc (c.in_ok-text.ensures {u = tt}).bytes grid
