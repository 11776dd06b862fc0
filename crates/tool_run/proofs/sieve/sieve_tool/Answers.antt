use Rattle.tool_run.proofs.SieveLemmas.{WasSieved, can_be_done, done}
use Rattle.tool_run.proofs.sieve.sieve_tool.Goals as goal

pub returns-in_err-write_dest-clause-write_done : goal.returns-in_err-write_dest-clause-write_done
returns-in_err-write_dest-clause-write_done g c =
    let read = rw c.as_str.ensures at c.in_ok-asc.ensures.source tt in
    let sieved = c.in_ok-sieve_cells.ensures in
    let was : WasSieved c.args.job.now (g.F.Folder.state c.args.folder.now).files c.in_ok-asc.asc c.sieve_cells.new.asc = record { read = read; cells = sieved.sieved; rest = sieved.rest } in
    λ _. can_be_done _ _ _ _ was

pub returns-clause-outcome : goal.returns-clause-outcome
returns-clause-outcome g c =
    let read = rw c.as_str.ensures at c.in_ok-asc.ensures.source tt in
    let sieved = c.in_ok-sieve_cells.ensures in
    let was : WasSieved c.args.job.now (g.F.Folder.state c.args.folder.now).files c.in_ok-asc.asc c.sieve_cells.new.asc = record { read = read; cells = sieved.sieved; rest = sieved.rest } in
    let written = rw (c.as_str-2.ensures, c.in_ok-asc.ensures.leaves.files) at c.in_ok-write_dest.ensures.ok in
    λ _. done _ _ _ _ _ was written
