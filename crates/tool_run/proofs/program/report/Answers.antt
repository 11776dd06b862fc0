use Rattle.tool_run.proofs.MessageLemmas.{says_nothing}
use Rattle.tool_run.proofs.program.report.Goals as goal

pub returns-in-Ok-clause-line : goal.returns-in-Ok-clause-line
returns-in-Ok-clause-line g c = rw c.in-Ok.is (says_nothing _)
