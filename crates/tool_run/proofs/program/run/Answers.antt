use Rattle.std.proofs.Common.{◌∙◌, sym, subst}
use Rattle.tool_words.proofs.FitLemmas.{job_fits}
use Rattle.tool_outcome.specs.Message.{IsLine}
use Rattle.tool_outcome.specs.Status.{status_of}
use Rattle.tool_run.proofs.IntervalLemmas.{has_interval}
use Rattle.tool_run.proofs.RunLemmas.{leaves_part, line_by, line_is, meets, not_done, refuses, round_trip}
use Rattle.tool_run.proofs.program.run.Goals as goal

pub do_job-answer-requires : goal.do_job-answer-requires
do_job-answer-requires g c = record {
  interval = has_interval c.args.words.now c.in-Ok.job c.in-Ok.ensures;
  fits = job_fits c.args.words.now c.in-Ok.job c.in-Ok.ensures;
}

pub returns-clause-outcome : goal.returns-clause-outcome
returns-clause-outcome g c =
    let job = c.in-Ok.job in
    let answer = c.do_job-answer.result in
    let does = c.do_job-answer.ensures.outcome in
    let is = subst (λ j. IsLine j (status_of answer) (line_by job answer)) (sym c.in-Ok.ensures) (line_is job answer) in (
      line_by job answer,
      does.0,
      rw c.report.ensures.status is,
      rw (c.source_name.ensures, c.dest_name.ensures) at c.report.ensures.line,
      rw (c.report.ensures.status, c.in-Ok.ensures) does.1,
      rw c.report.ensures.status does.2,
      λ decided.
          rw c.report.ensures.status (meets _ c.args.words.now job answer does.0 _ c.in-Ok.ensures (does.3 (rw c.report.ensures.status at decided))),
    )

pub returns-clause-part : goal.returns-clause-part
returns-clause-part g c = λ not_done.
    leaves_part _ _ c.args.words.now c.in-Ok.job c.do_job-answer.result c.in-Ok.ensures (λ done. not_done (c.report.ensures.status ∙ done)) c.do_job-answer.ensures.part

pub returns-in-Err-clause-outcome : goal.returns-in-Err-clause-outcome
returns-in-Err-clause-outcome g c = refuses _ c.args.words.now c.in-Err.fault c.refuse.result _ _ _ (c.in-Err.ensures {u = tt}) c.refuse.ensures.status c.refuse.ensures.line

pub returns-clause-round_trip : goal.returns-clause-round_trip
returns-clause-round_trip g c =
    let words = c.args.words.now in
    let job = c.in-Ok.job in
    let answer = c.do_job-answer.result in
    let does = c.do_job-answer.ensures.outcome in
    λ done. round_trip (g.F.Folder.state c.args.folder.now).files _ words (status_of answer) (line_by job answer) does.0
    (λ decided. meets (g.F.Folder.state c.args.folder.now).files words job answer does.0 _ c.in-Ok.ensures (does.3 decided))
    (sym c.report.ensures.status ∙ done)

pub returns-in-Err-clause-round_trip : goal.returns-in-Err-clause-round_trip
returns-in-Err-clause-round_trip g c = λ done. absurd (not_done c.in-Err.fault (sym c.refuse.ensures.status ∙ done))
