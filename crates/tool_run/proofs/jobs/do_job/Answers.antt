use Rattle.tool_words.specs.declared.job.Job.TheVariants.{Sieve, Polygonize, Rasterize, Contour}
use Rattle.tool_run.proofs.CheckEndLemmas.{check_for}
use Rattle.tool_run.proofs.JobLemmas.{part_for, quiet_for}
use Rattle.tool_run.proofs.jobs.do_job.Goals as goal

pub returns-in-Sieve-clause-outcome : goal.returns-in-Sieve-clause-outcome
returns-in-Sieve-clause-outcome g c = quiet_for c.args.job.now (Sieve c.in-Sieve.job) _ c.sieve_tool.result _ _ c.in-Sieve.is tt c.sieve_tool.ensures.outcome

pub returns-in-Polygonize-clause-outcome : goal.returns-in-Polygonize-clause-outcome
returns-in-Polygonize-clause-outcome g c = quiet_for c.args.job.now (Polygonize c.in-Polygonize.job) _ c.polygonize.result _ _ c.in-Polygonize.is tt c.polygonize.ensures.outcome

pub returns-in-Rasterize-clause-outcome : goal.returns-in-Rasterize-clause-outcome
returns-in-Rasterize-clause-outcome g c = quiet_for c.args.job.now (Rasterize c.in-Rasterize.job) _ c.rasterize.result _ _ c.in-Rasterize.is tt c.rasterize.ensures.outcome

pub returns-in-Contour-clause-outcome : goal.returns-in-Contour-clause-outcome
returns-in-Contour-clause-outcome g c = quiet_for c.args.job.now (Contour c.in-Contour.job) _ c.contour.result _ _ c.in-Contour.is tt c.contour.ensures.outcome

pub returns-in-Rasterize-clause-part : goal.returns-in-Rasterize-clause-part
returns-in-Rasterize-clause-part g c = part_for c.args.job.now (Rasterize c.in-Rasterize.job) _ c.rasterize.result _ c.in-Rasterize.is c.rasterize.ensures.part

pub returns-in-Check-clause-outcome : goal.returns-in-Check-clause-outcome
returns-in-Check-clause-outcome g c = check_for c.args.job.now c.in-Check.job _ c.check.result _ _ c.in-Check.is c.check.ensures
