use Rattle.tool_run.proofs.CheckLemmas.{back_err, back_kind, back_ok}
use Rattle.tool_run.proofs.check.write_back.Goals as goal

pub returns-clause-ok : goal.returns-clause-ok
returns-clause-ok g c = back_ok c.args.job.now c.in_ok-burn.burn _ _ c.rasterize.result c.requires.fits c.requires.few c.in_ok-burn.ensures c.rasterize.ensures.outcome

pub returns-clause-part : goal.returns-clause-part
returns-clause-part g c = back_err c.args.job.now c.in_ok-burn.burn _ _ c.rasterize.result c.requires.fits c.requires.few c.in_ok-burn.ensures c.rasterize.ensures.part

pub returns-clause-kind : goal.returns-clause-kind
returns-clause-kind g c =
    back_kind c.args.job.now c.in_ok-burn.burn _ _ c.rasterize.result c.requires.fits c.requires.few c.in_ok-burn.ensures c.rasterize.ensures.kind c.rasterize.ensures.outcome
