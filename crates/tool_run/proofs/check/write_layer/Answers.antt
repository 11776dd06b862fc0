use Rattle.tool_run.proofs.CheckLemmas.{layer_err, layer_kind, layer_ok}
use Rattle.tool_run.proofs.check.write_layer.Goals as goal

pub returns-clause-ok : goal.returns-clause-ok
returns-clause-ok g c = layer_ok c.args.job.now c.in_ok-layer.layer _ _ c.polygonize.result c.requires.fits c.requires.few c.in_ok-layer.ensures c.polygonize.ensures.outcome

pub returns-clause-part : goal.returns-clause-part
returns-clause-part g c = layer_err c.args.job.now c.in_ok-layer.layer _ _ c.polygonize.result c.requires.fits c.requires.few c.in_ok-layer.ensures c.polygonize.ensures.part

pub returns-clause-kind : goal.returns-clause-kind
returns-clause-kind g c =
    layer_kind c.args.job.now c.in_ok-layer.layer _ _ c.polygonize.result c.requires.fits c.requires.few c.in_ok-layer.ensures c.polygonize.ensures.kind c.polygonize.ensures.outcome
