use Rattle.tool_outcome.proofs.LayerExistsLemmas.{layer_exists}
use Rattle.tool_outcome.proofs.laws.each_grid_has_a_layer.Goals as goal

pub returns : goal.returns
returns c = layer_exists
