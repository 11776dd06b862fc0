use Rattle.tool_outcome.proofs.PolygonizeLemmas.{one_layer}
use Rattle.tool_outcome.proofs.laws.polygonize_text_is_one.Goals as goal

pub returns : goal.returns
returns c = one_layer
