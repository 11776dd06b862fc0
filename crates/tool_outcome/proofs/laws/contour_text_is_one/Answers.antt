use Rattle.tool_outcome.proofs.ContourLemmas.{one_contour_text}
use Rattle.tool_outcome.proofs.laws.contour_text_is_one.Goals as goal

pub returns : goal.returns
returns c = one_contour_text
