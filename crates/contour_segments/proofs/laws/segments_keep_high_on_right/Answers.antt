use Rattle.contour_segments.proofs.TableLemmas.{keeps_right}
use Rattle.contour_segments.proofs.laws.segments_keep_high_on_right.Goals as goal

pub returns : goal.returns
returns c = keeps_right
