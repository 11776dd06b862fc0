use Rattle.contour_segments.proofs.CrossingLemmas.{in_order}
use Rattle.contour_segments.proofs.laws.segments_stand_in_order.Goals as goal

pub returns : goal.returns
returns c = in_order
