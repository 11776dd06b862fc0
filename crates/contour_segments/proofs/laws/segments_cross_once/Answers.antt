use Rattle.contour_segments.proofs.CrossingLemmas.{cross_once}
use Rattle.contour_segments.proofs.laws.segments_cross_once.Goals as goal

pub returns : goal.returns
returns c = cross_once
