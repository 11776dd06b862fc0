use Rattle.contour_segments.proofs.TableLemmas.{crosses_each}
use Rattle.contour_segments.proofs.laws.each_crossed_side_has_its_segment.Goals as goal

pub returns : goal.returns
returns c = crosses_each
