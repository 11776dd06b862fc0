use Rattle.round_trip.proofs.BurnedLemmas.{component_covered}
use Rattle.round_trip.proofs.laws.written_polygon_covers_its_cells.Goals as goal

pub returns : goal.returns
returns c = component_covered
