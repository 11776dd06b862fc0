use Rattle.ring_faces.proofs.FitLemmas.{edge_polygon, fits_grid}
use Rattle.ring_faces.proofs.laws.canonical_polygons_fit.Goals as goal

pub returns : goal.returns
returns c = record { edges = edge_polygon; fits = fits_grid }
