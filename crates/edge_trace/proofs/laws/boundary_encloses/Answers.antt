use Rattle.edge_trace.proofs.BoundaryLemmas.{region_enclosed, table_encloses}
use Rattle.edge_trace.proofs.laws.boundary_encloses.Goals as goal

pub returns : goal.returns
returns c = record {
  boundary = region_enclosed;
  table = table_encloses;
}
