use Rattle.wkt_text.proofs.GeometryLemmas.{geometry_of-wkt}
use Rattle.wkt_text.proofs.laws.reads_what_is_written.Goals as goal

pub returns : goal.returns
returns c = geometry_of-wkt
