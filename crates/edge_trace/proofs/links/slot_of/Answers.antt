use Rattle.edge_trace.proofs.SlotLemmas.{masked}
use Rattle.edge_trace.proofs.links.slot_of.Goals as goal

pub returns : goal.returns
returns c = masked _ c.args.number c.requires.0 c.requires.1
