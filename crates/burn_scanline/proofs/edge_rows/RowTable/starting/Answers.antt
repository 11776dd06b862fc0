use Rattle.std.proofs.Common.{List, sym, subst}
use Rattle.burn_scanline.specs.Inner.Linking.{IsWalkOf}
use Rattle.burn_scanline.specs.declared.edge_rows.LinkedEdge.{LinkedEdge}
use Rattle.burn_scanline.proofs.edge_rows.RowTable.starting.Goals as goal

pub invariant_of-result : goal.invariant_of-result
invariant_of-result c = subst (λ (items : List LinkedEdge). IsWalkOf items c.head.result) (sym c.deref.ensures.value) (record { linked = c.requires.links; within = c.head.ensures.below })
