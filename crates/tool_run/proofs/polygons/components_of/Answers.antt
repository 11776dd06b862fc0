use Rattle.std.proofs.Common.{None, Some, subst, sym}
use Rattle.cell_base.specs.Steps.{eight, four}
use Rattle.region_parts.proofs.OwnLemmas.{over_grid}
use Rattle.tool_run.specs.Inner.Rows.{AreComponents}
use Rattle.tool_run.proofs.LayerLemmas.{own_components, parted_components}
use Rattle.tool_run.proofs.polygons.components_of.Goals as goal

pub returns-then-not-eight : goal.returns-then-not-eight
returns-then-not-eight c =
    let cells = c.args.cells.now in
    let valid = c.args.valid.now in
    let sides = c.args.sides.now in
    subst (λ e. AreComponents e cells valid sides c.in_ok-values.values.items None) (sym c.if-not-eight.true)
    (own_components cells valid sides c.in_ok-values.values.items c.requires c.in_ok-values.ensures.values c.in_ok-values.ensures.few)

pub of-requires : goal.of-requires
of-requires c = over_grid eight four c.args.cells.now c.args.valid.now _ _ c.in_ok-regions.ensures.labelling c.requires

pub returns : goal.returns
returns c =
    let cells = c.args.cells.now in
    let valid = c.args.valid.now in
    let sides = c.args.sides.now in
    subst (λ e. AreComponents e cells valid sides c.in_ok-values-2.values.items (Some c.in_ok-parts.parts)) (sym c.if-not-eight.false)
    (parted_components cells valid sides c.in_ok-regions.regions c.in_ok-values-2.values.items c.in_ok-parts.parts c.in_ok-regions.ensures.labelling c.in_ok-values-2.ensures.values c.in_ok-values-2.ensures.few c.in_ok-parts.ensures)
