use Rattle.std.proofs.Common.{arith}
use Rattle.region_label.specs.RunTable.{regions_of, units_grid}
use Rattle.region_label.proofs.SizesLemmas.{size_small}
use Rattle.region_label.proofs.UnitsLemmas.{filled_of_units}
use Rattle.region_label.proofs.labelling.label.Goals as goal

pub sizes_of-requires-clause-small : goal.sizes_of-requires-clause-small
sizes_of-requires-clause-small g c = λ k size at.
    let cells = units_grid g.T.Cell.units_of c.args.cells.now in
    let is = (c.fill.ensures.filled cells c.args.valid.now c.in_ok-table.ensures.runs).labelling in
    omega (arith, size_small _ cells c.args.valid.now (regions_of c.fill.new.self) k size is at, is.mask.first.small)

pub returns-clause-labelling : goal.returns-clause-labelling
returns-clause-labelling g c =
    let cells = units_grid g.T.Cell.units_of c.args.cells.now in
    rw c.of.ensures (filled_of_units g.T.Cell.units_of _ c.args.cells.now c.args.valid.now c.fill.new.self g.met.T.Cell.same_units (c.fill.ensures.filled cells c.args.valid.now c.in_ok-table.ensures.runs)).labelling

pub returns-clause-table : goal.returns-clause-table
returns-clause-table g c = λ table same runs.
    let labelled = returns-clause-labelling g c in
    record {
      labelling = rw same at labelled;
      runs = rw same at runs;
    }
