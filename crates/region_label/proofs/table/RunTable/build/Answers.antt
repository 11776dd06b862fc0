use Rattle.region_label.proofs.UnitsLemmas.{table_of_units}
use Rattle.region_label.proofs.table.RunTable.build.Goals as goal

pub returns-clause-runs : goal.returns-clause-runs
returns-clause-runs g c = table_of_units g.T.Cell.units_of c.args.cells.now c.args.valid.now c.in_ok-rows.rows c.in_ok-lists.lists g.met.T.Cell.same_units c.in_ok-rows.ensures
