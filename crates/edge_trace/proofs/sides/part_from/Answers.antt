use Rattle.std.proofs.Common.{refl, arith, Some}
use Rattle.cell_base.proofs.PlaceLemmas.{inside_from_value}
use Rattle.region_label.proofs.RowsLemmas.{few_columns}
use Rattle.edge_trace.proofs.StretchLemmas.{above_tells, below_tells}
use Rattle.edge_trace.proofs.sides.part_from.Goals as goal

pub stretch_from-above-requires-clause-col : goal.stretch_from-above-requires-clause-col
stretch_from-above-requires-clause-col c =
    let numbers = c.args.regions.now.numbers in
    let within = inside_from_value numbers (c.args.run.row, c.args.col) (Some c.args.k) c.requires.shape (c.requires.run.cells (c.args.run.row, c.args.col) (refl, c.requires.from, c.requires.to)) in
    omega (arith, within.1, few_columns numbers c.requires.shape)

pub stretch_from-below-requires-clause-col : goal.stretch_from-below-requires-clause-col
stretch_from-below-requires-clause-col c =
    let numbers = c.args.regions.now.numbers in
    let within = inside_from_value numbers (c.args.run.row, c.args.col) (Some c.args.k) c.requires.shape (c.requires.run.cells (c.args.run.row, c.args.col) (refl, c.requires.from, c.requires.to)) in
    omega (arith, within.1, few_columns numbers c.requires.shape)

pub returns-clause-part : goal.returns-clause-part
returns-clause-part c = record {
  more = omega (arith, c.min.ensures, c.min-2.ensures, c.requires.to, c.stretch_from-above.ensures.stretch.more, c.stretch_from-below.ensures.stretch.more);
  within = omega (arith, c.min.ensures, c.min-2.ensures);
  above = above_tells c.args.regions.now c.args.table.now c.args.k c.args.run c.args.col c.min-2.result c.args.around.now c.stretch_from-above.result c.requires.lent c.requires.shape c.requires.run c.requires.from (omega (arith, c.min.ensures, c.min-2.ensures)) (omega (arith, c.min.ensures, c.min-2.ensures)) c.requires.around c.stretch_from-above.ensures.stretch;
  below = below_tells c.args.regions.now c.args.table.now c.args.k c.args.run c.args.col c.min-2.result c.args.around.now c.stretch_from-below.result c.requires.run c.requires.from (omega (arith, c.min.ensures, c.min-2.ensures)) (omega (arith, c.min.ensures, c.min-2.ensures)) c.requires.around c.stretch_from-below.ensures.stretch;
}

pub returns-clause-above : goal.returns-clause-above
returns-clause-above c = λ run some at. omega (arith, c.min.ensures, c.min-2.ensures, c.stretch_from-above.ensures.near run some at)

pub returns-clause-below : goal.returns-clause-below
returns-clause-below c = λ run some at. omega (arith, c.min-2.ensures, c.stretch_from-below.ensures.near run some at)
