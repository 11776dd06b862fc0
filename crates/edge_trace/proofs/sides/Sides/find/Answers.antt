use Rattle.std.proofs.Common.{◌≡◌, ℕ, subst, arith}
use Rattle.edge_trace.specs.Inner.Sides.{AreSides, side_number}
use Rattle.edge_trace.proofs.CellLemmas.{all_put}
use Rattle.edge_trace.proofs.sides.Sides.find.Goals as goal

pub returns : goal.returns
returns c =
    let row : c.loop-row.row ≡ c.args.regions.now.numbers.nrows = omega (arith, c.loop-row-test.false, c.loop-row.auto.row-end, c.nrows-row-end.ensures, c.requires.lent.nrows) in
    subst (λ (n : ℕ). AreSides c.args.regions.now c.args.stride c.loop-row.finding.numbers.items c.loop-row.finding.owners.items (side_number c.args.stride (n, 0) 0)) row (all_put c.args.regions.now c.args.stride (side_number c.args.stride (c.loop-row.row, 0) 0) c.loop-row.finding c.loop-row.invariant.room.1 c.loop-row.invariant.has)
