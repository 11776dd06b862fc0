use Rattle.std.proofs.Common.{◌<◌, ap, arith}
use Rattle.region_label.specs.Labelling.{RegionTable}
use Rattle.region_label.proofs.PaintLemmas.{painted}
use Rattle.region_label.proofs.regions.Regions.region_of.Goals as goal

pub returns : goal.returns
returns c =
    let table = c.self.inside.table in
    let in_row : c.args.row < table.nrows = omega (arith, c.requires.row, ap (λ (r : RegionTable). r.numbers.nrows) c.self.view_is) in
    let in_col : c.args.col < table.ncols = omega (arith, c.requires.col, ap (λ (r : RegionTable). r.numbers.ncols) c.self.view_is) in
    rw (← c.self.view_is, c.component_at.ensures) (painted table (c.args.row, c.args.col) in_row in_col)
