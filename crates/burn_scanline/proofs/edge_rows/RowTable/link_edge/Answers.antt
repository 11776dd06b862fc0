use Rattle.std.proofs.Common.{◌<◌, ◌-◌, length, refl, arith}
use Rattle.burn_scanline.proofs.LinkLemmas.{link_one, read_at}
use Rattle.burn_scanline.proofs.edge_rows.RowTable.link_edge.Goals as goal

pub returns : goal.returns
returns c =
    let table = c.args.self.now in
    let item = c.index.result.now in
    let at = read_at table.edges.items c.args.e item c.requires.e c.index.ensures in
    let rows = c.requires.linked.rows c.args.e item at in
    let within : item.edge.first - table.first_row < length table.heads.items = omega (arith, c.requires.linked.sized, rows.0, rows.1, rows.2) in
    link_one c.args.e table _ item c.index-link.result.now c.requires.linked at (read_at table.heads.items (item.edge.first - table.first_row) c.index-link.result.now within c.index-link.ensures) refl refl refl refl
