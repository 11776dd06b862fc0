use Rattle.std.proofs.Common.{◌<◌, ◌-◌, length, inl, inr, arith}
use Rattle.burn_scanline.proofs.LinkLemmas.{head_inside, head_outside, read_at}
use Rattle.burn_scanline.proofs.edge_rows.RowTable.head.Goals as goal

pub returns-then-row-self : goal.returns-then-row-self
returns-then-row-self c = head_outside c.args.self.now c.args.row c.requires (inl c.if-row-self.true)

pub returns-then-row-self-2 : goal.returns-then-row-self-2
returns-then-row-self-2 c = head_outside c.args.self.now c.args.row c.requires (inr c.if-row-self-2.true)

pub returns : goal.returns
returns c =
    let table = c.args.self.now in
    let within : c.args.row - table.first_row < length table.heads.items = omega (arith, c.requires.sized, c.if-row-self-2.false, c.if-row-self.false) in
    head_inside table c.args.row c.index.result.now c.requires c.if-row-self.false (read_at table.heads.items (c.args.row - table.first_row) c.index.result.now within c.index.ensures)
