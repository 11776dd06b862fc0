use Rattle.std.proofs.Common.{◌≡◌, ◌*◌, ◌≤◌, sym, ◌∙◌}
use Rattle.std.proofs.Common.{arith}
use Rattle.fixed_coord.specs.Limits.{most_cells}
use Rattle.asc_grid.specs.Header.{edge_of}
use Rattle.asc_grid.proofs.LayoutLemmas.{IsCounted, edge_read, frame_made, frame_refused}
use Rattle.asc_grid.proofs.header.given_frame.Goals as goal

pub returns-in-Ok-clause-frame : goal.returns-in-Ok-clause-frame
returns-in-Ok-clause-frame c =
    let few : c.args.ncols * c.args.nrows ≤ most_cells = rw (← c.product-count.ensures) (omega (arith, c.if-count-from.false, c.from.ensures)) in
    let counted : IsCounted c.args.ncols c.args.nrows c.args.size = record { some_cols = c.requires.cols; some_rows = c.requires.rows; few = few; some_size = c.requires.size } in
    let left : edge_of c.args.left c.args.size ≡ c.in_ok-left.left = edge_read _ _ _ (sym (c.in_ok-left.ensures {u = tt})) in
    let lower : edge_of c.args.lower c.args.size ≡ c.in_ok-lower.lower = edge_read _ _ _ (sym (c.in_ok-lower.ensures {u = tt})) in
    rw (left, lower) ((frame_made c.args.ncols c.args.nrows c.in_ok-left.left c.in_ok-lower.lower c.args.size c.in-Ok.frame counted (sym c.make.ensures.answer ∙ c.in-Ok.is)).0, (c.in-Ok.ensures {u = tt}).frame)

pub returns-in-Ok-clause-wrong : goal.returns-in-Ok-clause-wrong
returns-in-Ok-clause-wrong c =
    let few : c.args.ncols * c.args.nrows ≤ most_cells = rw (← c.product-count.ensures) (omega (arith, c.if-count-from.false, c.from.ensures)) in
    let counted : IsCounted c.args.ncols c.args.nrows c.args.size = record { some_cols = c.requires.cols; some_rows = c.requires.rows; few = few; some_size = c.requires.size } in
    let left : edge_of c.args.left c.args.size ≡ c.in_ok-left.left = edge_read _ _ _ (sym (c.in_ok-left.ensures {u = tt})) in
    let lower : edge_of c.args.lower c.args.size ≡ c.in_ok-lower.lower = edge_read _ _ _ (sym (c.in_ok-lower.ensures {u = tt})) in
    rw (left, lower) (frame_made c.args.ncols c.args.nrows c.in_ok-left.left c.in_ok-lower.lower c.args.size c.in-Ok.frame counted (sym c.make.ensures.answer ∙ c.in-Ok.is)).1

pub returns-in-Err-clause-wrong : goal.returns-in-Err-clause-wrong
returns-in-Err-clause-wrong c =
    let few : c.args.ncols * c.args.nrows ≤ most_cells = rw (← c.product-count.ensures) (omega (arith, c.if-count-from.false, c.from.ensures)) in
    let counted : IsCounted c.args.ncols c.args.nrows c.args.size = record { some_cols = c.requires.cols; some_rows = c.requires.rows; few = few; some_size = c.requires.size } in
    let left : edge_of c.args.left c.args.size ≡ c.in_ok-left.left = edge_read _ _ _ (sym (c.in_ok-left.ensures {u = tt})) in
    let lower : edge_of c.args.lower c.args.size ≡ c.in_ok-lower.lower = edge_read _ _ _ (sym (c.in_ok-lower.ensures {u = tt})) in
    rw (left, lower) (frame_refused c.args.ncols c.args.nrows c.in_ok-left.left c.in_ok-lower.lower c.args.size c.in-Err.field-0 counted (sym c.make.ensures.answer ∙ c.in-Err.is))
