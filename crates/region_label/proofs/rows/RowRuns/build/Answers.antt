use Rattle.std.proofs.Common.{◌≡◌, length, arith}
use Rattle.region_label.specs.Inner.Rows.{noted_units}
use Rattle.region_label.proofs.BlockLemmas.{apart_kept, found_apart}
use Rattle.region_label.proofs.NoteLemmas.{kept_rows}
use Rattle.region_label.proofs.RowsLemmas.{rows_built, starts_found}
use Rattle.region_label.proofs.rows.RowRuns.build.Goals as goal

pub push_row-requires-clause-starts : goal.push_row-requires-clause-starts
push_row-requires-clause-starts g c =
    let rows = c.loop-row.rows in
    let count : c.len.result ≡ length rows.runs.items = cc (rows.runs.ok.0, c.len.ensures) in
    rw (c.in_ok-push.ensures.items, count) (starts_found g.T.Cell.units_of c.args.cells.now c.args.valid.now rows.runs.items (noted_units rows.notes.items) rows.starts.items c.loop-row.row c.loop-row.invariant.found c.loop-row.invariant.starts)

pub find_beside-on-requires : goal.find_beside-on-requires
find_beside-on-requires g c =
    let rows = c.loop-row.rows in
    let end : c.loop-row.row ≡ c.args.cells.now.nrows = omega arith in
    let found = rw end at c.loop-row.invariant.found in
    let starts = rw end at c.loop-row.invariant.starts in
    let count : c.len-2.result ≡ length rows.runs.items = cc (rows.runs.ok.0, c.len-2.ensures) in
    record { ordered = rw (c.in_ok-push-2.ensures.items, count) (rows_built g.T.Cell.units_of c.args.cells.now c.args.valid.now rows.ncols rows.nrows rows.runs.items (noted_units rows.notes.items) rows.starts.items c.loop-row.invariant.ncols c.loop-row.invariant.nrows found starts) }

pub returns-then-on-len : goal.returns-then-on-len
returns-then-on-len g c =
    let rows = c.loop-row.rows in
    let end : c.loop-row.row ≡ c.args.cells.now.nrows = omega arith in
    let found = rw end at c.loop-row.invariant.found in
    let starts = rw end at c.loop-row.invariant.starts in
    let count : c.len-2.result ≡ length rows.runs.items = cc (rows.runs.ok.0, c.len-2.ensures) in
    let apart = found_apart g.T.Cell.units_of c.args.cells.now c.args.valid.now rows.runs.items (noted_units rows.notes.items) (c.args.cells.now.nrows, 0) g.met.T.Cell.same_units found in
    kept_rows g.T.Cell.units_of c.args.cells.now c.args.valid.now _ c.find_beside-on.new.self c.find_beside-on.ensures.keeps c.loop-row.invariant.ncols c.loop-row.invariant.nrows (rw (c.in_ok-push-2.ensures.items, count) (rows_built g.T.Cell.units_of c.args.cells.now c.args.valid.now rows.ncols rows.nrows rows.runs.items (noted_units rows.notes.items) rows.starts.items c.loop-row.invariant.ncols c.loop-row.invariant.nrows found starts)) found apart c.loop-row.invariant.none c.find_beside-on.ensures.noted

pub find_blocks-requires-clause-ordered : goal.find_blocks-requires-clause-ordered
find_blocks-requires-clause-ordered g c =
    let rows = c.loop-row.rows in
    let end : c.loop-row.row ≡ c.args.cells.now.nrows = omega arith in
    let found = rw end at c.loop-row.invariant.found in
    let starts = rw end at c.loop-row.invariant.starts in
    let count : c.len-2.result ≡ length rows.runs.items = cc (rows.runs.ok.0, c.len-2.ensures) in
    let apart = found_apart g.T.Cell.units_of c.args.cells.now c.args.valid.now rows.runs.items (noted_units rows.notes.items) (c.args.cells.now.nrows, 0) g.met.T.Cell.same_units found in
    let own = kept_rows g.T.Cell.units_of c.args.cells.now c.args.valid.now _ c.find_beside-on.new.self c.find_beside-on.ensures.keeps c.loop-row.invariant.ncols c.loop-row.invariant.nrows (rw (c.in_ok-push-2.ensures.items, count) (rows_built g.T.Cell.units_of c.args.cells.now c.args.valid.now rows.ncols rows.nrows rows.runs.items (noted_units rows.notes.items) rows.starts.items c.loop-row.invariant.ncols c.loop-row.invariant.nrows found starts)) found apart c.loop-row.invariant.none c.find_beside-on.ensures.noted in
    own.in_order

pub find_blocks-requires-clause-apart : goal.find_blocks-requires-clause-apart
find_blocks-requires-clause-apart g c =
    let rows = c.loop-row.rows in
    let end : c.loop-row.row ≡ c.args.cells.now.nrows = omega arith in
    let found = rw end at c.loop-row.invariant.found in
    let starts = rw end at c.loop-row.invariant.starts in
    let count : c.len-2.result ≡ length rows.runs.items = cc (rows.runs.ok.0, c.len-2.ensures) in
    let apart = found_apart g.T.Cell.units_of c.args.cells.now c.args.valid.now rows.runs.items (noted_units rows.notes.items) (c.args.cells.now.nrows, 0) g.met.T.Cell.same_units found in
    apart_kept _ c.find_beside-on.new.self c.find_beside-on.ensures.keeps apart

pub returns : goal.returns
returns g c =
    let rows = c.loop-row.rows in
    let end : c.loop-row.row ≡ c.args.cells.now.nrows = omega arith in
    let found = rw end at c.loop-row.invariant.found in
    let starts = rw end at c.loop-row.invariant.starts in
    let count : c.len-2.result ≡ length rows.runs.items = cc (rows.runs.ok.0, c.len-2.ensures) in
    let apart = found_apart g.T.Cell.units_of c.args.cells.now c.args.valid.now rows.runs.items (noted_units rows.notes.items) (c.args.cells.now.nrows, 0) g.met.T.Cell.same_units found in
    let own = kept_rows g.T.Cell.units_of c.args.cells.now c.args.valid.now _ c.find_beside-on.new.self c.find_beside-on.ensures.keeps c.loop-row.invariant.ncols c.loop-row.invariant.nrows (rw (c.in_ok-push-2.ensures.items, count) (rows_built g.T.Cell.units_of c.args.cells.now c.args.valid.now rows.ncols rows.nrows rows.runs.items (noted_units rows.notes.items) rows.starts.items c.loop-row.invariant.ncols c.loop-row.invariant.nrows found starts)) found apart c.loop-row.invariant.none c.find_beside-on.ensures.noted in
    record { ncols = own.ncols; nrows = own.nrows; in_order = own.in_order; found = own.found; blocks = c.in_ok-rows.ensures; noted = own.noted }
