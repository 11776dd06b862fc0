use Rattle.std.proofs.Common.{◌≡◌, ◌++◌, ◌<◌, ◌^◌, ◌-◌, length, arith, rules}
use Rattle.std.specs.List.{flat_map}
use Rattle.std.proofs.lemmas.Grind.{common_steps}
use Rattle.asc_grid.specs.Appended.{Appends, AppendsPart}
use Rattle.asc_grid.specs.Canonical.{canonical_text, header_text, row_text, spelled}
use Rattle.asc_grid.proofs.WriteLemmas.{appends_all, appends_nothing, appends_part, appends_part_then, appends_then}
use Rattle.asc_grid.proofs.write.write_grid.Goals as goal

pub returns-in_err-header-clause-err : goal.returns-in_err-header-clause-err
returns-in_err-header-clause-err g c =
    let none : AppendsPart c.args.out.now.items c.args.out.now.items (canonical_text (spelled g.T.Cell.units_of g.T.Cell.PLACES) c.args.asc.now) = (canonical_text (spelled g.T.Cell.units_of g.T.Cell.PLACES) c.args.asc.now, appends_nothing _ _) in
    grind (arith, none)

pub returns-in_err-extend_from_slice-clause-err : goal.returns-in_err-extend_from_slice-clause-err
returns-in_err-extend_from_slice-clause-err g c =
    let same : c.extend_from_slice.new.self.items ≡ c.args.out.now.items = c.in_err-extend_from_slice.ensures.items in
    let none : AppendsPart c.args.out.now.items c.extend_from_slice.new.self.items (canonical_text (spelled g.T.Cell.units_of g.T.Cell.PLACES) c.args.asc.now) = rw same (canonical_text (spelled g.T.Cell.units_of g.T.Cell.PLACES) c.args.asc.now, appends_nothing _ _) in
    grind (arith, none)

pub returns-in_err-append_rows-clause-err : goal.returns-in_err-append_rows-clause-err
returns-in_err-append_rows-clause-err g c =
    let spell = spelled g.T.Cell.units_of g.T.Cell.PLACES in
    let grid = c.args.asc.now in
    let header : c.extend_from_slice.new.self.items ≡ c.args.out.now.items ++ header_text spell grid = grind (arith, common_steps) in
    let first : Appends c.args.out.now.items c.extend_from_slice.new.self.items (canonical_text spell grid) (flat_map (row_text spell) grid.cells.rows) = rw header (appends_part _ (header_text spell grid) _) in
    let rest = rw c.first_of.ensures.all at c.in_err-append_rows.ensures.err in
    let part = appends_part_then _ _ _ _ _ first rest in
    grind (arith, part)

pub returns-clause-ok : goal.returns-clause-ok
returns-clause-ok g c =
    let spell = spelled g.T.Cell.units_of g.T.Cell.PLACES in
    let grid = c.args.asc.now in
    let header : c.extend_from_slice.new.self.items ≡ c.args.out.now.items ++ header_text spell grid = grind (arith, common_steps) in
    let first : Appends c.args.out.now.items c.extend_from_slice.new.self.items (canonical_text spell grid) (flat_map (row_text spell) grid.cells.rows) = rw header (appends_part _ (header_text spell grid) _) in
    let short : length c.append_rows.new.out.items < 2 ^ 64 - 1 = search rules in
    let end = c.in_ok-append_rows.ensures.all short in
    let rest = rw (c.first_of.ensures.all, end) at c.in_ok-append_rows.ensures.ok in
    appends_all _ _ _ (appends_then _ _ _ _ _ _ first rest)
