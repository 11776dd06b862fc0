use Rattle.std.proofs.Common.{ℕ, List, subst}
use Rattle.burn_scanline.specs.Inner.Linking.{edges_in}
use Rattle.burn_scanline.specs.Inner.Scan.{AreColumns, FillsRow}
use Rattle.burn_scanline.specs.declared.crossing.ActiveEdge.{ActiveEdge}
use Rattle.burn_scanline.proofs.ScanLemmas.{covered_step, taken_dropped}
use Rattle.burn_scanline.proofs.centre.CentreScan.fill_row.Goals as goal

pub returns-clause-taken : goal.returns-clause-taken
returns-clause-taken c = taken_dropped c.args.frame.now c.args.row (edges_in c.args.self.now.table.edges.items) c.take_in.new.active.items _ c.in_ok-take_in.ensures c.drop_ended.ensures

pub returns-clause-covered : goal.returns-clause-covered
returns-clause-covered c = λ g table covered.
    let frame = c.args.frame.now in
    let columns = c.find_columns.new.columns.items in
    let found = subst (λ (active : List ActiveEdge). AreColumns frame c.args.row active columns) c.deref.ensures.value c.in_ok-find_columns.ensures in
    let fills = subst (λ (xs : List ℕ). FillsRow c.args.row frame.ncols xs c.args.runs.now c.push_row.new.runs) c.deref-2.ensures.value c.in_ok-push_row.ensures in
    covered_step frame g c.args.row (edges_in c.args.self.now.table.edges.items) c.take_in.new.active.items columns c.args.runs.now c.push_row.new.runs table c.in_ok-take_in.ensures found c.requires.row fills covered
