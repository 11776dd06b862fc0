use Rattle.std.proofs.Common.{◌≡◌, List, refl, subst, sym, arith}
use Rattle.burn_scanline.specs.Runs.{Run}
use Rattle.burn_scanline.specs.Inner.Linking.{edges_in}
use Rattle.burn_scanline.specs.Inner.Scan.{AreCovered, AreTaken}
use Rattle.burn_scanline.specs.declared.crossing.ActiveEdge.{ActiveEdge}
use Rattle.burn_scanline.proofs.ScanLemmas.{covered_all, covered_none, first_rows, last_rows, taken_none}
use Rattle.burn_scanline.proofs.centre.CentreScan.fill_rows.Goals as goal

pub loop-row-init : goal.loop-row-init
loop-row-init c =
    let table = c.args.self.now.table in
    let edges = edges_in table.edges.items in
    let rows = first_rows table.first_row table.end_row table.edges.items c.requires.filled.linked.rows in
    record {
      table = refl;
      taken = subst (λ (xs : List ActiveEdge). AreTaken c.args.frame.now table.first_row table.first_row edges xs) (sym c.requires.empty) (taken_none c.args.frame.now table.first_row edges rows);
      covered = subst (λ (xs : List Run). AreCovered c.args.frame.now c.args.g.now table.first_row xs) (sym c.requires.none) (covered_none c.args.frame.now c.args.g.now table.first_row edges c.requires.filled.edges rows);
    }

pub returns-clause-cells : goal.returns-clause-cells
returns-clause-cells c =
    let table = c.args.self.now.table in
    let end : c.loop-row.row ≡ table.end_row = omega (arith, c.requires.filled.linked.sized, c.loop-row-test.false, c.loop-row.auto) in
    covered_all c.args.frame.now c.args.g.now table.end_row (edges_in table.edges.items) c.loop-row.runs c.requires.filled.edges (last_rows table.first_row table.end_row table.edges.items c.requires.filled.linked.rows) (rw end at c.loop-row.invariant.covered)
