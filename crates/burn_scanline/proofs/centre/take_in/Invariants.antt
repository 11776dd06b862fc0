use Rattle.std.proofs.Common.{◌≡◌, ℕ, ◌+◌, ◌++◌, ◌<◌, ◌≤◌, length}
use Rattle.std.specs.Prelude.{count_by}
use Rattle.burn_scanline.specs.EdgeTable.{starting_below}
use Rattle.burn_scanline.specs.Inner.Linking.{edges_in}
use Rattle.burn_scanline.specs.Inner.Scan.{AreActive, passes, counts_at}
use Rattle.burn_scanline.proofs.ScanLemmas.{test_at}
use Rattle.burn_scanline.proofs.centre.take_in.Given as goal

-- the edges so far are taken in
abbrev pub invariant-loop-e : goal.invariant-loop-e
invariant-loop-e l = record {
  parts : l.yielded ++ l.e-iterator ≡ starting_below (edges_in l.table.edges.items) l.row (length l.table.edges.items);
  each : AreActive l.frame l.row l.active.items;
  counts : (r col : ℕ) → l.row ≤ r → r < l.frame.nrows → col < l.frame.ncols → count_by (passes l.frame r col) l.active.items ≡ count_by (passes l.frame r col) l.fn.active.items + count_by (test_at (edges_in l.table.edges.items) (counts_at l.frame r col)) l.yielded;
  can : (goal.iterator-loop-e).can_next l.e-iterator;
  finite : (goal.iterator-loop-e).is_finite l.e-iterator;
}
