use Rattle.std.proofs.Common.{arith}
use Rattle.std.proofs.lemmas.List.Sorted.{IsNonDecreasingBy-from_sort}
use Rattle.burn_scanline.proofs.ScanLemmas.{columns_sorted, columns_step, within_step}
use Rattle.burn_scanline.proofs.centre.find_columns.Goals as goal

pub loop-i-preserved : goal.loop-i-preserved
loop-i-preserved c = record {
  counts = columns_step c.args.frame.now c.args.row c.loop-i.i c.column.result c.index-active-i.result c.args.active.now c.loop-i.columns.items c.push.new.self.items c.requires.active c.loop-i-test.true c.index-active-i.is c.column.ensures c.in_ok-push.ensures.items c.loop-i.invariant.counts;
  within = within_step c.args.frame.now.ncols c.column.result c.loop-i.columns.items c.push.new.self.items c.in_ok-push.ensures.items c.column.ensures.within c.loop-i.invariant.within;
}

pub returns : goal.returns
returns c = columns_sorted c.args.frame.now c.args.row c.loop-i.i c.args.active.now c.loop-i.columns.items c.sort_unstable.new.self.items (omega arith) c.sort_unstable.ensures.permutation (IsNonDecreasingBy-from_sort (λ x. x) c.sort_unstable.new.self.items c.sort_unstable.ensures.sorted) c.loop-i.invariant.counts c.loop-i.invariant.within
