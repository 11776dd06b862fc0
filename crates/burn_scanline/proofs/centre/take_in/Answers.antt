use Rattle.std.proofs.Common.{append_assoc, [], ◌∷◌, length, ap, sym, ◌∙◌, arith}
use Rattle.std.specs.Prelude.{count_by}
use Rattle.std.proofs.lemmas.List.{append-nil}
use Rattle.burn_scanline.specs.Inner.Linking.{edges_in}
use Rattle.burn_scanline.specs.Inner.Scan.{passes}
use Rattle.burn_scanline.proofs.ScanLemmas.{as_long, each_push, entering, next_below, taken_all, taken_step}
use Rattle.burn_scanline.proofs.centre.take_in.Goals as goal

pub index-requires : goal.index-requires
index-requires c =
    let parts = rw c.in-Some.ensures.steps at c.loop-e.invariant.parts in
    let below = next_below (edges_in c.args.table.now.edges.items) c.args.row (length c.args.table.now.edges.items) c.in-Some.e c.loop-e.yielded _ parts in
    omega (arith, below, c.args.table.now.edges.ok.0)

pub of-requires-clause-spanned : goal.of-requires-clause-spanned
of-requires-clause-spanned c =
    let items = c.args.table.now.edges.items in
    let parts = rw c.in-Some.ensures.steps at c.loop-e.invariant.parts in
    let below = next_below (edges_in items) c.args.row (length items) c.in-Some.e c.loop-e.yielded _ parts in
    (entering c.args.frame.now items c.args.row c.in-Some.e c.index.result.now c.loop-e.yielded _ c.requires.spans below c.index.ensures parts).1

pub loop-e-preserved : goal.loop-e-preserved
loop-e-preserved c =
    let items = c.args.table.now.edges.items in
    let edge = c.index.result.now.edge in
    let parts = rw c.in-Some.ensures.steps at c.loop-e.invariant.parts in
    let below = next_below (edges_in items) c.args.row (length items) c.in-Some.e c.loop-e.yielded _ parts in
    let entry = entering c.args.frame.now items c.args.row c.in-Some.e c.index.result.now c.loop-e.yielded _ c.requires.spans below c.index.ensures parts in
    record {
      parts = append_assoc c.loop-e.yielded (c.in-Some.e ∷ []) c.next.new.self ∙ parts;
      each = each_push c.args.frame.now c.args.row edge c.of.result c.loop-e.active.items c.push.new.self.items c.of.ensures entry.2 c.in_ok-push.ensures.items c.loop-e.invariant.each;
      counts = λ r col from in_rows in_cols. ap (count_by (passes c.args.frame.now r col)) c.in_ok-push.ensures.items ∙ taken_step c.args.frame.now (edges_in items) edge c.of.result c.in-Some.e r col (count_by (passes c.args.frame.now r col) c.args.active.now.items) c.loop-e.active.items c.loop-e.yielded entry.0 entry.1 c.of.ensures in_rows (c.loop-e.invariant.counts r col from in_rows in_cols);
      can = tt;
      finite = tt;
    }

pub returns : goal.returns
returns c =
    let items = c.args.table.now.edges.items in
    let parts = rw c.in-None.ensures.steps.0 at c.loop-e.invariant.parts in
    taken_all c.args.frame.now (edges_in items) c.args.row (length items) c.args.active.now.items c.loop-e.active.items c.loop-e.yielded (sym (as_long items)) (sym (append-nil c.loop-e.yielded) ∙ parts) c.requires.taken c.loop-e.invariant.each c.loop-e.invariant.counts
