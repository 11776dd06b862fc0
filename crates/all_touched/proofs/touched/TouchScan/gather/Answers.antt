use Rattle.std.proofs.Common.{ap, ◌∙◌, ◌++◌, []}
use Rattle.all_touched.proofs.PieceLemmas.{gathered}
use Rattle.all_touched.proofs.touched.TouchScan.gather.Goals as goal

pub returns : goal.returns
returns c = gathered c.args.frame.now c.args.g.now c.in_ok-table.table c.centre_runs.new.runs c.extend_from_slice.new.self.items c.push_edges.new.pieces.items c.sort.new.pieces.items
    c.in_ok-table.ensures c.in_ok-centre_runs.ensures.cells c.in_ok-centre_runs.ensures.inside c.as_slice.ensures.apart
    (c.in_ok-extend_from_slice.ensures.items ∙ ap (λ items. items ++ c.as_slice.result.now) c.clear.ensures.items ∙ c.as_slice.ensures.value)
    c.in_ok-push_edges.ensures c.sort.ensures.same c.sort.ensures.order
