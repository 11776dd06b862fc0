use Rattle.std.proofs.Common.{get_or, pos, arith}
use Rattle.std.proofs.lemmas.Option.{slice_get-get_or, slice_get_within}
use Rattle.contour_segments.specs.declared.span.Span.{Span}
use Rattle.contour_segments.proofs.BlockLemmas.{within_more}
use Rattle.contour_segments.proofs.table.over_all.Goals as goal

pub loop-span-preserved : goal.loop-span-preserved
loop-span-preserved c =
    let spans = c.args.spans.now in
    let n = c.loop-span.span-index in
    let none : Span = record { low = pos 0; high = pos 0 } in
    let at = slice_get-get_or spans n none c.loop-span-test.true in
    within_more spans n c.loop-span.all (get_or spans n none) c.with-all.result c.loop-span.invariant at c.with-all.ensures.one c.with-all.ensures.other

pub returns : goal.returns
returns c = λ i span at. c.loop-span.invariant i span (omega (arith, slice_get_within c.args.spans.now i span at, c.loop-span-test.false)) at
