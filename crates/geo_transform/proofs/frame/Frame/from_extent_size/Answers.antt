use Rattle.std.proofs.Common.{◌≡◌, ◌-ℤ◌, ◌*ℤ◌, pos, sym, ap, ◌∙◌, arith, to_z, of_z, w64}
use Rattle.std.specs.Int.{w128}
use Rattle.std.proofs.lemmas.Int.{ints}
use Rattle.std.proofs.lemmas.Result.{err_from_is_err_and}
use Rattle.fixed_coord.specs.Round.{round_half_away}
use Rattle.geo_transform.specs.Layout.{Layout, layout_by_size}
use Rattle.geo_transform.specs.Fault.{is_empty}
use Rattle.geo_transform.specs.Frame.{frame_or_fault}
use Rattle.geo_transform.proofs.FaultLemmas.{refused, full_spans, framed_full, by_size}
use Rattle.geo_transform.proofs.frame.Frame.from_extent_size.Goals as goal

pub returns-in_err-check_size-clause-answer : goal.returns-in_err-check_size-clause-answer
returns-in_err-check_size-clause-answer c =
    let e = c.args.extent.now in
    let l : Layout = layout_by_size e c.args.ncols c.args.nrows in
    let full = full_spans (is_empty e) c.in_ok-length.length c.in_ok-length.depth _ _ _ c.in_ok-length.ensures.fault in
    let p = err_from_is_err_and c.from_residual-in_err-check_size.result c.from_residual-in_err-check_size.ensures.1 in
    rw (p.1, p.2) (sym (framed_full e l full.0 ∙ refused l _ (c.in_err-check_size.ensures.fault l (sym c.from-columns.ensures) (sym c.from-rows.ensures))))

pub returns-clause-answer : goal.returns-clause-answer
returns-clause-answer c =
    let e = c.args.extent.now in
    let full = full_spans (is_empty e) c.in_ok-length.length c.in_ok-length.depth _ _ _ c.in_ok-length.ensures.fault in
    let across : to_z w64 (of_z w64 c.in_ok-length.length) ≡ c.in_ok-length.length = omega (arith, ints) in
    let down : to_z w64 (of_z w64 c.in_ok-length.depth) ≡ c.in_ok-length.depth = omega (arith, ints) in
    let w : to_z w128 (of_z w128 c.share-width.result) ≡ c.share-width.result = omega (arith, ints) in
    let h : to_z w128 (of_z w128 c.share-height.result) ≡ c.share-height.result = omega (arith, ints) in
    let b : to_z w128 (of_z w128 c.lower_edge-lower.result) ≡ c.lower_edge-lower.result = omega (arith, ints) in
    let left : to_z w128 (of_z w128 c.from.result) ≡ e.xmin = omega (arith, ints) in
    let width : to_z w128 (of_z w128 c.share-width.result) ≡ round_half_away (e.xmax -ℤ e.xmin) c.args.ncols =
    w ∙ c.share-width.ensures.value ∙ ap (λ z. round_half_away z c.args.ncols) (across ∙ full.1) in
    let height : to_z w128 (of_z w128 c.share-height.result) ≡ round_half_away (e.ymax -ℤ e.ymin) c.args.nrows =
    h ∙ c.share-height.ensures.value ∙ ap (λ z. round_half_away z c.args.nrows) (down ∙ full.2) in
    let lower : to_z w128 (of_z w128 c.lower_edge-lower.result) ≡ e.ymax -ℤ pos c.args.nrows *ℤ to_z w128 (of_z w128 c.share-height.result) =
    b ∙ c.lower_edge-lower.ensures.value ∙ ap (λ k. e.ymax -ℤ pos k *ℤ to_z w128 (of_z w128 c.share-height.result)) c.from-rows.ensures in
    c.counted_frame.ensures.answer ∙ ap frame_or_fault (by_size e c.args.ncols c.args.nrows _ _ _ _ left lower width height) ∙ sym (framed_full e (layout_by_size e c.args.ncols c.args.nrows) full.0)
