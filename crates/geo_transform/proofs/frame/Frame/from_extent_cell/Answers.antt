use Rattle.std.proofs.Common.{◌≡◌, ◌-ℤ◌, ◌*ℤ◌, pos, sym, ap, ◌∙◌, arith, to_z, of_z, w64}
use Rattle.std.specs.Int.{w128}
use Rattle.std.proofs.lemmas.Int.{ints}
use Rattle.std.proofs.lemmas.Result.{err_from_is_err_and}
use Rattle.geo_transform.specs.Layout.{Layout, layout_by_cell, steps_in}
use Rattle.geo_transform.specs.Fault.{is_empty}
use Rattle.geo_transform.specs.Frame.{frame_or_fault}
use Rattle.geo_transform.proofs.FaultLemmas.{refused, small_counts, full_spans, framed_full, by_cell}
use Rattle.geo_transform.proofs.frame.Frame.from_extent_cell.Goals as goal

pub overflow_cast-ncols : goal.overflow_cast-ncols
overflow_cast-ncols c =
    let s = small_counts c.steps-ncols.result c.steps-nrows.result c.in_ok-check_size.ensures.ok in
    omega (arith, s.0)

pub overflow_cast-nrows : goal.overflow_cast-nrows
overflow_cast-nrows c =
    let s = small_counts c.steps-ncols.result c.steps-nrows.result c.in_ok-check_size.ensures.ok in
    omega (arith, s.1)

pub returns-in_err-check_size-clause-answer : goal.returns-in_err-check_size-clause-answer
returns-in_err-check_size-clause-answer c =
    let e = c.args.extent.now in
    let l : Layout = layout_by_cell e c.args.xres c.args.yres in
    let full = full_spans (is_empty e) c.in_ok-across.across c.in_ok-across.down _ _ _ c.in_ok-across.ensures.fault in
    let across : to_z w64 (of_z w64 c.in_ok-across.across) ≡ c.in_ok-across.across = omega (arith, ints) in
    let down : to_z w64 (of_z w64 c.in_ok-across.down) ≡ c.in_ok-across.down = omega (arith, ints) in
    let x : to_z w64 (of_z w64 c.units.result) ≡ c.args.xres = omega (arith, ints) in
    let y : to_z w64 (of_z w64 c.units-2.result) ≡ c.args.yres = omega (arith, ints) in
    let cols : c.steps-ncols.result ≡ steps_in (e.xmax -ℤ e.xmin) c.args.xres =
    c.steps-ncols.ensures.value ∙ ap (λ z. steps_in z (to_z w64 (of_z w64 c.units.result))) (across ∙ full.1) ∙ ap (λ z. steps_in (e.xmax -ℤ e.xmin) z) x in
    let rows : c.steps-nrows.result ≡ steps_in (e.ymax -ℤ e.ymin) c.args.yres =
    c.steps-nrows.ensures.value ∙ ap (λ z. steps_in z (to_z w64 (of_z w64 c.units-2.result))) (down ∙ full.2) ∙ ap (λ z. steps_in (e.ymax -ℤ e.ymin) z) y in
    let p = err_from_is_err_and c.from_residual-in_err-check_size.result c.from_residual-in_err-check_size.ensures.1 in
    rw (p.1, p.2) (sym (framed_full e l full.0 ∙ refused l _ (c.in_err-check_size.ensures.fault l (sym cols) (sym rows))))

pub returns-clause-answer : goal.returns-clause-answer
returns-clause-answer c =
    let e = c.args.extent.now in
    let full = full_spans (is_empty e) c.in_ok-across.across c.in_ok-across.down _ _ _ c.in_ok-across.ensures.fault in
    let across : to_z w64 (of_z w64 c.in_ok-across.across) ≡ c.in_ok-across.across = omega (arith, ints) in
    let down : to_z w64 (of_z w64 c.in_ok-across.down) ≡ c.in_ok-across.down = omega (arith, ints) in
    let x : to_z w64 (of_z w64 c.units.result) ≡ c.args.xres = omega (arith, ints) in
    let y : to_z w64 (of_z w64 c.units-2.result) ≡ c.args.yres = omega (arith, ints) in
    let cols : c.steps-ncols.result ≡ steps_in (e.xmax -ℤ e.xmin) c.args.xres =
    c.steps-ncols.ensures.value ∙ ap (λ z. steps_in z (to_z w64 (of_z w64 c.units.result))) (across ∙ full.1) ∙ ap (λ z. steps_in (e.xmax -ℤ e.xmin) z) x in
    let rows : c.steps-nrows.result ≡ steps_in (e.ymax -ℤ e.ymin) c.args.yres =
    c.steps-nrows.ensures.value ∙ ap (λ z. steps_in z (to_z w64 (of_z w64 c.units-2.result))) (down ∙ full.2) ∙ ap (λ z. steps_in (e.ymax -ℤ e.ymin) z) y in
    let b : to_z w128 (of_z w128 c.lower_edge-lower.result) ≡ c.lower_edge-lower.result = omega (arith, ints) in
    let left : to_z w128 (of_z w128 c.from.result) ≡ e.xmin = omega (arith, ints) in
    let width : to_z w128 (of_z w128 c.from-width.result) ≡ c.args.xres = omega (arith, ints) in
    let height : to_z w128 (of_z w128 c.from-height.result) ≡ c.args.yres = omega (arith, ints) in
    let lower : to_z w128 (of_z w128 c.lower_edge-lower.result) ≡ e.ymax -ℤ pos c.steps-nrows.result *ℤ to_z w128 (of_z w128 c.from-height.result) = b ∙ c.lower_edge-lower.ensures.value in
    c.counted_frame.ensures.answer
    ∙ ap frame_or_fault (by_cell e c.steps-ncols.result c.steps-nrows.result _ _ _ _ c.args.xres c.args.yres cols rows left lower width height)
    ∙ sym (framed_full e (layout_by_cell e c.args.xres c.args.yres) full.0)
