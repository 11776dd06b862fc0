use Rattle.std.proofs.Common.{arith, ◌≡◌, ◌<ℤ◌, pos, sym, ap, ◌∙◌, not, to_z, of_z}
use Rattle.std.specs.Int.{w128}
use Rattle.std.proofs.lemmas.Int.{ints}
use Rattle.geo_transform.specs.Layout.{Layout}
use Rattle.geo_transform.specs.Fault.{is_in_range}
use Rattle.geo_transform.proofs.FaultLemmas.{good_counts, not_flat, not_oblong, too_far, same_range, IsInRange, parts_in_range, is_frame}
use Rattle.geo_transform.proofs.frame.counted_frame.Goals as goal

pub returns-then-not-is_in_range-clause-answer : goal.returns-then-not-is_in_range-clause-answer
returns-then-not-is_in_range-clause-answer c =
    let l : Layout = record { ncols = c.args.ncols; nrows = c.args.nrows; left = c.args.left; lower = c.args.lower; width = c.args.width; height = c.args.height } in
    let w : to_z w128 (of_z w128 c.args.width) ≡ c.args.width = omega (arith, ints) in
    let h : to_z w128 (of_z w128 c.args.height) ≡ c.args.height = omega (arith, ints) in
    let a : to_z w128 (of_z w128 c.args.left) ≡ c.args.left = omega (arith, ints) in
    let b : to_z w128 (of_z w128 c.args.lower) ≡ c.args.lower = omega (arith, ints) in
    let far : c.is_in_range.result ≡ is_in_range l = same_range l _ _ _ _ c.is_in_range.result c.is_in_range.ensures a b w h in
    let some : pos 0 <ℤ c.args.width = omega (arith, ints) in
    let more : pos 0 <ℤ c.args.height = omega (arith, ints) in
    let square : c.args.width ≡ c.args.height = omega (arith, ints) in
    sym (
    too_far l (good_counts l c.requires.counts) (not_flat l some more) (not_oblong l square) (ap not (sym far ∙ c.if-not-is_in_range.true))
    )

pub returns-clause-frame : goal.returns-clause-frame
returns-clause-frame c =
    let l : Layout = record { ncols = c.args.ncols; nrows = c.args.nrows; left = c.args.left; lower = c.args.lower; width = c.args.width; height = c.args.height } in
    let w : to_z w128 (of_z w128 c.args.width) ≡ c.args.width = omega (arith, ints) in
    let h : to_z w128 (of_z w128 c.args.height) ≡ c.args.height = omega (arith, ints) in
    let a : to_z w128 (of_z w128 c.args.left) ≡ c.args.left = omega (arith, ints) in
    let b : to_z w128 (of_z w128 c.args.lower) ≡ c.args.lower = omega (arith, ints) in
    let far : c.is_in_range.result ≡ is_in_range l = same_range l _ _ _ _ c.is_in_range.result c.is_in_range.ensures a b w h in
    let some : pos 0 <ℤ c.args.width = omega (arith, ints) in
    let square : c.args.width ≡ c.args.height = omega (arith, ints) in
    let n : IsInRange l = parts_in_range l (sym far ∙ c.if-not-is_in_range.false) in
    is_frame l c.coord.result c.coord-2.result c.coord-3.result c.requires.counts some square n
    (c.coord.ensures ∙ a) (c.coord-2.ensures ∙ b) (c.coord-3.ensures ∙ w)
