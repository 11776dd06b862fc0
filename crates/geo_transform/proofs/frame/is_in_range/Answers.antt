use Rattle.std.proofs.Common.{arith, ◌≡◌, ◌∙◌, to_z, of_z}
use Rattle.std.specs.Int.{w128}
use Rattle.std.proofs.lemmas.Int.{ints}
use Rattle.geo_transform.specs.Layout.{Layout, right_edge, upper_edge}
use Rattle.geo_transform.proofs.FaultLemmas.{range_by_edges}
use Rattle.geo_transform.proofs.frame.is_in_range.Goals as goal

pub returns : goal.returns
returns c =
    let l : Layout = record { ncols = c.args.ncols; nrows = c.args.nrows; left = c.args.left; lower = c.args.lower; width = c.args.width; height = c.args.height } in
    let w : to_z w128 (of_z w128 c.args.width) ≡ c.args.width = omega (arith, ints) in
    let h : to_z w128 (of_z w128 c.args.height) ≡ c.args.height = omega (arith, ints) in
    let a : to_z w128 (of_z w128 c.args.left) ≡ c.args.left = omega (arith, ints) in
    let b : to_z w128 (of_z w128 c.args.lower) ≡ c.args.lower = omega (arith, ints) in
    let r : c.far_edge-right.result ≡ right_edge l = c.far_edge-right.ensures ∙ cc (a, w) in
    let u : c.far_edge-upper.result ≡ upper_edge l = c.far_edge-upper.ensures ∙ cc (b, h) in
    let r2 : to_z w128 (of_z w128 c.far_edge-right.result) ≡ c.far_edge-right.result = omega (arith, ints) in
    let u2 : to_z w128 (of_z w128 c.far_edge-upper.result) ≡ c.far_edge-upper.result = omega (arith, ints) in
    range_by_edges l _ _ _ _ _ _ c.are_within.result c.are_within.ensures w h a b (r2 ∙ r) (u2 ∙ u)
