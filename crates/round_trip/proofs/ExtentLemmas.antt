-- The extent of a frame, cut into the frame's counts, is that frame; and its edges are coordinates.
use Rattle.std.proofs.Common.{◌≡◌, ℕ, ℤ, ◌+◌, ◌*◌, ◌<◌, ◌≤◌, ◌-◌, ◌-ℤ◌, ◌+ℤ◌, ◌*ℤ◌, ◌<ℤ◌, Ok, refl, sym, ap, ◌∙◌, subst, pos, negsuc, arith}
use Rattle.std.proofs.lemmas.Int.{ints}
use Rattle.std.proofs.Math.Nat.{mul-le-mul_left}
use Rattle.fixed_coord.specs.Coordinate.{IsCoord}
use Rattle.fixed_coord.specs.Round.{round_half_away}
use Rattle.fixed_coord.proofs.RoundLemmas.{round_whole}
use Rattle.geo_transform.specs.Frame.{IsFrame, frame_or_fault, frame_or_fault_in, layout_of}
use Rattle.geo_transform.specs.Layout.{layout_by_size}
use Rattle.geo_transform.specs.declared.extent.Extent.{Extent}
use Rattle.geo_transform.specs.declared.frame.Frame.{Frame}
use Rattle.geo_transform.proofs.FaultLemmas.{by_size, frame_accepted, framed_full, not_empty}
use Rattle.round_trip.specs.BackWords.{extent_of}

-- so many steps divided by their number
share : (n : ℕ) (step : ℤ) → 0 < n → pos 0 <ℤ step → round_half_away (pos n *ℤ step) n ≡ step
share n (pos s) some positive = ap pos (round_whole s n some)
share n (negsuc s) some positive = absurd (omega (arith, ints, positive))

across : (left way : ℤ) (n : ℕ) (step : ℤ) → way ≡ pos n *ℤ step → (left +ℤ way) -ℤ (left +ℤ pos 0 *ℤ step) ≡ pos n *ℤ step
across left way n step is = omega (arith, ints, is)

positive_way : (n : ℕ) (step : ℤ) → 0 < n → pos 0 <ℤ step → pos 0 <ℤ (pos n *ℤ step)
positive_way n (pos s) some positive =
    let more : s * 1 ≤ s * n = mul-le-mul_left s some in
    omega (arith, ints, more, positive)
positive_way n (negsuc s) some positive = absurd (omega (arith, ints, positive))

width_of : (f : Frame) → (extent_of f).xmax -ℤ (extent_of f).xmin ≡ pos f.ncols *ℤ f.cell
width_of f = across f.xll (pos f.ncols *ℤ f.cell) f.ncols f.cell refl

no_rows_less : (n : ℕ) → n - n ≡ 0
no_rows_less n = omega arith

all_rows : (n : ℕ) → n - 0 ≡ n
all_rows n = omega arith

height_of : (f : Frame) → (extent_of f).ymax -ℤ (extent_of f).ymin ≡ pos f.nrows *ℤ f.cell
height_of f =
    ap (λ (n : ℕ). (f.yll +ℤ pos (f.nrows - 0) *ℤ f.cell) -ℤ (f.yll +ℤ pos n *ℤ f.cell)) (no_rows_less f.nrows)
    ∙ across f.yll (pos (f.nrows - 0) *ℤ f.cell) f.nrows f.cell (ap (λ (n : ℕ). pos n *ℤ f.cell) (all_rows f.nrows))

left_of : (left step : ℤ) → left ≡ left +ℤ pos 0 *ℤ step
left_of left step = omega (arith, ints)

lower_of : (lower way : ℤ) → lower ≡ (lower +ℤ way) -ℤ way
lower_of lower way = omega (arith, ints)

-- the numbers are the frame's own
same_layout : (f : Frame) → IsFrame f → layout_by_size (extent_of f) f.ncols f.nrows ≡ layout_of f
same_layout f is =
    let e : Extent = extent_of f in
    let lower : f.yll ≡ e.ymax -ℤ pos f.nrows *ℤ f.cell = lower_of f.yll (pos f.nrows *ℤ f.cell) ∙ ap (λ (n : ℕ). (f.yll +ℤ pos n *ℤ f.cell) -ℤ pos f.nrows *ℤ f.cell) (sym (all_rows f.nrows)) in
    let width : f.cell ≡ round_half_away (e.xmax -ℤ e.xmin) f.ncols = sym (ap (λ (z : ℤ). round_half_away z f.ncols) (width_of f) ∙ share f.ncols f.cell is.some_cols is.some_size) in
    let height : f.cell ≡ round_half_away (e.ymax -ℤ e.ymin) f.nrows = sym (ap (λ (z : ℤ). round_half_away z f.nrows) (height_of f) ∙ share f.nrows f.cell is.some_rows is.some_size) in
    sym (by_size e f.ncols f.nrows f.xll f.yll f.cell f.cell (left_of f.xll f.cell) lower width height)

-- so the extent cut into as many columns and rows gives the frame back
pub frame_back : (f : Frame) → IsFrame f → frame_or_fault_in (extent_of f) (layout_by_size (extent_of f) f.ncols f.nrows) ≡ Ok f
frame_back f is =
    let wide : pos 0 <ℤ ((extent_of f).xmax -ℤ (extent_of f).xmin) = rw (width_of f) (positive_way f.ncols f.cell is.some_cols is.some_size) in
    let high : pos 0 <ℤ ((extent_of f).ymax -ℤ (extent_of f).ymin) = rw (height_of f) (positive_way f.nrows f.cell is.some_rows is.some_size) in
    framed_full (extent_of f) (layout_by_size (extent_of f) f.ncols f.nrows) (not_empty (extent_of f) wide high) ∙ ap frame_or_fault (same_layout f is) ∙ frame_accepted f is

-- the edges of an extent are coordinates
pub record HasEdges (e : Extent) : Type 0 where
  pub xmin : IsCoord e.xmin
  pub ymin : IsCoord e.ymin
  pub xmax : IsCoord e.xmax
  pub ymax : IsCoord e.ymax

pub edges_of_frame : (f : Frame) → IsFrame f → HasEdges (extent_of f)
edges_of_frame f is = record {
  xmin = subst (λ (z : ℤ). IsCoord z) (left_of f.xll f.cell) is.left;
  ymin = subst (λ (n : ℕ). IsCoord (f.yll +ℤ pos n *ℤ f.cell)) (sym (no_rows_less f.nrows)) (subst (λ (z : ℤ). IsCoord z) (left_of f.yll f.cell) is.lower);
  xmax = is.right;
  ymax = subst (λ (n : ℕ). IsCoord (f.yll +ℤ pos n *ℤ f.cell)) (sym (all_rows f.nrows)) is.upper;
}
