-- Which fault is the first.
use Rattle.std.proofs.Common.{◌≡◌, ℕ, ℤ, ◌*◌, ◌≤◌, ◌≤ℤ◌, ◌<ℤ◌, ◌-ℤ◌, Bool, true, false, not, if◌then◌else◌, [], ◌∷◌, Some, Result, Ok, Err, refl, arith, sym, ◌∙◌, ap, pos, ◌+ℤ◌, ◌*ℤ◌, subst}
use Rattle.std.proofs.Math.Nat.{mul-le-mul_left}
use Rattle.std.specs.Prelude.{int_le}
use Rattle.std.specs.List.{list_all}
use Rattle.std.specs.Ordering.{int_eq}
use Rattle.std.proofs.lemmas.Bool.{and_parts}
use Rattle.std.proofs.lemmas.Bool.Decides.{nat_tests}
use Rattle.std.proofs.lemmas.Int.{ints}
use Rattle.fixed_coord.specs.Coordinate.{IsCoord, is_coord}
use Rattle.fixed_coord.specs.Limits.{most_cells}
use Rattle.geo_transform.specs.Layout.{Layout, right_edge, upper_edge, layout_by_size, layout_by_cell, steps_in}
use Rattle.fixed_coord.specs.Round.{round_half_away}
use Rattle.geo_transform.specs.Frame.{IsFrame, frame_of, layout_of, unless, frame_or_fault, frame_or_fault_in}
use Rattle.geo_transform.specs.Inner.GridSize.{IsGridSize}
use Rattle.geo_transform.specs.declared.extent.Extent.{Extent}
use Rattle.geo_transform.specs.declared.frame.Frame.{Frame}
use Rattle.geo_transform.specs.declared.fault.FrameFault.{FrameFault}
use Rattle.geo_transform.specs.declared.fault.FrameFault.TheVariants.{BadSize, TooLarge, BadCell, NotSquare, OutOfRange}
use Rattle.geo_transform.specs.Fault.{has_no_cells, has_too_many_cells, has_flat_cells, has_oblong_cells, is_too_far, is_in_range, fault_of, is_empty}

pub in_range : (z : ℤ) → is_coord z ≡ true → IsCoord z
in_range z h = record { low = grind (arith, ints); high = grind (arith, ints) }

-- the counts are good
pub record GoodCounts (l : Layout) : Type 0 where
  pub some : has_no_cells l ≡ false
  pub few : has_too_many_cells l ≡ false

pub good_counts : (l : Layout) → IsGridSize l.ncols l.nrows → GoodCounts l
good_counts l size =
    let a = size.some_cols in
    let b = size.some_rows in
    let c = size.few_cells in
    record { some = grind (arith, nat_tests); few = grind (arith, nat_tests) }

pub no_cells : (l : Layout) → has_no_cells l ≡ true → fault_of l ≡ Some BadSize
no_cells l h = rw h refl

pub too_many : (l : Layout) → has_no_cells l ≡ false → has_too_many_cells l ≡ true → fault_of l ≡ Some (TooLarge (l.ncols * l.nrows))
too_many l a b = rw (a, b) refl

pub flat : (l : Layout) → GoodCounts l → has_flat_cells l ≡ true → frame_or_fault l ≡ Err BadCell
flat l g h = let a = g.some in let b = g.few in rw (a, b, h) refl

pub oblong : (l : Layout) → GoodCounts l → has_flat_cells l ≡ false → has_oblong_cells l ≡ true → frame_or_fault l ≡ Err NotSquare
oblong l g h i = let a = g.some in let b = g.few in rw (a, b, h, i) refl

pub too_far : (l : Layout) → GoodCounts l → has_flat_cells l ≡ false → has_oblong_cells l ≡ false → is_too_far l ≡ true → frame_or_fault l ≡ Err OutOfRange
too_far l g h i j = let a = g.some in let b = g.few in rw (a, b, h, i, j) refl

pub good : (l : Layout) → GoodCounts l → has_flat_cells l ≡ false → has_oblong_cells l ≡ false → is_too_far l ≡ false → frame_or_fault l ≡ Ok (frame_of l)
good l g h i j = let a = g.some in let b = g.few in rw (a, b, h, i, j) refl

-- an extent is empty, or it isn't
pub empty_across : (e : Extent) → (e.xmax -ℤ e.xmin) ≤ℤ pos 0 → is_empty e ≡ true
empty_across e h = grind (arith, ints)

pub empty_down : (e : Extent) → (e.ymax -ℤ e.ymin) ≤ℤ pos 0 → is_empty e ≡ true
empty_down e h = grind (arith, ints)

le_false : (a b : ℤ) → pos 0 <ℤ (a -ℤ b) → int_le a b ≡ false
le_false a b h = grind (arith, ints)

pub not_empty : (e : Extent) → pos 0 <ℤ (e.xmax -ℤ e.xmin) → pos 0 <ℤ (e.ymax -ℤ e.ymin) → is_empty e ≡ false
not_empty e a b = let x = le_false e.xmax e.xmin a in let y = le_false e.ymax e.ymin b in rw (x, y) refl

pub framed_empty : (e : Extent) (l : Layout) → is_empty e ≡ true → frame_or_fault_in e l ≡ Err BadSize
framed_empty e l h = rw h refl

pub framed_full : (e : Extent) (l : Layout) → is_empty e ≡ false → frame_or_fault_in e l ≡ frame_or_fault l
framed_full e l h = rw h refl

flat_not : (z : ℤ) → pos 0 <ℤ z → int_le z (pos 0) ≡ false
flat_not z h = grind (arith, ints)

pub not_flat : (l : Layout) → pos 0 <ℤ l.width → pos 0 <ℤ l.height → has_flat_cells l ≡ false
not_flat l a b = let x = flat_not l.width a in let y = flat_not l.height b in rw (x, y) refl

same_eq : (z : ℤ) → int_eq z z ≡ true
same_eq z = grind (arith, ints)

pub not_oblong : (l : Layout) → l.width ≡ l.height → has_oblong_cells l ≡ false
not_oblong l e = ap (λ z. not (int_eq l.width z)) (sym e) ∙ ap not (same_eq l.width)

-- what the coordinates of a layout are
pub record IsInRange (l : Layout) : Type 0 where
  pub width : IsCoord l.width
  pub left : IsCoord l.left
  pub lower : IsCoord l.lower
  pub right : IsCoord (right_edge l)
  pub upper : IsCoord (upper_edge l)

pub parts_in_range : (l : Layout) → is_in_range l ≡ true → IsInRange l
parts_in_range l h =
    let a = and_parts (is_coord l.width) (list_all is_coord (l.height ∷ l.left ∷ l.lower ∷ right_edge l ∷ upper_edge l ∷ [])) h in
    let b = and_parts (is_coord l.height) (list_all is_coord (l.left ∷ l.lower ∷ right_edge l ∷ upper_edge l ∷ [])) a.1 in
    let c = and_parts (is_coord l.left) (list_all is_coord (l.lower ∷ right_edge l ∷ upper_edge l ∷ [])) b.1 in
    let d = and_parts (is_coord l.lower) (list_all is_coord (right_edge l ∷ upper_edge l ∷ [])) c.1 in
    let e = and_parts (is_coord (right_edge l)) (list_all is_coord (upper_edge l ∷ [])) d.1 in
    let f = and_parts (is_coord (upper_edge l)) true e.1 in
    record {
      width = in_range l.width a.0;
      left = in_range l.left c.0;
      lower = in_range l.lower d.0;
      right = in_range (right_edge l) e.0;
      upper = in_range (upper_edge l) f.0;
    }

-- the same test of the same numbers
pub same_range : (l : Layout) (left lower width height : ℤ) (r : Bool) → r ≡ is_in_range (record { ncols = l.ncols; nrows = l.nrows; left = left; lower = lower; width = width; height = height })
    → left ≡ l.left → lower ≡ l.lower → width ≡ l.width → height ≡ l.height → r ≡ is_in_range l
same_range l left lower width height r e a b c d =
    e
    ∙ ap (λ x. is_in_range (record { ncols = l.ncols; nrows = l.nrows; left = x; lower = lower; width = width; height = height })) a
    ∙ ap (λ x. is_in_range (record { ncols = l.ncols; nrows = l.nrows; left = l.left; lower = x; width = width; height = height })) b
    ∙ ap (λ x. is_in_range (record { ncols = l.ncols; nrows = l.nrows; left = l.left; lower = l.lower; width = x; height = height })) c
    ∙ ap (λ x. is_in_range (record { ncols = l.ncols; nrows = l.nrows; left = l.left; lower = l.lower; width = l.width; height = x })) d

-- and with the edges named
pub range_by_edges : (l : Layout) (width height left lower right upper : ℤ) (r : Bool) → r ≡ list_all is_coord (width ∷ height ∷ left ∷ lower ∷ right ∷ upper ∷ [])
    → width ≡ l.width → height ≡ l.height → left ≡ l.left → lower ≡ l.lower → right ≡ right_edge l → upper ≡ upper_edge l → r ≡ is_in_range l
range_by_edges l width height left lower right upper r e a b c d f g = cc

pub is_frame : (l : Layout) (xll yll cell : ℤ) → IsGridSize l.ncols l.nrows → pos 0 <ℤ l.width → l.width ≡ l.height → IsInRange l → xll ≡ l.left → yll ≡ l.lower → cell ≡ l.width
    → IsFrame (record { ncols = l.ncols; nrows = l.nrows; xll = xll; yll = yll; cell = cell })
is_frame l xll yll cell counts some square n a b c =
    let height : l.lower +ℤ pos l.nrows *ℤ l.height ≡ l.lower +ℤ pos l.nrows *ℤ l.width = ap (λ z. l.lower +ℤ pos l.nrows *ℤ z) (sym square) in
    let there : IsFrame (record { ncols = l.ncols; nrows = l.nrows; xll = l.left; yll = l.lower; cell = l.width }) =
    record {
      some_cols = counts.some_cols;
      some_rows = counts.some_rows;
      few_cells = counts.few_cells;
      some_size = some;
      size = n.width;
      left = n.left;
      lower = n.lower;
      right = n.right;
      upper = subst (λ (z : ℤ). IsCoord z) height n.upper;
    } in
    let first : IsFrame (record { ncols = l.ncols; nrows = l.nrows; xll = xll; yll = l.lower; cell = l.width }) =
    subst (λ (z : ℤ). IsFrame (record { ncols = l.ncols; nrows = l.nrows; xll = z; yll = l.lower; cell = l.width })) (sym a) there in
    let second : IsFrame (record { ncols = l.ncols; nrows = l.nrows; xll = xll; yll = yll; cell = l.width }) =
    subst (λ (z : ℤ). IsFrame (record { ncols = l.ncols; nrows = l.nrows; xll = xll; yll = z; cell = l.width })) (sym b) first in
    subst (λ (z : ℤ). IsFrame (record { ncols = l.ncols; nrows = l.nrows; xll = xll; yll = yll; cell = z })) (sym c) second

-- each count is small where their product is
pub small_counts : (a b : ℕ) → IsGridSize a b → (a ≤ most_cells) × (b ≤ most_cells)
small_counts a b size =
    let x : a * 1 ≤ a * b = mul-le-mul_left a size.some_rows in
    let y : b * 1 ≤ b * a = mul-le-mul_left b size.some_cols in
    (omega (arith, x, size.few_cells), omega (arith, y, size.few_cells))

-- the fault of the counts, whatever the other numbers are
pub refused : (l : Layout) (f : FrameFault) → fault_of l ≡ Some f → frame_or_fault l ≡ Err f
refused l f e = ap (λ o. unless o (frame_of l)) e

-- an extent that has a width and a height
pub full_spans : (b : Bool) (a d x y : ℤ) (f : FrameFault) → ◌≡◌ {A = Result (ℤ × ℤ) FrameFault} (Ok (a, d)) (if b then Err f else Ok (x, y)) → (b ≡ false) × (a ≡ x) × (d ≡ y)
full_spans true a d x y f e = absurd cc
full_spans false a d x y f e =
    let pair : ◌≡◌ {A = ℤ × ℤ} (a, d) (x, y) = cc in
    (refl, ap (λ (p : ℤ × ℤ). p.0) pair, ap (λ (p : ℤ × ℤ). p.1) pair)

pub by_size : (e : Extent) (ncols nrows : ℕ) (left lower width height : ℤ) → left ≡ e.xmin → lower ≡ e.ymax -ℤ pos nrows *ℤ height
    → width ≡ round_half_away (e.xmax -ℤ e.xmin) ncols → height ≡ round_half_away (e.ymax -ℤ e.ymin) nrows
    → record { ncols = ncols; nrows = nrows; left = left; lower = lower; width = width; height = height } ≡ layout_by_size e ncols nrows
by_size e ncols nrows left lower width height a b c d = let h : lower ≡ e.ymax -ℤ pos nrows *ℤ round_half_away (e.ymax -ℤ e.ymin) nrows = b ∙ ap (λ z. e.ymax -ℤ pos nrows *ℤ z) d in cc

pub by_cell : (e : Extent) (ncols nrows : ℕ) (left lower width height xres yres : ℤ) → ncols ≡ steps_in (e.xmax -ℤ e.xmin) xres → nrows ≡ steps_in (e.ymax -ℤ e.ymin) yres
    → left ≡ e.xmin → lower ≡ e.ymax -ℤ pos nrows *ℤ height → width ≡ xres → height ≡ yres
    → record { ncols = ncols; nrows = nrows; left = left; lower = lower; width = width; height = height } ≡ layout_by_cell e xres yres
by_cell e ncols nrows left lower width height xres yres m n a b c d =
    let h : lower ≡ e.ymax -ℤ pos (steps_in (e.ymax -ℤ e.ymin) yres) *ℤ yres = b ∙ ap (λ k. e.ymax -ℤ pos k *ℤ height) n ∙ ap (λ z. e.ymax -ℤ pos (steps_in (e.ymax -ℤ e.ymin) yres) *ℤ z) d in
    cc

within : (z : ℤ) → IsCoord z → is_coord z ≡ true
within z h = grind (arith, ints, h.low, h.high)

-- the numbers of a frame are accepted
pub frame_accepted : (f : Frame) → IsFrame f → frame_or_fault (layout_of f) ≡ Ok f
frame_accepted f is =
    let l : Layout = layout_of f in
    let counts : IsGridSize f.ncols f.nrows = record { some_cols = is.some_cols; some_rows = is.some_rows; few_cells = is.few_cells } in
    let a = within f.cell is.size in
    let b = within f.xll is.left in
    let c = within f.yll is.lower in
    let d = within (right_edge l) is.right in
    let e = within (upper_edge l) is.upper in
    let near : is_too_far l ≡ false = rw (a, b, c, d, e) refl in
    good l (good_counts l counts) (not_flat l is.some_size is.some_size) (not_oblong l refl) near
