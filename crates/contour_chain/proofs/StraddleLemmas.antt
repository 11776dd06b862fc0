-- Each crossing of a segment lies between a low and a high centre of the grid.
use Rattle.std.proofs.Common.{◌≡◌, ◌≢◌, ℕ, ℤ, ◌+◌, ◌-◌, ◌<◌, List, [], ◌∷◌, Bool, true, false, not, refl, sym, ap, ◌∙◌, subst, arith}
use Rattle.std.specs.Prelude.{◌&&◌, Contains, map}
use Rattle.std.specs.List.{range_with_len}
use Rattle.std.proofs.lemmas.Bool.{and_parts, false≢true}
use Rattle.std.proofs.lemmas.List.Elements.{All-contains}
use Rattle.cell_base.specs.Raster.{Place, Raster}
use Rattle.cell_base.proofs.ListDeciders.{each_by}
use Rattle.contour_segments.specs.Segments.{cross_on, has_corners, is_high, is_joined, places_of, segments_in, segments_of, segments_on, sides_of}
use Rattle.contour_segments.specs.declared.segment.Cross.{Cross}
use Rattle.contour_segments.specs.declared.segment.Segment.{Segment}
use Rattle.contour_segments.specs.declared.side.Side.{Side}
use Rattle.contour_segments.specs.declared.side.Side.TheVariants.{Top, Right, Bottom, Left}
use Rattle.contour_segments.proofs.MemberLemmas.{in_flat, of_flat, of_map, of_range}
use Rattle.contour_segments.proofs.CrossingLemmas.{if_in, joins, not_true_is}
use Rattle.contour_segments.proofs.SideLemmas.{in_left, in_right, is_right, sides_right}
use Rattle.contour_chain.specs.Contours.{ends_of}
use Rattle.contour_chain.specs.Lines.{IsLine}
use Rattle.contour_chain.specs.Points.{IsContourLine, far_end, near_end}
use Rattle.contour_chain.specs.Inner.Crossings.{Straddles}

-- the two corners of a side, as the centres of its crossing
side_differs : (high : Place → Bool) (r c : ℕ) (s : Side) → in_right s (high (r, c)) (high (r, c + 1)) (high (r + 1, c + 1)) (high (r + 1, c)) ≢ in_left s (high (r, c)) (high (r, c + 1)) (high (r + 1, c + 1)) (high (r + 1, c)) → high (near_end (cross_on (r, c) s)) ≢ high (far_end (cross_on (r, c) s))
side_differs high r c Top other = other
side_differs high r c Right other = other
side_differs high r c Bottom other = λ same. other (sym same)
side_differs high r c Left other = λ same. other (sym same)

-- the centres of a side are inside
record AreInside (nrows ncols : ℕ) (x : Cross) : Type 0 where
  near : ((near_end x).0 < nrows) × ((near_end x).1 < ncols)
  far : ((far_end x).0 < nrows) × ((far_end x).1 < ncols)

side_inside : (nrows ncols r c : ℕ) (s : Side) → r + 1 < nrows → c + 1 < ncols → AreInside nrows ncols (cross_on (r, c) s)
side_inside nrows ncols r c Top in_row in_col = record { near = (omega arith, omega arith); far = (omega arith, omega arith) }
side_inside nrows ncols r c Right in_row in_col = record { near = (omega arith, omega arith); far = (omega arith, omega arith) }
side_inside nrows ncols r c Bottom in_row in_col = record { near = (omega arith, omega arith); far = (omega arith, omega arith) }
side_inside nrows ncols r c Left in_row in_col = record { near = (omega arith, omega arith); far = (omega arith, omega arith) }

apart_bools : (a b : Bool) → a ≡ true → b ≡ false → a ≢ b
apart_bools a b is_a is_b same = false≢true (sym is_b ∙ sym same ∙ is_a)

side_straddles : (cells : Raster ℤ) (level : ℤ) (r c : ℕ) (s : Side) (x : Cross) → x ≡ cross_on (r, c) s → r + 1 < cells.nrows → c + 1 < cells.ncols → in_right s (is_high cells level (r, c)) (is_high cells level (r, c + 1)) (is_high cells level (r + 1, c + 1)) (is_high cells level (r + 1, c)) ≢ in_left s (is_high cells level (r, c)) (is_high cells level (r, c + 1)) (is_high cells level (r + 1, c + 1)) (is_high cells level (r + 1, c)) → Straddles cells level x
side_straddles cells level r c s x is in_row in_col other =
    let inside = side_inside cells.nrows cells.ncols r c s in_row in_col in
    subst (λ (y : Cross). Straddles cells level y) (sym is) (record { near = inside.near; far = inside.far; differs = side_differs (is_high cells level) r c s other })

place_within : (nrows ncols : ℕ) (p : Place) → Contains (places_of nrows ncols) p → (p.0 < nrows) × (p.1 < ncols)
place_within nrows ncols p member =
    let row = of_flat (λ r. map (λ c. (r, c)) (range_with_len 0 ncols)) (range_with_len 0 nrows) p member in
    let col = of_map (λ c. (row.0, c)) (range_with_len 0 ncols) p row.2 in
    let at_row : row.0 ≡ p.0 = ap (λ (q : Place). q.0) col.2 in
    let at_col : col.0 ≡ p.1 = ap (λ (q : Place). q.1) col.2 in
    let in_row = (of_range 0 nrows row.0 row.1).1 in
    let in_col = (of_range 0 ncols col.0 col.1).1 in
    (omega (arith, at_row, in_row), omega (arith, at_col, in_col))

cell_straddles : (cells : Raster ℤ) (valid : Raster Bool) (level : ℤ) (p : Place) (s : Segment) → p.0 + 1 < cells.nrows → p.1 + 1 < cells.ncols → Contains (segments_in cells valid level p) s → Straddles cells level s.from × Straddles cells level s.to
cell_straddles cells valid level (r, c) s in_row in_col member =
    let high = is_high cells level in
    let nw = high (r, c) in
    let ne = high (r, c + 1) in
    let se = high (r + 1, c + 1) in
    let sw = high (r + 1, c) in
    let sides = sides_of nw ne se sw (is_joined cells level (r, c)) in
    let found = joins (r, c) 0 sides s (if_in (has_corners valid (r, c)) (segments_on (r, c) 0 sides) s member) in
    let told = each_by (is_right nw ne se sw) sides found.pair (sides_right nw ne se sw (is_joined cells level (r, c))) found.has in
    let parts = and_parts (in_right found.pair.0 nw ne se sw && not (in_left found.pair.0 nw ne se sw)) (in_left found.pair.1 nw ne se sw && not (in_right found.pair.1 nw ne se sw)) told in
    let one = and_parts (in_right found.pair.0 nw ne se sw) (not (in_left found.pair.0 nw ne se sw)) parts.0 in
    let two = and_parts (in_left found.pair.1 nw ne se sw) (not (in_right found.pair.1 nw ne se sw)) parts.1 in (
      side_straddles cells level r c found.pair.0 s.from found.from in_row in_col (apart_bools _ _ one.0 (not_true_is _ one.1)),
      side_straddles cells level r c found.pair.1 s.to found.to in_row in_col (λ same. apart_bools _ _ two.0 (not_true_is _ two.1) (sym same)),
    )

-- each crossing of a segment of a level
pub straddles : (cells : Raster ℤ) (valid : Raster Bool) (level : ℤ) (s : Segment) → Contains (segments_of cells valid level) s → Straddles cells level s.from × Straddles cells level s.to
straddles cells valid level s member =
    let found = of_flat (segments_in cells valid level) (places_of (cells.nrows - 1) (cells.ncols - 1)) s member in
    let at = place_within (cells.nrows - 1) (cells.ncols - 1) found.0 found.1 in
    cell_straddles cells valid level found.0 s (omega (arith, at.0)) (omega (arith, at.1)) found.2

-- so do those of a contour line, which has a segment
pub line_straddles : (cells : Raster ℤ) (level : ℤ) (line : List Segment) → IsContourLine cells level line → (s : Segment) → Contains line s → Straddles cells level s.from × Straddles cells level s.to
line_straddles cells level line is s has = straddles cells is.valid level s ((is.are.all s).0 (in_flat (λ (g : List Segment). g) is.lines line s is.has has))

pub some_segment : (cells : Raster ℤ) (level : ℤ) (line : List Segment) → IsContourLine cells level line → (s : Segment) × (ss : List Segment) × (line ≡ s ∷ ss)
some_segment cells level line is = first line (All-contains (IsLine ends_of) is.lines line is.are.runs is.has)
  where
    first : (xs : List Segment) → IsLine ends_of xs → (s : Segment) × (ss : List Segment) × (xs ≡ s ∷ ss)
    first [] run = absurd run
    first (s ∷ ss) run = (s, ss, refl)
