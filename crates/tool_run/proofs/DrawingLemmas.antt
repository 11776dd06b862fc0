-- The rows of contour lines, one by one.
use Rattle.std.proofs.Common.{◌≡◌, ◌∙◌, ◌≤◌, ◌+◌, ◌-◌, ◌*◌, ◌++◌, ◌∷◌, [], inl, inr, ℕ, ℤ, suc, Bool, true, false, if◌then◌else◌, List, Option, Some, All, length, map, drop, ap, refl, sym, subst, arith, append_assoc}
use Rattle.std.specs.Prelude.{slice_get}
use Rattle.std.specs.List.{cons_option, filter_map, flat_map}
use Rattle.std.proofs.lemmas.List.{length-append}
use Rattle.std.proofs.lemmas.List.Elements.{All-head, All-tail}
use Rattle.cell_base.specs.Raster.{Place, Raster, most_cells}
use Rattle.asc_grid.specs.declared.grid.Asc.{Asc}
use Rattle.geo_transform.specs.declared.frame.Frame.{Frame}
use Rattle.region_label.proofs.CountLaws.{no_longer}
use Rattle.contour_segments.specs.Segments.{has_corners, is_high, is_joined, lattice_of, segments_in, segments_of, segments_on, sides_of}
use Rattle.contour_segments.specs.declared.side.Side.{Side}
use Rattle.contour_segments.specs.declared.segment.Segment.{Segment}
use Rattle.contour_segments.proofs.MemberLemmas.{all_of}
use Rattle.contour_segments.proofs.PlaceLemmas.{fewer, places_long}
use Rattle.contour_chain.specs.Contours.{AreContours, ends_of}
use Rattle.contour_chain.specs.Lines.{IsLine}
use Rattle.contour_chain.specs.Points.{IsContourLine, line_through, points_along}
use Rattle.contour_chain.proofs.ChainLemmas.{one_list_of_contours}
use Rattle.std.proofs.lemmas.Bool.{cases_lt}
use Rattle.std.proofs.lemmas.Option.{none-some, same_Some}
use Rattle.wkt_text.specs.Geometry.{IsWritable}
use Rattle.wkt_text.specs.declared.geometry.Pt.{Pt}
use Rattle.wkt_text.specs.declared.geometry.Geometry.{Geometry}
use Rattle.wkt_text.specs.declared.geometry.Geometry.TheVariants.{LineString}
use Rattle.tool_run.specs.declared.drawing.Drawing.{Drawing}
use Rattle.tool_run.specs.declared.drawing.Progress.{Progress}
use Rattle.ogr_csv.specs.Rows.{line_of, text_of_rows}
use Rattle.tool_outcome.specs.Contour.{drawn_of, row_of, rows_from}
use Rattle.tool_run.specs.Inner.Contours.{IsProgress, contours_of, drawn_at, most_lines}
use Rattle.tool_run.specs.Inner.Steps.{IsOverFrame}
use Rattle.tool_run.proofs.LayerLemmas.{all_at, drop_at, drop_past}
use Rattle.tool_words.specs.Words.{Text}

-- the lines of a level

pub are_contours : (cells : Raster ℤ) (valid : Raster Bool) (level : ℤ) → AreContours (segments_of cells valid level) (contours_of cells valid level)
unfolding contours_of
are_contours cells valid level = (one_list_of_contours cells valid level).1.0

pub is_contours : (cells : Raster ℤ) (valid : Raster Bool) (level : ℤ) (lines : List (List Segment)) → AreContours (segments_of cells valid level) lines → lines ≡ contours_of cells valid level
unfolding contours_of
is_contours cells valid level lines are = (one_list_of_contours cells valid level).1.1 lines are

pub each_is_line : (cells : Raster ℤ) (valid : Raster Bool) (level : ℤ) (lines : List (List Segment)) → AreContours (segments_of cells valid level) lines → All (IsContourLine cells level) lines
each_is_line cells valid level lines are = all_of (IsContourLine cells level) lines (λ line has. record { valid = valid; lines = lines; are = are; has = has })

-- how many they are

few_sides : (nw ne se sw joined : Bool) → length (sides_of nw ne se sw joined) ≤ 2
few_sides false false false false joined = omega arith
few_sides false false false true joined = omega arith
few_sides false false true false joined = omega arith
few_sides false false true true joined = omega arith
few_sides false true false false joined = omega arith
few_sides false true false true false = omega arith
few_sides false true false true true = omega arith
few_sides false true true false joined = omega arith
few_sides false true true true joined = omega arith
few_sides true false false false joined = omega arith
few_sides true false false true joined = omega arith
few_sides true false true false false = omega arith
few_sides true false true false true = omega arith
few_sides true false true true joined = omega arith
few_sides true true false false joined = omega arith
few_sides true true false true joined = omega arith
few_sides true true true false joined = omega arith
few_sides true true true true joined = omega arith

as_many : (place : Place) (turn : ℕ) (sides : List (Side × Side)) → length (segments_on place turn sides) ≡ length sides
as_many place turn [] = refl
as_many place turn (side ∷ sides) = ap suc (as_many place (turn + 1) sides)

if_few : (b : Bool) (xs : List Segment) → length xs ≤ 2 → length (if b then xs else []) ≤ 2
if_few true xs few = few
if_few false xs few = omega arith

two_in : (cells : Raster ℤ) (valid : Raster Bool) (level : ℤ) (place : Place) → length (segments_in cells valid level place) ≤ 2
two_in cells valid level (r, c) =
    let high = is_high cells level in
    let sides = sides_of (high (r, c)) (high (r, c + 1)) (high (r + 1, c + 1)) (high (r + 1, c)) (is_joined cells level (r, c)) in
    if_few (has_corners valid (r, c)) (segments_on (r, c) 0 sides) (omega (arith, as_many (r, c) 0 sides, few_sides (high (r, c)) (high (r, c + 1)) (high (r + 1, c + 1)) (high (r + 1, c)) (is_joined cells level (r, c))))

two_each : (cells : Raster ℤ) (valid : Raster Bool) (level : ℤ) (places : List Place) → length (flat_map (segments_in cells valid level) places) ≤ 2 * length places
two_each cells valid level [] = omega arith
two_each cells valid level (p ∷ ps) =
    let here : List Segment = segments_in cells valid level p in
    omega (arith, length-append here (flat_map (segments_in cells valid level) ps), two_in cells valid level p, two_each cells valid level ps)

few_segments : (cells : Raster ℤ) (valid : Raster Bool) (level : ℤ) → cells.ncols * cells.nrows ≤ most_cells → length (segments_of cells valid level) ≤ most_lines
few_segments cells valid level small =
    let places = lattice_of cells in
    let long : length places ≡ (cells.nrows - 1) * (cells.ncols - 1) = places_long (cells.nrows - 1) (cells.ncols - 1) in
    let less = fewer cells.ncols cells.nrows (cells.nrows - 1) (cells.ncols - 1) (omega arith) (omega arith) in
    omega (arith, two_each cells valid level places, long, less, small)

some_each : {A P : Type 0} (ends : A → P × P) (lines : List (List A)) → All (IsLine ends) lines → length lines ≤ length (flat_map (λ line. line) lines)
some_each ends [] runs = omega arith
some_each ends ([] ∷ lines) runs = absurd (All-head (IsLine ends) [] lines runs)
some_each ends ((s ∷ ss) ∷ lines) runs =
    omega (arith, length-append (s ∷ ss) (flat_map (λ line. line) lines), some_each ends lines (All-tail (IsLine ends) (s ∷ ss) lines runs))

pub few_lines : (cells : Raster ℤ) (valid : Raster Bool) (level : ℤ) (lines : List (List Segment)) → cells.ncols * cells.nrows ≤ most_cells → AreContours (segments_of cells valid level) lines → length lines ≤ most_lines
few_lines cells valid level lines small are =
    let members : List Segment = flat_map (λ line. line) lines in
    let within = no_longer members (segments_of cells valid level) are.once (λ s member. (are.all s).0 member) in
    omega (arith, some_each ends_of lines are.runs, within, few_segments cells valid level small)

pub few_cells : (asc : Asc ℤ) → IsOverFrame asc → asc.cells.ncols * asc.cells.nrows ≤ most_cells
few_cells asc over = rw (over.ncols, over.nrows) over.frame.few_cells

-- a row more

pub row_next : (field : Option Text) (id : ℕ) (drawn : ℤ × Geometry) (more : List (ℤ × Geometry)) (before after : List ℕ) → after ≡ before ++ line_of (row_of field id drawn)
    → before ++ text_of_rows (rows_from field id (drawn ∷ more)) ≡ after ++ text_of_rows (rows_from field (id + 1) more)
row_next field id drawn more before after is =
    let line : List ℕ = line_of (row_of field id drawn) in
    let next : suc id ≡ id + 1 = omega arith in
    ap (λ (n : ℕ). before ++ (line ++ text_of_rows (rows_from field n more))) next
    ∙ sym (append_assoc before line (text_of_rows (rows_from field (id + 1) more)))
    ∙ ap (λ text. text ++ text_of_rows (rows_from field (id + 1) more)) (sym is)

-- the next line is drawn, or left out

abbrev pub shape_of : Frame → Raster ℤ → ℤ → List Segment → Option Geometry
shape_of frame cells level line = line_through (points_along frame cells level line)

abbrev pub at_level : ℤ → List Geometry → List (ℤ × Geometry)
at_level level shapes = map (λ shape. (level, shape)) shapes

pub drawn_next : (frame : Frame) (cells : Raster ℤ) (level : ℤ) (lines : List (List Segment)) (i : ℕ) (line : List Segment) (shape : Option Geometry) → slice_get lines i ≡ Some line → shape ≡ shape_of frame cells level line
    → drawn_of frame cells level (drop i lines) ≡ at_level level (cons_option shape (filter_map (shape_of frame cells level) (drop (i + 1) lines)))
drawn_next frame cells level lines i line shape at is =
    ap (drawn_of frame cells level) (drop_at lines i line at)
    ∙ ap (λ o. at_level level (cons_option o (filter_map (shape_of frame cells level) (drop (i + 1) lines)))) (sym is)

-- the next level is begun

pub left_begun : (asc : Asc ℤ) (valid : Raster Bool) (levels : List ℤ) (before level : ℤ) (old new : List (List Segment)) (next begun : ℕ) → next ≡ length old → slice_get levels begun ≡ Some level → new ≡ contours_of asc.cells valid level
    → drawn_of asc.frame asc.cells before (drop next old) ++ flat_map (drawn_at asc valid) (drop begun levels) ≡ drawn_of asc.frame asc.cells level (drop 0 new) ++ flat_map (drawn_at asc valid) (drop (begun + 1) levels)
left_begun asc valid levels before level old new next begun all at is =
    let past : drop next old ≡ [] = drop_past old next (omega (arith, all)) in
    let rest : List (ℤ × Geometry) = flat_map (drawn_at asc valid) (drop (begun + 1) levels) in
    ap (λ (lines : List (List Segment)). drawn_of asc.frame asc.cells before lines ++ flat_map (drawn_at asc valid) (drop begun levels)) past
    ∙ ap (flat_map (drawn_at asc valid)) (drop_at levels begun level at)
    ∙ ap (λ (lines : List (List Segment)). drawn_of asc.frame asc.cells level lines ++ rest) (sym is)

-- nothing is left

pub none_left : (asc : Asc ℤ) (valid : Raster Bool) (levels : List ℤ) (level : ℤ) (lines : List (List Segment)) (next begun : ℕ) → length lines ≤ next → length levels ≤ begun
    → drawn_of asc.frame asc.cells level (drop next lines) ++ flat_map (drawn_at asc valid) (drop begun levels) ≡ []
none_left asc valid levels level lines next begun one two =
    ap (λ (lines : List (List Segment)). drawn_of asc.frame asc.cells level lines ++ flat_map (drawn_at asc valid) (drop begun levels)) (drop_past lines next one)
    ∙ ap (flat_map (drawn_at asc valid)) (drop_past levels begun two)

-- the next line is one of the level
pub line_at : (drawing : Drawing) (at : Progress) (line : List Segment) → IsProgress drawing at → slice_get at.lines at.next ≡ Some line → IsContourLine drawing.asc.now.cells at.level line
line_at drawing at line is stands = elim (cases_lt 0 at.begun) [
  | inl begun ↦
      let cells = drawing.asc.now.cells in
      let valid = drawing.table.valid in
      let each = subst (All (IsContourLine cells at.level)) (sym (is.lines begun)) (each_is_line cells valid at.level (contours_of cells valid at.level) (are_contours cells valid at.level)) in
      all_at (IsContourLine cells at.level) at.lines at.next line stands each
  | inr none ↦ absurd (none-some line (ap (λ (lines : List (List Segment)). slice_get lines at.next) (sym (is.none (omega (arith, none)))) ∙ stands))
]

-- a line through points can be written
pub writable : (points : List Pt) (shape : Geometry) → Some shape ≡ line_through points → IsWritable shape
writable [] shape is = absurd (none-some shape (sym is))
writable (p ∷ []) shape is = absurd (none-some shape (sym is))
writable (p ∷ q ∷ ps) shape is = subst IsWritable (sym (same_Some shape (LineString (p ∷ q ∷ ps)) is)) tt
