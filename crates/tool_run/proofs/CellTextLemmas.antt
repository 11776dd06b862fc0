-- The text of cells by their units.
use Rattle.std.proofs.Common.{◌≡◌, ◌∙◌, ◌++◌, ◌<◌, ℕ, ℤ, List, [], ◌∷◌, Option, Some, None, length, get_or, map, refl, ap, pos, arith}
use Rattle.std.specs.Prelude.{option_map, slice_get, unwrap_or}
use Rattle.std.specs.List.{flat_map, join_with_byte, range_with_len}
use Rattle.std.proofs.lemmas.List.{get_or-map, length-map}
use Rattle.std.proofs.lemmas.List.FromFn.{fill_by_all}
use Rattle.std.proofs.lemmas.Option.{get_or_from_slice_get, unwrap_or-slice_get}
use Rattle.cell_base.specs.Clamped.{clamped}
use Rattle.cell_base.specs.declared.kind.CellKind.{CellKind}
use Rattle.cell_base.specs.Raster.{Place, Raster}
use Rattle.geo_transform.specs.declared.frame.Frame.{Frame}
use Rattle.asc_grid.specs.Canonical.{canonical_text, header_text, row_text, spelled}
use Rattle.burn_scanline.specs.Burned.{HoldsValues}
use Rattle.tool_outcome.specs.Rasterize.{held, least_of, raster_by}
use Rattle.tool_run.specs.Inner.Strokes.{IsKind}
use Rattle.tool_outcome.specs.Source.{text_of}
use Rattle.cell_base.proofs.PlaceLemmas.{element_at}

map_fused : {A B C : Type 0} (g : B → C) (h : A → B) (xs : List A) → map (λ x. g (h x)) xs ≡ map g (map h xs)
map_fused g h [] = refl
map_fused {A} {B} {C} g h (x ∷ xs) = ap (λ (ys : List C). g (h x) ∷ ys) (map_fused g h xs)

-- rows by the units of their cells
rows_text : {T : Type 0} (units_of : T → ℤ) (rows : List (List T)) → flat_map (row_text (spelled units_of 0)) rows ≡ flat_map (row_text (spelled (λ n. n) 0)) (map (map units_of) rows)
rows_text units_of [] = refl
rows_text units_of (row ∷ rows) =
    ap (λ (cells : List (List ℕ)). (join_with_byte 32 cells ++ 10 ∷ []) ++ flat_map (row_text (spelled units_of 0)) rows) (map_fused (spelled (λ n. n) 0) units_of row)
    ∙ ap (λ (text : List ℕ). row_text (spelled (λ n. n) 0) (map units_of row) ++ text) (rows_text units_of rows)

cell_units : {T : Type 0} (units_of : T → ℤ) (frame : Frame) (at : Place → ℤ) (cells : Raster T) → HoldsValues units_of frame at cells → (r c : ℕ) (values : List T) → unwrap_or (slice_get cells.rows r) [] ≡ values → c < length values → get_or (map units_of values) c (pos 0) ≡ at (r, c)
cell_units {T} units_of frame at cells holds r c values is within =
    let there = element_at values c within in
    get_or-map units_of values c there.0 (pos 0) within
    ∙ ap units_of (get_or_from_slice_get values c there.0 there.0 there.1)
    ∙ holds.values (r, c) there.0 (ap (λ (row : List T). slice_get row c) is ∙ there.1)

-- the units of a grid's rows
rows_units : {T : Type 0} (units_of : T → ℤ) (frame : Frame) (at : Place → ℤ) (cells : Raster T) → HoldsValues units_of frame at cells → map (map units_of) cells.rows ≡ (raster_by frame.ncols frame.nrows at).rows
rows_units {T} units_of frame at cells holds =
    let row : ℕ → List ℤ = λ r. map (λ c. at (r, c)) (range_with_len 0 frame.ncols) in
    let high : length cells.rows ≡ frame.nrows = holds.shape.height ∙ holds.nrows in
    fill_by_all row (map (map units_of) cells.rows) frame.nrows [] (length-map cells.rows (map units_of) ∙ high) (λ r in_rows.
    let within : r < length cells.rows = omega (arith, in_rows, high) in
    let values : List T = get_or cells.rows r [] in
    let wide : length values ≡ frame.ncols = holds.shape.width r [] within ∙ holds.ncols in
    get_or-map (map units_of) cells.rows r [] [] within
    ∙ fill_by_all (λ c. at (r, c)) (map units_of values) frame.ncols (pos 0) (length-map values units_of ∙ wide) (λ c in_cols. cell_units units_of frame at cells holds r c values (unwrap_or-slice_get cells.rows r []) (omega (arith, in_cols, wide))))

-- the header by the units of the nodata value
header_units : {T : Type 0} (units_of : T → ℤ) (frame : Frame) (nodata : Option T) (cells : Raster T) (units : Raster ℤ) → header_text (spelled units_of 0) (record { frame = frame; nodata = nodata; cells = cells }) ≡ header_text (spelled (λ n. n) 0) (record { frame = frame; nodata = option_map units_of nodata; cells = units })
unfolding header_text
header_units units_of frame None cells units = refl
header_units units_of frame (Some value) cells units = refl

-- a value held by the type that is asked for
pub held_by : (least greatest : ℤ) (places : ℕ) (kind : CellKind) (value : Option ℤ) → IsKind least greatest places kind → option_map (clamped least greatest) value ≡ option_map (held kind) value
held_by least greatest places kind value is =
    ap (λ (l : ℤ). option_map (clamped l greatest) value) is.low
    ∙ ap (λ (h : ℤ). option_map (clamped (least_of kind) h) value) is.high

-- the text of a grid whose cells hold these values
pub text_is : {T : Type 0} (units_of : T → ℤ) (places : ℕ) (frame : Frame) (nodata : Option T) (value : Option ℤ) (at : Place → ℤ) (cells : Raster T) → places ≡ 0 → option_map units_of nodata ≡ value → HoldsValues units_of frame at cells → canonical_text (spelled units_of places) (record { frame = frame; nodata = nodata; cells = cells }) ≡ text_of (record { frame = frame; nodata = value; cells = raster_by frame.ncols frame.nrows at })
text_is {T} units_of places frame nodata value at cells whole is holds =
    let units : Raster ℤ = raster_by frame.ncols frame.nrows at in
    ap (λ (n : ℕ). canonical_text (spelled units_of n) (record { frame = frame; nodata = nodata; cells = cells })) whole
    ∙ ap (λ (text : List ℕ). text ++ flat_map (row_text (spelled units_of 0)) cells.rows) (header_units units_of frame nodata cells units)
    ∙ ap (λ (text : List ℕ). header_text (spelled (λ n. n) 0) (record { frame = frame; nodata = option_map units_of nodata; cells = units }) ++ text) (rows_text units_of cells.rows ∙ ap (flat_map (row_text (spelled (λ n. n) 0))) (rows_units units_of frame at cells holds))
    ∙ ap (λ (v : Option ℤ). text_of (record { frame = frame; nodata = v; cells = units })) is
