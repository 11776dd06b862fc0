-- The rows of a layer, one by one.
use Rattle.std.proofs.Common.{◌≡◌, ◌≢◌, ◌∙◌, ◌<◌, ◌≤◌, ◌+◌, ◌^◌, ◌++◌, ◌∷◌, [], ℕ, ℤ, Bool, zero, suc, List, Option, Some, None, All, length, map, take, drop, get_or, ap, refl, sym, subst, arith, append_assoc}
use Rattle.std.specs.Prelude.{slice_get, option_map, unwrap_or}
use Rattle.std.specs.List.{flat_map, zip}
use Rattle.std.proofs.lemmas.Grind.{common_steps}
use Rattle.std.proofs.lemmas.List.{length-map, map-append}
use Rattle.std.proofs.lemmas.List.FromFn.{length-map-range_with_len}
use Rattle.std.proofs.lemmas.List.Elements.{All-from_get_or, All-get_or}
use Rattle.std.proofs.lemmas.Option.{gets, get_or_from_slice_get, none-some, same_Some, slice_get-get_or, slice_get-map, slice_get_within, unwrap_or-slice_get}
use Rattle.cell_base.specs.Raster.{Raster}
use Rattle.cell_base.specs.Steps.{eight, four}
use Rattle.geo_transform.specs.declared.frame.Frame.{Frame}
use Rattle.asc_grid.specs.declared.grid.Asc.{Asc}
use Rattle.region_label.specs.Labelling.{IsLabelling, RegionTable}
use Rattle.region_parts.specs.Parts.{items_in, parts_of}
use Rattle.region_parts.proofs.PickLemmas.{all_picked, each_alone, maps_by, parts_below}
use Rattle.ring_faces.specs.LatticePolygon.{Polygon, rings_of}
use Rattle.ring_faces.specs.Ring.{Ring}
use Rattle.ring_faces.specs.Faces.{ArePolygonsOf, FitsGrid}
use Rattle.ring_faces.proofs.FitLemmas.{fits_grid}
use Rattle.ogr_csv.specs.Rows.{line_of}
use Rattle.tool_outcome.specs.Polygonize.{paths_of, row_of, shape_of, value_of}
use Rattle.wkt_text.specs.declared.geometry.Geometry.TheVariants as geometry
use Rattle.tool_run.specs.Inner.Layer.{HasShape, components_in, part_shape, parts_shape, rows_left}
use Rattle.tool_run.specs.Inner.Rows.{AreAmong, AreComponents, AreRowsOver, AreTraced, polygon_at, shapes_of}
use Rattle.tool_outcome.specs.Sieve.{IsMaskOf}
use Rattle.tool_run.specs.Inner.Steps.{IsOverFrame}
use Rattle.tool_run.specs.declared.polygons.Layer.{Layer}
use Rattle.tool_words.specs.Words.{Text}

-- a fact of all members is one of each
pub all_at : {A : Type 0} (P : A → Type 0) (xs : List A) (i : ℕ) (x : A) → slice_get xs i ≡ Some x → All P xs → P x
all_at P xs i x is all = subst P (get_or_from_slice_get xs i x x is) (All-get_or P xs i x (slice_get_within xs i x is) all)

-- the member that a slice has at an index
pub some_at : {A : Type 0} (xs : List A) (i : ℕ) (d : A) → i < length xs → slice_get xs i ≡ Some (get_or xs i d)
some_at xs i d inside = grind (arith, common_steps, gets, inside)

pub slice_at : {A B : Type 0} (f : A → B) (xs : List A) (ys : List B) (i : ℕ) (d : A) → map f xs ≡ ys → i < length xs → slice_get ys i ≡ Some (f (get_or xs i d))
slice_at f xs ys i d is inside = ap (λ l. slice_get l i) (sym is) ∙ slice_get-map f xs i ∙ ap (option_map f) (some_at xs i d inside)

-- one member more
pub take_more : {A : Type 0} (xs : List A) (i : ℕ) (x : A) → slice_get xs i ≡ Some x → take (i + 1) xs ≡ take i xs ++ x ∷ []
take_more xs i x is = grind (arith, common_steps, gets, is)

pub map_more : {A B : Type 0} (f : A → B) (xs : List A) (i : ℕ) (x : A) → slice_get xs i ≡ Some x → map f (take (i + 1) xs) ≡ map f (take i xs) ++ f x ∷ []
map_more f xs i x is = ap (map f) (take_more xs i x is) ∙ map-append f (take i xs) (x ∷ [])

-- a member, and the members behind it
pub drop_at : {A : Type 0} (xs : List A) (i : ℕ) (x : A) → slice_get xs i ≡ Some x → drop i xs ≡ x ∷ drop (i + 1) xs
drop_at [] i x is = absurd (none-some x is)
drop_at (y ∷ ys) zero x is = ap (λ z. z ∷ ys) (same_Some y x is)
drop_at (y ∷ ys) (suc i) x is =
    let next : suc (i + 1) ≡ suc i + 1 = omega arith in
    drop_at ys i x is ∙ ap (λ n. x ∷ drop n (y ∷ ys)) next

pub zip_at : {A B : Type 0} (xs : List A) (ys : List B) (i : ℕ) (x : A) (y : B) → slice_get xs i ≡ Some x → slice_get ys i ≡ Some y → slice_get (zip xs ys) i ≡ Some (x, y)
zip_at [] ys i x y at_x at_y = absurd (none-some x at_x)
zip_at (a ∷ xs) [] i x y at_x at_y = absurd (none-some y at_y)
zip_at (a ∷ xs) (b ∷ ys) zero x y at_x at_y = ap (λ p. Some (p, b)) (same_Some a x at_x) ∙ ap (λ q. Some (x, q)) (same_Some b y at_y)
zip_at (a ∷ xs) (b ∷ ys) (suc i) x y at_x at_y = zip_at xs ys i x y at_x at_y

-- the text of rows from one on is its text and that of the rows behind it
pub row_and_rest : {A : Type 0} (row : A → List Text) (xs : List A) (i : ℕ) (x : A) (before : List ℕ) → slice_get xs i ≡ Some x
    → before ++ flat_map line_of (drop i (map row xs)) ≡ (before ++ line_of (row x)) ++ flat_map line_of (drop (i + 1) (map row xs))
row_and_rest row xs i x before is =
    let at : slice_get (map row xs) i ≡ Some (row x) = slice_get-map row xs i ∙ ap (option_map row) is in
    ap (λ rows. before ++ flat_map line_of rows) (drop_at (map row xs) i (row x) at)
    ∙ sym (append_assoc before (line_of (row x)) (flat_map line_of (drop (i + 1) (map row xs))))

-- the polygon of a number fits
pub fit_at : (frame : Frame) (polygons : List Polygon) (j : ℕ) → All (FitsGrid frame.nrows frame.ncols) polygons → j < length polygons → FitsGrid frame.nrows frame.ncols (polygon_at polygons j)
fit_at frame polygons j fit within =
    let none : Polygon = record { shell = []; holes = [] } in
    subst (FitsGrid frame.nrows frame.ncols) (sym (unwrap_or-slice_get polygons j none)) (All-get_or (FitsGrid frame.nrows frame.ncols) polygons j none within fit)

-- the rings of the polygon of a number
pub rings_at : (polygons : List Polygon) (j : ℕ) (rings : List Ring) → j < length polygons → option_map rings_of (slice_get polygons j) ≡ Some rings → rings ≡ rings_of (polygon_at polygons j)
rings_at polygons j rings within is =
    let none : Polygon = record { shell = []; holes = [] } in
    let at : slice_get polygons j ≡ Some (get_or polygons j none) = slice_get-get_or polygons j none within in
    let same = same_Some rings (rings_of (get_or polygons j none)) (sym is ∙ ap (option_map rings_of) at) in
    same ∙ ap (λ (polygon : Option Polygon). rings_of (unwrap_or polygon none)) (sym at)

-- the values and shapes of a grid's components fit its frame
pub rows_over : (connectivity : Bool) (asc : Asc ℤ) (valid : Raster Bool) (sides : RegionTable) (values : List ℤ) (parts : Option (List (List ℕ))) (polygons : List Polygon) → IsOverFrame asc → IsLabelling four asc.cells valid sides → ArePolygonsOf sides polygons → AreComponents connectivity asc.cells valid sides values parts → AreRowsOver asc.frame values parts polygons
rows_over connectivity asc valid sides values parts polygons over labelled are components =
    let rows : sides.numbers.nrows ≡ asc.frame.nrows = labelled.numbers.nrows ∙ over.nrows in
    let cols : sides.numbers.ncols ≡ asc.frame.ncols = labelled.numbers.ncols ∙ over.ncols in
    let none : Polygon = record { shell = []; holes = [] } in
    let fit : (i : ℕ) → i < length polygons → FitsGrid asc.frame.nrows asc.frame.ncols (get_or polygons i none) = λ i inside.
    subst (λ r. FitsGrid r asc.frame.ncols (get_or polygons i none)) rows (subst (λ c. FitsGrid sides.numbers.nrows c (get_or polygons i none)) cols (fits_grid sides i (get_or polygons i none) labelled.numbers.second ((are.each i (get_or polygons i none) (some_at polygons i none inside)).0))) in
    let regions = components.regions in
    let shapes = components.parts_are polygons are.count in
    let long : length values ≡ length regions.firsts = ap length components.values_are ∙ length-map regions.firsts (value_of asc.cells) in
    let drawn : length (shapes_of parts polygons) ≡ length regions.firsts = ap length shapes.0
    ∙ length-map-range_with_len (λ k. items_in regions k (zip sides.firsts polygons)) 0 (length regions.firsts) in
    record {
      over = over.frame;
      sized = long ∙ sym drawn;
      few = omega (arith, components.few, long);
      among = shapes.1;
      fit = All-from_get_or (FitsGrid asc.frame.nrows asc.frame.ncols) polygons none fit;
    }

-- the values and shapes are those of the grid
pub are_traced : (connectivity : Bool) (asc : Asc ℤ) (valid : Raster Bool) (sides : RegionTable) (values : List ℤ) (parts : Option (List (List ℕ))) (polygons : List Polygon) → IsMaskOf asc valid → IsLabelling four asc.cells valid sides → ArePolygonsOf sides polygons → AreComponents connectivity asc.cells valid sides values parts → AreTraced connectivity asc values parts polygons
are_traced connectivity asc valid sides values parts polygons mask labelled are components = record {
  valid = valid;
  sides = sides;
  regions = components.regions;
  mask = mask;
  by_sides = labelled;
  labelled = components.labelled;
  drawn = are;
  values_are = components.values_are;
  shapes_are = (components.parts_are polygons are.count).0;
}

-- under side steps each component is its own part
pub own_components : (cells : Raster ℤ) (valid : Raster Bool) (sides : RegionTable) (values : List ℤ) → IsLabelling four cells valid sides → values ≡ map (value_of cells) sides.firsts → length sides.firsts < 2 ^ 32 → AreComponents four cells valid sides values None
own_components cells valid sides values labelled values_are few = record {
  regions = sides;
  labelled = labelled;
  few = few;
  values_are = values_are;
  parts_are = λ polygons long. (each_alone four cells valid sides (record { shell = []; holes = [] }) polygons labelled long, λ lists is. absurd (none-some lists is));
}

-- under all steps they have parts
pub parted_components : (cells : Raster ℤ) (valid : Raster Bool) (sides regions : RegionTable) (values : List ℤ) (parts : List (List ℕ)) → IsLabelling eight cells valid regions → values ≡ map (value_of cells) regions.firsts → length regions.firsts < 2 ^ 32 → parts ≡ parts_of regions sides → AreComponents eight cells valid sides values (Some parts)
parted_components cells valid sides regions values parts labelled values_are few are = record {
  regions = regions;
  labelled = labelled;
  few = few;
  values_are = values_are;
  parts_are = λ polygons long. (
    ap (map (map (polygon_at polygons))) are ∙ all_picked regions sides (record { shell = []; holes = [] }) polygons long,
    λ lists is. subst (λ ps. All (All (λ j. j < length polygons)) ps) (sym are ∙ same_Some parts lists is) (parts_below regions sides (length polygons) long),
  );
}

-- behind the last row nothing is left

no_longer : {A B : Type 0} (xs : List A) (ys : List B) → length (zip xs ys) ≤ length xs
no_longer [] ys = omega arith
no_longer (x ∷ xs) [] = omega arith
no_longer (x ∷ xs) (y ∷ ys) = omega (arith, no_longer xs ys)

pub drop_past : {A : Type 0} (xs : List A) (n : ℕ) → length xs ≤ n → drop n xs ≡ []
drop_past xs n past = grind (arith, common_steps, past)

pub none_left : (layer : Layer) (next : ℕ) → length layer.values.items ≤ next → rows_left layer next ≡ []
none_left layer next past =
    let components = components_in layer in
    let long : length (map (row_of layer.frame) components) ≤ next = omega (arith, length-map components (row_of layer.frame), no_longer layer.values.items (shapes_of layer.parts layer.faces), past) in
    ap (flat_map line_of) (drop_past (map (row_of layer.frame) components) next long)

-- the shape of a component

pub own_number : (layer : Layer) (k : ℕ) → layer.parts ≡ None → length layer.values.items ≡ length (shapes_of layer.parts layer.faces) → k < length layer.values.items → k < length layer.faces
own_number layer k none sized within =
    let alone : shapes_of layer.parts layer.faces ≡ map (λ polygon. polygon ∷ []) layer.faces = ap (λ parts. shapes_of parts layer.faces) none in
    omega (arith, within, sized, ap length alone, length-map layer.faces (λ polygon. polygon ∷ []))

pub own_shape : (layer : Layer) (k : ℕ) → layer.parts ≡ None → length layer.values.items ≡ length (shapes_of layer.parts layer.faces) → k < length layer.values.items → HasShape layer k (part_shape layer k)
own_shape layer k none sized within =
    let alone : shapes_of layer.parts layer.faces ≡ map (λ polygon. polygon ∷ []) layer.faces = ap (λ parts. shapes_of parts layer.faces) none in
    let long = own_number layer k none sized within in
    let d : Polygon = record { shell = []; holes = [] } in
    let at : slice_get layer.faces k ≡ Some (polygon_at layer.faces k) = some_at layer.faces k d long ∙ ap Some (sym (unwrap_or-slice_get layer.faces k d)) in (
      polygon_at layer.faces k ∷ [],
      ap (λ shapes. slice_get shapes k) alone ∙ slice_get-map (λ polygon. polygon ∷ []) layer.faces k ∙ ap (option_map (λ polygon. polygon ∷ [])) at,
      refl,
    )

shapes_at : (layer : Layer) (k : ℕ) (lists : List (List ℕ)) (numbers : List ℕ) → layer.parts ≡ Some lists → slice_get lists k ≡ Some numbers → slice_get (shapes_of layer.parts layer.faces) k ≡ Some (map (polygon_at layer.faces) numbers)
shapes_at layer k lists numbers some at =
    ap (λ parts. slice_get (shapes_of parts layer.faces) k) some
    ∙ slice_get-map (map (polygon_at layer.faces)) lists k
    ∙ ap (option_map (map (polygon_at layer.faces))) at

one_number : (numbers : List ℕ) → length numbers ≡ 1 → numbers ≡ get_or numbers 0 0 ∷ []
one_number [] long = absurd (omega (arith, long))
one_number (j ∷ []) long = refl
one_number (j ∷ i ∷ numbers) long = absurd (omega (arith, long))

pub one_shape : (layer : Layer) (k j : ℕ) (lists : List (List ℕ)) (numbers : List ℕ) → layer.parts ≡ Some lists → slice_get lists k ≡ Some numbers → length numbers ≡ 1 → j ≡ get_or numbers 0 0 → HasShape layer k (part_shape layer j)
one_shape layer k j lists numbers some at long is = (
  polygon_at layer.faces j ∷ [],
  shapes_at layer k lists numbers some at ∙ ap (λ (ns : List ℕ). Some (map (polygon_at layer.faces) ns)) (one_number numbers long ∙ ap (λ (n : ℕ). n ∷ []) (sym is)),
  refl,
)

many_parts : (layer : Layer) (numbers : List ℕ) → length numbers ≢ 1 → shape_of layer.frame (map (polygon_at layer.faces) numbers) ≡ parts_shape layer numbers
many_parts layer [] long = refl
many_parts layer (j ∷ []) long = absurd (long refl)
many_parts layer (j ∷ i ∷ numbers) long = ap geometry.MultiPolygon (maps_by (paths_of layer.frame) (polygon_at layer.faces) (λ n. paths_of layer.frame (polygon_at layer.faces n)) (j ∷ i ∷ numbers) (λ n. refl))

pub many_shape : (layer : Layer) (k : ℕ) (lists : List (List ℕ)) (numbers : List ℕ) → layer.parts ≡ Some lists → slice_get lists k ≡ Some numbers → length numbers ≢ 1 → HasShape layer k (parts_shape layer numbers)
many_shape layer k lists numbers some at long = (
  map (polygon_at layer.faces) numbers,
  shapes_at layer k lists numbers some at,
  sym (many_parts layer numbers long),
)

-- the parts of a component are numbers of polygons
pub part_within : (polygons : List Polygon) (parts : Option (List (List ℕ))) (lists : List (List ℕ)) (k : ℕ) (numbers : List ℕ) → AreAmong parts polygons → parts ≡ Some lists → slice_get lists k ≡ Some numbers → All (λ j. j < length polygons) numbers
part_within polygons parts lists k numbers among some at = all_at (All (λ j. j < length polygons)) lists k numbers at (among lists some)
