-- The layer that gdal_polygonize leaves of a grid under side steps: what its features are when they are read again.
use Rattle.std.proofs.Common.{◌≡◌, ℕ, ℤ, zero, suc, ◌+◌, ◌<◌, ◌≤ℤ◌, Bool, true, false, List, [], ◌∷◌, Option, Some, None, length, pos, refl, sym, ap, ◌∙◌, subst, arith}
use Rattle.std.specs.Prelude.{All, if◌then◌else◌, int_lt, map, nat_lt, option_map, slice_get, unwrap_or}
use Rattle.std.specs.List.{position_or_len, zip}
use Rattle.std.proofs.lemmas.Bool.Decides.{nat_tests}
use Rattle.std.proofs.lemmas.Int.{ints}
use Rattle.std.proofs.lemmas.List.{length-map}
use Rattle.std.proofs.lemmas.List.Elements.{All-cons, All-head, All-map, All-nil, All-tail}
use Rattle.std.proofs.lemmas.Option.{none-some, same_Some, slice_get-map}
use Rattle.cell_base.specs.Raster.{IsRaster, Place, Raster, value_at}
use Rattle.cell_base.specs.Steps.{four}
use Rattle.cell_base.specs.WholeCells.{least_int64, most_int64}
use Rattle.cell_base.specs.declared.kind.CellKind.{CellKind}
use Rattle.cell_base.specs.declared.kind.CellKind.TheVariants.{Byte, Int16, Int32, Int64}
use Rattle.cell_base.proofs.PlaceLemmas.{inside_from_value, value_inside}
use Rattle.geo_transform.specs.Frame.{IsFrame}
use Rattle.geo_transform.specs.declared.frame.Frame.{Frame}
use Rattle.asc_grid.specs.declared.grid.Asc.{Asc}
use Rattle.region_label.specs.Labelling.{IsInRegion, IsLabelling, RegionTable}
use Rattle.region_label.proofs.ListLemmas.{at_from_contains}
use Rattle.region_label.proofs.OneLemmas.{one_labelling}
use Rattle.region_parts.specs.Parts.{items_by}
use Rattle.region_parts.proofs.PickLemmas.{each_alone}
use Rattle.ring_faces.specs.LatticePolygon.{Polygon}
use Rattle.ring_faces.specs.Faces.{ArePolygonsOf, FitsGrid}
use Rattle.ring_faces.proofs.FitLemmas.{edge_polygon, fits_grid}
use Rattle.ring_faces.proofs.MemberLemmas.{all_of}
use Rattle.ring_faces.proofs.RegionLemmas.{labelling_by_sides}
use Rattle.burn_scanline.specs.Burned.{BurnedFeature}
use Rattle.ogr_csv.specs.declared.feature.Feature.{Feature}
use Rattle.tool_words.specs.Words.{Text}
use Rattle.tool_words.specs.declared.job.ValueFrom.TheVariants.{Field}
use Rattle.tool_outcome.specs.Features.{burned_features, first_other, has_points_or_lines}
use Rattle.tool_outcome.specs.Polygonize.{components_of, shape_of, value_of}
use Rattle.tool_outcome.specs.Rasterize.{held}
use Rattle.tool_outcome.proofs.WrittenLemmas.{closed_paths, paths_within}
use Rattle.round_trip.specs.BackWords.{outside_of}
use Rattle.round_trip.specs.Layer.{AreFeaturesOf}
use Rattle.round_trip.proofs.FeatureLemmas.{HasRow, feature_of_component}
use Rattle.round_trip.proofs.SourceLemmas.{IsGridOfText, IsInt64, outside_whole}

-- a component with its one part
abbrev pub alone : ℤ → Polygon → ℤ × List Polygon
alone value polygon = (value, polygon ∷ [])

-- the components under side steps: each has one part, itself
pub own_components : (cells : Raster ℤ) (valid : Raster Bool) (regions : RegionTable) (polygons : List Polygon)
    → IsLabelling four cells valid regions → ArePolygonsOf regions polygons
    → components_of cells regions regions polygons ≡ zip (map (value_of cells) regions.firsts) (map (λ p. p ∷ []) polygons)
own_components cells valid regions polygons labelled drawn =
    let none : Polygon = record { shell = []; holes = [] } in
    ap (zip (map (value_of cells) regions.firsts)) (sym (each_alone four cells valid regions none polygons labelled drawn.count))

-- facts of two lists, side by side
all_zip : {A B : Type 0} (P : A → Type 0) (Q : B → Type 0) (R : A × B → Type 0) → ((a : A) (b : B) → P a → Q b → R (a, b))
    → (xs : List A) (ys : List B) → All P xs → All Q ys → All R (zip xs ys)
all_zip P Q R both [] ys px qy = All-nil R
all_zip P Q R both (x ∷ xs) [] px qy = All-nil R
all_zip P Q R both (x ∷ xs) (y ∷ ys) px qy =
    All-cons R (x, y) (zip xs ys) (both x y (All-head P x xs px) (All-head Q y ys qy))
    (all_zip P Q R both xs ys (All-tail P x xs px) (All-tail Q y ys qy))

zip_parts : {A B : Type 0} (xs : List A) (ys : List B) (k : ℕ) (z : A × B) → slice_get (zip xs ys) k ≡ Some z
    → (slice_get xs k ≡ Some z.0) × (slice_get ys k ≡ Some z.1)
zip_parts [] ys k z is = absurd (none-some z is)
zip_parts (x ∷ xs) [] k z is = absurd (none-some z is)
zip_parts (x ∷ xs) (y ∷ ys) zero z is =
    let same : (x, y) ≡ z = same_Some (x, y) z is in
    (ap (λ w. Some (w.0)) same, ap (λ w. Some (w.1)) same)
zip_parts (x ∷ xs) (y ∷ ys) (suc k) z is = zip_parts xs ys k z is

length_zip : {A B : Type 0} (xs : List A) (ys : List B) → length xs ≡ length ys → length (zip xs ys) ≡ length ys
length_zip [] [] long = refl
length_zip [] (y ∷ ys) long = absurd (omega (arith, long))
length_zip (x ∷ xs) [] long = absurd (omega (arith, long))
length_zip (x ∷ xs) (y ∷ ys) long = ap suc (length_zip xs ys (omega (arith, long)))

-- values have 64 bits
whole_value : (o : Option ℤ) → ((x : ℤ) → o ≡ Some x → IsInt64 x) → IsInt64 (unwrap_or o (pos 0))
whole_value None each = record { low = omega (arith, ints); high = omega (arith, ints) }
whole_value (Some x) each = each x refl

values_whole : (asc : Asc ℤ) → IsGridOfText asc → (firsts : List Place) → All IsInt64 (map (value_of asc.cells) firsts)
values_whole asc is [] = All-nil IsInt64
values_whole asc is (a ∷ firsts) =
    All-cons IsInt64 (value_of asc.cells a) (map (value_of asc.cells) firsts) (whole_value (value_at asc.cells a) (is.cells a)) (values_whole asc is firsts)

-- polygons fit the frame
polygons_fit : (asc : Asc ℤ) (valid : Raster Bool) (regions : RegionTable) (polygons : List Polygon) → IsGridOfText asc
    → IsLabelling four asc.cells valid regions → ArePolygonsOf regions polygons → All (FitsGrid asc.frame.nrows asc.frame.ncols) polygons
polygons_fit asc valid regions polygons is labelled drawn =
    let rows : regions.numbers.nrows ≡ asc.frame.nrows = labelled.numbers.nrows ∙ is.nrows in
    let cols : regions.numbers.ncols ≡ asc.frame.ncols = labelled.numbers.ncols ∙ is.ncols in
    all_of (FitsGrid asc.frame.nrows asc.frame.ncols) polygons (λ p member.
    let at = at_from_contains polygons p member in
    let fits = fits_grid regions at.0 p labelled.numbers.second ((drawn.each at.0 p at.1).0) in
    subst (λ (n : ℕ). FitsGrid n asc.frame.ncols p) rows (subst (λ (n : ℕ). FitsGrid regions.numbers.nrows n p) cols fits))

row_of_one : (asc : Asc ℤ) → IsGridOfText asc → (v : ℤ) (polygons : List Polygon)
    → IsInt64 v → ((polygon : Polygon) × FitsGrid asc.frame.nrows asc.frame.ncols polygon × (polygons ≡ polygon ∷ [])) → HasRow asc.frame (v, polygons)
row_of_one asc is v polygons whole (polygon, fits, one) =
    subst (λ (ps : List Polygon). HasRow asc.frame (v, ps)) (sym one) (record {
      writable = closed_paths asc.frame polygon fits;
      coords = paths_within asc.frame is.frame polygon fits;
      value = whole;
    })

-- each row of the layer can be written and read
pub rows_hold : (asc : Asc ℤ) (valid : Raster Bool) (regions : RegionTable) (polygons : List Polygon) → IsGridOfText asc
    → IsLabelling four asc.cells valid regions → ArePolygonsOf regions polygons
    → All (HasRow asc.frame) (zip (map (value_of asc.cells) regions.firsts) (map (λ p. p ∷ []) polygons))
rows_hold asc valid regions polygons is labelled drawn =
    let IsOne : List Polygon → Type 0 = λ ps. (polygon : Polygon) × FitsGrid asc.frame.nrows asc.frame.ncols polygon × (ps ≡ polygon ∷ []) in
    let fit : All (FitsGrid asc.frame.nrows asc.frame.ncols) polygons = polygons_fit asc valid regions polygons is labelled drawn in
    all_zip IsInt64 IsOne (HasRow asc.frame) (row_of_one asc is)
    (map (value_of asc.cells) regions.firsts) (map (λ p. p ∷ []) polygons)
    (values_whole asc is regions.firsts) (ones polygons fit)
  where
    ones : (ps : List Polygon) → All (FitsGrid asc.frame.nrows asc.frame.ncols) ps
        → All (λ qs. (polygon : Polygon) × FitsGrid asc.frame.nrows asc.frame.ncols polygon × (qs ≡ polygon ∷ [])) (map (λ p. p ∷ []) ps)
    ones [] all = All-nil (λ qs. (polygon : Polygon) × FitsGrid asc.frame.nrows asc.frame.ncols polygon × (qs ≡ polygon ∷ []))
    ones (p ∷ ps) all =
        All-cons (λ qs. (polygon : Polygon) × FitsGrid asc.frame.nrows asc.frame.ncols polygon × (qs ≡ polygon ∷ [])) (p ∷ []) (map (λ q. q ∷ []) ps)
        (p, All-head (FitsGrid asc.frame.nrows asc.frame.ncols) p ps all, refl) (ones ps (All-tail (FitsGrid asc.frame.nrows asc.frame.ncols) p ps all))

-- a component as it is burned
abbrev pub burned_component : Frame → ℤ × List Polygon → BurnedFeature
burned_component frame component = record { geometry = shape_of frame component.1; value = component.0 }

-- the type holds a number of 64 bits as it is
pub held_same : (v : ℤ) → IsInt64 v → held Int64 v ≡ v
held_same v is =
    let low : int_lt v least_int64 ≡ false = grind (arith, ints, is.low) in
    let high : int_lt most_int64 v ≡ false = grind (arith, ints, is.high) in
    rw (low, high) refl

-- every type holds 0
held_zero : (kind : CellKind) → held kind (pos 0) ≡ pos 0
held_zero Byte = refl
held_zero Int16 = refl
held_zero Int32 = refl
held_zero Int64 = refl

-- a type of cells holds all that a grid has, and what is burned outside
pub record IsHeldIn (kind : CellKind) (asc : Asc ℤ) : Type 0 where
  pub cells : (p : Place) (x : ℤ) → value_at asc.cells p ≡ Some x → held kind x ≡ x
  pub outside : held kind (outside_of asc.nodata) ≡ outside_of asc.nodata

-- 64 bits hold every grid that was read
pub held_in_64 : (asc : Asc ℤ) → IsGridOfText asc → IsHeldIn Int64 asc
held_in_64 asc is = record {
  cells = λ p x at. held_same x (is.cells p x at);
  outside = held_same (outside_of asc.nodata) (outside_whole asc is);
}

value_held : (kind : CellKind) (o : Option ℤ) → ((x : ℤ) → o ≡ Some x → held kind x ≡ x) → held kind (unwrap_or o (pos 0)) ≡ unwrap_or o (pos 0)
value_held kind None each = held_zero kind
value_held kind (Some x) each = each x refl

values_held : (kind : CellKind) (asc : Asc ℤ) → IsHeldIn kind asc → (firsts : List Place) → All (λ v. held kind v ≡ v) (map (value_of asc.cells) firsts)
values_held kind asc is [] = All-nil (λ v. held kind v ≡ v)
values_held kind asc is (a ∷ firsts) =
    All-cons (λ v. held kind v ≡ v) (value_of asc.cells a) (map (value_of asc.cells) firsts)
    (value_held kind (value_at asc.cells a) (is.cells a)) (values_held kind asc is firsts)

-- and so the value of each component
pub components_held : (kind : CellKind) (asc : Asc ℤ) → IsHeldIn kind asc → (firsts : List Place) (shapes : List (List Polygon))
    → All (λ component. held kind component.0 ≡ component.0) (zip (map (value_of asc.cells) firsts) shapes)
components_held kind asc is firsts shapes =
    all_zip (λ v. held kind v ≡ v) (λ ps. Unit {0}) (λ component. held kind component.0 ≡ component.0) (λ v ps same any. same)
    (map (value_of asc.cells) firsts) shapes (values_held kind asc is firsts) (λ k d within. tt)

-- none of the features is skipped
pub all_burned : (kind : CellKind) (field : Text) (frame : Frame) (components : List (ℤ × List Polygon))
    → All (λ component. held kind component.0 ≡ component.0) components
    → burned_features (held kind) (Field field) (map (feature_of_component frame) components) ≡ map (burned_component frame) components
all_burned kind field frame [] all = refl
all_burned kind field frame (c ∷ cs) all =
    let value = All-head (λ component. held kind component.0 ≡ component.0) c cs all in
    let rest = all_burned kind field frame cs (All-tail (λ component. held kind component.0 ≡ component.0) c cs all) in
    rw (value, rest) refl

-- none is of points or lines
shape_is_polygon : (frame : Frame) (component : ℤ × List Polygon) → has_points_or_lines (feature_of_component frame component).geometry ≡ false
shape_is_polygon frame (v, []) = refl
shape_is_polygon frame (v, p ∷ []) = refl
shape_is_polygon frame (v, p ∷ q ∷ ps) = refl

-- the features are those of the components, in order of number
pub features_are : (asc : Asc ℤ) (valid : Raster Bool) (regions : RegionTable) (polygons : List Polygon) → IsGridOfText asc
    → IsLabelling four asc.cells valid regions → ArePolygonsOf regions polygons
    → AreFeaturesOf asc.frame asc.cells regions (map (burned_component asc.frame) (zip (map (value_of asc.cells) regions.firsts) (map (λ p. p ∷ []) polygons)))
features_are asc valid regions polygons is labelled drawn = record {
  count = length-map (zip values shapes) (burned_component asc.frame)
      ∙ length_zip values shapes (length-map regions.firsts (value_of asc.cells) ∙ sym drawn.count ∙ sym (length-map polygons (λ p. p ∷ [])))
      ∙ length-map polygons (λ p. p ∷ []) ∙ drawn.count;
  polygon = λ k f at.
      let one = at_component k f at in
      let shape = at_shape k one.0.1 (zip_parts values shapes k one.0 one.1).1 in (
        shape.0,
        edge_polygon regions k shape.0 (labelling_by_sides asc.cells valid regions labelled) ((drawn.each k shape.0 shape.1).0),
        ap (λ (g : BurnedFeature). g.geometry) (sym one.2) ∙ ap (shape_of asc.frame) shape.2,
      );
  value = λ k f a at first.
      let one = at_component k f at in
      let value : Some (value_of asc.cells a) ≡ Some one.0.0 = sym (slice_get-map (value_of asc.cells) regions.firsts k ∙ ap (option_map (value_of asc.cells)) first) ∙ (zip_parts values shapes k one.0 one.1).0 in
      let marked = (labelled.first k a first).marked in
      let inside = inside_from_value valid a true labelled.mask.second marked in
      let here = value_inside asc.cells a labelled.mask.first (omega (arith, inside.0, labelled.mask.nrows)) (omega (arith, inside.1, labelled.mask.ncols)) in
      here.1 ∙ ap Some (sym (ap (λ (o : Option ℤ). unwrap_or o (pos 0)) here.1)) ∙ value ∙ ap (λ (g : BurnedFeature). Some g.value) one.2;
}
  where
    values : List ℤ
    values = map (value_of asc.cells) regions.firsts

    shapes : List (List Polygon)
    shapes = map (λ p. p ∷ []) polygons

    at_component : (k : ℕ) (f : BurnedFeature) → slice_get (map (burned_component asc.frame) (zip values shapes)) k ≡ Some f
        → (c : ℤ × List Polygon) × (slice_get (zip values shapes) k ≡ Some c) × (burned_component asc.frame c ≡ f)
    at_component k f at = decide (slice_get (zip values shapes) k) refl
      where
        decide : (o : Option (ℤ × List Polygon)) → slice_get (zip values shapes) k ≡ o
            → (c : ℤ × List Polygon) × (slice_get (zip values shapes) k ≡ Some c) × (burned_component asc.frame c ≡ f)
        decide None none = absurd (none-some f (sym (slice_get-map (burned_component asc.frame) (zip values shapes) k ∙ ap (option_map (burned_component asc.frame)) none) ∙ at))
        decide (Some c) some = (c, some, same_Some (burned_component asc.frame c) f (sym (slice_get-map (burned_component asc.frame) (zip values shapes) k ∙ ap (option_map (burned_component asc.frame)) some) ∙ at))

    at_shape : (k : ℕ) (ps : List Polygon) → slice_get shapes k ≡ Some ps → (p : Polygon) × (slice_get polygons k ≡ Some p) × (ps ≡ p ∷ [])
    at_shape k ps at = decide (slice_get polygons k) refl
      where
        decide : (o : Option Polygon) → slice_get polygons k ≡ o → (p : Polygon) × (slice_get polygons k ≡ Some p) × (ps ≡ p ∷ [])
        decide None none = absurd (none-some ps (sym (slice_get-map (λ p. p ∷ []) polygons k ∙ ap (option_map (λ p. p ∷ [])) none) ∙ at))
        decide (Some p) some = (p, some, sym (same_Some (p ∷ []) ps (sym (slice_get-map (λ q. q ∷ []) polygons k ∙ ap (option_map (λ q. q ∷ [])) some) ∙ at)))

-- no feature of components is one of points or lines
pub no_others : (frame : Frame) (components : List (ℤ × List Polygon)) → first_other (map (feature_of_component frame) components) ≡ None
no_others frame components = ap (λ (n : ℕ). option_map (λ i. i + 1) (found_at n)) (none_at components) ∙ rw (end_itself (length (map (feature_of_component frame) components))) refl
  where
    is_other : Feature → Bool
    is_other f = has_points_or_lines f.geometry

    found_at : ℕ → Option ℕ
    found_at n = if nat_lt n (length (map (feature_of_component frame) components)) then Some n else None

    none_at : (cs : List (ℤ × List Polygon)) → position_or_len is_other (map (feature_of_component frame) cs) ≡ length (map (feature_of_component frame) cs)
    none_at [] = refl
    none_at (c ∷ cs) = rw (shape_is_polygon frame c) (omega (arith, none_at cs))

    end_itself : (n : ℕ) → nat_lt n n ≡ false
    end_itself n = grind (arith, nat_tests)
