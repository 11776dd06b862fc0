-- Each grid has a text of gdal_polygonize.
use Rattle.std.proofs.Common.{◌≡◌, ◌∙◌, ◌↔◌, ℕ, zero, suc, ℤ, Bool, true, false, not, List, [], ◌∷◌, Option, Some, None, length, refl, sym, ap, subst}
use Rattle.std.specs.Prelude.{slice_get}
use Rattle.std.specs.Bool.{Decides}
use Rattle.std.specs.Option.{option_eq}
use Rattle.std.specs.Ordering.{int_eq}
use Rattle.std.proofs.lemmas.Bool.{false≢true}
use Rattle.std.proofs.lemmas.Bool.Decides.{Decides-int_eq, Decides-not}
use Rattle.std.proofs.lemmas.Option.{none-some, same_Some}
use Rattle.cell_base.specs.Raster.{Place, Raster, IsRaster, value_at}
use Rattle.cell_base.specs.Steps.{four}
use Rattle.cell_base.specs.Valid.{IsValid}
use Rattle.cell_base.proofs.PlaceLemmas.{inside_from_value}
use Rattle.asc_grid.specs.declared.grid.Asc.{Asc}
use Rattle.region_label.specs.Component.{InComponent}
use Rattle.region_label.specs.Labelling.{RegionTable, IsInRegion, IsLabelling}
use Rattle.region_label.proofs.ExistsLemmas.{labelling_exists}
use Rattle.region_label.proofs.JoinedDeciders.{Decides-option_eq}
use Rattle.region_label.proofs.PaintLemmas.{grid_by, grid_by_at, grid_by_shape}
use Rattle.ring_faces.specs.LatticePolygon.{Polygon}
use Rattle.ring_faces.specs.CanonicalPolygon.{IsPolygonOf}
use Rattle.ring_faces.specs.Faces.{ArePolygonsOf}
use Rattle.ring_faces.proofs.CanonicalLemmas.{only_same}
use Rattle.ring_faces.proofs.ExistsLemmas.{one_canonical}
use Rattle.tool_words.specs.declared.job.PolygonizeJob.{PolygonizeJob}
use Rattle.tool_outcome.specs.Polygonize.{IsPolygonizeText, components_of, layer_text}
use Rattle.tool_outcome.specs.Sieve.{IsMaskOf}

-- whether a cell of this value is valid
abbrev is_valid : {T : Type 0} → (T → T → Bool) → Option T → Option T → Bool
is_valid same nodata None = false
is_valid same nodata (Some v) = not (option_eq same nodata (Some v))

value_of_valid : {T : Type 0} (same : T → T → Bool) → ((a b : T) → Decides (same a b) (a ≡ b)) → (cells : Raster T) (nodata : Option T) (p : Place) (o : Option T) → value_at cells p ≡ o → is_valid same nodata o ≡ true → IsValid cells nodata p
value_of_valid same decides cells nodata p None at is = absurd (false≢true is)
value_of_valid same decides cells nodata p (Some v) at is = (v, at, (Decides-not (option_eq same nodata (Some v)) (Decides-option_eq same decides nodata (Some v))).0 is)

-- a grid has a mask of valid cells, where its values can be told apart
mask_exists : {T : Type 0} (same : T → T → Bool) → ((a b : T) → Decides (same a b) (a ≡ b)) → (asc : Asc T) → IsRaster asc.cells → (valid : Raster Bool) × IsMaskOf asc valid
mask_exists same decides asc shape =
    let cells = asc.cells in
    let test : Place → Bool = λ p. is_valid same asc.nodata (value_at cells p) in
    let valid = grid_by cells.nrows cells.ncols test in
    let also = grid_by_shape cells.nrows cells.ncols test shape.some_cols shape.some_rows shape.small in (
      valid,
      (
        record { first = shape; second = also; ncols = refl; nrows = refl },
        λ p. (
          λ marked.
              let inside = inside_from_value valid p true also marked in
              let passes : test p ≡ true = same_Some (test p) true (sym (grid_by_at cells.nrows cells.ncols test p inside.0 inside.1) ∙ marked) in
              value_of_valid same decides cells asc.nodata p (value_at cells p) refl passes,
          λ is.
              let inside = inside_from_value cells p is.0 shape is.1 in
              let passes : test p ≡ true = ap (is_valid same asc.nodata) is.1 ∙ (Decides-not (option_eq same asc.nodata (Some is.0)) (Decides-option_eq same decides asc.nodata (Some is.0))).1 is.2 in
              grid_by_at cells.nrows cells.ncols test p inside.0 inside.1 ∙ ap (λ (b : Bool). Some b) passes,
        ),
      ),
    )

-- where there is one of a kind for each member, there is a list of them
one_for_each : {A B : Type 0} (P : ℕ → B → Type 0) (xs : List A) → ((k : ℕ) (x : A) → slice_get xs k ≡ Some x → (y : B) × P k y) → (ys : List B) × (length ys ≡ length xs) × ((k : ℕ) (y : B) → slice_get ys k ≡ Some y → P k y)
one_for_each P [] each = ([], refl, λ k y at. absurd (none-some y at))
one_for_each {A} {B} P (x ∷ xs) each =
    let first = each 0 x refl in
    let rest = one_for_each (λ k. P (suc k)) xs (λ k z at. each (suc k) z at) in
    (first.0 ∷ rest.0, ap suc rest.1, at_index first.0 rest.0 first.1 rest.2)
  where
    at_index : (z : B) (zs : List B) → P 0 z → ((k : ℕ) (y : B) → slice_get zs k ≡ Some y → P (suc k) y) → (k : ℕ) (y : B) → slice_get (z ∷ zs) k ≡ Some y → P k y
    at_index z zs here there zero y at = subst (P 0) (same_Some z y at) here
    at_index z zs here there (suc k) y at = there k y at

-- each component under side steps has its polygon
polygons_exist : {T : Type 0} (cells : Raster T) (valid : Raster Bool) (sides : RegionTable) → IsLabelling four cells valid sides → (polygons : List Polygon) × ArePolygonsOf sides polygons
polygons_exist cells valid sides labelled =
    let polygon_of : (k : ℕ) (a : Place) → slice_get sides.firsts k ≡ Some a → (polygon : Polygon) × IsPolygonOf sides k polygon = λ k a at.
    let one = one_canonical cells valid sides labelled a (labelled.first k a at) in
    let same : (p : Place) → InComponent four cells valid a p ↔ IsInRegion sides k p = λ p. ((labelled.region k a p at).1, (labelled.region k a p at).0) in
    (one.0, only_same (InComponent four cells valid a) (IsInRegion sides k) same one.0 one.1) in
    let all = one_for_each (IsPolygonOf sides) sides.firsts polygon_of in
    (all.0, record { count = all.1; each = all.2 })

pub layer_exists : (job : PolygonizeJob) (asc : Asc ℤ) → IsRaster asc.cells → (text : List ℕ) × IsPolygonizeText job asc text
layer_exists job asc shape =
    let mask = mask_exists int_eq Decides-int_eq asc shape in
    let sides = labelling_exists int_eq Decides-int_eq four asc.cells mask.0 mask.1.0 in
    let regions = labelling_exists int_eq Decides-int_eq job.eight asc.cells mask.0 mask.1.0 in
    let polygons = polygons_exist asc.cells mask.0 sides.0 sides.1 in (
      layer_text job.field asc.frame (components_of asc.cells regions.0 sides.0 polygons.0),
      record {
        valid = mask.0;
        sides = sides.0;
        regions = regions.0;
        polygons = polygons.0;
        mask = mask.1;
        by_sides = sides.1;
        labelled = regions.1;
        drawn = polygons.1;
        is = refl;
      },
    )
