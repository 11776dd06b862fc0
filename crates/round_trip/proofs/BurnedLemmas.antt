-- The polygons of all components, burned in order with their values: what each cell holds then.
use Rattle.std.proofs.Common.{◌≡◌, ℕ, ℤ, ◌<◌, ◌↔◌, inl, inr, Bool, true, false, List, [], ◌∷◌, Option, Some, None, length, refl, sym, ap, ◌∙◌, subst, arith}
use Rattle.std.specs.Prelude.{if◌then◌else◌, Contains, slice_get, unwrap_or}
use Rattle.cell_base.specs.Raster.{Place, Raster, IsRaster, value_at}
use Rattle.cell_base.specs.Steps.{four}
use Rattle.cell_base.specs.Valid.{IsMarked}
use Rattle.cell_base.proofs.ListDeciders.{contains_cases, contains_here, contains_there}
use Rattle.cell_base.proofs.PlaceLemmas.{element_at, inside_from_value, value_inside}
use Rattle.geo_transform.specs.Frame.{IsFrame}
use Rattle.geo_transform.specs.declared.frame.Frame.{Frame}
use Rattle.region_label.specs.Labelling.{RegionTable, IsInRegion, IsLabelling}
use Rattle.region_label.proofs.ComponentLemmas.{component_end}
use Rattle.region_label.proofs.ListLemmas.{at_from_contains, contains_from_at}
use Rattle.edge_trace.proofs.BoundaryLemmas.{region_enclosed}
use Rattle.ring_faces.specs.LatticePolygon.{Polygon}
use Rattle.ring_faces.specs.EdgePolygon.{IsEdgePolygon}
use Rattle.wkt_text.specs.declared.geometry.Geometry.{Geometry}
use Rattle.wkt_text.specs.declared.geometry.Geometry.TheVariants as geometry
use Rattle.burn_scanline.specs.Burned.{BurnedFeature, inside_value}
use Rattle.burn_scanline.specs.Centre.{is_covered}
use Rattle.burn_scanline.specs.declared.burning.How.TheVariants.{Set}
use Rattle.tool_outcome.specs.Polygonize.{paths_of}
use Rattle.tool_outcome.specs.Rasterize.{raster_by}
use Rattle.round_trip.specs.Layer.{AreFeaturesOf, IsInFrame, IsLabelledOver, normal_value, normalised}
use Rattle.round_trip.proofs.CoverLemmas.{covers_enclosed}
use Rattle.round_trip.proofs.GridLemmas.{raster_same}

pick : (b : Bool) (x y w : ℤ) → (b ≡ true → x ≡ w) → y ≡ w → (if b then x else y) ≡ w
pick true x y w one other = one refl
pick false x y w one other = other

-- each of these features that covers the cell has this value
abbrev AllHave : Frame → Place → ℤ → List BurnedFeature → Type 0
AllHave frame cell w features = (f : BurnedFeature) → Contains features f → is_covered frame f.geometry cell ≡ true → f.value ≡ w

burned_same : (least greatest : ℤ) (frame : Frame) (cell : Place) (w : ℤ) (features : List BurnedFeature) (initial : ℤ)
    → AllHave frame cell w features → initial ≡ w → inside_value least greatest Set is_covered frame initial features cell ≡ w
burned_same least greatest frame cell w [] initial all start = start
burned_same least greatest frame cell w (f ∷ fs) initial all start =
    burned_same least greatest frame cell w fs _ (λ g member. all g (contains_there f fs g member))
    (pick (is_covered frame f.geometry cell) f.value initial w (all f (contains_here f fs)) start)

-- where one of them covers it, the value before doesn't matter
burned_found : (least greatest : ℤ) (frame : Frame) (cell : Place) (w : ℤ) (features : List BurnedFeature) (initial : ℤ)
    → AllHave frame cell w features → (f : BurnedFeature) → Contains features f → is_covered frame f.geometry cell ≡ true
    → inside_value least greatest Set is_covered frame initial features cell ≡ w
burned_found least greatest frame cell w [] initial all f member covered = absurd (omega (arith, member.1))
burned_found least greatest frame cell w (g ∷ gs) initial all f member covered = elim (contains_cases g gs f member) [
  | inl here ↦
      let is : is_covered frame g.geometry cell ≡ true = ap (λ (h : BurnedFeature). is_covered frame h.geometry cell) here ∙ covered in
      let taken : (if is_covered frame g.geometry cell then g.value else initial) ≡ w = rw is (all g (contains_here g gs) is) in
      burned_same least greatest frame cell w gs _ (λ h there. all h (contains_there g gs h there)) taken
  | inr there ↦ burned_found least greatest frame cell w gs _ (λ h later. all h (contains_there g gs h later)) f there covered
]

-- the cells of a component are the frame's
inside_region : (frame : Frame) (cells : Raster ℤ) (valid : Raster Bool) (regions : RegionTable) → IsLabelledOver frame cells valid regions
    → (k : ℕ) (p : Place) → IsInRegion regions k p → IsInFrame frame p
inside_region frame cells valid regions is k p in_k =
    let at = inside_from_value regions.numbers p (Some k) is.labelled.numbers.second in_k in
    (omega (arith, at.0, is.labelled.numbers.nrows, is.nrows), omega (arith, at.1, is.labelled.numbers.ncols, is.ncols))

-- a component's polygon covers exactly its cells
pub component_covered : (frame : Frame) (cells : Raster ℤ) (valid : Raster Bool) (regions : RegionTable) (k : ℕ) (polygon : Polygon) (cell : Place)
    → IsLabelledOver frame cells valid regions → IsEdgePolygon (IsInRegion regions k) polygon → IsInFrame frame cell
    → (is_covered frame (geometry.Polygon (paths_of frame polygon)) cell ≡ true) ↔ IsInRegion regions k cell
component_covered frame cells valid regions k polygon cell is has inside =
    covers_enclosed frame is.is_frame (IsInRegion regions k) (region_enclosed regions k) (inside_region frame cells valid regions is k) polygon has cell inside

-- so does its feature
feature_covers : (frame : Frame) (cells : Raster ℤ) (valid : Raster Bool) (regions : RegionTable) (features : List BurnedFeature)
    → IsLabelledOver frame cells valid regions → AreFeaturesOf frame cells regions features
    → (k : ℕ) (f : BurnedFeature) → slice_get features k ≡ Some f → (p : Place) → IsInFrame frame p
    → (is_covered frame f.geometry p ≡ true) ↔ IsInRegion regions k p
feature_covers frame cells valid regions features is are k f at p inside =
    let polygon = are.polygon k f at in
    subst (λ (g : Geometry). (is_covered frame g p ≡ true) ↔ IsInRegion regions k p) (sym polygon.2)
    (component_covered frame cells valid regions k polygon.0 p is polygon.1 inside)

-- and has their value
feature_value : (frame : Frame) (cells : Raster ℤ) (valid : Raster Bool) (regions : RegionTable) (features : List BurnedFeature)
    → IsLabelledOver frame cells valid regions → AreFeaturesOf frame cells regions features
    → (k : ℕ) (f : BurnedFeature) → slice_get features k ≡ Some f → (p : Place) → IsInRegion regions k p → value_at cells p ≡ Some f.value
feature_value frame cells valid regions features is are k f at p in_k =
    let first = element_at regions.firsts k (is.labelled.known k p in_k) in
    (component_end four cells valid first.0 p ((is.labelled.region k first.0 p first.1).0 in_k)).1 ∙ are.value k f first.0 at first.1

-- all features that cover a cell have its value
all_have : (frame : Frame) (cells : Raster ℤ) (valid : Raster Bool) (regions : RegionTable) (features : List BurnedFeature)
    → IsLabelledOver frame cells valid regions → AreFeaturesOf frame cells regions features
    → (p : Place) → IsInFrame frame p → (f : BurnedFeature) → Contains features f → is_covered frame f.geometry p ≡ true
    → (value_at cells p ≡ Some f.value) × IsMarked valid p
all_have frame cells valid regions features is are p inside f member covered =
    let at = at_from_contains features f member in
    let in_k = (feature_covers frame cells valid regions features is are at.0 f at.1 p inside).0 covered in
    (feature_value frame cells valid regions features is are at.0 f at.1 p in_k, (is.labelled.valid_cells p).1 (at.0, in_k))

same_value : (x y : ℤ) (o : Option ℤ) → o ≡ Some x → o ≡ Some y → x ≡ y
same_value x y o one other = cc

-- a valid cell holds its own value
valid_back : (least greatest : ℤ) (frame : Frame) (cells : Raster ℤ) (valid : Raster Bool) (regions : RegionTable) (features : List BurnedFeature) (initial : ℤ)
    → IsLabelledOver frame cells valid regions → AreFeaturesOf frame cells regions features
    → (p : Place) → IsInFrame frame p → IsMarked valid p → (w : ℤ) → value_at cells p ≡ Some w
    → inside_value least greatest Set is_covered frame initial features p ≡ w
valid_back least greatest frame cells valid regions features initial is are p inside marked w value =
    let number = (is.labelled.valid_cells p).0 marked in
    let found = element_at features number.0 (omega (arith, is.labelled.known number.0 p number.1, are.count)) in
    burned_found least greatest frame p w features initial
    (λ f member covered. same_value f.value w (value_at cells p) (all_have frame cells valid regions features is are p inside f member covered).0 value)
    found.0 (contains_from_at features number.0 found.0 found.1)
    ((feature_covers frame cells valid regions features is are number.0 found.0 found.1 p inside).1 number.1)

-- any other holds what it held before
other_back : (least greatest : ℤ) (frame : Frame) (cells : Raster ℤ) (valid : Raster Bool) (regions : RegionTable) (features : List BurnedFeature) (initial : ℤ)
    → IsLabelledOver frame cells valid regions → AreFeaturesOf frame cells regions features
    → (p : Place) → IsInFrame frame p → ¬ IsMarked valid p → inside_value least greatest Set is_covered frame initial features p ≡ initial
other_back least greatest frame cells valid regions features initial is are p inside none =
    burned_same least greatest frame p initial features initial
    (λ f member covered. absurd (none ((all_have frame cells valid regions features is are p inside f member covered).1))) refl

-- so each cell holds its value where it is valid, and else what it held before
pub cell_back : (least greatest : ℤ) (frame : Frame) (cells : Raster ℤ) (valid : Raster Bool) (regions : RegionTable) (features : List BurnedFeature) (initial : ℤ)
    → IsLabelledOver frame cells valid regions → AreFeaturesOf frame cells regions features
    → (p : Place) → IsInFrame frame p → inside_value least greatest Set is_covered frame initial features p ≡ normal_value cells valid initial p
cell_back least greatest frame cells valid regions features initial is are p inside = decide (value_at valid p) refl
  where
    held : ℤ
    held = inside_value least greatest Set is_covered frame initial features p

    by_mask : Option Bool → ℤ
    by_mask mask = if unwrap_or mask false then unwrap_or (value_at cells p) initial else initial

    here : (w : ℤ) × (value_at cells p ≡ Some w)
    here = value_inside cells p is.labelled.mask.first (omega (arith, inside.0, is.nrows)) (omega (arith, inside.1, is.ncols))

    decide : (o : Option Bool) → value_at valid p ≡ o → held ≡ by_mask (value_at valid p)
    decide (Some true) marked =
        valid_back least greatest frame cells valid regions features initial is are p inside marked here.0 here.1
        ∙ ap (λ (o : Option ℤ). unwrap_or o initial) (sym here.1) ∙ ap by_mask (sym marked)
    decide (Some false) unmarked =
        other_back least greatest frame cells valid regions features initial is are p inside (λ marked. absurd (cc (marked, unmarked))) ∙ ap by_mask (sym unmarked)
    decide None none =
        other_back least greatest frame cells valid regions features initial is are p inside (λ marked. absurd (cc (marked, none))) ∙ ap by_mask (sym none)

-- and the grid is the normalised one
pub grid_back : (least greatest : ℤ) (frame : Frame) (cells : Raster ℤ) (valid : Raster Bool) (regions : RegionTable) (features : List BurnedFeature) (initial : ℤ)
    → IsLabelledOver frame cells valid regions → AreFeaturesOf frame cells regions features
    → raster_by frame.ncols frame.nrows (inside_value least greatest Set is_covered frame initial features) ≡ normalised cells valid initial
grid_back least greatest frame cells valid regions features initial is are =
    raster_same frame.ncols frame.nrows (inside_value least greatest Set is_covered frame initial features) (normal_value cells valid initial)
    (λ row col in_row in_col. cell_back least greatest frame cells valid regions features initial is are (row, col) (in_row, in_col))
    ∙ ap (λ (n : ℕ). raster_by n frame.nrows (normal_value cells valid initial)) (sym is.ncols)
    ∙ ap (λ (n : ℕ). raster_by cells.ncols n (normal_value cells valid initial)) (sym is.nrows)
