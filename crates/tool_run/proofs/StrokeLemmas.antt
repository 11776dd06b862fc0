-- Features that are burned one after the other.
use Rattle.std.proofs.Common.{◌≡◌, ◌∙◌, ◌++◌, ℕ, zero, suc, ℤ, ◌+◌, ◌*◌, Bool, true, false, List, [], ◌∷◌, Option, Some, None, replicate, map, take, append-nil, refl, sym, ap, subst}
use Rattle.std.specs.Prelude.{◌||◌, if◌then◌else◌, option_map, slice_get, unwrap_or}
use Rattle.std.specs.List.{cons_option, filter_map, list_any}
use Rattle.std.proofs.lemmas.List.{length-replicate}
use Rattle.std.proofs.lemmas.Option.{none-some, same_Some}
use Rattle.std.proofs.lemmas.List.Elements.{All-replicate, filter_map-append}
use Rattle.cell_base.specs.Clamped.{clamped}
use Rattle.cell_base.specs.Raster.{Place, Raster, raster_of}
use Rattle.cell_base.proofs.PlaceLemmas.{rows_hold}
use Rattle.cell_base.proofs.RasterLemmas.{raster_from_cells}
use Rattle.geo_transform.specs.Frame.{IsFrame}
use Rattle.geo_transform.specs.declared.frame.Frame.{Frame}
use Rattle.ogr_csv.specs.declared.feature.Feature.{Feature}
use Rattle.wkt_text.specs.declared.geometry.Geometry.{Geometry}
use Rattle.burn_scanline.specs.Burned.{BurnedFeature, Burns, Cover, HoldsInside, HoldsValues, inside_value, outside_value}
use Rattle.burn_scanline.specs.Runs.{Run, is_in_runs}
use Rattle.burn_scanline.specs.declared.burning.How.{How}
use Rattle.burn_scanline.specs.declared.burning.How.TheVariants.{Set}
use Rattle.burn_scanline.proofs.OrderLemmas.{in_order}
use Rattle.tool_words.specs.declared.job.RasterizeJob.{RasterizeJob}
use Rattle.tool_words.specs.declared.job.ValueFrom.{ValueFrom}
use Rattle.tool_outcome.specs.Features.{as_burned, burned_features}
use Rattle.tool_outcome.specs.Rasterize.{covers_by, first_value, how_of, least_of, outside_of}
use Rattle.tool_run.specs.Inner.Strokes.{AddsFeature, AreStrokesOf, IsCover, IsKind, outside_start, shape_as, stroke_of, strokes_over}
use Rattle.tool_run.specs.declared.burned_cells.Strokes.{Strokes}
use Rattle.tool_run.proofs.LayerLemmas.{take_more}

-- a skipped feature changes nothing
pub adds_nothing : {T : Type 0} (units_of : T → ℤ) (least greatest : ℤ) (frame : Frame) (value : ValueFrom) (strokes : Strokes T) (f : Feature) (cells : Raster T) → None ≡ as_burned (clamped least greatest) value f → AddsFeature units_of least greatest frame value strokes f cells cells
adds_nothing units_of least greatest frame value strokes f cells skipped initial earlier holds =
    let none : strokes_over units_of (clamped least greatest) value strokes (f ∷ []) ≡ [] = ap (λ (o : Option BurnedFeature). cons_option (option_map (stroke_of units_of strokes) o) []) (sym skipped) in
    subst (λ more. HoldsInside units_of least greatest strokes.how (covers_by strokes.touched) frame initial (earlier ++ more) cells) (sym none) (subst (λ fs. HoldsInside units_of least greatest strokes.how (covers_by strokes.touched) frame initial fs cells) (sym (append-nil earlier)) holds)

-- a feature is burned where its runs are
pub adds_one : {T : Type 0} (units_of : T → ℤ) (least greatest : ℤ) (frame : Frame) (value : ValueFrom) (strokes : Strokes T) (f : Feature) (shape : Geometry × ℤ) (cell : T) (runs : List Run) (old new : Raster T) → Some (shape_as (clamped least greatest) shape) ≡ as_burned (clamped least greatest) value f → units_of cell ≡ unwrap_or (option_map units_of strokes.one) (clamped least greatest shape.1) → IsCover strokes.touched frame shape.0 runs → Burns units_of least greatest strokes.how cell (is_in_runs runs) old new → AddsFeature units_of least greatest frame value strokes f old new
adds_one units_of least greatest frame value strokes f shape cell runs old new is is_cell covers burns initial earlier holds =
    let stroke : BurnedFeature = stroke_of units_of strokes (shape_as (clamped least greatest) shape) in
    let one : strokes_over units_of (clamped least greatest) value strokes (f ∷ []) ≡ stroke ∷ [] = ap (λ (o : Option BurnedFeature). cons_option (option_map (stroke_of units_of strokes) o) []) (sym is) in
    subst (λ more. HoldsInside units_of least greatest strokes.how (covers_by strokes.touched) frame initial (earlier ++ more) new) (sym one) (in_order units_of least greatest (covers_by strokes.touched) frame strokes.how initial earlier stroke cell (is_in_runs runs) old new holds is_cell covers burns)

-- the one value, or the feature's own
pub units_or : {T : Type 0} (units_of : T → ℤ) (one : Option T) (own : T) (v : ℤ) → units_of own ≡ v → units_of (unwrap_or one own) ≡ unwrap_or (option_map units_of one) v
units_or units_of None own v is = is
units_or units_of (Some cell) own v is = refl

-- one feature more
pub burned_more : (hold : ℤ → ℤ) (value : ValueFrom) (features : List Feature) (i : ℕ) (f : Feature) → slice_get features i ≡ Some f → burned_features hold value (take (i + 1) features) ≡ burned_features hold value (take i features) ++ burned_features hold value (f ∷ [])
burned_more hold value features i f at =
    ap (filter_map (as_burned hold value)) (take_more features i f at) ∙ filter_map-append (as_burned hold value) (take i features) (f ∷ [])

-- the first feature that is burned

no_items : {A : Type 0} (x : A) (xs : List A) → x ∷ xs ≡ [] → ⊥
no_items x xs same = cc

pub first_kept : (hold : ℤ → ℤ) (value : ValueFrom) (features : List Feature) (i : ℕ) (f : Feature) (b : BurnedFeature) → slice_get features i ≡ Some f → burned_features hold value (take i features) ≡ [] → Some b ≡ as_burned hold value f → first_value (burned_features hold value features) ≡ Some b.value
first_kept hold value [] i f b at before is = absurd (none-some f at)
first_kept hold value (g ∷ features) zero f b at before is =
    let here : Some b ≡ as_burned hold value g = is ∙ ap (as_burned hold value) (sym (same_Some g f at)) in
    ap (λ (o : Option BurnedFeature). first_value (cons_option o (burned_features hold value features))) (sym here)
first_kept hold value (g ∷ features) (suc i) f b at before is = by_first (as_burned hold value g) refl (λ rest. first_kept hold value features i f b at rest is)
  where
    by_first : (o : Option BurnedFeature) → as_burned hold value g ≡ o → (burned_features hold value (take i features) ≡ [] → first_value (burned_features hold value features) ≡ Some b.value) → first_value (burned_features hold value (g ∷ features)) ≡ Some b.value
    by_first None skipped behind =
        let rest : burned_features hold value (take i features) ≡ [] = ap (λ (o : Option BurnedFeature). cons_option o (burned_features hold value (take i features))) (sym skipped) ∙ before in
        ap (λ (o : Option BurnedFeature). first_value (cons_option o (burned_features hold value features))) skipped ∙ behind rest
    by_first (Some x) kept behind = absurd (no_items x (burned_features hold value (take i features)) (ap (λ (o : Option BurnedFeature). cons_option o (burned_features hold value (take i features))) (sym kept) ∙ before))

-- one more that is skipped
pub skipped_more : (hold : ℤ → ℤ) (value : ValueFrom) (features : List Feature) (i : ℕ) (f : Feature) → slice_get features i ≡ Some f → burned_features hold value (take i features) ≡ [] → None ≡ as_burned hold value f → burned_features hold value (take (i + 1) features) ≡ []
skipped_more hold value features i f at before skipped =
    burned_more hold value features i f at
    ∙ ap (λ (fs : List BurnedFeature). fs ++ burned_features hold value (f ∷ [])) before
    ∙ ap (λ (o : Option BurnedFeature). cons_option o []) (sym skipped)

-- one feature more
pub strokes_more : {T : Type 0} (units_of : T → ℤ) (hold : ℤ → ℤ) (value : ValueFrom) (strokes : Strokes T) (features : List Feature) (i : ℕ) (f : Feature) → slice_get features i ≡ Some f → strokes_over units_of hold value strokes (take (i + 1) features) ≡ strokes_over units_of hold value strokes (take i features) ++ strokes_over units_of hold value strokes (f ∷ [])
strokes_more units_of hold value strokes features i f at =
    let h : Feature → Option BurnedFeature = λ g. option_map (stroke_of units_of strokes) (as_burned hold value g) in
    ap (filter_map h) (take_more features i f at) ∙ filter_map-append h (take i features) (f ∷ [])

-- lists of options, as they are kept

kept_map : {A B : Type 0} (h : A → B) (o : Option A) (xs : List A) → cons_option (option_map h o) (map h xs) ≡ map h (cons_option o xs)
kept_map h None xs = refl
kept_map h (Some x) xs = refl

filter_map_map : {X A B : Type 0} (h : A → B) (g : X → Option A) (xs : List X) → filter_map (λ x. option_map h (g x)) xs ≡ map h (filter_map g xs)
filter_map_map h g [] = refl
filter_map_map h g (x ∷ xs) = ap (cons_option (option_map h (g x))) (filter_map_map h g xs) ∙ kept_map h (g x) (filter_map g xs)

same_map : {A : Type 0} (h : A → A) → ((x : A) → h x ≡ x) → (xs : List A) → map h xs ≡ xs
same_map h same [] = refl
same_map {A} h same (x ∷ xs) = ap (λ (y : A). y ∷ map h xs) (same x) ∙ ap (λ (ys : List A). x ∷ ys) (same_map h same xs)

-- what is burned by a job, between these ends
abbrev value_by : ℤ → ℤ → RasterizeJob → Frame → List BurnedFeature → Place → ℤ
value_by least most job frame features cell =
    let initial = clamped least most job.init in
    if job.invert
    then outside_value least most (how_of job.add) (covers_by job.touched) frame initial (outside_of (clamped least most) job.value features) features cell
    else inside_value least most (how_of job.add) (covers_by job.touched) frame initial features cell

-- by the ends of the type that is asked for
by_kind : {T : Type 0} (units_of : T → ℤ) (least greatest : ℤ) (places : ℕ) (job : RasterizeJob) (features : List Feature) (strokes : Strokes T) → IsKind least greatest places job.kind
    → ((frame : Frame) (cell : Place) → inside_value least greatest strokes.how (covers_by strokes.touched) frame (units_of strokes.initial) (strokes_over units_of (clamped least greatest) job.value strokes features) cell ≡ value_by least greatest job frame (burned_features (clamped least greatest) job.value features) cell)
    → AreStrokesOf units_of least greatest job features strokes
by_kind units_of least greatest places job features strokes kind is frame cell =
    is frame cell
    ∙ ap (λ (l : ℤ). value_by l greatest job frame (burned_features (clamped l greatest) job.value features) cell) kind.low
    ∙ ap (λ (h : ℤ). value_by (least_of job.kind) h job frame (burned_features (clamped (least_of job.kind) h) job.value features) cell) kind.high

chosen : (b : Bool) (x y : ℤ) → b ≡ true → (if b then x else y) ≡ x
chosen true x y is = refl
chosen false x y is = absurd (cc is)

other : (b : Bool) (x y : ℤ) → b ≡ false → (if b then x else y) ≡ y
other false x y is = refl
other true x y is = absurd (cc is)

-- each feature burns its own value
pub own_strokes : {T : Type 0} (units_of : T → ℤ) (least greatest : ℤ) (places : ℕ) (job : RasterizeJob) (features : List Feature) (initial : T) → IsKind least greatest places job.kind → job.invert ≡ false → units_of initial ≡ clamped least greatest job.init → AreStrokesOf units_of least greatest job features (record { initial = initial; one = None; how = how_of job.add; touched = job.touched })
own_strokes {T} units_of least greatest places job features initial kind inside is =
    let strokes : Strokes T = record { initial = initial; one = None; how = how_of job.add; touched = job.touched } in
    let burned = burned_features (clamped least greatest) job.value features in
    let same : strokes_over units_of (clamped least greatest) job.value strokes features ≡ burned = filter_map_map (stroke_of units_of strokes) (as_burned (clamped least greatest) job.value) features ∙ same_map (stroke_of units_of strokes) (λ f. refl) burned in
    by_kind units_of least greatest places job features strokes kind (λ frame cell.
    ap (λ (fs : List BurnedFeature). inside_value least greatest (how_of job.add) (covers_by job.touched) frame (units_of initial) fs cell) same
    ∙ ap (λ (v : ℤ). inside_value least greatest (how_of job.add) (covers_by job.touched) frame v burned cell) is
    ∙ sym (other job.invert _ _ inside))

-- where each feature sets one value, a cell has it that some feature covers

put_cases : (a b : Bool) (one first : ℤ) → (if b then one else (if a then one else first)) ≡ (if (a || b) then one else first)
put_cases true true one first = refl
put_cases true false one first = refl
put_cases false true one first = refl
put_cases false false one first = refl

put_back : (least greatest : ℤ) (covers : Cover) (frame : Frame) (one first : ℤ) (features : List BurnedFeature) (cell : Place) → inside_value least greatest Set covers frame first (map (λ f. record { geometry = f.geometry; value = one }) features) cell ≡ (if list_any (λ f. covers frame f.geometry cell) features then one else first)
put_back least greatest covers frame one first [] cell = refl
put_back least greatest covers frame one first (f ∷ features) cell =
    put_back least greatest covers frame one (if covers frame f.geometry cell then one else first) features cell
    ∙ put_cases (covers frame f.geometry cell) (list_any (λ f. covers frame f.geometry cell) features) one first

both_same : (b : Bool) (x : ℤ) → (if b then x else x) ≡ x
both_same true x = refl
both_same false x = refl

-- what is left of the start where no feature covers
put_outside : (least greatest : ℤ) (how : How) (covers : Cover) (frame : Frame) (value : ℤ) (burn : Option ℤ) (features : List BurnedFeature) (cell : Place) → (if list_any (λ f. covers frame f.geometry cell) features then value else outside_start least greatest how value burn) ≡ outside_value least greatest how covers frame value burn features cell
put_outside least greatest how covers frame value None features cell = both_same (list_any (λ f. covers frame f.geometry cell) features) value
put_outside least greatest how covers frame value (Some burn) features cell = refl

-- each feature puts the initial value back
pub back_strokes : {T : Type 0} (units_of : T → ℤ) (least greatest : ℤ) (places : ℕ) (job : RasterizeJob) (features : List Feature) (start first : T) → IsKind least greatest places job.kind → job.invert ≡ true → units_of first ≡ clamped least greatest job.init
    → units_of start ≡ outside_start least greatest (how_of job.add) (units_of first) (outside_of (clamped least greatest) job.value (burned_features (clamped least greatest) job.value features))
    → AreStrokesOf units_of least greatest job features (record { initial = start; one = Some first; how = Set; touched = job.touched })
back_strokes {T} units_of least greatest places job features start first kind outside is starts =
    let strokes : Strokes T = record { initial = start; one = Some first; how = Set; touched = job.touched } in
    let how = how_of job.add in
    let covers : Cover = covers_by job.touched in
    let burned = burned_features (clamped least greatest) job.value features in
    let burn = outside_of (clamped least greatest) job.value burned in
    by_kind units_of least greatest places job features strokes kind (λ frame cell.
    ap (λ (fs : List BurnedFeature). inside_value least greatest Set covers frame (units_of start) fs cell) (filter_map_map (stroke_of units_of strokes) (as_burned (clamped least greatest) job.value) features)
    ∙ put_back least greatest covers frame (units_of first) (units_of start) burned cell
    ∙ ap (λ (v : ℤ). if list_any (λ f. covers frame f.geometry cell) burned then units_of first else v) starts
    ∙ put_outside least greatest how covers frame (units_of first) burn burned cell
    ∙ ap (λ (v : ℤ). outside_value least greatest how covers frame v burn burned cell) is
    ∙ sym (chosen job.invert _ _ outside))

-- a grid of one value
pub filled_holds : {T : Type 0} (units_of : T → ℤ) (least greatest : ℤ) (how : How) (covers : Cover) (frame : Frame) (v : T) (cells : Raster T) → IsFrame frame → cells ≡ raster_of frame.ncols frame.nrows (replicate (frame.ncols * frame.nrows) v) → HoldsInside units_of least greatest how covers frame (units_of v) [] cells
filled_holds {T} units_of least greatest how covers frame v cells over is =
    let made : Raster T = raster_of frame.ncols frame.nrows (replicate (frame.ncols * frame.nrows) v) in
    subst (λ (c : Raster T). HoldsInside units_of least greatest how covers frame (units_of v) [] c) (sym is) (record {
      ncols = refl;
      nrows = refl;
      shape = raster_from_cells frame.ncols frame.nrows (replicate (frame.ncols * frame.nrows) v) (record { some_cols = over.some_cols; some_rows = over.some_rows; small = over.few_cells; count = length-replicate (frame.ncols * frame.nrows) v });
      values = λ p x at. rows_hold (λ y. units_of y ≡ units_of v) frame.ncols frame.nrows (replicate (frame.ncols * frame.nrows) v) p.0 p.1 x (All-replicate (λ y. units_of y ≡ units_of v) (frame.ncols * frame.nrows) v refl) at;
    })

-- the same values by another name
pub holds_same : {T : Type 0} (units_of : T → ℤ) (frame : Frame) (first second : Place → ℤ) (cells : Raster T) → ((p : Place) → first p ≡ second p) → HoldsValues units_of frame first cells → HoldsValues units_of frame second cells
holds_same units_of frame first second cells same holds = record {
  ncols = holds.ncols;
  nrows = holds.nrows;
  shape = holds.shape;
  values = λ p v at. holds.values p v at ∙ same p;
}
