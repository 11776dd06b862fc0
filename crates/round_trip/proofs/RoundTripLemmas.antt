-- The layer that gdal_polygonize leaves of a grid is burned back to the grid.
use Rattle.std.proofs.Common.{◌≡◌, ℕ, ℤ, ◌⊎◌, inl, inr, Bool, true, false, List, [], ◌∷◌, Option, Some, None, Result, Ok, Err, pos, refl, sym, ap, ◌∙◌, subst, arith}
use Rattle.std.specs.Prelude.{All, map, codes, option_map, unwrap_or}
use Rattle.std.specs.List.{zip}
use Rattle.std.specs.Str.{str_eq_ignore_ascii_case}
use Rattle.std.proofs.lemmas.Int.{ints}
use Rattle.rv_outside.specs.Files.{Files}
use Rattle.cell_base.specs.Raster.{IsInside, Place, Raster, value_at}
use Rattle.cell_base.specs.Steps.{four}
use Rattle.cell_base.specs.declared.kind.CellKind.{CellKind}
use Rattle.cell_base.specs.declared.kind.CellKind.TheVariants.{Int64}
use Rattle.geo_transform.specs.declared.frame.Frame.{Frame}
use Rattle.asc_grid.specs.declared.grid.Asc.{Asc}
use Rattle.region_label.specs.Labelling.{IsLabelling, RegionTable}
use Rattle.region_label.proofs.OneLemmas.{one_labelling}
use Rattle.ring_faces.specs.LatticePolygon.{Polygon}
use Rattle.burn_scanline.specs.Burned.{BurnedFeature, inside_value}
use Rattle.burn_scanline.specs.Centre.{is_covered}
use Rattle.burn_scanline.specs.declared.burning.How.TheVariants.{Set}
use Rattle.ogr_csv.specs.declared.feature.Feature.{Feature}
use Rattle.tool_words.specs.Words.{Text}
use Rattle.tool_words.specs.declared.job.PolygonizeJob.{PolygonizeJob}
use Rattle.tool_words.specs.declared.job.RasterizeJob.{RasterizeJob}
use Rattle.tool_words.specs.declared.job.ValueFrom.TheVariants.{Field}
use Rattle.tool_outcome.specs.Features.{layer_in}
use Rattle.tool_outcome.specs.Polygonize.{IsPolygonizeText, components_of, layer_text, value_of}
use Rattle.tool_outcome.specs.Rasterize.{burned_cells, held, least_of, most_of, of_layer, of_polygons, over_frame, raster_by, rasterize_answer, rasterize_text}
use Rattle.tool_outcome.specs.Source.{text_of}
use Rattle.round_trip.specs.BackWords.{back_job, outside_of}
use Rattle.round_trip.proofs.BurnedLemmas.{grid_back}
use Rattle.round_trip.proofs.ExtentLemmas.{frame_back}
use Rattle.round_trip.proofs.FeatureLemmas.{HasRow, feature_of_component, layer_back}
use Rattle.round_trip.proofs.GridLemmas.{normalised_same}
use Rattle.round_trip.proofs.LayerLemmas.{IsHeldIn, all_burned, burned_component, components_held, features_are, held_in_64, no_others, own_components, rows_hold}
use Rattle.round_trip.proofs.SourceLemmas.{IsGridOfText}

-- the components of a text, with their one part each
abbrev pub components_in : Asc ℤ → RegionTable → List Polygon → List (ℤ × List Polygon)
components_in asc regions polygons = zip (map (value_of asc.cells) regions.firsts) (map (λ p. p ∷ []) polygons)

-- the type holds the nodata value
nodata_same : (kind : CellKind) (asc : Asc ℤ) → IsHeldIn kind asc → option_map (held kind) asc.nodata ≡ asc.nodata
nodata_same kind asc is = decide asc.nodata refl
  where
    decide : (o : Option ℤ) → asc.nodata ≡ o → option_map (held kind) o ≡ o
    decide None none = refl
    decide (Some n) some = ap Some (subst (λ (o : Option ℤ). held kind (outside_of o) ≡ outside_of o) some is.outside)

-- where there is a nodata value, it is what the cells hold at first
initial_is : (kind : CellKind) (asc : Asc ℤ) → IsHeldIn kind asc → (n : ℤ) → asc.nodata ≡ Some n → held kind (outside_of asc.nodata) ≡ n
initial_is kind asc is n nodata = is.outside ∙ ap outside_of nodata

-- the answer of the back job, with cells of a type that holds the grid
pub answer_in : (kind : CellKind) (asc : Asc ℤ) (job : PolygonizeJob) (text : List ℕ) (layer dest : Text) (files : Files)
    → IsGridOfText asc → IsHeldIn kind asc
    → job.eight ≡ four → str_eq_ignore_ascii_case job.field (codes "WKT") ≡ false
    → IsPolygonizeText job asc text → files layer ≡ Some text
    → rasterize_answer (record (back_job job.field asc layer dest) { kind = kind }) files ≡ Ok (text_of asc)
answer_in kind asc job text layer dest files is fits by_sides other has told =
    ap (λ bytes. of_layer back (layer_in (Some job.field) bytes)) (told ∙ ap Some written)
    ∙ ap (of_layer back) (layer_back job.field asc.frame components other rows)
    ∙ ap (of_polygons back features) (no_others asc.frame components)
    ∙ ap (over_frame back features) (frame_back asc.frame is.frame)
    ∙ ap (λ (g : Asc ℤ). Ok (text_of g)) grid
  where
    back : RasterizeJob
    back = record (back_job job.field asc layer dest) { kind = kind }

    components : List (ℤ × List Polygon)
    components = components_in asc has.sides has.polygons

    features : List Feature
    features = map (feature_of_component asc.frame) components

    same : has.sides ≡ has.regions
    same = one_labelling four asc.cells has.valid has.sides has.regions has.by_sides (subst (λ c. IsLabelling c asc.cells has.valid has.regions) by_sides has.labelled)

    written : text ≡ layer_text job.field asc.frame components
    written =
        has.is
        ∙ ap (λ (r : RegionTable). layer_text job.field asc.frame (components_of asc.cells r has.sides has.polygons)) (sym same)
        ∙ ap (layer_text job.field asc.frame) (own_components asc.cells has.valid has.sides has.polygons has.by_sides has.drawn)

    rows : All (HasRow asc.frame) components
    rows = rows_hold asc has.valid has.sides has.polygons is has.by_sides has.drawn

    cells : burned_cells back asc.frame features ≡ asc.cells
    cells =
        ap (λ (fs : List BurnedFeature). raster_by asc.frame.ncols asc.frame.nrows (inside_value (least_of kind) (most_of kind) Set is_covered asc.frame (held kind (outside_of asc.nodata)) fs))
        (all_burned kind job.field asc.frame components (components_held kind asc fits has.sides.firsts (map (λ p. p ∷ []) has.polygons)))
        ∙ grid_back (least_of kind) (most_of kind) asc.frame asc.cells has.valid has.sides (map (burned_component asc.frame) components) (held kind (outside_of asc.nodata))
        (record { is_frame = is.frame; ncols = is.ncols; nrows = is.nrows; labelled = has.by_sides })
        (features_are asc has.valid has.sides has.polygons is has.by_sides has.drawn)
        ∙ normalised_same asc has.valid (held kind (outside_of asc.nodata)) has.mask (initial_is kind asc fits)

    grid : record { frame = asc.frame; nodata = option_map (held kind) asc.nodata; cells = burned_cells back asc.frame features } ≡ asc
    grid =
        ap (λ (o : Option ℤ). record { frame = asc.frame; nodata = o; cells = burned_cells back asc.frame features }) (nodata_same kind asc fits)
        ∙ ap (λ (c : Raster ℤ). record { frame = asc.frame; nodata = asc.nodata; cells = c }) cells

-- the answer of the back job
pub answer_back : (asc : Asc ℤ) (job : PolygonizeJob) (text : List ℕ) (layer dest : Text) (files : Files) → IsGridOfText asc
    → job.eight ≡ four → str_eq_ignore_ascii_case job.field (codes "WKT") ≡ false
    → IsPolygonizeText job asc text → files layer ≡ Some text
    → rasterize_answer (back_job job.field asc layer dest) files ≡ Ok (text_of asc)
answer_back asc job text layer dest files is by_sides other has told =
    answer_in Int64 asc job text layer dest files is (held_in_64 asc is) by_sides other has told
