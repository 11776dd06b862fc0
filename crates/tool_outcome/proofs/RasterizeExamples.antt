-- Small layers and what gdal_rasterize makes of them, computed from the definitions.
use Rattle.std.proofs.Common.{◌≡◌, ℕ, ℤ, ◌*◌, ◌^◌, true, false, List, [], ◌∷◌, Some, None, Ok, Err, refl, pos}
use Rattle.std.specs.Prelude.{codes}
use Rattle.std.specs.Fmt.{digits}
use Rattle.cell_base.specs.declared.kind.CellKind.TheVariants.{Byte}
use Rattle.geo_transform.specs.declared.extent.Extent.{Extent}
use Rattle.geo_transform.specs.declared.fault.FrameFault.TheVariants.{BadCell, BadSize, NotSquare, TooLarge}
use Rattle.geo_transform.specs.declared.frame.Frame.{Frame}
use Rattle.asc_grid.specs.Canonical.{header_text}
use Rattle.wkt_text.specs.declared.geometry.Pt.{Pt}
use Rattle.wkt_text.specs.declared.geometry.Geometry.{Geometry}
use Rattle.wkt_text.specs.declared.geometry.Geometry.TheVariants.{Point, Polygon}
use Rattle.wkt_text.specs.declared.fault.WktKind.TheVariants.{OpenRing}
use Rattle.ogr_csv.specs.declared.fault.LayerFault.TheVariants.{BadAttribute, BadGeometry}
use Rattle.ogr_csv.specs.declared.feature.Feature.{Feature}
use Rattle.tool_words.specs.declared.job.RasterizeJob.{RasterizeJob}
use Rattle.tool_words.specs.declared.job.SizeFrom.TheVariants.{Cells, Res}
use Rattle.tool_words.specs.declared.job.ValueFrom.TheVariants.{Burn, Field}
use Rattle.tool_outcome.specs.Features.{features_of}
use Rattle.tool_outcome.specs.LayerExtent.{layer_extent}
use Rattle.tool_outcome.specs.Rasterize.{burned_cells, of_layer}
use Rattle.tool_outcome.specs.declared.fault.Fault.TheVariants.{Frame as FrameOf, NoExtent, NotPolygon}

-- coordinates in whole numbers
abbrev along : ℕ → ℤ
along n = pos (n * 10 ^ 10)

abbrev point : ℕ → ℕ → Pt
point x y = record { x = along x; y = along y }

-- a square with its lower left and its upper right corner on the diagonal
abbrev square : ℕ → ℕ → Geometry
square low high = Polygon ((point low low ∷ point high low ∷ point high high ∷ point low high ∷ point low low ∷ []) ∷ [])

abbrev feature : Geometry → ℤ → Feature
feature g value = record { geometry = Some g; value = Some value }

abbrev without_value : Geometry → Feature
without_value g = record { geometry = Some g; value = None }

-- the attribute over cells of size 1 in the layer's extent
abbrev by_attribute : RasterizeJob
by_attribute = record {
  source = codes "in.csv";
  dest = codes "out.asc";
  value = Field (codes "v");
  invert = false;
  touched = false;
  add = false;
  init = pos 0;
  nodata = None;
  extent = None;
  size = Cells 3 3;
  kind = Byte;
}

abbrev two_squares : List Feature
two_squares = feature (square 0 2) (pos 200) ∷ feature (square 1 3) (pos 100) ∷ []

abbrev extent_to : ℕ → ℕ → Extent
extent_to x y = record { xmin = pos 0; ymin = pos 0; xmax = along x; ymax = along y }

two_extents : layer_extent two_squares ≡ Some (extent_to 3 3)
two_extents = refl

-- the whole text: of two that overlap the last one stays
last_one : of_layer by_attribute (Ok two_squares) ≡ Ok (codes "ncols 3\nnrows 3\nxllcorner 0\nyllcorner 0\ncellsize 1\n0 100 100\n200 100 100\n200 200 0\n")
unfolding header_text digits
last_one = refl

-- sums and the nodata value are held at the ends of the type
held_sums : of_layer (record by_attribute { add = true; nodata = Some (pos 999) }) (Ok two_squares) ≡ Ok (codes "ncols 3\nnrows 3\nxllcorner 0\nyllcorner 0\ncellsize 1\nNODATA_value 255\n0 100 100\n200 255 100\n200 200 0\n")
unfolding header_text digits
held_sums = refl

-- outside, the first attribute
outside : of_layer (record by_attribute { invert = true }) (Ok two_squares) ≡ Ok (codes "ncols 3\nnrows 3\nxllcorner 0\nyllcorner 0\ncellsize 1\n200 0 0\n0 0 0\n0 0 200\n")
unfolding header_text digits
outside = refl

-- a feature without a value is skipped, and lies within the extent
skipped : of_layer (record by_attribute { init = pos 7 }) (Ok (without_value (square 0 1) ∷ feature (square 2 3) (pos 5) ∷ [])) ≡ Ok (codes "ncols 3\nnrows 3\nxllcorner 0\nyllcorner 0\ncellsize 1\n7 7 5\n7 7 7\n7 7 7\n")
unfolding header_text digits
skipped = refl

abbrev unit_frame : Frame
unit_frame = record { ncols = 2; nrows = 1; xll = pos 0; yll = pos 0; cell = along 1 }

-- an EMPTY geometry isn't skipped: its attribute is the first one
empty_first : (burned_cells (record by_attribute { invert = true }) unit_frame (feature (Point []) (pos 7) ∷ feature (square 0 1) (pos 8) ∷ [])).rows ≡ (pos 0 ∷ pos 7 ∷ []) ∷ []
empty_first = refl

-- without any attribute nothing is burned outside
none_left : (burned_cells (record by_attribute { invert = true }) unit_frame (without_value (square 0 1) ∷ [])).rows ≡ (pos 0 ∷ pos 0 ∷ []) ∷ []
none_left = refl

-- but the one value is burned there
all_outside : (burned_cells (record by_attribute { invert = true; value = Burn (pos 9) }) unit_frame []).rows ≡ (pos 9 ∷ pos 9 ∷ []) ∷ []
all_outside = refl

-- a point is told, also of a feature that would be skipped, and before the frame's fault
a_point : of_layer (record by_attribute { size = Cells 0 3 }) (Ok (feature (Point []) (pos 7) ∷ without_value (Point (point 1 2 ∷ [])) ∷ [])) ≡ Err (NotPolygon 2)
a_point = refl

no_extent : of_layer (record by_attribute { size = Cells 0 3 }) (Ok (feature (Point []) (pos 7) ∷ [])) ≡ Err NoExtent
no_extent = refl

bad_size : of_layer (record by_attribute { extent = Some (extent_to 0 1) }) (Ok []) ≡ Err (FrameOf BadSize)
bad_size = refl

not_square : of_layer (record by_attribute { extent = Some (extent_to 2 1); size = Cells 1 1 }) (Ok []) ≡ Err (FrameOf NotSquare)
not_square = refl

too_large : of_layer (record by_attribute { extent = Some (extent_to 1 1); size = Cells 5000 5000 }) (Ok []) ≡ Err (FrameOf (TooLarge 25000000))
too_large = refl

-- a size that the words never give
no_size : of_layer (record by_attribute { extent = Some (extent_to 1 1); size = Res (pos 0) (along 1) }) (Ok []) ≡ Err (FrameOf BadCell)
no_size = refl

-- the first record that is refused
first_refused : features_of (Ok (without_value (square 0 1)) ∷ Err (BadGeometry 2 OpenRing 26) ∷ Err (BadAttribute 3) ∷ []) ≡ Err (BadGeometry 2 OpenRing 26)
first_refused = refl
