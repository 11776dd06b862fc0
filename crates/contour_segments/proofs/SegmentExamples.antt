-- Worked rows of segments: each list is what marching squares gives by hand.
use Rattle.std.proofs.Common.{◌≡◌, ℕ, ℤ, Bool, true, false, [], ◌∷◌, refl, pos}
use Rattle.cell_base.specs.Raster.{Raster}
use Rattle.contour_segments.specs.Segments.{segments_of}
use Rattle.contour_segments.specs.declared.segment.Cross.{Cross}
use Rattle.contour_segments.specs.declared.segment.Segment.{Segment}

-- the crossing to the right of a centre, and the one below it

abbrev beside : ℕ → ℕ → Cross
beside r c = record { row = r; col = c; down = false }

abbrev below : ℕ → ℕ → Cross
below r c = record { row = r; col = c; down = true }

abbrev first : ℕ → ℕ → Cross → Cross → Segment
first r c a b = record { row = r; col = c; turn = 0; from = a; to = b }

abbrev second : ℕ → ℕ → Cross → Cross → Segment
second r c a b = record { row = r; col = c; turn = 1; from = a; to = b }

-- 0 10 / 0 10 at 5: upwards, the high side on the right; and at 10, which the right column reaches
abbrev slope : Raster ℤ
slope = record { ncols = 2; nrows = 2; rows = (pos 0 ∷ pos 10000000 ∷ []) ∷ (pos 0 ∷ pos 10000000 ∷ []) ∷ [] }

abbrev all_four : Raster Bool
all_four = record { ncols = 2; nrows = 2; rows = (true ∷ true ∷ []) ∷ (true ∷ true ∷ []) ∷ [] }

slope_at_5 : segments_of slope all_four (pos 5000000) ≡ first 0 0 (beside 1 0) (beside 0 0) ∷ []
slope_at_5 = refl

slope_at_10 : segments_of slope all_four (pos 10000000) ≡ first 0 0 (beside 1 0) (beside 0 0) ∷ []
slope_at_10 = refl

-- at 0 every centre is high, and above 10 none is
slope_at_0 : segments_of slope all_four (pos 0) ≡ []
slope_at_0 = refl

slope_above : segments_of slope all_four (pos 10000001) ≡ []
slope_above = refl

-- 10 0 / 0 10: the high corners are joined at 5, which is their mean with the low ones, and split at 6
abbrev saddle : Raster ℤ
saddle = record { ncols = 2; nrows = 2; rows = (pos 10000000 ∷ pos 0 ∷ []) ∷ (pos 0 ∷ pos 10000000 ∷ []) ∷ [] }

saddle_joined : segments_of saddle all_four (pos 5000000) ≡ first 0 0 (beside 0 0) (below 0 1) ∷ second 0 0 (beside 1 0) (below 0 0) ∷ []
saddle_joined = refl

saddle_split : segments_of saddle all_four (pos 6000000) ≡ first 0 0 (beside 0 0) (below 0 0) ∷ second 0 0 (beside 1 0) (below 0 1) ∷ []
saddle_split = refl

-- the other saddle: 0 10 / 10 0
abbrev saddle_across : Raster ℤ
saddle_across = record { ncols = 2; nrows = 2; rows = (pos 0 ∷ pos 10000000 ∷ []) ∷ (pos 10000000 ∷ pos 0 ∷ []) ∷ [] }

across_joined : segments_of saddle_across all_four (pos 5000000) ≡ first 0 0 (below 0 0) (beside 0 0) ∷ second 0 0 (below 0 1) (beside 1 0) ∷ []
across_joined = refl

across_split : segments_of saddle_across all_four (pos 6000000) ≡ first 0 0 (below 0 0) (beside 1 0) ∷ second 0 0 (below 0 1) (beside 0 0) ∷ []
across_split = refl

-- a hill in a plain at 5: four segments round it, in order of row and column
abbrev hill : Raster ℤ
hill = record { ncols = 3; nrows = 3; rows = (pos 0 ∷ pos 0 ∷ pos 0 ∷ []) ∷ (pos 0 ∷ pos 10000000 ∷ pos 0 ∷ []) ∷ (pos 0 ∷ pos 0 ∷ pos 0 ∷ []) ∷ [] }

abbrev all_nine : Raster Bool
all_nine = record { ncols = 3; nrows = 3; rows = (true ∷ true ∷ true ∷ []) ∷ (true ∷ true ∷ true ∷ []) ∷ (true ∷ true ∷ true ∷ []) ∷ [] }

hill_segments : segments_of hill all_nine (pos 5000000) ≡ first 0 0 (beside 1 0) (below 0 1) ∷ first 0 1 (below 0 1) (beside 1 1) ∷ first 1 0 (below 1 1) (beside 1 0) ∷ first 1 1 (beside 1 1) (below 1 1) ∷ []
hill_segments = refl

-- 0.5 10.5 and a cell that isn't valid, twice, at 5.5: the lattice cell with the invalid corners has none
abbrev shore : Raster ℤ
shore = record { ncols = 3; nrows = 2; rows = (pos 500000 ∷ pos 10500000 ∷ pos 0 ∷ []) ∷ (pos 500000 ∷ pos 10500000 ∷ pos 0 ∷ []) ∷ [] }

abbrev land : Raster Bool
land = record { ncols = 3; nrows = 2; rows = (true ∷ true ∷ false ∷ []) ∷ (true ∷ true ∷ false ∷ []) ∷ [] }

shore_segments : segments_of shore land (pos 5500000) ≡ first 0 0 (beside 1 0) (beside 0 0) ∷ []
shore_segments = refl
