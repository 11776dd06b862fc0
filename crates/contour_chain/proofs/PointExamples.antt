-- Worked rows of points: the numbers are what the fraction of the way gives by hand.
use Rattle.std.proofs.Common.{◌≡◌, ℕ, ℤ, true, false, None, [], ◌∷◌, refl, pos}
use Rattle.geo_transform.specs.declared.frame.Frame.{Frame}
use Rattle.cell_base.specs.Raster.{Raster}
use Rattle.contour_segments.specs.declared.segment.Cross.{Cross}
use Rattle.contour_segments.specs.declared.segment.Segment.{Segment}
use Rattle.wkt_text.specs.declared.geometry.Pt.{Pt}
use Rattle.contour_chain.specs.Points.{line_through, points_along}

abbrev beside : ℕ → ℕ → Cross
beside r c = record { row = r; col = c; down = false }

abbrev below : ℕ → ℕ → Cross
below r c = record { row = r; col = c; down = true }

abbrev segment : ℕ → ℕ → ℕ → Cross → Cross → Segment
segment r c turn a b = record { row = r; col = c; turn = turn; from = a; to = b }

abbrev at : ℕ → ℕ → Pt
at x y = record { x = pos x; y = pos y }

-- two columns and two rows of this cell size, in units of 10^-10, with a corner at 0 0
abbrev square : ℕ → Frame
square cell = record { ncols = 2; nrows = 2; xll = pos 0; yll = pos 0; cell = pos cell }

-- 0 3 / 0 3 at 1: a third of the way, rounded once; with cells of 3 it is whole
abbrev slope : Raster ℤ
slope = record { ncols = 2; nrows = 2; rows = (pos 0 ∷ pos 3000000 ∷ []) ∷ (pos 0 ∷ pos 3000000 ∷ []) ∷ [] }

third : points_along (square 10000000000) slope (pos 1000000) (segment 0 0 0 (beside 1 0) (beside 0 0) ∷ []) ≡ at 8333333333 5000000000 ∷ at 8333333333 15000000000 ∷ []
third = refl

whole : points_along (square 30000000000) slope (pos 1000000) (segment 0 0 0 (beside 1 0) (beside 0 0) ∷ []) ≡ at 25000000000 15000000000 ∷ at 25000000000 45000000000 ∷ []
whole = refl

-- 10 0 / 0 10: the saddle joined at 5, and split at 6
abbrev saddle : Raster ℤ
saddle = record { ncols = 2; nrows = 2; rows = (pos 10000000 ∷ pos 0 ∷ []) ∷ (pos 0 ∷ pos 10000000 ∷ []) ∷ [] }

joined : points_along (square 10000000000) saddle (pos 5000000) (segment 0 0 0 (beside 0 0) (below 0 1) ∷ []) ≡ at 10000000000 15000000000 ∷ at 15000000000 10000000000 ∷ []
joined = refl

split : points_along (square 10000000000) saddle (pos 6000000) (segment 0 0 0 (beside 0 0) (below 0 0) ∷ []) ≡ at 9000000000 15000000000 ∷ at 5000000000 11000000000 ∷ []
split = refl

-- 5 0 / 0 0 at 5: both ends at the high centre, so one point is left, and no line
abbrev peak : Raster ℤ
peak = record { ncols = 2; nrows = 2; rows = (pos 5000000 ∷ pos 0 ∷ []) ∷ (pos 0 ∷ pos 0 ∷ []) ∷ [] }

one_left : points_along (square 10000000000) peak (pos 5000000) (segment 0 0 0 (beside 0 0) (below 0 0) ∷ []) ≡ at 5000000000 15000000000 ∷ []
one_left = refl

no_line : line_through (points_along (square 10000000000) peak (pos 5000000) (segment 0 0 0 (beside 0 0) (below 0 0) ∷ [])) ≡ None
no_line = refl

-- a hill of 10 in a plain of 0 at 5: a closed line ends where it begins
abbrev hill : Raster ℤ
hill = record { ncols = 3; nrows = 3; rows = (pos 0 ∷ pos 0 ∷ pos 0 ∷ []) ∷ (pos 0 ∷ pos 10000000 ∷ pos 0 ∷ []) ∷ (pos 0 ∷ pos 0 ∷ pos 0 ∷ []) ∷ [] }

round : points_along (record { ncols = 3; nrows = 3; xll = pos 0; yll = pos 0; cell = pos 10000000000 }) hill (pos 5000000) (segment 0 0 0 (beside 1 0) (below 0 1) ∷ segment 0 1 0 (below 0 1) (beside 1 1) ∷ segment 1 1 0 (beside 1 1) (below 1 1) ∷ segment 1 0 0 (below 1 1) (beside 1 0) ∷ []) ≡ at 10000000000 15000000000 ∷ at 15000000000 20000000000 ∷ at 20000000000 15000000000 ∷ at 15000000000 10000000000 ∷ at 10000000000 15000000000 ∷ []
round = refl
