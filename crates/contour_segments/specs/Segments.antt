-- The segments of a contour level, by marching squares: the lattice has its corners at the centres of the cells. The
-- directions of the segments and the rule for saddles are this project's own.
use Rattle.std.specs.Prelude.{◌≡◌, ℕ, ℤ, ◌+◌, ◌-◌, ◌<◌, ◌⊎◌, ◌+ℤ◌, ◌*ℤ◌, int_le, pos, Bool, true, false, ◌&&◌, if◌then◌else◌, List, [], ◌∷◌, map, unwrap_or}
use Rattle.std.specs.List.{flat_map, range_with_len}
use Rattle.cell_base.specs.Raster.{Place, Raster, value_at}
use Rattle.cell_base.specs.Order.{IsBefore}
use Rattle.contour_segments.specs.declared.segment.Cross.{Cross}
use Rattle.contour_segments.specs.declared.segment.Segment.{Segment}
use Rattle.contour_segments.specs.declared.side.Side.{Side}
use Rattle.contour_segments.specs.declared.side.Side.TheVariants.{Top, Right, Bottom, Left}

-- a lattice cell, named by the centre (r, c) at its upper left, has its other corners at (r, c + 1), (r + 1, c + 1)
-- and (r + 1, c). Its sides as edges of the lattice
abbrev pub cross_on : Place → Side → Cross
cross_on (r, c) Top = record { row = r; col = c; down = false }
cross_on (r, c) Right = record { row = r; col = c + 1; down = true }
cross_on (r, c) Bottom = record { row = r + 1; col = c; down = false }
cross_on (r, c) Left = record { row = r; col = c; down = true }

-- from which side to which the segments of a lattice cell lead, by which corners are high: upper left, upper right,
-- lower right, lower left. Where just two corners across are high, it says whether those two are joined
abbrev pub sides_of : Bool → Bool → Bool → Bool → Bool → List (Side × Side)
sides_of false false false false joined = []
sides_of false false false true joined = (Left, Bottom) ∷ []
sides_of false false true false joined = (Bottom, Right) ∷ []
sides_of false false true true joined = (Left, Right) ∷ []
sides_of false true false false joined = (Right, Top) ∷ []
sides_of false true false true joined = if joined then (Left, Top) ∷ (Right, Bottom) ∷ [] else (Left, Bottom) ∷ (Right, Top) ∷ []
sides_of false true true false joined = (Bottom, Top) ∷ []
sides_of false true true true joined = (Left, Top) ∷ []
sides_of true false false false joined = (Top, Left) ∷ []
sides_of true false false true joined = (Top, Bottom) ∷ []
sides_of true false true false joined = if joined then (Top, Right) ∷ (Bottom, Left) ∷ [] else (Top, Left) ∷ (Bottom, Right) ∷ []
sides_of true false true true joined = (Top, Right) ∷ []
sides_of true true false false joined = (Right, Left) ∷ []
sides_of true true false true joined = (Right, Bottom) ∷ []
sides_of true true true false joined = (Bottom, Left) ∷ []
sides_of true true true true joined = []

-- the segments of a lattice cell along these sides, numbered from `turn`
abbrev pub segments_on : Place → ℕ → List (Side × Side) → List Segment
segments_on place turn [] = []
segments_on place turn (s ∷ ss) = record { row = place.0; col = place.1; turn = turn; from = cross_on place s.0; to = cross_on place s.1 } ∷ segments_on place (turn + 1) ss

-- the value of a cell, and whether the cell is valid
abbrev pub value_of : Raster ℤ → Place → ℤ
value_of cells place = unwrap_or (value_at cells place) (pos 0)

abbrev pub is_valid : Raster Bool → Place → Bool
is_valid valid place = unwrap_or (value_at valid place) false

-- a centre is high where its value is at least the level, and else low
abbrev pub is_high : Raster ℤ → ℤ → Place → Bool
is_high cells level place = int_le level (value_of cells place)

-- the four corners of a lattice cell are valid
abbrev pub has_corners : Raster Bool → Place → Bool
has_corners valid (r, c) = is_valid valid (r, c) && is_valid valid (r, c + 1) && is_valid valid (r + 1, c + 1) && is_valid valid (r + 1, c)

-- the mean of the four corners is at least the level
abbrev pub is_joined : Raster ℤ → ℤ → Place → Bool
is_joined cells level (r, c) = int_le (pos 4 *ℤ level) (value_of cells (r, c) +ℤ value_of cells (r, c + 1) +ℤ value_of cells (r + 1, c + 1) +ℤ value_of cells (r + 1, c))

-- the segments of a lattice cell at a level; none where a corner isn't valid
abbrev pub segments_in : Raster ℤ → Raster Bool → ℤ → Place → List Segment
segments_in cells valid level (r, c) =
    let high = is_high cells level in
    if has_corners valid (r, c)
    then segments_on (r, c) 0 (sides_of (high (r, c)) (high (r, c + 1)) (high (r + 1, c + 1)) (high (r + 1, c)) (is_joined cells level (r, c)))
    else []

-- the places of so many rows and columns, row after row
abbrev pub places_of : ℕ → ℕ → List Place
places_of nrows ncols = flat_map (λ r. map (λ c. (r, c)) (range_with_len 0 ncols)) (range_with_len 0 nrows)

-- the lattice cells of a grid: one row and one column fewer than cells
abbrev pub lattice_of : Raster ℤ → List Place
lattice_of cells = places_of (cells.nrows - 1) (cells.ncols - 1)

-- the segments of a level
abbrev pub segments_of : Raster ℤ → Raster Bool → ℤ → List Segment
segments_of cells valid level = flat_map (segments_in cells valid level) (lattice_of cells)

-- the order of segments: by row, then column, then turn
abbrev pub ComesBefore : Segment → Segment → Type 0
ComesBefore s t = IsBefore (s.row, s.col) (t.row, t.col) ⊎ ((s.row ≡ t.row) × (s.col ≡ t.col) × (s.turn < t.turn))
