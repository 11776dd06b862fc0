-- Worked examples of what is covered and burned, computed from the definitions.
use Rattle.std.proofs.Common.{◌≡◌, ℕ, true, false, List, [], ◌∷◌, Some, None, refl, pos}
use Rattle.std.specs.Prelude.{map}
use Rattle.std.specs.List.{range_with_len}
use Rattle.cell_base.specs.WholeCells.{least_byte, most_byte}
use Rattle.geo_transform.specs.declared.frame.Frame.{Frame}
use Rattle.wkt_text.specs.declared.geometry.Pt.{Pt}
use Rattle.wkt_text.specs.declared.geometry.Geometry.TheVariants.{Point, Polygon, MultiPolygon}
use Rattle.burn_scanline.specs.Ring.{edges_of}
use Rattle.burn_scanline.specs.Centre.{is_covered}
use Rattle.burn_scanline.specs.Burned.{BurnedFeature, inside_value, outside_value}
use Rattle.burn_scanline.specs.declared.burning.How.TheVariants.{Set, Add}

-- three columns and rows of cells of size 2 from the corner 0 0
abbrev frame : Frame
frame = record { ncols = 3; nrows = 3; xll = pos 0; yll = pos 0; cell = pos 2 }

-- what holds at each cell of three rows and columns
abbrev cells_by : {A : Type 0} → (ℕ × ℕ → A) → List (List A)
cells_by at = map (λ r. map (λ c. at (r, c)) (range_with_len 0 3)) (range_with_len 0 3)

abbrev three : {A : Type 0} → A → A → A → List A
three a b c = a ∷ b ∷ c ∷ []

abbrev point : ℕ → ℕ → Pt
point x y = record { x = pos x; y = pos y }

-- a square with its lower left and its upper right corner on the diagonal
abbrev square : ℕ → ℕ → List Pt
square low high = point low low ∷ point high low ∷ point high high ∷ point low high ∷ point low low ∷ []

-- a square through centres covers those on its lower and left sides, and none on its upper and right ones
centres_on_sides : cells_by (is_covered frame (Polygon (square 1 5 ∷ []))) ≡ three (three false false false) (three true true false) (three true true false)
centres_on_sides = refl

-- a ring that isn't closed is closed by an edge
open_ring : edges_of (point 0 0 ∷ point 6 0 ∷ point 0 6 ∷ []) ≡ three (point 0 6, point 0 0) (point 0 0, point 6 0) (point 6 0, point 0 6)
open_ring = refl

-- the slanted side of this triangle runs through centres, and these are not covered
triangle : cells_by (is_covered frame (Polygon ((point 0 0 ∷ point 6 0 ∷ point 0 6 ∷ []) ∷ []))) ≡ three (three false false false) (three true false false) (three true true false)
triangle = refl

-- from the other side they are
other_triangle : cells_by (is_covered frame (Polygon ((point 6 0 ∷ point 6 6 ∷ point 0 6 ∷ []) ∷ []))) ≡ three (three true true true) (three false true true) (three false false true)
other_triangle = refl

-- a hole isn't covered
hole : cells_by (is_covered frame (Polygon (square 0 6 ∷ square 2 4 ∷ []))) ≡ three (three true true true) (three true false true) (three true true true)
hole = refl

-- two members of a MULTIPOLYGON don't cover what both are round
both_round : cells_by (is_covered frame (MultiPolygon ((square 0 4 ∷ []) ∷ (square 2 6 ∷ []) ∷ []))) ≡ three (three false true true) (three true false true) (three true true false)
both_round = refl

no_ring : cells_by (is_covered frame (Point [])) ≡ three (three false false false) (three false false false) (three false false false)
no_ring = refl

abbrev squares : List BurnedFeature
squares = record { geometry = Polygon (square 0 4 ∷ []); value = pos 200 } ∷ record { geometry = Polygon (square 2 6 ∷ []); value = pos 100 } ∷ []

-- of two that overlap the last one stays
set : cells_by (inside_value least_byte most_byte Set is_covered frame (pos 0) squares) ≡ three (three (pos 0) (pos 100) (pos 100)) (three (pos 200) (pos 100) (pos 100)) (three (pos 200) (pos 200) (pos 0))
set = refl

-- sums are held at the ends of the type
added : cells_by (inside_value least_byte most_byte Add is_covered frame (pos 0) squares) ≡ three (three (pos 0) (pos 100) (pos 100)) (three (pos 200) (pos 255) (pos 100)) (three (pos 200) (pos 200) (pos 0))
added = refl

outside : cells_by (outside_value least_byte most_byte Set is_covered frame (pos 0) (Some (pos 9)) squares) ≡ three (three (pos 9) (pos 0) (pos 0)) (three (pos 0) (pos 0) (pos 0)) (three (pos 0) (pos 0) (pos 9))
outside = refl

nothing_outside : cells_by (outside_value least_byte most_byte Add is_covered frame (pos 3) None squares) ≡ three (three (pos 3) (pos 3) (pos 3)) (three (pos 3) (pos 3) (pos 3)) (three (pos 3) (pos 3) (pos 3))
nothing_outside = refl
