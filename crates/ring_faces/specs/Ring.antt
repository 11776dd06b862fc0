-- Rings over the corners of cells, with no turning rule: a ring is a closed walk.
use Rattle.std.specs.Prelude.{ℕ, zero, suc, ◌+◌, ◌-◌, ◌≤◌, ◌≢◌, ◌⊎◌, nat_lt, List, [], ◌∷◌, ◌++◌, length, take, drop, map, All, AllPairs, Contains, if◌then◌else◌}
use Rattle.std.specs.Int.{abs_diff}
use Rattle.std.specs.List.{zip, flat_map}
use Rattle.cell_base.specs.Raster.{Place}
use Rattle.edge_trace.specs.Edge.{Corner, Edge, IsUnitEdge, turned}
use Rattle.edge_trace.specs.Crossing.{IsEnclosed}
use Rattle.edge_trace.specs.declared.table.Corner as coded

-- a ring, by its corners in order. The first isn't repeated at the end
abbrev pub Ring : Type 0
Ring = List Corner

-- corners as the code has them
abbrev pub points_of : List coded.Corner → List Corner
points_of corners = map (λ (corner : coded.Corner). (corner.row, corner.col)) corners

-- each member with the one after it, and the last with the first
abbrev pub pairs_round : {A : Type 0} → List A → List (A × A)
pairs_round xs = zip xs (drop 1 xs ++ take 1 xs)

-- a number one nearer to another
abbrev pub nearer : ℕ → ℕ → ℕ
nearer m n = if nat_lt m n then m + 1 else (if nat_lt n m then m - 1 else m)

-- so many edges from one corner towards another, each to the corner that is one nearer
abbrev pub edges_towards : ℕ → Corner → Corner → List Edge
edges_towards zero a b = []
edges_towards (suc n) a b = (a, (nearer a.0 b.0, nearer a.1 b.1)) ∷ edges_towards n (nearer a.0 b.0, nearer a.1 b.1) b

-- a side of a ring, cut into unit edges
abbrev pub cut : Edge → List Edge
cut (a, b) = edges_towards (abs_diff a.0 b.0 + abs_diff a.1 b.1) a b

-- the edges of a ring: those between its successive corners, from the last to the first included, long ones cut into units
abbrev pub edges_of : Ring → List Edge
edges_of ring = flat_map cut (pairs_round ring)

-- the corners that a ring visits, those within its long edges included
abbrev pub corners_of : Ring → List Corner
corners_of ring = map (λ e. e.0) (edges_of ring)

-- the ring runs along this edge, in either direction
abbrev pub RunsAlong : Ring → Edge → Type 0
RunsAlong ring e = Contains (edges_of ring) e ⊎ Contains (edges_of ring) (turned e)

-- the cell is inside the ring
abbrev pub IsInsideRing : Ring → Place → Type 0
IsInsideRing ring cell = IsEnclosed (edges_of ring) cell

-- a closed walk of at least four unit edges
pub record IsRing (ring : Ring) : Type 0 where
  pub units : All IsUnitEdge (edges_of ring)
  pub long : 4 ≤ length (edges_of ring)

-- a ring that visits no corner twice
pub record IsSimpleRing (ring : Ring) : Type 0 where
  pub closed : IsRing ring
  pub simple : AllPairs (λ a b. a ≢ b) (corners_of ring)
