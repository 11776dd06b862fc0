-- The one polygon of a set of cells, as a list of corners. The orientation, the starts and the order are this project's own.
use Rattle.std.specs.Prelude.{◌≡◌, ◌≢◌, ℕ, ◌↔◌, ◌⊎◌, Bool, [], ◌∷◌, Some, All, AllPairs, Contains, slice_get}
use Rattle.cell_base.specs.Raster.{Place, Raster}
use Rattle.cell_base.specs.Steps.{four}
use Rattle.cell_base.specs.Order.{IsBefore}
use Rattle.region_label.specs.Component.{InComponent, IsFirst}
use Rattle.region_label.specs.Labelling.{RegionTable, IsInRegion}
use Rattle.edge_trace.specs.Edge.{Corner, Edge, HasOnLeft}
use Rattle.ring_faces.specs.Ring.{Ring, pairs_round}
use Rattle.ring_faces.specs.LatticePolygon.{Polygon, rings_of, IsCovered, IsValidPolygon}
use Rattle.ring_faces.specs.EdgePolygon.{all_edges}

-- a side runs along a row, or along a column, and has some length
abbrev pub IsLevel : Edge → Type 0
IsLevel side = (side.0.0 ≡ side.1.0) × (side.0.1 ≢ side.1.1)

abbrev pub IsUpright : Edge → Type 0
IsUpright side = (side.0.1 ≡ side.1.1) × (side.0.0 ≢ side.1.0)

-- of two sides one is level and the other upright
abbrev pub IsTurn : Edge × Edge → Type 0
IsTurn sides = (IsLevel sides.0 × IsUpright sides.1) ⊎ (IsUpright sides.0 × IsLevel sides.1)

-- the ring lists its turning points only: at each of its corners it turns
abbrev pub ListsTurns : Ring → Type 0
ListsTurns ring = All IsTurn (pairs_round (pairs_round ring))

-- the ring starts at its least corner: by row, then by column
abbrev pub StartsLeast : Ring → Type 0
StartsLeast [] = ⊥
StartsLeast (first ∷ others) = All (IsBefore first) others

-- the one ring starts before the other
abbrev pub StartsBefore : Ring → Ring → Type 0
StartsBefore g h = (a b : Corner) → slice_get g 0 ≡ Some a → slice_get h 0 ≡ Some b → IsBefore a b

-- a canonical polygon of a set
pub record IsCanonicalPolygon (set : Place → Type 0) (polygon : Polygon) : Type 0 where
  pub valid : IsValidPolygon polygon
  -- it covers exactly the cells of the set
  pub covers : (cell : Place) → IsCovered polygon cell ↔ set cell
  -- the cell on the left of each edge is in the set, so the shell runs counterclockwise and holes clockwise
  pub left : (e : Edge) → Contains (all_edges polygon) e → (cell : Place) × HasOnLeft e cell × set cell
  pub turns : All ListsTurns (rings_of polygon)
  pub starts : All StartsLeast (rings_of polygon)
  pub order : AllPairs StartsBefore polygon.holes

-- it has this, and no other has it
abbrev pub IsOnly : {A : Type 0} → (A → Type 0) → A → Type 0
IsOnly {A} P x = P x × ((y : A) → P y → y ≡ x)

-- what is promised of the polygon of a component: it is the only canonical polygon of its cells
abbrev pub IsPolygonOf : RegionTable → ℕ → Polygon → Type 0
IsPolygonOf regions k polygon = IsOnly (IsCanonicalPolygon (IsInRegion regions k)) polygon

-- one canonical polygon: each component under side steps has exactly one
abbrev pub HasOneCanonicalPolygon : {T : Type 0} → Raster T → Raster Bool → Type 0
HasOneCanonicalPolygon cells valid = (a : Place) → IsFirst four cells valid a
    → (polygon : Polygon) × IsOnly (IsCanonicalPolygon (InComponent four cells valid a)) polygon
