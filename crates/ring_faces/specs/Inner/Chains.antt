-- The cycles of each component as a linked list of their indices, and the polygons that they make.
use Rattle.std.specs.Prelude.{◌≡◌, ℕ, zero, suc, ◌+◌, ◌-◌, ◌<◌, ◌≤◌, ◌↔◌, List, [], ◌∷◌, Some, AllPairs, Contains, drop, length, map, nat_lt, slice_get, slice_index, take, unwrap_or, if◌then◌else◌}
use Rattle.region_label.specs.Labelling.{RegionTable}
use Rattle.edge_trace.specs.Edge.{Corner}
use Rattle.edge_trace.specs.EdgeTable.{EdgeTable, IsEdgeOf}
use Rattle.ring_faces.specs.LatticePolygon.{Polygon}
use Rattle.ring_faces.specs.Ring.{Ring}
use Rattle.ring_faces.specs.Inner.Lattice.{corners_of}
use Rattle.ring_faces.specs.Inner.Turns.{turns_of}
use Rattle.ring_faces.specs.Inner.Tables.{edges_along}
use Rattle.ring_faces.specs.declared.cycles.Cycle.{Cycle}
use Rattle.ring_faces.specs.declared.rings.RingCorners.{RingCorners}
use Rattle.ring_faces.specs.declared.lists.CycleLists.{CycleLists}

-- at most so many of the indices that are linked from one on; an index past the links ends them
abbrev pub chain_from : List ℕ → ℕ → ℕ → List ℕ
chain_from links zero at = []
chain_from links (suc n) at =
    if nat_lt at (length links) then at ∷ chain_from links n (slice_index links at) else []

-- the indices that are linked from one on, and no other after them
abbrev pub IsChain : List ℕ → ℕ → List ℕ → Type 0
IsChain links at [] = at ≡ length links
IsChain links at (i ∷ is) = (at ≡ i) × (i < length links) × IsChain links (slice_index links i) is

-- from one on, all indices of a set from another on are linked, in order
pub record IsListFrom (links : List ℕ) (start least : ℕ) (set : ℕ → Type 0) : Type 0 where
  pub list : List ℕ
  pub chain : IsChain links start list
  pub order : AllPairs (λ i j. i < j) list
  pub all : (i : ℕ) → Contains list i ↔ (least ≤ i) × (i < length links) × set i

-- each index is linked to a later one, or past the last
abbrev pub AreRising : List ℕ → Type 0
AreRising links = (i : ℕ) → i < length links
    → (i < slice_index links i) × (slice_index links i ≤ length links)

-- the cycle at this index is one of the component
abbrev pub IsCycleIn : RegionTable → EdgeTable → List Cycle → ℕ → ℕ → Type 0
IsCycleIn regions table cycles k i =
    (c : Cycle) × (slice_get cycles i ≡ Some c) × IsEdgeOf regions table k c.first

-- the cycles of each component from an index on are linked
pub record AreListed (regions : RegionTable) (table : EdgeTable) (cycles : List Cycle) (lists : CycleLists)
    (least : ℕ) : Type 0 where
  pub sized : length lists.links.items ≡ length cycles
  pub count : length lists.firsts.items ≡ length regions.firsts
  pub rising : AreRising lists.links.items
  pub each : (k : ℕ) → k < length regions.firsts
      → IsListFrom lists.links.items (slice_index lists.firsts.items k) least
      (IsCycleIn regions table cycles k)

-- the ring of a cycle
abbrev pub ring_along : EdgeTable → Cycle → Ring
ring_along table cycle = turns_of (edges_along table cycle)

-- the cycle at an index
abbrev pub cycle_at : List Cycle → ℕ → Cycle
cycle_at cycles i = unwrap_or (slice_get cycles i) (record { first = 0; edges = 0 })

-- the ring of the cycle at an index, by its edges
abbrev pub ring_traced : EdgeTable → List Cycle → ℕ → Ring
ring_traced table cycles i = ring_along table (cycle_at cycles i)

-- the corners from one index up to another
abbrev pub between : List Corner → ℕ → ℕ → List Corner
between corners from to = take (to - from) (drop from corners)

-- the ring at an index, by the numbers of all corners and by where those of each ring begin
abbrev pub ring_in : ℕ → List ℕ → List ℕ → ℕ → Ring
ring_in width numbers starts i = between (corners_of width numbers) (slice_index starts i) (slice_index starts (i + 1))

-- as it was kept
abbrev pub ring_at : RingCorners → ℕ → Ring
ring_at rings = ring_in rings.lattice.width rings.corners.items rings.starts.items

-- the rings lie in the list of corners
pub record AreInRings (corners : List ℕ) (starts : List ℕ) : Type 0 where
  pub within : (i : ℕ) → i < length starts → slice_index starts i ≤ length corners
  pub rising : (i : ℕ) → i + 1 < length starts → slice_index starts i ≤ slice_index starts (i + 1)

-- the rings of these cycles are there
pub record AreRings (width : ℕ) (table : EdgeTable) (cycles : List Cycle) (corners starts : List ℕ) : Type 0 where
  pub sized : length starts ≡ length cycles + 1
  pub end : slice_index starts (length cycles) ≡ length corners
  pub in_rings : AreInRings corners starts
  pub each : (i : ℕ) → i < length cycles → ring_in width corners starts i ≡ ring_traced table cycles i

-- the rings that are linked from one on
abbrev pub rings_from : (ℕ → Ring) → List ℕ → ℕ → List Ring
rings_from ring links at = map ring (chain_from links (length links) at)

-- the polygon whose shell is the ring at this index
abbrev pub polygon_from : (ℕ → Ring) → List ℕ → ℕ → Polygon
polygon_from ring links first = record {
  shell = ring first;
  holes = rings_from ring links (slice_index links first);
}

abbrev pub polygons_of : (ℕ → Ring) → CycleLists → List Polygon
polygons_of ring lists = map (polygon_from ring lists.links.items) lists.firsts.items

-- each cycle begins with an edge of the table
abbrev pub CyclesBegin : EdgeTable → List Cycle → Type 0
CyclesBegin table cycles = (cycle : Cycle) → Contains cycles cycle → cycle.first < length table.edges

-- the rings are kept, and their links can be followed
pub record AreLinkedRings (rings : RingCorners) (links : List ℕ) : Type 0 where
  pub in_rings : AreInRings rings.corners.items rings.starts.items
  pub sized : length rings.starts.items ≡ length links + 1
  pub rising : AreRising links

-- and each component has a first ring
pub record AreFaces (rings : RingCorners) (lists : CycleLists) : Type 0 where
  pub linked : AreLinkedRings rings lists.links.items
  pub shells : (k first : ℕ) → slice_get lists.firsts.items k ≡ Some first → first < length lists.links.items
