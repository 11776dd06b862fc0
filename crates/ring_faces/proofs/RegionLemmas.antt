-- The components of a table as sets that are tested, connected, and known by their first cells.
use Rattle.std.proofs.Common.{◌≡◌, ℕ, inl, inr, Bool, List, [], ◌∷◌, Some}
use Rattle.std.specs.Prelude.{slice_get}
use Rattle.std.proofs.lemmas.Bool.{cases_Bool}
use Rattle.cell_base.specs.Raster.{Place, Raster, value_at}
use Rattle.cell_base.specs.Steps.{four}
use Rattle.cell_base.specs.Walk.{IsWalk, StepsInto, IsConnected}
use Rattle.cell_base.proofs.WalkLemmas.{joined_more}
use Rattle.region_label.specs.Component.{HasValue, InComponent}
use Rattle.region_label.specs.Labelling.{RegionTable, IsInRegion, IsLabelling}
use Rattle.region_label.proofs.ComponentLemmas.{component_end, component_itself, component_sym, component_trans, same_value}
use Rattle.region_label.proofs.LabellingLemmas.{first_of}
use Rattle.region_label.proofs.RegionDeciders.{is_in_region, is_in_region_sound, is_in_region_complete}
use Rattle.edge_trace.proofs.BoundaryLemmas.{Tests}
use Rattle.ring_faces.specs.Faces.{AreJoinedBySides}
use Rattle.ring_faces.proofs.InsideLemmas.{IsFirstCell}
use Rattle.ring_faces.proofs.PolygonLemmas.{connected_same}

pub region_tests : (regions : RegionTable) (k : ℕ) → Tests (IsInRegion regions k) (is_in_region regions k)
region_tests regions k p = (is_in_region_sound regions k p, is_in_region_complete regions k p)

-- a walk from a cell of a component stays in it
walk_inside : {T : Type 0} (cells : Raster T) (valid : Raster Bool) (a p q : Place) (walk : List Place) → InComponent four cells valid a p
    → IsWalk (StepsInto four (HasValue cells valid (value_at cells a))) p walk q → IsWalk (StepsInto four (InComponent four cells valid a)) p walk q
walk_inside cells valid a p q [] joined walked = walked
walk_inside cells valid a p q (c ∷ cs) joined walked =
    let next = joined_more four (HasValue cells valid (value_at cells a)) a p c joined walked.0.0 walked.0.1 in
    ((walked.0.0, next), walk_inside cells valid a c q cs next walked.1)

component_connected : {T : Type 0} (cells : Raster T) (valid : Raster Bool) (a : Place) → IsConnected four (InComponent four cells valid a)
component_connected cells valid a p q in_p in_q =
    let pq = component_trans four cells valid p a q (component_sym four cells valid a p in_p) in_q in
    let value : value_at cells p ≡ value_at cells a = (component_end four cells valid a p in_p).1 in
    let joined = same_value four cells valid (value_at cells p) (value_at cells a) p q value pq in
    (in_p, joined.1, walk_inside cells valid a p q joined.1 in_p joined.2)

region_connected : {T : Type 0} (cells : Raster T) (valid : Raster Bool) (regions : RegionTable) → IsLabelling four cells valid regions → (k : ℕ)
    → IsConnected four (IsInRegion regions k)
region_connected cells valid regions labelling k p q in_p in_q =
    let first = first_of four cells valid regions labelling k p in_p in
    connected_same (InComponent four cells valid first.0) (IsInRegion regions k)
    (λ r. ((labelling.region k first.0 r first.1).1, (labelling.region k first.0 r first.1).0)) (component_connected cells valid first.0) p q in_p in_q

-- a labelling under side steps
pub labelling_by_sides : {T : Type 0} (cells : Raster T) (valid : Raster Bool) (regions : RegionTable) → IsLabelling four cells valid regions
    → AreJoinedBySides regions
labelling_by_sides cells valid regions labelling = record {
  shape = labelling.numbers.second;
  joined = region_connected cells valid regions labelling;
  first = λ k a at. (labelling.region k a a at).1 (component_itself four cells valid a (labelling.first k a at).marked);
  least = λ k a p at in_k. (labelling.first k a at).least p ((labelling.region k a p at).0 in_k);
  known = labelling.known;
}

-- the first cell of a component, by its test
pub region_first : (regions : RegionTable) → AreJoinedBySides regions → (k : ℕ) (a : Place) → slice_get regions.firsts k ≡ Some a
    → IsFirstCell (is_in_region regions k) a
region_first regions by_sides k a at = record {
  is_in = is_in_region_complete regions k a (by_sides.first k a at);
  least = λ p before. elim (cases_Bool (is_in_region regions k p)) [
    | inl is ↦ absurd (by_sides.least k a p at (is_in_region_sound regions k p is) before)
    | inr out ↦ out
  ];
}
