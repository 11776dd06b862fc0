-- Deciders of edges.
use Rattle.std.proofs.Common.{◌≡◌, Bool, true, ap}
use Rattle.std.specs.Prelude.{◌&&◌}
use Rattle.std.proofs.lemmas.Bool.{and_from, and_parts}
use Rattle.cell_base.proofs.PlaceDeciders.{same_place, same_place_sound, same_place_complete}
use Rattle.cell_base.proofs.StepDeciders.{shares_side, shares_side_sound}
use Rattle.edge_trace.specs.Edge.{Edge, IsUnitEdge}

abbrev pub same_edge : Edge → Edge → Bool
same_edge e f = same_place e.0 f.0 && same_place e.1 f.1

pub same_edge_sound : (e f : Edge) → same_edge e f ≡ true → e ≡ f
same_edge_sound e f is =
    let parts = and_parts (same_place e.0 f.0) (same_place e.1 f.1) is in
    let starts : e.0 ≡ f.0 = same_place_sound e.0 f.0 parts.0 in
    let ends : e.1 ≡ f.1 = same_place_sound e.1 f.1 parts.1 in
    let same : (e.0, e.1) ≡ (f.0, f.1) = cc in
    same

pub same_edge_complete : (e f : Edge) → e ≡ f → same_edge e f ≡ true
same_edge_complete e f same = and_from (same_place e.0 f.0) (same_place e.1 f.1) (same_place_complete e.0 f.0 (ap (λ (g : Edge). g.0) same)) (same_place_complete e.1 f.1 (ap (λ (g : Edge). g.1) same))

-- a unit edge joins corners as neighbouring cells are joined
abbrev pub is_unit : Edge → Bool
is_unit e = shares_side e.0 e.1

pub is_unit_sound : (e : Edge) → is_unit e ≡ true → IsUnitEdge e
is_unit_sound e is = shares_side_sound e.0 e.1 is
