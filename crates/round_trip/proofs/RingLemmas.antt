-- The edges of a ring that was written with its first point repeated: an edge of no length, and the ring's sides.
use Rattle.std.proofs.Common.{◌≡◌, List, [], ◌∷◌, ◌++◌, refl, ap, ◌∙◌}
use Rattle.std.specs.Prelude.{map}
use Rattle.std.specs.List.{zip}
use Rattle.geo_transform.specs.declared.frame.Frame.{Frame}
use Rattle.edge_trace.specs.Edge.{Corner}
use Rattle.ring_faces.specs.Ring.{Ring, pairs_round}
use Rattle.wkt_text.specs.Geometry.{last_from}
use Rattle.wkt_text.specs.declared.geometry.Pt.{Pt}
use Rattle.burn_scanline.specs.Ring.{Edge, edges_of, edges_through}
use Rattle.tool_outcome.specs.Polygonize.{path_of, point_of}
use Rattle.round_trip.proofs.CutLemmas.{side_at}

pub last_is : (f : Frame) (p : Pt) (x : Corner) (xs : List Corner) → last_from p (map (point_of f) (xs ++ x ∷ [])) ≡ point_of f x
last_is f p x [] = refl
last_is f p x (y ∷ ys) = last_is f (point_of f y) x ys

successive : (f : Frame) (a x : Corner) (xs : List Corner)
    → edges_through (point_of f a) (map (point_of f) (xs ++ x ∷ [])) ≡ map (side_at f) (zip (a ∷ xs) (xs ++ x ∷ []))
successive f a x [] = refl
successive f a x (y ∷ ys) = ap (λ rest. (point_of f a, point_of f y) ∷ rest) (successive f y x ys)

-- the edges of a written ring
abbrev pub written_edges : Frame → Ring → List Edge
written_edges f [] = []
written_edges f (x ∷ xs) = (point_of f x, point_of f x) ∷ map (side_at f) (pairs_round (x ∷ xs))

pub edges_written : (f : Frame) (ring : Ring) → edges_of (path_of f ring) ≡ written_edges f ring
edges_written f [] = refl
edges_written f (x ∷ xs) =
    let points : List Pt = map (point_of f) (xs ++ x ∷ []) in
    ap (λ (p : Pt). (p, point_of f x) ∷ edges_through (point_of f x) points) (last_is f (point_of f x) x xs)
    ∙ ap (λ edges. (point_of f x, point_of f x) ∷ edges) (successive f x x xs)
