-- The rings of polygons over corners as they are written: closed, and of coordinates.
use Rattle.std.proofs.Common.{◌≡◌, ◌∙◌, ◌≤◌, ◌<◌, ◌-◌, ◌++◌, ◌∷◌, [], ℕ, List, All, length, map, take, get_or, refl, ap, sym, arith}
use Rattle.std.proofs.lemmas.Grind.{common_steps}
use Rattle.std.proofs.lemmas.List.{map-append}
use Rattle.std.proofs.lemmas.List.Elements.{All-cons, All-from_get_or, All-get_or, All-head, All-map, All-nil, All-tail}
use Rattle.fixed_coord.specs.Coordinate.{IsCoord}
use Rattle.geo_transform.specs.Frame.{IsFrame}
use Rattle.geo_transform.specs.declared.frame.Frame.{Frame}
use Rattle.geo_transform.proofs.CornerLemmas.{between}
use Rattle.edge_trace.specs.Edge.{Corner}
use Rattle.ring_faces.specs.Ring.{Ring}
use Rattle.ring_faces.specs.LatticePolygon.{Polygon, rings_of}
use Rattle.ring_faces.specs.Faces.{FitsGrid, IsCornerOf}
use Rattle.wkt_text.specs.Geometry.{IsPt, IsRing, last_from}
use Rattle.wkt_text.specs.declared.geometry.Pt.{Pt}
use Rattle.tool_outcome.specs.Polygonize.{path_of, paths_of, point_of}

last_added : (p q : Pt) (path : List Pt) → last_from p (path ++ q ∷ []) ≡ q
last_added p q [] = refl
last_added p q (r ∷ path) = last_added r q path

closed_path : (frame : Frame) (ring : Ring) → 4 ≤ length ring → IsRing (path_of frame ring)
closed_path frame [] long = absurd (omega (arith, long))
closed_path frame (first ∷ others) long =
    let ends : map (point_of frame) (others ++ first ∷ []) ≡ map (point_of frame) others ++ point_of frame first ∷ [] = map-append (point_of frame) others (first ∷ []) in
    record {
      long = grind (arith, common_steps, long);
      closed = sym (ap (last_from (point_of frame first)) ends ∙ last_added (point_of frame first) (point_of frame first) (map (point_of frame) others));
    }

-- the rings of a polygon that fits can be written
pub closed_paths : (frame : Frame) (polygon : Polygon) → FitsGrid frame.nrows frame.ncols polygon → All IsRing (paths_of frame polygon)
closed_paths frame polygon fits =
    let each : All (λ ring. IsRing (path_of frame ring)) (rings_of polygon) =
    All-from_get_or (λ ring. IsRing (path_of frame ring)) (rings_of polygon) [] (λ i inside. closed_path frame (get_or (rings_of polygon) i []) (All-get_or (λ ring. 4 ≤ length ring) (rings_of polygon) i [] inside fits.long)) in
    All-map IsRing (path_of frame) (rings_of polygon) each

-- a corner of the frame's cells has coordinates
point_within : (frame : Frame) → IsFrame frame → (corner : Corner) → IsCornerOf frame.nrows frame.ncols corner → IsPt (point_of frame corner)
point_within frame is corner within = record {
  x = (between frame.xll frame.cell frame.ncols corner.1 is.some_size within.col is.left is.right).end;
  y = (between frame.yll frame.cell frame.nrows (frame.nrows - corner.0) is.some_size (omega arith) is.lower is.upper).end;
}

points_within : (frame : Frame) → IsFrame frame → (corners : Ring) → All (IsCornerOf frame.nrows frame.ncols) corners → All IsPt (map (point_of frame) corners)
points_within frame is [] all = All-nil IsPt
points_within frame is (corner ∷ corners) all =
    All-cons IsPt (point_of frame corner) (map (point_of frame) corners)
    (point_within frame is corner (All-head (IsCornerOf frame.nrows frame.ncols) corner corners all))
    (points_within frame is corners (All-tail (IsCornerOf frame.nrows frame.ncols) corner corners all))

-- with the first again at the end
all_again : {A : Type 0} (P : A → Type 0) (xs more : List A) → All P xs → All P more → All P (xs ++ more)
all_again P [] more all rest = rest
all_again P (x ∷ xs) more all rest = All-cons P x (xs ++ more) (All-head P x xs all) (all_again P xs more (All-tail P x xs all) rest)

first_again : {A : Type 0} (P : A → Type 0) (xs : List A) → All P xs → All P (take 1 xs)
first_again P [] all = All-nil P
first_again P (x ∷ xs) all = All-cons P x [] (All-head P x xs all) (All-nil P)

path_within : (frame : Frame) → IsFrame frame → (ring : Ring) → All (IsCornerOf frame.nrows frame.ncols) ring → All IsPt (path_of frame ring)
path_within frame is ring all =
    let corner = IsCornerOf frame.nrows frame.ncols in
    points_within frame is (ring ++ take 1 ring) (all_again corner ring (take 1 ring) all (first_again corner ring all))

paths_by : (frame : Frame) → IsFrame frame → (rings : List Ring) → All (All (IsCornerOf frame.nrows frame.ncols)) rings → All (All IsPt) (map (path_of frame) rings)
paths_by frame is [] all = All-nil (All IsPt)
paths_by frame is (ring ∷ rings) all =
    All-cons (All IsPt) (path_of frame ring) (map (path_of frame) rings)
    (path_within frame is ring (All-head (All (IsCornerOf frame.nrows frame.ncols)) ring rings all))
    (paths_by frame is rings (All-tail (All (IsCornerOf frame.nrows frame.ncols)) ring rings all))

-- the points of a polygon that fits have coordinates
pub paths_within : (frame : Frame) → IsFrame frame → (polygon : Polygon) → FitsGrid frame.nrows frame.ncols polygon → All (All IsPt) (paths_of frame polygon)
paths_within frame is polygon fits = paths_by frame is (rings_of polygon) fits.corners
