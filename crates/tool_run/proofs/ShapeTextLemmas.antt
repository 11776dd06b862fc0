-- The texts of shapes, from the corners of their rings.
use Rattle.std.proofs.Common.{◌≡◌, ◌∙◌, ◌<◌, ◌≤◌, ◌+◌, ◌++◌, ◌∷◌, [], ℕ, List, Some, All, length, map, drop, ap, arith, refl, subst, sym}
use Rattle.std.specs.Prelude.{slice_get}
use Rattle.edge_trace.specs.Edge.{Corner}
use Rattle.geo_transform.specs.declared.frame.Frame.{Frame}
use Rattle.ring_faces.specs.Faces.{IsCornerOf}
use Rattle.ring_faces.specs.Ring.{Ring}
use Rattle.tool_outcome.specs.Polygonize.{path_of, point_of}
use Rattle.wkt_text.specs.Inner.Spelled.{IsWriting}
use Rattle.wkt_text.specs.Spelling.{body_text, list_text, path_text, point_text}
use Rattle.wkt_text.proofs.WriteLemmas.{all_written, member_written, none_written}
use Rattle.tool_run.proofs.LayerLemmas.{drop_at, drop_past}

-- the text of a list that isn't empty
pub body_some : {A : Type 0} (text : A → List ℕ) (members : List A) → 0 < length members → body_text text members ≡ list_text text members
body_some text [] some = absurd (omega (arith, some))
body_some text (member ∷ members) some = refl

-- rings

-- the corners of a ring that fits are those of the frame
pub corner_within : (frame own : Frame) (corner : Corner) → own ≡ frame → IsCornerOf frame.nrows frame.ncols corner
    → IsCornerOf own.nrows own.ncols corner
corner_within frame own corner same fits = subst (λ (f : Frame). IsCornerOf f.nrows f.ncols corner) (sym same) fits

pub corners_within : (frame : Frame) (ring rest : Ring) (first : Corner) → ring ≡ first ∷ rest → All (IsCornerOf frame.nrows frame.ncols) ring
    → All (IsCornerOf frame.nrows frame.ncols) (first ∷ rest)
corners_within frame ring rest first parts fit = subst (All (IsCornerOf frame.nrows frame.ncols)) parts fit

-- the opening parenthesis and the first corner
pub first_written : (frame own : Frame) (ring rest : Ring) (first : Corner) (before opened new : List ℕ) → own ≡ frame → ring ≡ first ∷ rest
    → opened ≡ before ++ 40 ∷ [] → new ≡ opened ++ point_text (point_of own first)
    → IsWriting point_text (path_of frame ring) before new 44 (map (point_of frame) (rest ++ first ∷ []))
first_written frame own ring rest first before opened new same parts once twice =
    let path : path_of frame ring ≡ map (point_of frame) (first ∷ rest ++ first ∷ []) = ap (path_of frame) parts in
    let some : 0 < length (path_of frame ring) = omega (arith, ap length path) in
    member_written (point_of frame first) (map (point_of frame) (rest ++ first ∷ [])) opened new (none_written point_text (path_of frame ring) before some)
    path once (twice ∙ ap (λ (f : Frame). opened ++ point_text (point_of f first)) same)

-- a comma and the next corner
pub corner_written : (frame own : Frame) (ring left rest : Ring) (first corner : Corner) (before now marked new : List ℕ) → own ≡ frame
    → left ≡ corner ∷ rest → IsWriting point_text (path_of frame ring) before now 44 (map (point_of frame) (left ++ first ∷ []))
    → marked ≡ now ++ 44 ∷ [] → new ≡ marked ++ point_text (point_of own corner)
    → IsWriting point_text (path_of frame ring) before new 44 (map (point_of frame) (rest ++ first ∷ []))
corner_written frame own ring left rest first corner before now marked new same parts is once twice =
    member_written (point_of frame corner) (map (point_of frame) (rest ++ first ∷ [])) marked new is
    (ap (λ (cs : Ring). map (point_of frame) (cs ++ first ∷ [])) parts) once
    (twice ∙ ap (λ (f : Frame). marked ++ point_text (point_of f corner)) same)

-- the first corner again, and the closing parenthesis
pub ring_written : (frame own : Frame) (ring left : Ring) (first : Corner) (before now marked more new : List ℕ) → own ≡ frame → left ≡ []
    → IsWriting point_text (path_of frame ring) before now 44 (map (point_of frame) (left ++ first ∷ [])) → marked ≡ now ++ 44 ∷ []
    → more ≡ marked ++ point_text (point_of own first) → new ≡ more ++ 41 ∷ [] → new ≡ before ++ path_text (path_of frame ring)
ring_written frame own ring left first before now marked more new same none is once twice last =
    all_written new
    (member_written (point_of frame first) [] marked more is (ap (λ (cs : Ring). map (point_of frame) (cs ++ first ∷ [])) none) once
    (twice ∙ ap (λ (f : Frame). marked ++ point_text (point_of f first)) same)) refl last

-- members of a list, each made of one of another

pub made_written : {A B : Type 0} (text : B → List ℕ) (make : A → B) (xs : List A) (i : ℕ) (x : A) (before now marked new : List ℕ) (mark : ℕ) → slice_get xs i ≡ Some x
    → IsWriting text (map make xs) before now mark (map make (drop i xs)) → marked ≡ now ++ mark ∷ [] → new ≡ marked ++ text (make x)
    → IsWriting text (map make xs) before new 44 (map make (drop (i + 1) xs))
made_written text make xs i x before now marked new mark at is first second =
    member_written (make x) (map make (drop (i + 1) xs)) marked new is (ap (map make) (drop_at xs i x at)) first second

pub all_made : {A B : Type 0} (text : B → List ℕ) (make : A → B) (xs : List A) (i : ℕ) (before now new : List ℕ) (mark : ℕ) → length xs ≤ i
    → IsWriting text (map make xs) before now mark (map make (drop i xs)) → new ≡ now ++ 41 ∷ [] → new ≡ before ++ list_text text (map make xs)
all_made text make xs i before now new mark past is last = all_written new is (ap (map make) (drop_past xs i past)) last
