-- The last point of a path.
use Rattle.std.proofs.Common.{◌≡◌, ◌-◌, ◌≤◌, ◌&&◌, List, [], ◌∷◌, length, get_or, arith, refl, ap, ◌∙◌}
use Rattle.std.specs.Ordering.{int_eq}
use Rattle.wkt_text.specs.declared.geometry.Pt.{Pt}
use Rattle.wkt_text.specs.Geometry.{is_closed, last_from}

last_get : (p d : Pt) (path : List Pt) → get_or (p ∷ path) (length path) d ≡ last_from p path
last_get p d [] = refl
last_get p d (q ∷ path) = last_get q d path

last_of : (p d : Pt) (path : List Pt) → get_or (p ∷ path) (length (p ∷ path) - 1) d ≡ last_from p path
last_of p d path =
    let front : length (p ∷ path) - 1 ≡ length path = omega arith in
    ap (λ k. get_or (p ∷ path) k d) front ∙ last_get p d path

-- the test compares the first point and the last
pub is_closed-ends : (points : List Pt) (first last : Pt) → 2 ≤ length points → first ≡ get_or points 0 first → last ≡ get_or points (length points - 1) last
    → is_closed points ≡ (int_eq first.x last.x && int_eq first.y last.y)
is_closed-ends [] first last some f l = absurd (omega (arith, some))
is_closed-ends (p ∷ points) first last some f l =
    let ends : last ≡ last_from p points = l ∙ last_of p last points in
    rw (f, ends) refl
