-- The points of a line, one after another.
use Rattle.std.proofs.Common.{◌≡◌, ◌≢◌, ℤ, suc, Bool, true, false, List, [], ◌∷◌, ◌++◌, Some, None, length, map, append_assoc, refl, sym, ap, ◌∙◌, arith}
use Rattle.std.specs.Prelude.{if◌then◌else◌}
use Rattle.std.proofs.lemmas.List.{append-nil}
use Rattle.cell_base.specs.Raster.{Raster}
use Rattle.contour_segments.specs.declared.segment.Segment.{Segment}
use Rattle.geo_transform.specs.declared.frame.Frame.{Frame}
use Rattle.wkt_text.specs.declared.geometry.Pt.{Pt}
use Rattle.wkt_text.specs.declared.geometry.Geometry.TheVariants.{LineString}
use Rattle.contour_chain.specs.Points.{is_same_point, line_through, point_at, points_along, without_repeats}

-- the points of these segments behind another point
abbrev pub points_behind : Frame → Raster ℤ → ℤ → Pt → List Segment → List Pt
points_behind frame cells level last segments = without_repeats last (map (point_at frame cells level) (map (λ (t : Segment). t.to) segments))

pub first_point : (frame : Frame) (cells : Raster ℤ) (level : ℤ) (line : List Segment) (s : Segment) (ss : List Segment) (first : Pt) → line ≡ s ∷ ss → first ≡ point_at frame cells level s.from → (first ∷ []) ++ points_behind frame cells level first line ≡ points_along frame cells level line
first_point frame cells level line s ss first is at = ap (λ (p : Pt). p ∷ points_behind frame cells level p line) at ∙ ap (λ (xs : List Segment). point_at frame cells level s.from ∷ points_behind frame cells level (point_at frame cells level s.from) xs) is ∙ ap (points_along frame cells level) (sym is)

joined : (b : Bool) (path rest : List Pt) (q : Pt) → (path ++ (if b then [] else (q ∷ []))) ++ rest ≡ path ++ (if b then rest else (q ∷ rest))
joined true path rest q = ap (λ (xs : List Pt). xs ++ rest) (append-nil path)
joined false path rest q = append_assoc path (q ∷ []) rest

pub next_point : (frame : Frame) (cells : Raster ℤ) (level : ℤ) (last q : Pt) (s : Segment) (ss : List Segment) (path new : List Pt) → q ≡ point_at frame cells level s.to → new ≡ path ++ (if is_same_point last q then [] else (q ∷ [])) → new ++ points_behind frame cells level q ss ≡ path ++ points_behind frame cells level last (s ∷ ss)
next_point frame cells level last q s ss path new at is =
    let rest = points_behind frame cells level q ss in
    ap (λ (xs : List Pt). xs ++ rest) is ∙ joined (is_same_point last q) path rest q ∙ ap (λ (p : Pt). path ++ without_repeats last (p ∷ map (point_at frame cells level) (map (λ (t : Segment). t.to) ss))) at

pub one_point : (points : List Pt) → length points ≡ 1 → None ≡ line_through points
one_point [] is = absurd (omega (arith, is))
one_point (p ∷ []) is = refl
one_point (p ∷ q ∷ ps) is = absurd (omega (arith, is))

pub more_points : (points : List Pt) (p : Pt) (ps : List Pt) → points ≡ p ∷ ps → length points ≢ 1 → Some (LineString points) ≡ line_through points
more_points [] p ps is other = absurd (let long : 0 ≡ suc (length ps) = ap length is in omega (arith, long))
more_points (a ∷ []) p ps is other = absurd (other refl)
more_points (a ∷ b ∷ cs) p ps is other = refl

pub some_points : (frame : Frame) (cells : Raster ℤ) (level : ℤ) (line : List Segment) (s : Segment) (ss : List Segment) → line ≡ s ∷ ss → (p : Pt) × (ps : List Pt) × (points_along frame cells level line ≡ p ∷ ps)
some_points frame cells level line s ss is = (point_at frame cells level s.from, points_behind frame cells level (point_at frame cells level s.from) (s ∷ ss), ap (points_along frame cells level) is)
