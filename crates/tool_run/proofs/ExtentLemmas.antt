-- How the extent of points grows.
use Rattle.std.proofs.Common.{◌≡◌, ◌++◌, ◌∙◌, ◌+◌, ℕ, List, [], ◌∷◌, Option, Some, take, append-nil, append_assoc, sym, ap, subst}
use Rattle.std.specs.Prelude.{slice_get}
use Rattle.std.specs.List.{flat_map}
use Rattle.std.proofs.lemmas.Grind.{flat_map-append}
use Rattle.geo_transform.specs.declared.extent.Extent.{Extent}
use Rattle.wkt_text.specs.declared.geometry.Pt.{Pt}
use Rattle.tool_outcome.specs.LayerExtent.{extent_round}
use Rattle.tool_run.specs.Inner.Extent.{HoldsPoints}
use Rattle.tool_run.proofs.LayerLemmas.{take_more}

-- no point more
pub holds_none : (extent : Option Extent) → HoldsPoints [] extent extent
holds_none extent earlier is = is ∙ ap (λ (ps : List Pt). extent_round ps) (sym (append-nil earlier))

-- some points, and more of them
pub holds_more : (first second : List Pt) (a b c : Option Extent) → HoldsPoints first a b → HoldsPoints second b c → HoldsPoints (first ++ second) a c
holds_more first second a b c one two earlier is = two (earlier ++ first) (one earlier is) ∙ ap (λ (ps : List Pt). extent_round ps) (append_assoc earlier first second)

-- one point more
pub holds_point : (path : List Pt) (i : ℕ) (point : Pt) (a b c : Option Extent) → slice_get path i ≡ Some point → HoldsPoints (take i path) a b → HoldsPoints (point ∷ []) b c → HoldsPoints (take (i + 1) path) a c
holds_point path i point a b c at one two = subst (λ ps. HoldsPoints ps a c) (sym (take_more path i point at)) (holds_more (take i path) (point ∷ []) a b c one two)

-- the points of one member more
pub holds_next : {A : Type 0} (points : A → List Pt) (members : List A) (i : ℕ) (member : A) (a b c : Option Extent) → slice_get members i ≡ Some member → HoldsPoints (flat_map points (take i members)) a b → HoldsPoints (points member) b c → HoldsPoints (flat_map points (take (i + 1) members)) a c
holds_next points members i member a b c at one two =
    let more : flat_map points (take (i + 1) members) ≡ flat_map points (take i members) ++ points member =
    ap (flat_map points) (take_more members i member at) ∙ flat_map-append points (take i members) (member ∷ []) ∙ ap (λ ps. flat_map points (take i members) ++ ps) (append-nil (points member)) in
    subst (λ ps. HoldsPoints ps a c) (sym more) (holds_more (flat_map points (take i members)) (points member) a b c one two)
