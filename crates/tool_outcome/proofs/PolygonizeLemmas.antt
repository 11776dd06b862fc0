-- The text of gdal_polygonize is one.
use Rattle.std.proofs.Common.{◌≡◌, ◌∙◌, ℕ, suc, Bool, ℤ, List, [], ◌∷◌, Some, Result, Ok, Err, length, refl, sym, ap, subst, arith}
use Rattle.std.specs.Prelude.{slice_get}
use Rattle.cell_base.specs.Raster.{Raster}
use Rattle.cell_base.specs.Steps.{four}
use Rattle.asc_grid.specs.declared.grid.Asc.{Asc}
use Rattle.region_label.specs.Labelling.{RegionTable, IsLabelling}
use Rattle.region_label.proofs.OneLemmas.{one_labelling}
use Rattle.ring_faces.specs.LatticePolygon.{Polygon}
use Rattle.ring_faces.specs.Faces.{ArePolygonsOf}
use Rattle.tool_words.specs.declared.job.PolygonizeJob.{PolygonizeJob}
use Rattle.tool_outcome.specs.Polygonize.{HasOneLayer, IsPolygonizeText, components_of, layer_text}
use Rattle.tool_outcome.specs.Answer.{Answer, AnswersBy}
use Rattle.tool_outcome.specs.Sieve.{IsMaskOf}
use Rattle.tool_outcome.specs.declared.fault.Fault.{Fault}
use Rattle.tool_outcome.proofs.MaskLemmas.{one_mask}

-- lists of one length whose members agree are the same
same_lists : {A : Type 0} (xs ys : List A) → length xs ≡ length ys → ((k : ℕ) (x y : A) → slice_get xs k ≡ Some x → slice_get ys k ≡ Some y → x ≡ y) → xs ≡ ys
same_lists [] [] long same = refl
same_lists [] (y ∷ ys) long same = absurd (omega (arith, long))
same_lists (x ∷ xs) [] long same = absurd (omega (arith, long))
same_lists (x ∷ xs) (y ∷ ys) long same =
    let rest : xs ≡ ys = same_lists xs ys (omega (arith, long)) (λ k a b at_a at_b. same (suc k) a b at_a at_b) in
    ap (λ z. z ∷ xs) (same 0 x y refl refl) ∙ ap (λ zs. y ∷ zs) rest

-- components have one list of polygons
pub one_list : (regions : RegionTable) (a b : List Polygon) → ArePolygonsOf regions a → ArePolygonsOf regions b → a ≡ b
one_list regions a b one two =
    same_lists a b (one.count ∙ sym two.count) (λ k x y at_x at_y. (two.each k y at_y).1 x ((one.each k x at_x).0))

-- a grid has one table of components
pub one_table : (connectivity : Bool) (asc : Asc ℤ) (valid other : Raster Bool) (a b : RegionTable) → IsMaskOf asc valid → IsMaskOf asc other
    → IsLabelling connectivity asc.cells valid a → IsLabelling connectivity asc.cells other b → a ≡ b
one_table connectivity asc valid other a b one two by_one by_other =
    let same = one_mask asc valid other one two in
    one_labelling connectivity asc.cells valid a b by_one (subst (λ v. IsLabelling connectivity asc.cells v b) same by_other)

-- the text is one
pub one_layer : (job : PolygonizeJob) (asc : Asc ℤ) → HasOneLayer job asc
one_layer job asc text other one two =
    let sides : one.sides ≡ two.sides = one_table four asc one.valid two.valid one.sides two.sides one.mask two.mask one.by_sides two.by_sides in
    let regions : one.regions ≡ two.regions = one_table job.eight asc one.valid two.valid one.regions two.regions one.mask two.mask one.labelled two.labelled in
    let polygons : one.polygons ≡ two.polygons = one_list two.sides one.polygons two.polygons (subst (λ r. ArePolygonsOf r one.polygons) sides one.drawn) two.drawn in
    one.is
    ∙ ap (λ r. layer_text job.field asc.frame (components_of asc.cells r one.sides one.polygons)) regions
    ∙ ap (λ r. layer_text job.field asc.frame (components_of asc.cells two.regions r one.polygons)) sides
    ∙ ap (λ ps. layer_text job.field asc.frame (components_of asc.cells two.regions two.sides ps)) polygons
    ∙ sym two.is

-- the answer is one
pub one_answer : (job : PolygonizeJob) (source : Result (Asc ℤ) Fault) (a b : Answer) → AnswersBy (IsPolygonizeText job) source a → AnswersBy (IsPolygonizeText job) source b → a ≡ b
one_answer job (Err fault) a b one two = one ∙ sym two
one_answer job (Ok asc) (Err fault) b one two = absurd one
one_answer job (Ok asc) (Ok text) (Err fault) one two = absurd two
one_answer job (Ok asc) (Ok text) (Ok other) one two = ap Ok (one_layer job asc text other one two)
