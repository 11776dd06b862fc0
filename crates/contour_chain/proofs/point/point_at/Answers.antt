use Rattle.std.proofs.Common.{◌≡◌, ◌≢◌, ℤ, to_z, of_z, w64, sym, ap, ◌∙◌, arith}
use Rattle.std.specs.Prelude.{int_le}
use Rattle.std.proofs.lemmas.Int.{ints}
use Rattle.cell_base.specs.Raster.{Place}
use Rattle.contour_segments.specs.Segments.{value_of}
use Rattle.wkt_text.specs.declared.geometry.Pt.{Pt}
use Rattle.contour_chain.specs.Points.{between, far_end, near_end}
use Rattle.contour_chain.specs.Inner.Crossings.{spots_at}
use Rattle.contour_chain.specs.declared.point.Spot.{Spot}
use Rattle.contour_chain.proofs.point.point_at.Goals as goal

differ : (l m v w x y : ℤ) → l ≡ m → v ≡ x → w ≡ y → int_le m x ≢ int_le m y → int_le l v ≢ int_le l w
differ l m v w x y level one two other same = other (ap (λ (z : ℤ). int_le m z) (sym one) ∙ ap (λ (z : ℤ). int_le z v) (sym level) ∙ same ∙ ap (λ (z : ℤ). int_le z w) level ∙ ap (λ (z : ℤ). int_le m z) two)

between_same : (l m : ℤ) (a b x y : Spot) (r : ℤ) → l ≡ m → a ≡ x → b ≡ y → r ≡ between l a b → r ≡ between m x y
between_same l m a b x y r level one two is = is ∙ ap (λ (z : ℤ). between z a b) level ∙ ap (λ (s : Spot). between m s b) one ∙ ap (λ (s : Spot). between m x s) two

same_pt : (a b x y : ℤ) → a ≡ x → b ≡ y → ◌≡◌ {A = Pt} (record { x = a; y = b }) (record { x = x; y = y })
same_pt a b x y one two = ap (λ (z : ℤ). record { x = z; y = b }) one ∙ ap (λ (z : ℤ). record { x = x; y = z }) two

pub between-requires-clause-apart : goal.between-requires-clause-apart
between-requires-clause-apart c =
    let cells = c.args.cells.now in
    let level : to_z w64 (of_z w64 c.args.level) ≡ c.args.level = omega (arith, ints, c.requires.level) in
    let near : c.spots-near.result.0.value ≡ value_of cells (near_end c.args.cross) = ap (λ (s : Spot × Spot). s.0.value) c.spots-near.ensures.value in
    let far : c.spots-far.result.0.value ≡ value_of cells (far_end c.args.cross) = ap (λ (s : Spot × Spot). s.0.value) c.spots-far.ensures.value ∙ ap (λ (p : Place). value_of cells p) c.far_of-row.ensures in
    record {
      one = c.spots-near.ensures.across;
      other = c.spots-far.ensures.across;
      differs = differ _ c.args.level _ _ (value_of cells (near_end c.args.cross)) (value_of cells (far_end c.args.cross)) level near far c.requires.straddles.differs;
    }

pub between-requires-2-clause-apart : goal.between-requires-2-clause-apart
between-requires-2-clause-apart c =
    let cells = c.args.cells.now in
    let level : to_z w64 (of_z w64 c.args.level) ≡ c.args.level = omega (arith, ints, c.requires.level) in
    let near : c.spots-near.result.1.value ≡ value_of cells (near_end c.args.cross) = ap (λ (s : Spot × Spot). s.1.value) c.spots-near.ensures.value in
    let far : c.spots-far.result.1.value ≡ value_of cells (far_end c.args.cross) = ap (λ (s : Spot × Spot). s.1.value) c.spots-far.ensures.value ∙ ap (λ (p : Place). value_of cells p) c.far_of-row.ensures in
    record {
      one = c.spots-near.ensures.up;
      other = c.spots-far.ensures.up;
      differs = differ _ c.args.level _ _ (value_of cells (near_end c.args.cross)) (value_of cells (far_end c.args.cross)) level near far c.requires.straddles.differs;
    }

pub returns : goal.returns
returns c =
    let frame = c.args.frame.now in
    let cells = c.args.cells.now in
    let level : to_z w64 (of_z w64 c.args.level) ≡ c.args.level = omega (arith, ints, c.requires.level) in
    let near = c.spots-near.ensures.value in
    let far : c.spots-far.result ≡ spots_at frame cells (far_end c.args.cross) = c.spots-far.ensures.value ∙ ap (λ (p : Place). spots_at frame cells p) c.far_of-row.ensures in
    same_pt _ _ _ _ (between_same _ c.args.level _ _ (spots_at frame cells (near_end c.args.cross)).0 (spots_at frame cells (far_end c.args.cross)).0 c.between.result level (ap (λ (s : Spot × Spot). s.0) near) (ap (λ (s : Spot × Spot). s.0) far) c.between.ensures) (between_same _ c.args.level _ _ (spots_at frame cells (near_end c.args.cross)).1 (spots_at frame cells (far_end c.args.cross)).1 c.between-2.result level (ap (λ (s : Spot × Spot). s.1) near) (ap (λ (s : Spot × Spot). s.1) far) c.between-2.ensures)
