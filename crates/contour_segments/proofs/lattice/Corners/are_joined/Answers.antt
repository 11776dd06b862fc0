use Rattle.std.proofs.Common.{◌≡◌, ◌+ℤ◌, ◌*ℤ◌, ℤ, pos, to_z, of_z, w64, ap, ◌∙◌, arith}
use Rattle.std.specs.Prelude.{int_le}
use Rattle.std.proofs.lemmas.Int.{ints}
use Rattle.contour_segments.proofs.lattice.Corners.are_joined.Goals as goal

same_test : (a b x y : ℤ) → a ≡ x → b ≡ y → int_le a b ≡ int_le x y
same_test a b x y one two = ap (λ (z : ℤ). int_le z b) one ∙ ap (int_le x) two

pub returns : goal.returns
returns c =
    let level : to_z w64 (of_z w64 (pos 4 *ℤ to_z w64 (of_z w64 c.args.level))) ≡ pos 4 *ℤ c.args.level = omega (arith, ints) in
    same_test _ _ (pos 4 *ℤ c.args.level) (c.args.self.nw +ℤ c.args.self.ne +ℤ c.args.self.se +ℤ c.args.self.sw) level (omega (arith, ints))
