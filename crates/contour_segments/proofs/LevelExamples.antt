-- Worked rows of levels.
use Rattle.std.proofs.Common.{ℤ, inl, inr, Option, Some, None, [], ◌∷◌, refl, pos, arith}
use Rattle.std.proofs.lemmas.Int.{ints}
use Rattle.contour_segments.specs.Levels.{IsAsked}
use Rattle.contour_segments.specs.declared.level.LevelSpec.{LevelSpec}

-- an interval of 4 from the offset 1, over values from 0 to 10: 1, 5 and 9
abbrev by_four : LevelSpec
by_four = record { interval = Some (pos 4000000); offset = pos 1000000; fixed = [] }

abbrev to_ten : Option (ℤ × ℤ)
to_ten = Some (pos 0, pos 10000000)

has_one : IsAsked by_four to_ten (pos 1000000)
has_one = inl (record { times = pos 0; is = refl; above = omega (arith, ints); within = omega (arith, ints) })

has_five : IsAsked by_four to_ten (pos 5000000)
has_five = inl (record { times = pos 1; is = refl; above = omega (arith, ints); within = omega (arith, ints) })

has_nine : IsAsked by_four to_ten (pos 9000000)
has_nine = inl (record { times = pos 2; is = refl; above = omega (arith, ints); within = omega (arith, ints) })

-- the lowest value is none of its own, and the highest is
abbrev by_five : LevelSpec
by_five = record { interval = Some (pos 5000000); offset = pos 0; fixed = [] }

lowest_is_not : ¬ IsAsked by_five to_ten (pos 0)
lowest_is_not (inl spaced) = omega (arith, ints, spaced.above)
lowest_is_not (inr fixed) = omega (arith, fixed.1)

highest_is : IsAsked by_five to_ten (pos 10000000)
highest_is = inl (record { times = pos 2; is = refl; above = omega (arith, ints); within = omega (arith, ints) })

-- a fixed level is asked for wherever it lies, and without a valid cell too
abbrev fixed_only : LevelSpec
fixed_only = record { interval = None; offset = pos 0; fixed = pos 77000000 ∷ [] }

has_fixed : IsAsked fixed_only None (pos 77000000)
has_fixed = inr (0, omega arith, refl)
