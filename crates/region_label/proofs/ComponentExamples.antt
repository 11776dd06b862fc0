-- Worked grids: which cells are joined under four and under eight.
use Rattle.std.proofs.Common.{◌≡◌, ℕ, inl, inr, Bool, true, false, List, [], ◌∷◌, Some, refl, ap, subst, arith}
use Rattle.std.proofs.lemmas.Option.{same_Some}
use Rattle.cell_base.specs.Raster.{Place, Raster, value_at}
use Rattle.cell_base.specs.Steps.{SharesSide, eight, four}
use Rattle.cell_base.specs.Walk.{IsWalk, StepsInto}
use Rattle.region_label.specs.Component.{HasValue, InComponent, IsFirst}
use Rattle.cell_base.proofs.OrderLemmas.{none_before}

-- 1 2 / 2 1

abbrev chequer : Raster ℕ
chequer = record { ncols = 2; nrows = 2; rows = (1 ∷ 2 ∷ []) ∷ (2 ∷ 1 ∷ []) ∷ [] }

abbrev all_valid : Raster Bool
all_valid = record { ncols = 2; nrows = 2; rows = (true ∷ true ∷ []) ∷ (true ∷ true ∷ []) ∷ [] }

-- under eight the two ones are joined by one step
ones_joined : InComponent eight chequer all_valid (0, 0) (1, 1)
ones_joined = ((refl, refl), (1, 1) ∷ [], ((inr (inr refl, inr refl), (refl, refl)), refl))

-- so the second isn't first
second_not_first : ¬ IsFirst eight chequer all_valid (1, 1)
second_not_first first = first.least (0, 0) ((refl, refl), (0, 0) ∷ [], ((inr (inl refl, inl refl), (refl, refl)), refl)) (inl (omega arith))

first_is_first : IsFirst eight chequer all_valid (0, 0)
first_is_first = record { marked = refl; least = λ b joined before. none_before b before }

absurd_value : (same : ◌≡◌ {A = ℕ} 2 1) → ⊥
absurd_value same = omega (arith, same)

-- under four no step from the first leads to a one
leaves : (c : Place) → SharesSide (0, 0) c → HasValue chequer all_valid (Some 1) c → ⊥
leaves c (inl (row, inl left)) has = omega arith
leaves c (inl (row, inr right)) has =
    let place : (c.0, c.1) ≡ (0, 1) = cc in
    absurd_value (same_Some 2 1 (subst (λ (p : Place). value_at chequer p ≡ Some 1) place has.1))
leaves c (inr (col, inl up)) has = omega arith
leaves c (inr (col, inr down)) has =
    let place : (c.0, c.1) ≡ (1, 0) = cc in
    absurd_value (same_Some 2 1 (subst (λ (p : Place). value_at chequer p ≡ Some 1) place has.1))

no_walk : (walk : List Place) → IsWalk (StepsInto four (HasValue chequer all_valid (Some 1))) (0, 0) walk (1, 1) → ⊥
no_walk [] walked = omega (arith, ap (λ (p : Place). p.0) walked)
no_walk (c ∷ cs) walked = leaves c walked.0.0 walked.0.1

-- so under four they aren't joined
ones_apart : ¬ InComponent four chequer all_valid (0, 0) (1, 1)
ones_apart joined = no_walk joined.1 joined.2

-- 1 1 2 / 1 2 2: the ones are joined through the corner of the grid

abbrev angle : Raster ℕ
angle = record { ncols = 3; nrows = 2; rows = (1 ∷ 1 ∷ 2 ∷ []) ∷ (1 ∷ 2 ∷ 2 ∷ []) ∷ [] }

abbrev angle_valid : Raster Bool
angle_valid = record { ncols = 3; nrows = 2; rows = (true ∷ true ∷ true ∷ []) ∷ (true ∷ true ∷ true ∷ []) ∷ [] }

angle_joined : InComponent four angle angle_valid (0, 1) (1, 0)
angle_joined = ((refl, refl), (0, 0) ∷ (1, 0) ∷ [], ((inl (refl, inl refl), (refl, refl)), ((inr (refl, inr refl), (refl, refl)), refl)))

-- 1 x 1 with a cell that isn't valid between: under eight they stay apart

abbrev broken : Raster ℕ
broken = record { ncols = 3; nrows = 1; rows = (1 ∷ 1 ∷ 1 ∷ []) ∷ [] }

abbrev broken_valid : Raster Bool
broken_valid = record { ncols = 3; nrows = 1; rows = (true ∷ false ∷ true ∷ []) ∷ [] }

not_into_the_gap : ¬ HasValue broken broken_valid (Some 1) (0, 1)
not_into_the_gap has =
    let same : false ≡ true = let is = has.0 in cc in
    cc
