-- Deciders of steps.
use Rattle.std.proofs.Common.{◌≡◌, ℕ, ◌+◌, inl, inr, Bool, true, false}
use Rattle.std.specs.Prelude.{◌==◌, ◌&&◌, ◌||◌}
use Rattle.std.proofs.lemmas.Bool.{and_from, and_parts, eq-eqb, eqb-true, or_cases, or_left, or_right}
use Rattle.cell_base.specs.Raster.{Place}
use Rattle.cell_base.specs.Steps.{AreNext, SharesSide, SharesCorner, IsStep}

abbrev pub are_next : ℕ → ℕ → Bool
are_next m n = (m == (n + 1)) || (n == (m + 1))

are_next_sound : (m n : ℕ) → are_next m n ≡ true → AreNext m n
are_next_sound m n is = elim (or_cases (m == (n + 1)) (n == (m + 1)) is) [ inl up ↦ inl (eqb-true m (n + 1) up) | inr down ↦ inr (eqb-true n (m + 1) down) ]

are_next_complete : (m n : ℕ) → AreNext m n → are_next m n ≡ true
are_next_complete m n (inl up) = or_left (m == (n + 1)) (n == (m + 1)) (eq-eqb m (n + 1) up)
are_next_complete m n (inr down) = or_right (m == (n + 1)) (n == (m + 1)) (eq-eqb n (m + 1) down)

-- in one row, in one column
abbrev is_beside : Place → Place → Bool
is_beside a b = (a.0 == b.0) && are_next a.1 b.1

abbrev is_above_or_below : Place → Place → Bool
is_above_or_below a b = (a.1 == b.1) && are_next a.0 b.0

abbrev pub shares_side : Place → Place → Bool
shares_side a b = is_beside a b || is_above_or_below a b

pub shares_side_sound : (a b : Place) → shares_side a b ≡ true → SharesSide a b
shares_side_sound a b is = elim (or_cases (is_beside a b) (is_above_or_below a b) is) [
  | inl beside ↦
      let parts = and_parts (a.0 == b.0) (are_next a.1 b.1) beside in
      inl (eqb-true a.0 b.0 parts.0, are_next_sound a.1 b.1 parts.1)
  | inr upright ↦
      let parts = and_parts (a.1 == b.1) (are_next a.0 b.0) upright in
      inr (eqb-true a.1 b.1 parts.0, are_next_sound a.0 b.0 parts.1)
]

shares_side_complete : (a b : Place) → SharesSide a b → shares_side a b ≡ true
shares_side_complete a b (inl beside) = or_left (is_beside a b) (is_above_or_below a b) (and_from (a.0 == b.0) (are_next a.1 b.1) (eq-eqb a.0 b.0 beside.0) (are_next_complete a.1 b.1 beside.1))
shares_side_complete a b (inr upright) = or_right (is_beside a b) (is_above_or_below a b) (and_from (a.1 == b.1) (are_next a.0 b.0) (eq-eqb a.1 b.1 upright.0) (are_next_complete a.0 b.0 upright.1))

abbrev shares_corner : Place → Place → Bool
shares_corner a b = are_next a.0 b.0 && are_next a.1 b.1

shares_corner_sound : (a b : Place) → shares_corner a b ≡ true → SharesCorner a b
shares_corner_sound a b is =
    let parts = and_parts (are_next a.0 b.0) (are_next a.1 b.1) is in
    (are_next_sound a.0 b.0 parts.0, are_next_sound a.1 b.1 parts.1)

shares_corner_complete : (a b : Place) → SharesCorner a b → shares_corner a b ≡ true
shares_corner_complete a b corner = and_from (are_next a.0 b.0) (are_next a.1 b.1) (are_next_complete a.0 b.0 corner.0) (are_next_complete a.1 b.1 corner.1)

abbrev pub is_step : Bool → Place → Place → Bool
is_step false a b = shares_side a b
is_step true a b = shares_side a b || shares_corner a b

pub is_step_sound : (connectivity : Bool) (a b : Place) → is_step connectivity a b ≡ true → IsStep connectivity a b
is_step_sound false a b is = shares_side_sound a b is
is_step_sound true a b is = elim (or_cases (shares_side a b) (shares_corner a b) is) [
  | inl side ↦ inl (shares_side_sound a b side)
  | inr corner ↦ inr (shares_corner_sound a b corner)
]

pub is_step_complete : (connectivity : Bool) (a b : Place) → IsStep connectivity a b → is_step connectivity a b ≡ true
is_step_complete false a b step = shares_side_complete a b step
is_step_complete true a b (inl side) = or_left (shares_side a b) (shares_corner a b) (shares_side_complete a b side)
is_step_complete true a b (inr corner) = or_right (shares_side a b) (shares_corner a b) (shares_corner_complete a b corner)
