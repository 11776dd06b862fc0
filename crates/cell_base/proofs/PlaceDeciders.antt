-- Deciders of places and of their order.
use Rattle.std.proofs.Common.{◌≡◌, inl, inr, Bool, true, ap}
use Rattle.std.specs.Prelude.{◌==◌, ◌&&◌, ◌||◌, nat_lt}
use Rattle.std.proofs.lemmas.Bool.{and_from, and_parts, eq-eqb, eqb-true, ltb-true, or_cases}
use Rattle.cell_base.specs.Raster.{Place}
use Rattle.cell_base.specs.Order.{IsBefore}

abbrev pub same_place : Place → Place → Bool
same_place a b = (a.0 == b.0) && (a.1 == b.1)

pub same_place_sound : (a b : Place) → same_place a b ≡ true → a ≡ b
same_place_sound a b is =
    let parts = and_parts (a.0 == b.0) (a.1 == b.1) is in
    let rows : a.0 ≡ b.0 = eqb-true a.0 b.0 parts.0 in
    let cols : a.1 ≡ b.1 = eqb-true a.1 b.1 parts.1 in
    let same : (a.0, a.1) ≡ (b.0, b.1) = cc in
    same

pub same_place_complete : (a b : Place) → a ≡ b → same_place a b ≡ true
same_place_complete a b same = and_from (a.0 == b.0) (a.1 == b.1) (eq-eqb a.0 b.0 (ap (λ (p : Place). p.0) same)) (eq-eqb a.1 b.1 (ap (λ (p : Place). p.1) same))

abbrev pub is_before : Place → Place → Bool
is_before a b = nat_lt a.0 b.0 || ((a.0 == b.0) && nat_lt a.1 b.1)

pub is_before_sound : (a b : Place) → is_before a b ≡ true → IsBefore a b
is_before_sound a b is = elim (or_cases (nat_lt a.0 b.0) ((a.0 == b.0) && nat_lt a.1 b.1) is) [
  | inl above ↦ inl (ltb-true a.0 b.0 above)
  | inr level ↦
      let parts = and_parts (a.0 == b.0) (nat_lt a.1 b.1) level in
      inr (eqb-true a.0 b.0 parts.0, ltb-true a.1 b.1 parts.1)
]
