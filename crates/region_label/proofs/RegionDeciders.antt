-- A decider of the cells of a component in a table.
use Rattle.std.proofs.Common.{◌≡◌, ℕ, ◌∙◌, Bool, true, false, Option, Some, None, refl, ap}
use Rattle.std.specs.Prelude.{◌==◌}
use Rattle.std.proofs.lemmas.Bool.{eq-eqb, eqb-true, false≢true}
use Rattle.cell_base.specs.Raster.{Place, value_at}
use Rattle.region_label.specs.Labelling.{RegionTable, IsInRegion}

abbrev is_number : ℕ → Option (Option ℕ) → Bool
is_number k None = false
is_number k (Some None) = false
is_number k (Some (Some j)) = j == k

is_number_sound : (k : ℕ) (o : Option (Option ℕ)) → is_number k o ≡ true → o ≡ Some (Some k)
is_number_sound k None is = absurd (false≢true is)
is_number_sound k (Some None) is = absurd (false≢true is)
is_number_sound k (Some (Some j)) is = ap (λ (n : ℕ). Some (Some n)) (eqb-true j k is)

abbrev pub is_in_region : RegionTable → ℕ → Place → Bool
is_in_region regions k p = is_number k (value_at regions.numbers p)

pub is_in_region_sound : (regions : RegionTable) (k : ℕ) (p : Place) → is_in_region regions k p ≡ true → IsInRegion regions k p
is_in_region_sound regions k p is = is_number_sound k (value_at regions.numbers p) is

pub is_in_region_complete : (regions : RegionTable) (k : ℕ) (p : Place) → IsInRegion regions k p → is_in_region regions k p ≡ true
is_in_region_complete regions k p is = ap (is_number k) is ∙ eq-eqb k k refl
