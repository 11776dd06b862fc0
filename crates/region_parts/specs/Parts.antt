-- The parts of components: the components of another labelling of the same grid that lie in them. Source: this
-- project's own.
use Rattle.std.specs.Prelude.{◌≡◌, ℕ, Bool, false, List, [], ◌∷◌, Option, Some, None, ◌==◌, ◌<◌, length, map, slice_get, unwrap_or}
use Rattle.std.specs.List.{filter, range_with_len, zip}
use Rattle.cell_base.specs.Raster.{IsInside, Place, value_at}
use Rattle.region_label.specs.Labelling.{IsInRegion, RegionTable}

-- the number is this one
abbrev pub is_number : ℕ → Option ℕ → Bool
is_number k None = false
is_number k (Some n) = n == k

-- the cell is in the component of this number
abbrev pub lies_in : RegionTable → ℕ → Place → Bool
lies_in regions k place = is_number k (unwrap_or (value_at regions.numbers place) None)

-- of what belongs to places, what belongs to those in the component of this number
abbrev pub items_in : {A : Type 0} → RegionTable → ℕ → List (Place × A) → List A
items_in regions k items = map (λ item. item.1) (filter (λ item. lies_in regions k item.0) items)

-- the same for each component
abbrev pub items_by : {A : Type 0} → RegionTable → List (Place × A) → List (List A)
items_by regions items = map (λ k. items_in regions k items) (range_with_len 0 (length regions.firsts))

-- the parts of a component: the numbers, in order, of the components of another labelling whose first cells lie in it
abbrev pub part_numbers : RegionTable → RegionTable → ℕ → List ℕ
part_numbers regions others k = items_in regions k (zip others.firsts (range_with_len 0 (length others.firsts)))

-- the parts of each component
abbrev pub parts_of : RegionTable → RegionTable → List (List ℕ)
parts_of regions others = map (part_numbers regions others) (range_with_len 0 (length regions.firsts))

-- the first cells of the others are cells of the grid, in which each number is that of a component
pub record AreOverGrid (regions others : RegionTable) : Type 0 where
  pub inside : (j : ℕ) (a : Place) → slice_get others.firsts j ≡ Some a → IsInside regions.numbers a
  pub known : (k : ℕ) (p : Place) → IsInRegion regions k p → k < length regions.firsts

-- each component has one part, itself
abbrev pub AreEachItsOwn : RegionTable → Type 0
AreEachItsOwn regions = parts_of regions regions ≡ map (λ k. k ∷ []) (range_with_len 0 (length regions.firsts))
