-- The parts of each component as a linked list.
use Rattle.std.specs.Prelude.{◌≡◌, ℕ, zero, suc, ◌-◌, ◌<◌, ◌≤◌, List, [], ◌∷◌, length, drop, map, nat_lt, slice_index, if◌then◌else◌}
use Rattle.std.specs.List.{All, range_with_len, zip}
use Rattle.region_label.specs.Labelling.{RegionTable}
use Rattle.region_parts.specs.Parts.{items_in}
use Rattle.region_parts.specs.declared.parts.Lists.{Lists}

-- at most so many of the indices that are linked from one on; an index past the links ends them
abbrev pub chain_from : List ℕ → ℕ → ℕ → List ℕ
chain_from links zero at = []
chain_from links (suc n) at =
    if nat_lt at (length links) then at ∷ chain_from links n (slice_index links at) else []

-- the indices that are linked from one on, each to a later one; behind the last the links end
abbrev pub IsChain : List ℕ → ℕ → List ℕ → Type 0
IsChain links at [] = at ≡ length links
IsChain links at (i ∷ is) = (at ≡ i) × (i < length links) × (i < slice_index links i)
    × IsChain links (slice_index links i) is

-- the lists that are linked
abbrev pub lists_of : Lists → List (List ℕ)
lists_of lists = map (chain_from lists.links.items (length lists.links.items)) lists.firsts.items

-- from each component's first part on, the links end
abbrev pub AllEnd : Lists → Type 0
AllEnd lists = All (λ first. (list : List ℕ) × IsChain lists.links.items first list) lists.firsts.items

-- of the parts from one on, those of a component
abbrev pub numbers_from : RegionTable → RegionTable → ℕ → ℕ → List ℕ
numbers_from regions others k least = items_in regions k
    (zip (drop least others.firsts) (range_with_len least (length others.firsts - least)))

-- the parts of each component from one on are linked
pub record AreLinked (regions others : RegionTable) (lists : Lists) (least : ℕ) : Type 0 where
  pub sized : length lists.links.items ≡ length others.firsts
  pub count : length lists.firsts.items ≡ length regions.firsts
  pub within : least ≤ length others.firsts
  pub each : (k : ℕ) → k < length regions.firsts
      → IsChain lists.links.items (slice_index lists.firsts.items k) (numbers_from regions others k least)
