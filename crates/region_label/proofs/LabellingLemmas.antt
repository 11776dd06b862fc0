-- What a labelling tells of two cells.
use Rattle.std.proofs.Common.{◌≡◌, ℕ, ◌↔◌, Bool, [], ◌∷◌, Some, get_or, refl}
use Rattle.std.specs.Prelude.{slice_get}
use Rattle.cell_base.specs.Raster.{Place, Raster, value_at}
use Rattle.cell_base.specs.Steps.{IsStep}
use Rattle.cell_base.specs.Valid.{IsMarked}
use Rattle.region_label.specs.Component.{InComponent}
use Rattle.region_label.specs.Labelling.{RegionTable, IsInRegion, IsLabelling}
use Rattle.region_label.proofs.ComponentLemmas.{component_end, component_sym, component_trans}
use Rattle.std.proofs.lemmas.Option.{slice_get-get_or}

-- each number that a cell has is that of a first cell
pub first_of : {T : Type 0} (connectivity : Bool) (cells : Raster T) (valid : Raster Bool) (regions : RegionTable) → IsLabelling connectivity cells valid regions → (k : ℕ) (p : Place) → IsInRegion regions k p → (a : Place) × (slice_get regions.firsts k ≡ Some a) × InComponent connectivity cells valid a p
first_of connectivity cells valid regions labelled k p in_k =
    let at = slice_get-get_or regions.firsts k (0, 0) (labelled.known k p in_k) in
    (get_or regions.firsts k (0, 0), at, (labelled.region k (get_or regions.firsts k (0, 0)) p at).0 in_k)

-- a cell has the number of another exactly where it is in its component
pub same_number : {T : Type 0} (connectivity : Bool) (cells : Raster T) (valid : Raster Bool) (regions : RegionTable) → IsLabelling connectivity cells valid regions → (k : ℕ) (p q : Place) → IsInRegion regions k p → IsInRegion regions k q ↔ InComponent connectivity cells valid p q
same_number connectivity cells valid regions labelled k p q in_k =
    let first = first_of connectivity cells valid regions labelled k p in_k in (
      λ also. component_trans connectivity cells valid p first.0 q (component_sym connectivity cells valid first.0 p first.2) ((labelled.region k first.0 q first.1).0 also),
      λ joined. (labelled.region k first.0 q first.1).1 (component_trans connectivity cells valid first.0 p q first.2 joined),
    )

-- a valid cell of the same value one step away has the same number
pub number_of_step : {T : Type 0} (connectivity : Bool) (cells : Raster T) (valid : Raster Bool) (regions : RegionTable) → IsLabelling connectivity cells valid regions → (k : ℕ) (p q : Place) → IsInRegion regions k p → IsStep connectivity p q → IsMarked valid q → value_at cells q ≡ value_at cells p → IsInRegion regions k q
number_of_step connectivity cells valid regions labelled k p q in_k step marked same =
    let start = (labelled.valid_cells p).1 (k, in_k) in
    (same_number connectivity cells valid regions labelled k p q in_k).1 ((start, refl), q ∷ [], ((step, (marked, same)), refl))

-- the cells of one component have one value
pub value_of_region : {T : Type 0} (connectivity : Bool) (cells : Raster T) (valid : Raster Bool) (regions : RegionTable) → IsLabelling connectivity cells valid regions → (k : ℕ) (p q : Place) → IsInRegion regions k p → IsInRegion regions k q → value_at cells q ≡ value_at cells p
value_of_region connectivity cells valid regions labelled k p q in_p in_q = (component_end connectivity cells valid p q ((same_number connectivity cells valid regions labelled k p q in_p).0 in_q)).1
