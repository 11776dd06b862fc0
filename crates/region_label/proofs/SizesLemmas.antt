-- The sizes of components by their runs.
use Rattle.std.proofs.Common.{◌≡◌, ◌≢◌, ℕ, ◌+◌, ◌*◌, ◌<◌, ◌≤◌, Bool, List, Some, map, length, get_or, ap, sym, ◌∙◌, arith}
use Rattle.std.specs.Prelude.{AllPairs, Contains, option_map, slice_get}
use Rattle.std.proofs.lemmas.List.{length-map}
use Rattle.std.proofs.lemmas.Nat.{same_from_place, rows}
use Rattle.std.proofs.lemmas.Option.{get_or_from_slice_get, slice_get-map, slice_get_within}
use Rattle.cell_base.specs.Raster.{Place, Raster}
use Rattle.cell_base.proofs.PlaceLemmas.{element_at}
use Rattle.region_label.specs.Count.{HasCount}
use Rattle.region_label.specs.Component.{InComponent}
use Rattle.region_label.specs.Labelling.{RegionTable, IsLabelling}
use Rattle.region_label.proofs.ComponentLemmas.{component_end}
use Rattle.region_label.proofs.FillLemmas.{distinct_below}
use Rattle.region_label.proofs.ListLemmas.{at_from_contains, contains_from_at}
use Rattle.region_label.proofs.RowsLemmas.{in_cells}
use Rattle.region_label.proofs.WholeLemmas.{mapped}

-- places told apart by their index in the grid
place_index : ℕ → Place → ℕ
place_index ncols p = p.0 * ncols + p.1

distinct_indices : (ncols nrows : ℕ) (places : List Place) → AllPairs (λ p q. p ≢ q) places → ((p : Place) → Contains places p → (p.0 < nrows) × (p.1 < ncols)) → AllPairs (λ i j. i ≢ j) (map (place_index ncols) places)
unfolding place_index
distinct_indices ncols nrows places once inside i j d less within same =
    let in_j : j < length places = omega (arith, within, length-map places (place_index ncols)) in
    let at_i = element_at places i (omega arith) in
    let at_j = element_at places j in_j in
    let read : (k : ℕ) (p : Place) → slice_get places k ≡ Some p → get_or (map (place_index ncols) places) k d ≡ place_index ncols p = λ k p at. get_or_from_slice_get (map (place_index ncols) places) k (place_index ncols p) d (slice_get-map (place_index ncols) places k ∙ ap (option_map (place_index ncols)) at) in
    let in_p = inside at_i.0 (contains_from_at places i at_i.0 at_i.1) in
    let in_q = inside at_j.0 (contains_from_at places j at_j.0 at_j.1) in
    let both = same_from_place at_i.0.0 at_i.0.1 at_j.0.0 at_j.0.1 ncols in_p.1 in_q.1 (sym (read i at_i.0 at_i.1) ∙ same ∙ read j at_j.0 at_j.1) in
    let places_same : (at_i.0.0, at_i.0.1) ≡ (at_j.0.0, at_j.0.1) = cc (both.0, both.1) in
    once i j at_i.0 less in_j (get_or_from_slice_get places i at_i.0 at_i.0 at_i.1 ∙ places_same ∙ sym (get_or_from_slice_get places j at_j.0 at_i.0 at_j.1))

-- a set inside a grid has at most as many members as the grid has cells
pub count_small : (ncols nrows : ℕ) (set : Place → Type 0) (n : ℕ) → ((p : Place) → set p → (p.0 < nrows) × (p.1 < ncols)) → HasCount set n → n ≤ ncols * nrows
unfolding place_index
count_small ncols nrows set n inside count =
    let in_places : (p : Place) → Contains count.0 p → (p.0 < nrows) × (p.1 < ncols) = λ p member. inside p ((count.1.all p).0 member) in
    let short = distinct_below (map (place_index ncols) count.0) (ncols * nrows) (distinct_indices ncols nrows count.0 count.1.once in_places) (λ i member.
    let at = at_from_contains (map (place_index ncols) count.0) i member in
    let found = mapped (place_index ncols) (slice_get count.0 at.0) i (sym (slice_get-map (place_index ncols) count.0 at.0) ∙ at.1) in
    let in_p = in_places found.0 (contains_from_at count.0 at.0 found.0 found.1) in
    omega (arith, found.2, index_small found.0.0 found.0.1 ncols nrows in_p.0 in_p.1)) in
    omega (arith, short, length-map count.0 (place_index ncols), count.2)
  where
    index_small : (row col ncols nrows : ℕ) → row < nrows → col < ncols → row * ncols + col < ncols * nrows
    index_small row col ncols nrows in_row in_col = grind (arith, rows)

-- so the sizes of a labelling are
pub size_small : {T : Type 0} (connectivity : Bool) (cells : Raster T) (valid : Raster Bool) (regions : RegionTable) (k n : ℕ) → IsLabelling connectivity cells valid regions → slice_get regions.sizes k ≡ Some n → n ≤ cells.ncols * cells.nrows
size_small connectivity cells valid regions k n is at =
    let within = slice_get_within regions.sizes k n at in
    let first = element_at regions.firsts k (omega (arith, within, is.sized)) in
    count_small cells.ncols cells.nrows (InComponent connectivity cells valid first.0) n (λ p joined. in_cells cells valid p is.mask (component_end connectivity cells valid first.0 p joined).0) (is.size k first.0 n first.1 at)
