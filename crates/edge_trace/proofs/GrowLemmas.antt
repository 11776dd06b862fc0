-- The sides found so far, and one more.
use Rattle.std.proofs.Common.{◌≡◌, ℕ, ◌+◌, ◌<◌, ◌≤◌, ◌⊎◌, ◌↔◌, inl, inr, Bool, true, false, List, [], ◌∷◌, ◌++◌, Some, length, length-append, refl, ap, sym, ◌∙◌, subst, arith}
use Rattle.std.specs.Prelude.{slice_get}
use Rattle.std.proofs.lemmas.List.{append-nil}
use Rattle.std.proofs.lemmas.Bool.{cases_eq, cases_lt, false≢true}
use Rattle.std.proofs.lemmas.Option.{same_Some, slice_get_within}
use Rattle.cell_base.specs.Raster.{Place, IsRaster}
use Rattle.cell_base.specs.Order.{IsBefore}
use Rattle.cell_base.proofs.PlaceLemmas.{inside_from_value}
use Rattle.region_label.specs.Labelling.{RegionTable, IsInRegion}
use Rattle.region_label.proofs.ListLemmas.{at_push_cases, slice_get-push_last, slice_get-push_old}
use Rattle.edge_trace.specs.Inner.Sides.{AreSides, IsSide, IsSideOf, IsStride, side_number}
use Rattle.edge_trace.specs.Inner.Finding.{Adds, HasSides, found_numbers, found_owners}
use Rattle.edge_trace.specs.declared.sides.Finding.{Finding}
use Rattle.edge_trace.proofs.BoundaryLemmas.{place_is}
use Rattle.edge_trace.proofs.NumberLemmas.{before_number, number_before, same_number}

-- the cells of components leave room on their right
abbrev pub AreNarrow : RegionTable → ℕ → Type 0
AreNarrow regions stride = (k : ℕ) (cell : Place) → IsInRegion regions k cell → cell.1 + 2 < stride

pub narrow_of : (regions : RegionTable) (stride : ℕ) → IsRaster regions.numbers → IsStride regions.numbers.ncols regions.numbers.nrows stride → AreNarrow regions stride
narrow_of regions stride shape is k cell inside =
    let within = inside_from_value regions.numbers cell (Some k) shape inside in
    omega (arith, within.1, is.wide)

pub one_region : (regions : RegionTable) (k m : ℕ) (p : Place) → IsInRegion regions k p → IsInRegion regions m p → k ≡ m
one_region regions k m p in_k in_m = same_Some k m (same_Some (Some k) (Some m) (sym in_k ∙ in_m))

-- a side's number tells the side
side_is : (regions : RegionTable) (stride k : ℕ) (a b : Place) (s t : ℕ) → AreNarrow regions stride → IsSide regions k a s → t < 4 → b.1 + 1 < stride → side_number stride a s ≡ side_number stride b t → (a ≡ b) × (s ≡ t)
side_is regions stride k a b s t narrow is few narrow_b same =
    let parts = same_number stride (a.0 + 1) (a.1 + 1) (b.0 + 1) (b.1 + 1) s t is.few few (omega (arith, narrow k a is.inside)) narrow_b same in
    let row : a.0 ≡ b.0 = omega (arith, parts.0) in
    let col : a.1 ≡ b.1 = omega (arith, parts.1) in
    (place_is a b.0 b.1 row col, parts.2)

side_of_old : (regions : RegionTable) (stride : ℕ) (owners : List ℕ) (i x k : ℕ) → IsSideOf regions stride owners i x → IsSideOf regions stride (owners ++ k ∷ []) i x
side_of_old regions stride owners i x k is = record {
  owner = is.owner;
  cell = is.cell;
  side = is.side;
  number_is = is.number_is;
  is = is.is;
  owner_at = slice_get-push_old owners k i (slice_get_within owners i is.owner is.owner_at) ∙ is.owner_at;
}

-- one more side
sides_add : (regions : RegionTable) (stride : ℕ) (numbers owners : List ℕ) (k : ℕ) (cell : Place) (side : ℕ) → AreNarrow regions stride → IsSide regions k cell side → AreSides regions stride numbers owners (side_number stride cell side) → AreSides regions stride (numbers ++ side_number stride cell side ∷ []) (owners ++ k ∷ []) (side_number stride cell side + 1)
sides_add regions stride numbers owners k cell side narrow is sides =
    let n = side_number stride cell side in
    let last_owner : slice_get (owners ++ k ∷ []) (length numbers) ≡ Some k = subst (λ (i : ℕ). slice_get (owners ++ k ∷ []) i ≡ Some k) sides.sized (slice_get-push_last owners k) in
    record {
      sized = omega (arith, length-append owners (k ∷ []), length-append numbers (n ∷ []), sides.sized);
      each = λ i x at. elim (at_push_cases numbers n i x at) [
        | inl old ↦ side_of_old regions stride owners i x k (sides.each i x old)
        | inr new ↦ record {
          owner = k;
          cell = cell;
          side = side;
          number_is = new.1;
          is = is;
          owner_at = subst (λ (j : ℕ). slice_get (owners ++ k ∷ []) j ≡ Some k) (sym new.0) last_owner;
        }
      ];
      below = λ i x at. elim (at_push_cases numbers n i x at) [
        | inl old ↦ omega (arith, sides.below i x old)
        | inr new ↦ omega (arith, new.1)
      ];
      rising = λ i j x y less at_i at_j. elim (at_push_cases numbers n i x at_i) [
        | inl old_i ↦ elim (at_push_cases numbers n j y at_j) [
          | inl old_j ↦ sides.rising i j x y less old_i old_j
          | inr new_j ↦ omega (arith, sides.below i x old_i, new_j.1)
        ]
        | inr new_i ↦ absurd (omega (arith, slice_get_within (numbers ++ n ∷ []) j y at_j, length-append numbers (n ∷ []), new_i.0, less))
      ];
      every = λ m t other other_is less. elim (cases_eq (side_number stride other t) n) [
        | inl same ↦
            let parts = side_is regions stride m other cell t side narrow other_is is.few (omega (arith, narrow k cell is.inside)) same in
            let owner : k ≡ m = one_region regions k m cell is.inside (subst (IsInRegion regions m) parts.0 other_is.inside) in
            (length numbers, slice_get-push_last numbers n ∙ ap (λ (x : ℕ). Some x) (sym same), last_owner ∙ ap (λ (x : ℕ). Some x) owner)
        | inr differ ↦
            let old = sides.every m t other other_is (omega (arith, less, differ)) in
            (old.0, slice_get-push_old numbers n old.0 (slice_get_within numbers old.0 _ old.1) ∙ old.1, slice_get-push_old owners k old.0 (slice_get_within owners old.0 m old.2) ∙ old.2)
      ];
    }

-- no side has a number from one bound up to another
pub sides_skip : (regions : RegionTable) (stride : ℕ) (numbers owners : List ℕ) (n m : ℕ) → n ≤ m → ((k side : ℕ) (cell : Place) → IsSide regions k cell side → n ≤ side_number stride cell side → side_number stride cell side < m → ⊥) → AreSides regions stride numbers owners n → AreSides regions stride numbers owners m
sides_skip regions stride numbers owners n m less none sides = record {
  sized = sides.sized;
  each = sides.each;
  below = λ i x at. omega (arith, sides.below i x at, less);
  rising = sides.rising;
  every = λ k side cell is below. elim (cases_lt (side_number stride cell side) n) [
    | inl before ↦ sides.every k side cell is before
    | inr past ↦ absurd (none k side cell is past below)
  ];
}

lists_added : (regions : RegionTable) (stride : ℕ) (old new : Finding) (numbers owners : List ℕ) (n : ℕ) → (found_numbers new) ≡ numbers → (found_owners new) ≡ owners → AreSides regions stride numbers owners n → HasSides regions stride new n
lists_added regions stride old new numbers owners n same_numbers same_owners sides = subst (λ (xs : List ℕ). AreSides regions stride xs (found_owners new) n) (sym same_numbers) (subst (λ (ys : List ℕ). AreSides regions stride numbers ys n) (sym same_owners) sides)

-- a side of a cell, if it bounds the cell's component
pub side_told : (regions : RegionTable) (stride : ℕ) (bounds : Bool) (n k : ℕ) (cell : Place) (side : ℕ) (old new : Finding) → AreNarrow regions stride → side < 4 → IsInRegion regions k cell → (bounds ≡ true) ↔ IsSide regions k cell side → n ≡ side_number stride cell side → HasSides regions stride old n → Adds bounds n k old new → HasSides regions stride new (n + 1)
side_told regions stride true n k cell side old new narrow few inside tells number sides adds =
    let here : HasSides regions stride old (side_number stride cell side) = subst (HasSides regions stride old) number sides in
    let numbers : (found_numbers new) ≡ (found_numbers old) ++ side_number stride cell side ∷ [] = adds.numbers ∙ ap (λ (x : ℕ). (found_numbers old) ++ x ∷ []) number in
    subst (λ (x : ℕ). HasSides regions stride new (x + 1)) (sym number) (lists_added regions stride old new ((found_numbers old) ++ side_number stride cell side ∷ []) ((found_owners old) ++ k ∷ []) (side_number stride cell side + 1) numbers adds.owners (sides_add regions stride (found_numbers old) (found_owners old) k cell side narrow (tells.0 refl) here))
side_told regions stride false n k cell side old new narrow few inside tells number sides adds = lists_added regions stride old new (found_numbers old) (found_owners old) (n + 1) (adds.numbers ∙ append-nil (found_numbers old)) (adds.owners ∙ append-nil (found_owners old)) (sides_skip regions stride (found_numbers old) (found_owners old) n (n + 1) (omega arith) (λ m t other is from to.
    let parts = side_is regions stride m other cell t side narrow is few (omega (arith, narrow k cell inside)) (omega (arith, number, from, to)) in
    let owner : m ≡ k = one_region regions m k cell (subst (IsInRegion regions m) parts.0 is.inside) inside in
    false≢true (tells.1 (subst (λ (x : ℕ). IsSide regions x cell side) owner (subst (λ (p : Place). IsSide regions m p side) parts.0 (subst (λ (s : ℕ). IsSide regions m other s) parts.1 is))))) sides)

-- where no cell of a component lies from one place up to another, there are no sides
pub cells_skip : (regions : RegionTable) (stride : ℕ) (sides : Finding) (a b : Place) → AreNarrow regions stride → a.1 + 1 < stride → b.1 + 1 < stride → (IsBefore a b ⊎ (a ≡ b)) → ((k : ℕ) (p : Place) → IsInRegion regions k p → ¬ IsBefore p a → IsBefore p b → ⊥) → HasSides regions stride sides (side_number stride a 0) → HasSides regions stride sides (side_number stride b 0)
cells_skip regions stride sides a b narrow narrow_a narrow_b order none has = sides_skip regions stride (found_numbers sides) (found_owners sides) (side_number stride a 0) (side_number stride b 0) (elim order [
  | inl before ↦ omega (arith, number_before stride a b 0 0 (omega arith) narrow_a before)
  | inr same ↦ omega (arith, ap (λ (p : Place). side_number stride p 0) same)
]) (λ k side cell is from to. none k cell is.inside (λ before. omega (arith, number_before stride cell a side 0 is.few (omega (arith, narrow k cell is.inside)) before, from)) (elim (before_number stride cell b side 0 is.few (omega arith) (omega (arith, narrow k cell is.inside)) narrow_b to) [
  | inl before ↦ before
  | inr same ↦ absurd (omega (arith, same.1))
])) has
