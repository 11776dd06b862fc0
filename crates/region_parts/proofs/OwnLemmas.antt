-- In its own labelling each component has one part, and labellings of one grid are over it.
use Rattle.std.proofs.Common.{◌≡◌, ◌≢◌, ◌∙◌, ◌+◌, ◌<◌, ◌≤◌, ℕ, ℤ, zero, suc, inl, inr, Bool, List, [], ◌∷◌, Some, length, map, refl, sym, ap, arith}
use Rattle.std.specs.Prelude.{slice_get}
use Rattle.std.specs.List.{range_with_len, zip}
use Rattle.std.proofs.lemmas.Bool.{cases_eq, eq-eqb, ne_eqb}
use Rattle.cell_base.specs.Raster.{Place, Raster}
use Rattle.cell_base.proofs.PlaceLemmas.{inside_from_value}
use Rattle.region_label.specs.Labelling.{IsInRegion, IsLabelling, RegionTable}
use Rattle.region_label.proofs.ComponentLemmas.{component_itself}
use Rattle.region_parts.specs.Parts.{AreEachItsOwn, AreOverGrid, items_in, part_numbers}
use Rattle.region_parts.proofs.ChainLemmas.{item_in, item_out, lies}

-- the first cells from one number on lie each in its component
abbrev LieInOrder : RegionTable → List Place → ℕ → Type 0
LieInOrder regions firsts a = (i : ℕ) (x : Place) → slice_get firsts i ≡ Some x → IsInRegion regions (a + i) x

lie_on : (regions : RegionTable) (x : Place) (xs : List Place) (a : ℕ) → LieInOrder regions (x ∷ xs) a → LieInOrder regions xs (a + 1)
lie_on regions x xs a lie i y at =
    let on : a + suc i ≡ (a + 1) + i = omega arith in
    lie (suc i) y at ∙ ap (λ (n : ℕ). Some (Some n)) on

first_lies : (regions : RegionTable) (x : Place) (xs : List Place) (a : ℕ) → LieInOrder regions (x ∷ xs) a → IsInRegion regions a x
first_lies regions x xs a lie =
    let here : a + 0 ≡ a = omega arith in
    lie 0 x refl ∙ ap (λ (n : ℕ). Some (Some n)) here

none_before : (regions : RegionTable) (firsts : List Place) (a k : ℕ) → LieInOrder regions firsts a → k < a → items_in regions k (zip firsts (range_with_len a (length firsts))) ≡ []
none_before regions [] a k lie before = refl
none_before regions (x ∷ xs) a k lie before =
    let other : a ≢ k = λ same. omega (arith, same, before) in
    item_out regions k x a (zip xs (range_with_len (a + 1) (length xs))) (lies regions k x (Some a) (first_lies regions x xs a lie) ∙ ne_eqb a k other)
    ∙ none_before regions xs (a + 1) k (lie_on regions x xs a lie) (omega (arith, before))

one_among : (regions : RegionTable) (firsts : List Place) (a k : ℕ) → LieInOrder regions firsts a → a ≤ k → k < a + length firsts → items_in regions k (zip firsts (range_with_len a (length firsts))) ≡ k ∷ []
one_among regions [] a k lie from within = absurd (omega (arith, from, within))
one_among regions (x ∷ xs) a k lie from within =
    let items = zip xs (range_with_len (a + 1) (length xs)) in
    elim (cases_eq a k) [
      | inl same ↦
          item_in regions k x a items (lies regions k x (Some a) (first_lies regions x xs a lie) ∙ eq-eqb a k same)
          ∙ ap (λ (is : List ℕ). a ∷ is) (none_before regions xs (a + 1) k (lie_on regions x xs a lie) (omega (arith, same)))
          ∙ ap (λ (n : ℕ). n ∷ []) same
      | inr other ↦
          item_out regions k x a items (lies regions k x (Some a) (first_lies regions x xs a lie) ∙ ne_eqb a k other)
          ∙ one_among regions xs (a + 1) k (lie_on regions x xs a lie) (past a k from other) (omega (arith, within))
    ]
  where
    past : (m n : ℕ) → m ≤ n → m ≢ n → m + 1 ≤ n
    past m n up other = omega arith

-- what functions give of numbers, by what they give of each
same_maps : {B : Type 0} (f g : ℕ → B) (a n : ℕ) → ((i : ℕ) → i < n → f (a + i) ≡ g (a + i)) → map f (range_with_len a n) ≡ map g (range_with_len a n)
same_maps f g a zero each = refl
same_maps f g a (suc n) each =
    let here : a + 0 ≡ a = omega arith in
    let first : f a ≡ g a = ap f (sym here) ∙ each 0 (omega arith) ∙ ap g here in
    let rest : map f (range_with_len (a + 1) n) ≡ map g (range_with_len (a + 1) n) = same_maps f g (a + 1) n (λ i within.
    let on : (a + 1) + i ≡ a + suc i = omega arith in
    ap f on ∙ each (suc i) (omega (arith, within)) ∙ ap g (sym on)) in
    ap (λ y. y ∷ map f (range_with_len (a + 1) n)) first ∙ ap (λ ys. g a ∷ ys) rest

pub own_part : {T : Type 0} (connectivity : Bool) (cells : Raster T) (valid : Raster Bool) (regions : RegionTable) → IsLabelling connectivity cells valid regions → (k : ℕ) → k < length regions.firsts → part_numbers regions regions k ≡ k ∷ []
own_part connectivity cells valid regions labelled k within =
    let lie : LieInOrder regions regions.firsts 0 = λ i x at.
    let number : i ≡ 0 + i = omega arith in
    (labelled.region i x x at).1 (component_itself connectivity cells valid x (labelled.first i x at).marked) ∙ ap (λ (n : ℕ). Some (Some n)) number in
    one_among regions regions.firsts 0 k lie (omega arith) (omega (arith, within))

pub own_parts : (connectivity : Bool) (cells : Raster ℤ) (valid : Raster Bool) (regions : RegionTable) → IsLabelling connectivity cells valid regions → AreEachItsOwn regions
own_parts connectivity cells valid regions labelled =
    same_maps (part_numbers regions regions) (λ (k : ℕ). k ∷ []) 0 (length regions.firsts) (λ i within. own_part connectivity cells valid regions labelled (0 + i) (omega (arith, within)))

-- labellings of one grid are over it
pub over_grid : {T : Type 0} (a b : Bool) (cells : Raster T) (valid : Raster Bool) (regions others : RegionTable) → IsLabelling a cells valid regions → IsLabelling b cells valid others → AreOverGrid regions others
over_grid a b cells valid regions others labelled also = record {
  inside = λ j x at.
      let own = (also.region j x x at).1 (component_itself b cells valid x (also.first j x at).marked) in
      let within = inside_from_value others.numbers x (Some j) also.numbers.second own in
      (omega (arith, within.0, also.numbers.nrows, labelled.numbers.nrows), omega (arith, within.1, also.numbers.ncols, labelled.numbers.ncols));
  known = labelled.known;
}
