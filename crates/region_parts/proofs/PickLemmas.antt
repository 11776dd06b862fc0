-- What belongs to parts, picked by their numbers.
use Rattle.std.proofs.Common.{◌≡◌, ◌∙◌, ◌+◌, ◌<◌, ◌≤◌, ℕ, zero, suc, inl, inr, Bool, List, [], ◌∷◌, length, map, get_or, refl, sym, ap, subst, arith}
use Rattle.std.specs.Prelude.{slice_get, unwrap_or}
use Rattle.std.specs.List.{All, range_with_len, zip}
use Rattle.std.proofs.lemmas.Bool.{cases_Bool}
use Rattle.std.proofs.lemmas.List.Elements.{All-cons, All-nil}
use Rattle.std.proofs.lemmas.Option.{unwrap_or-slice_get}
use Rattle.cell_base.specs.Raster.{Place, Raster}
use Rattle.region_label.specs.Labelling.{IsLabelling, RegionTable}
use Rattle.region_parts.specs.Parts.{items_by, items_in, lies_in, part_numbers, parts_of}
use Rattle.region_parts.proofs.ChainLemmas.{item_in, item_out, lists_by}
use Rattle.region_parts.proofs.OwnLemmas.{own_part}

-- the item of a number
abbrev pub pick : {A : Type 0} → A → List A → ℕ → A
pick d items j = unwrap_or (slice_get items j) d

-- items are those of their numbers, from one number on
picked_from : {A : Type 0} (regions : RegionTable) (k : ℕ) (d : A) (firsts : List Place) (items all : List A) (a : ℕ) → length items ≡ length firsts → ((i : ℕ) → i < length items → pick d all (a + i) ≡ pick d items i)
    → items_in regions k (zip firsts items) ≡ map (pick d all) (items_in regions k (zip firsts (range_with_len a (length firsts))))
picked_from regions k d [] items all a long same = refl
picked_from regions k d (x ∷ xs) [] all a long same = absurd (omega (arith, long))
picked_from regions k d (x ∷ xs) (y ∷ ys) all a long same =
    let here : a ≡ a + 0 = omega arith in
    let first : pick d all a ≡ y = ap (pick d all) here ∙ same 0 (omega arith) in
    let rest : items_in regions k (zip xs ys) ≡ map (pick d all) (items_in regions k (zip xs (range_with_len (a + 1) (length xs)))) = picked_from regions k d xs ys all (a + 1) (omega (arith, long)) (λ i within.
    let on : (a + 1) + i ≡ a + suc i = omega arith in
    ap (pick d all) on ∙ same (suc i) (omega (arith, within))) in
    let numbers = zip xs (range_with_len (a + 1) (length xs)) in
    elim (cases_Bool (lies_in regions k x)) [
      | inl lying ↦
          item_in regions k x y (zip xs ys) lying
          ∙ ap (λ zs. y ∷ zs) rest
          ∙ ap (λ z. z ∷ map (pick d all) (items_in regions k numbers)) (sym first)
          ∙ ap (map (pick d all)) (sym (item_in regions k x a numbers lying))
      | inr elsewhere ↦
          item_out regions k x y (zip xs ys) elsewhere ∙ rest ∙ ap (map (pick d all)) (sym (item_out regions k x a numbers elsewhere))
    ]

pub picked : {A : Type 0} (regions others : RegionTable) (k : ℕ) (d : A) (items : List A) → length items ≡ length others.firsts → items_in regions k (zip others.firsts items) ≡ map (pick d items) (part_numbers regions others k)
picked regions others k d items long = picked_from regions k d others.firsts items items 0 long (λ i within.
    let number : 0 + i ≡ i = omega arith in
    ap (pick d items) number)

-- what functions give of a list, by what they give of each member
pub maps_by : {A B C : Type 0} (f : B → C) (g : A → B) (h : A → C) (xs : List A) → ((x : A) → f (g x) ≡ h x) → map f (map g xs) ≡ map h xs
maps_by f g h [] each = refl
maps_by f g h (x ∷ xs) each = ap (λ y. y ∷ map f (map g xs)) (each x) ∙ ap (λ ys. h x ∷ ys) (maps_by f g h xs each)

-- the items of all parts, picked by their numbers
pub all_picked : {A : Type 0} (regions others : RegionTable) (d : A) (items : List A) → length items ≡ length others.firsts → map (map (pick d items)) (parts_of regions others) ≡ items_by regions (zip others.firsts items)
all_picked regions others d items long =
    maps_by (map (pick d items)) (part_numbers regions others) (λ k. items_in regions k (zip others.firsts items)) (range_with_len 0 (length regions.firsts)) (λ k. sym (picked regions others k d items long))

-- in its own labelling each component has one item
pub each_alone : {T A : Type 0} (connectivity : Bool) (cells : Raster T) (valid : Raster Bool) (regions : RegionTable) (d : A) (items : List A) → IsLabelling connectivity cells valid regions → length items ≡ length regions.firsts
    → map (λ item. item ∷ []) items ≡ items_by regions (zip regions.firsts items)
each_alone connectivity cells valid regions d items labelled long =
    let one : (i : ℕ) → i < length items → (get_or items i d) ∷ [] ≡ items_in regions (0 + i) (zip regions.firsts items) = λ i within.
    let number : i ≡ 0 + i = omega arith in
    sym (picked regions regions i d items long ∙ ap (map (pick d items)) (own_part connectivity cells valid regions labelled i (omega (arith, within, long))) ∙ ap (λ z. z ∷ []) (unwrap_or-slice_get items i d))
    ∙ ap (λ n. items_in regions n (zip regions.firsts items)) number in
    lists_by (λ k. items_in regions k (zip regions.firsts items)) (λ item. item ∷ []) items d 0 one
    ∙ ap (λ n. map (λ k. items_in regions k (zip regions.firsts items)) (range_with_len 0 n)) long

-- part numbers are below their count

below_items : (regions : RegionTable) (k : ℕ) (firsts : List Place) (a n m : ℕ) → a + n ≤ m → All (λ j. j < m) (items_in regions k (zip firsts (range_with_len a n)))
below_items regions k [] a n m within = All-nil (λ j. j < m)
below_items regions k (x ∷ xs) a zero m within = All-nil (λ j. j < m)
below_items regions k (x ∷ xs) a (suc n) m within =
    let numbers = zip xs (range_with_len (a + 1) n) in
    let rest : All (λ j. j < m) (items_in regions k numbers) = below_items regions k xs (a + 1) n m (omega (arith, within)) in
    elim (cases_Bool (lies_in regions k x)) [
      | inl lying ↦ subst (All (λ j. j < m)) (sym (item_in regions k x a numbers lying)) (All-cons (λ j. j < m) a (items_in regions k numbers) (omega (arith, within)) rest)
      | inr elsewhere ↦ subst (All (λ j. j < m)) (sym (item_out regions k x a numbers elsewhere)) rest
    ]

all_map : {A B : Type 0} (P : B → Type 0) (f : A → B) (xs : List A) → ((x : A) → P (f x)) → All P (map f xs)
all_map P f [] each = All-nil P
all_map P f (x ∷ xs) each = All-cons P (f x) (map f xs) (each x) (all_map P f xs each)

pub parts_below : (regions others : RegionTable) (m : ℕ) → m ≡ length others.firsts → All (All (λ j. j < m)) (parts_of regions others)
parts_below regions others m is =
    all_map (All (λ j. j < m)) (part_numbers regions others) (range_with_len 0 (length regions.firsts)) (λ k. below_items regions k others.firsts 0 (length others.firsts) m (omega (arith, is)))
