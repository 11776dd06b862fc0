-- A grid has one labelling under a connectivity.
use Rattle.std.proofs.Common.{◌≡◌, ℕ, suc, Bool, List, [], ◌∷◌, Option, Some, None, refl, ap, sym, ◌∙◌, arith}
use Rattle.std.specs.Prelude.{slice_get}
use Rattle.std.proofs.lemmas.Option.{none-some, same_Some, slice_get_within}
use Rattle.cell_base.specs.Raster.{Place, Raster, AreAligned, value_at}
use Rattle.cell_base.specs.Order.{IsBefore}
use Rattle.cell_base.proofs.PlaceLemmas.{element_at, inside_from_value, same_raster, value_inside}
use Rattle.region_label.specs.Component.{InComponent, IsFirst}
use Rattle.region_label.specs.Labelling.{RegionTable, IsInRegion, IsLabelling}
use Rattle.region_label.proofs.CountLaws.{one_count}
use Rattle.region_label.proofs.LabellingLemmas.{first_of}
use Rattle.region_label.proofs.ListLemmas.{at_from_contains}

-- lists with the same members at the same indices are the same
same_by_index : {A : Type 0} (xs ys : List A) → ((k : ℕ) (x : A) → slice_get xs k ≡ Some x → slice_get ys k ≡ Some x) → ((k : ℕ) (y : A) → slice_get ys k ≡ Some y → slice_get xs k ≡ Some y) → xs ≡ ys
same_by_index [] [] there back = refl
same_by_index [] (y ∷ ys) there back = absurd (let none : None ≡ Some y = back 0 y refl in cc)
same_by_index (x ∷ xs) [] there back = absurd (let none : None ≡ Some x = there 0 x refl in cc)
same_by_index (x ∷ xs) (y ∷ ys) there back =
    let first : x ≡ y = sym (same_Some y x (there 0 x refl)) in
    let rest : xs ≡ ys = same_by_index xs ys (λ k z at. there (suc k) z at) (λ k z at. back (suc k) z at) in
    ap (λ z. z ∷ xs) first ∙ ap (λ zs. y ∷ zs) rest

-- the first cell of a number in one labelling is that in another
first_there : {T : Type 0} (connectivity : Bool) (cells : Raster T) (valid : Raster Bool) (a b : RegionTable) → IsLabelling connectivity cells valid a → IsLabelling connectivity cells valid b → (k : ℕ) (x : Place) → slice_get a.firsts k ≡ Some x → slice_get b.firsts k ≡ Some x
first_there connectivity cells valid a b is_a is_b k x at =
    let found = at_from_contains b.firsts x (is_b.every x (is_a.first k x at)) in
    let same = one_count (λ y. IsFirst connectivity cells valid y × IsBefore y x) found.0 k (is_b.number found.0 x found.1) (is_a.number k x at) in
    ap (slice_get b.firsts) (sym same) ∙ found.1

number_there : {T : Type 0} (connectivity : Bool) (cells : Raster T) (valid : Raster Bool) (a b : RegionTable) → IsLabelling connectivity cells valid a → IsLabelling connectivity cells valid b → (k : ℕ) (p : Place) → IsInRegion a k p → IsInRegion b k p
number_there connectivity cells valid a b is_a is_b k p in_k =
    let first = first_of connectivity cells valid a is_a k p in_k in
    (is_b.region k first.0 p (first_there connectivity cells valid a b is_a is_b k first.0 first.1)).1 first.2

size_there : {T : Type 0} (connectivity : Bool) (cells : Raster T) (valid : Raster Bool) (a b : RegionTable) → IsLabelling connectivity cells valid a → IsLabelling connectivity cells valid b → (k n : ℕ) → slice_get a.sizes k ≡ Some n → slice_get b.sizes k ≡ Some n
size_there connectivity cells valid a b is_a is_b k n at =
    let first = element_at a.firsts k (omega (arith, slice_get_within a.sizes k n at, is_a.sized)) in
    let there = first_there connectivity cells valid a b is_a is_b k first.0 first.1 in
    let size = element_at b.sizes k (omega (arith, slice_get_within b.firsts k first.0 there, is_b.sized)) in
    let same = one_count (InComponent connectivity cells valid first.0) size.0 n (is_b.size k first.0 size.0 there size.1) (is_a.size k first.0 n first.1 at) in
    size.1 ∙ ap (λ (m : ℕ). Some m) same

-- what is inside one grid of numbers is inside the other
aligned_numbers : {T : Type 0} (connectivity : Bool) (cells : Raster T) (valid : Raster Bool) (a b : RegionTable) → IsLabelling connectivity cells valid a → IsLabelling connectivity cells valid b → AreAligned a.numbers b.numbers
aligned_numbers connectivity cells valid a b is_a is_b = record {
  first = is_a.numbers.second;
  second = is_b.numbers.second;
  ncols = is_b.numbers.ncols ∙ sym is_a.numbers.ncols;
  nrows = is_b.numbers.nrows ∙ sym is_a.numbers.nrows;
}

inside_both : {T : Type 0} (connectivity : Bool) (cells : Raster T) (valid : Raster Bool) (a b : RegionTable) → IsLabelling connectivity cells valid a → IsLabelling connectivity cells valid b → (p : Place) (o : Option ℕ) → value_at a.numbers p ≡ Some o → (v : Option ℕ) × (value_at b.numbers p ≡ Some v)
inside_both connectivity cells valid a b is_a is_b p o at =
    let inside = inside_from_value a.numbers p o is_a.numbers.second at in
    let aligned = aligned_numbers connectivity cells valid a b is_a is_b in
    value_inside b.numbers p is_b.numbers.second (omega (arith, inside.0, aligned.nrows)) (omega (arith, inside.1, aligned.ncols))

-- the numbers of both at a place
same_number_at : {T : Type 0} (connectivity : Bool) (cells : Raster T) (valid : Raster Bool) (a b : RegionTable) → IsLabelling connectivity cells valid a → IsLabelling connectivity cells valid b → (p : Place) (x y : Option (Option ℕ)) → value_at a.numbers p ≡ x → value_at b.numbers p ≡ y → y ≡ x
same_number_at connectivity cells valid a b is_a is_b p None None at_a at_b = refl
same_number_at connectivity cells valid a b is_a is_b p None (Some o) at_a at_b = absurd (none-some _ (sym at_a ∙ (inside_both connectivity cells valid b a is_b is_a p o at_b).1))
same_number_at connectivity cells valid a b is_a is_b p (Some o) None at_a at_b = absurd (none-some _ (sym at_b ∙ (inside_both connectivity cells valid a b is_a is_b p o at_a).1))
same_number_at connectivity cells valid a b is_a is_b p (Some None) (Some None) at_a at_b = refl
same_number_at connectivity cells valid a b is_a is_b p (Some None) (Some (Some k)) at_a at_b = absurd (none-some k (same_Some None (Some k) (sym at_a ∙ number_there connectivity cells valid b a is_b is_a k p at_b)))
same_number_at connectivity cells valid a b is_a is_b p (Some (Some k)) (Some None) at_a at_b = absurd (none-some k (same_Some None (Some k) (sym at_b ∙ number_there connectivity cells valid a b is_a is_b k p at_a)))
same_number_at connectivity cells valid a b is_a is_b p (Some (Some k)) (Some (Some m)) at_a at_b = sym at_b ∙ number_there connectivity cells valid a b is_a is_b k p at_a

pub one_labelling : {T : Type 0} (connectivity : Bool) (cells : Raster T) (valid : Raster Bool) (a b : RegionTable) → IsLabelling connectivity cells valid a → IsLabelling connectivity cells valid b → a ≡ b
one_labelling connectivity cells valid a b is_a is_b =
    let numbers : a.numbers ≡ b.numbers = sym (same_raster a.numbers b.numbers (aligned_numbers connectivity cells valid a b is_a is_b) (λ p. same_number_at connectivity cells valid a b is_a is_b p (value_at a.numbers p) (value_at b.numbers p) refl refl)) in
    let firsts : a.firsts ≡ b.firsts = same_by_index a.firsts b.firsts (first_there connectivity cells valid a b is_a is_b) (first_there connectivity cells valid b a is_b is_a) in
    let sizes : a.sizes ≡ b.sizes = same_by_index a.sizes b.sizes (size_there connectivity cells valid a b is_a is_b) (size_there connectivity cells valid b a is_b is_a) in
    let make : Raster (Option ℕ) → List Place → List ℕ → RegionTable = λ n f s. record { numbers = n; firsts = f; sizes = s } in
    ap (λ (n : Raster (Option ℕ)). make n a.firsts a.sizes) numbers ∙ ap (λ (f : List Place). make b.numbers f a.sizes) firsts ∙ ap (make b.numbers b.firsts) sizes
