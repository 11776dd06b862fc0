-- The segments of a stretch of lattice cells.
use Rattle.std.proofs.Common.{◌≡◌, ℕ, ℤ, zero, suc, ◌+◌, ◌<◌, ◌≤◌, ◌<ℤ◌, ◌≤ℤ◌, ◌⊎◌, inl, inr, Bool, true, false, List, [], ◌∷◌, ◌++◌, Some, length, get_or, take, refl, sym, ap, ◌∙◌, subst, append_assoc, arith}
use Rattle.std.specs.Prelude.{if◌then◌else◌, int_le, slice_get}
use Rattle.std.specs.List.{flat_map}
use Rattle.std.proofs.lemmas.Bool.{cases_lt}
use Rattle.std.proofs.lemmas.Int.{ints}
use Rattle.std.proofs.lemmas.List.{append-nil, take_all, take_more}
use Rattle.std.proofs.lemmas.Option.{get_or_from_slice_get, slice_get-get_or, slice_get_within}
use Rattle.cell_base.specs.Raster.{Place, Raster}
use Rattle.contour_segments.specs.Segments.{has_corners, is_high, is_joined, lattice_of, segments_in, segments_of, segments_on, sides_of, value_of}
use Rattle.contour_segments.specs.Inner.Blocks.{Covers, CoversCell, Holds, HoldsCorners, IsWider, Meets, segments_to}
use Rattle.contour_segments.specs.declared.segment.Segment.{Segment}
use Rattle.contour_segments.specs.declared.span.Span.{Span}

flat_join : {A B : Type 0} (f : A → List B) (xs ys : List A) → flat_map f (xs ++ ys) ≡ flat_map f xs ++ flat_map f ys
flat_join f [] ys = refl
flat_join f (x ∷ xs) ys = ap (λ rest. f x ++ rest) (flat_join f xs ys) ∙ sym (append_assoc (f x) (flat_map f xs) (flat_map f ys))

-- one lattice cell more
pub segments_more : (cells : Raster ℤ) (valid : Raster Bool) (level : ℤ) (i : ℕ) (place : Place) → slice_get (lattice_of cells) i ≡ Some place → segments_to cells valid level (i + 1) ≡ segments_to cells valid level i ++ segments_in cells valid level place
segments_more cells valid level i place at =
    let f = segments_in cells valid level in
    let places = lattice_of cells in
    let within = slice_get_within places i place at in
    let more : take (i + 1) places ≡ take i places ++ place ∷ [] = take_more places i place within ∙ ap (λ (p : Place). take i places ++ p ∷ []) (get_or_from_slice_get places i place place at) in
    ap (flat_map f) more ∙ flat_join f (take i places) (place ∷ []) ∙ ap (λ ys. flat_map f (take i places) ++ ys) (append-nil (f place))

-- past the last one there is no more
pub segments_past : (cells : Raster ℤ) (valid : Raster Bool) (level : ℤ) (i : ℕ) → length (lattice_of cells) ≤ i → segments_to cells valid level i ≡ segments_of cells valid level
segments_past cells valid level i past = ap (flat_map (segments_in cells valid level)) (take_all i (lattice_of cells) past)

pub segments_same : (cells : Raster ℤ) (valid : Raster Bool) (level : ℤ) (i j : ℕ) → length (lattice_of cells) ≤ i → length (lattice_of cells) ≤ j → segments_to cells valid level i ≡ segments_to cells valid level j
segments_same cells valid level i j one two = segments_past cells valid level i one ∙ sym (segments_past cells valid level j two)

if_none : (b : Bool) (xs : List Segment) → xs ≡ [] → (if b then xs else []) ≡ []
if_none true xs is = is
if_none false xs is = refl

sides_same : (b joined nw ne se sw : Bool) → nw ≡ b → ne ≡ b → se ≡ b → sw ≡ b → sides_of nw ne se sw joined ≡ []
sides_same b joined nw ne se sw is_nw is_ne is_se is_sw = ap (λ x. sides_of x ne se sw joined) is_nw ∙ ap (λ x. sides_of b x se sw joined) is_ne ∙ ap (λ x. sides_of b b x sw joined) is_se ∙ ap (λ x. sides_of b b b x joined) is_sw ∙ all_same b
  where
    all_same : (x : Bool) → sides_of x x x x joined ≡ []
    all_same true = refl
    all_same false = refl

-- where all four corners are high, or none is, there is no segment
one_side : (cells : Raster ℤ) (valid : Raster Bool) (level : ℤ) (r c : ℕ) (b : Bool) → is_high cells level (r, c) ≡ b → is_high cells level (r, c + 1) ≡ b → is_high cells level (r + 1, c + 1) ≡ b → is_high cells level (r + 1, c) ≡ b → segments_in cells valid level (r, c) ≡ []
one_side cells valid level r c b nw ne se sw = if_none (has_corners valid (r, c)) _ (ap (segments_on (r, c) 0) (sides_same b (is_joined cells level (r, c)) _ _ _ _ nw ne se sw))

high_by : (level v : ℤ) → level ≤ℤ v → int_le level v ≡ true
high_by level v is = grind (arith, ints)

low_by : (level v : ℤ) → v <ℤ level → int_le level v ≡ false
low_by level v is = grind (arith, ints)

le_trans : (a b c : ℤ) → a ≤ℤ b → b ≤ℤ c → a ≤ℤ c
le_trans a b c one two = omega (arith, ints, one, two)

lt_of : (a b c : ℤ) → a ≤ℤ b → b <ℤ c → a <ℤ c
lt_of a b c one two = omega (arith, ints, one, two)

-- a level that doesn't meet a span lies at most at its lower end, or above the upper one
apart : (span : Span) (level : ℤ) → (¬ Meets span level) → (level ≤ℤ span.low) ⊎ (span.high <ℤ level)
apart span level none = by_test (int_le level span.low) refl
  where
    le_by : (b : ℤ) → int_le level b ≡ true → level ≤ℤ b
    le_by b is = grind (arith, ints)

    gt_by : (b : ℤ) → int_le level b ≡ false → b <ℤ level
    gt_by b is = grind (arith, ints)

    upper : (b : Bool) → int_le level span.high ≡ b → span.low <ℤ level → (level ≤ℤ span.low) ⊎ (span.high <ℤ level)
    upper true is above = absurd (none (above, le_by span.high is))
    upper false is above = inr (gt_by span.high is)

    by_test : (b : Bool) → int_le level span.low ≡ b → (level ≤ℤ span.low) ⊎ (span.high <ℤ level)
    by_test true is = inl (le_by span.low is)
    by_test false is = upper (int_le level span.high) refl (gt_by span.low is)

-- a lattice cell whose values lie on one side of the level has no segment
cell_none : (cells : Raster ℤ) (valid : Raster Bool) (level : ℤ) (span : Span) (r c : ℕ) → CoversCell cells valid span (r, c) → (¬ Meets span level) → segments_in cells valid level (r, c) ≡ []
cell_none cells valid level span r c covers none = by_test (has_corners valid (r, c)) refl
  where
    held : has_corners valid (r, c) ≡ true → HoldsCorners span (record { nw = value_of cells (r, c); ne = value_of cells (r, c + 1); se = value_of cells (r + 1, c + 1); sw = value_of cells (r + 1, c) })
    held is = covers is (record { nw = value_of cells (r, c); ne = value_of cells (r, c + 1); se = value_of cells (r + 1, c + 1); sw = value_of cells (r + 1, c) }) (record { nw = refl; ne = refl; se = refl; sw = refl })

    by_side : HoldsCorners span (record { nw = value_of cells (r, c); ne = value_of cells (r, c + 1); se = value_of cells (r + 1, c + 1); sw = value_of cells (r + 1, c) }) → (level ≤ℤ span.low) ⊎ (span.high <ℤ level) → segments_in cells valid level (r, c) ≡ []
    by_side is (inl below) = one_side cells valid level r c true (high_by level (value_of cells (r, c)) (le_trans level span.low _ below is.nw.0)) (high_by level (value_of cells (r, c + 1)) (le_trans level span.low _ below is.ne.0)) (high_by level (value_of cells (r + 1, c + 1)) (le_trans level span.low _ below is.se.0)) (high_by level (value_of cells (r + 1, c)) (le_trans level span.low _ below is.sw.0))
    by_side is (inr above) = one_side cells valid level r c false (low_by level (value_of cells (r, c)) (lt_of _ span.high level is.nw.1 above)) (low_by level (value_of cells (r, c + 1)) (lt_of _ span.high level is.ne.1 above)) (low_by level (value_of cells (r + 1, c + 1)) (lt_of _ span.high level is.se.1 above)) (low_by level (value_of cells (r + 1, c)) (lt_of _ span.high level is.sw.1 above))

    by_test : (b : Bool) → has_corners valid (r, c) ≡ b → segments_in cells valid level (r, c) ≡ []
    by_test true is = by_side (held is) (apart span level none)
    by_test false is = ap (λ (b : Bool). if b then segments_on (r, c) 0 (sides_of (is_high cells level (r, c)) (is_high cells level (r, c + 1)) (is_high cells level (r + 1, c + 1)) (is_high cells level (r + 1, c)) (is_joined cells level (r, c))) else []) is

-- so a stretch that the level doesn't meet is passed
pub segments_skip : (cells : Raster ℤ) (valid : Raster Bool) (level : ℤ) (span : Span) (from n : ℕ) → Covers cells valid span from (from + n) → (¬ Meets span level) → segments_to cells valid level (from + n) ≡ segments_to cells valid level from
segments_skip cells valid level span from zero covers none = ap (segments_to cells valid level) (omega arith)
segments_skip cells valid level span from (suc n) covers none =
    let rest = segments_skip cells valid level span from n (λ i place low high at. covers i place low (omega (arith, high)) at) none in
    let next : from + suc n ≡ (from + n) + 1 = omega arith in
    ap (segments_to cells valid level) next ∙ last (cases_lt (from + n) (length (lattice_of cells))) ∙ rest
  where
    one : (i : ℕ) (r c : ℕ) → from ≤ i → i < from + suc n → slice_get (lattice_of cells) i ≡ Some (r, c) → segments_to cells valid level (i + 1) ≡ segments_to cells valid level i
    one i r c low high at = segments_more cells valid level i (r, c) at ∙ ap (λ ys. segments_to cells valid level i ++ ys) (cell_none cells valid level span r c (covers i (r, c) low high at) none) ∙ append-nil (segments_to cells valid level i)

    last : ((from + n) < length (lattice_of cells)) ⊎ (length (lattice_of cells) ≤ (from + n)) → segments_to cells valid level ((from + n) + 1) ≡ segments_to cells valid level (from + n)
    last (inl within) =
        let place = get_or (lattice_of cells) (from + n) (0, 0) in
        one (from + n) place.0 place.1 (omega arith) (omega arith) (slice_get-get_or (lattice_of cells) (from + n) (0, 0) within)
    last (inr past) = segments_same cells valid level ((from + n) + 1) (from + n) (omega (arith, past)) past

-- spans that cover more

wider_holds : (narrow wide : Span) (v : ℤ) → IsWider narrow wide → Holds narrow v → Holds wide v
wider_holds narrow wide v is holds = (le_trans wide.low narrow.low v is.low holds.0, le_trans v narrow.high wide.high holds.1 is.high)

pub covers_wider : (cells : Raster ℤ) (valid : Raster Bool) (narrow wide : Span) (place : Place) → IsWider narrow wide → CoversCell cells valid narrow place → CoversCell cells valid wide place
covers_wider cells valid narrow wide place is covers = λ has corners at.
    let held = covers has corners at in
    record { nw = wider_holds narrow wide corners.nw is held.nw; ne = wider_holds narrow wide corners.ne is held.ne; se = wider_holds narrow wide corners.se is held.se; sw = wider_holds narrow wide corners.sw is held.sw }

pub covers_more : (cells : Raster ℤ) (valid : Raster Bool) (old cell new : Span) (from i : ℕ) (place : Place) → slice_get (lattice_of cells) i ≡ Some place → IsWider old new → IsWider cell new → CoversCell cells valid cell place → Covers cells valid old from i → Covers cells valid new from (i + 1)
covers_more cells valid old cell new from i place at wide_old wide_cell here covers = λ j other low high at_other. elim (cases_lt j i) [
  | inl before ↦ covers_wider cells valid old new other wide_old (covers j other low before at_other)
  | inr not_before ↦
      let same : j ≡ i = omega (arith, high, not_before) in
      let both : Some place ≡ Some other = sym at ∙ ap (λ (k : ℕ). slice_get (lattice_of cells) k) (sym same) ∙ at_other in
      let places : place ≡ other = cc in
      subst (λ (p : Place). CoversCell cells valid new p) places (covers_wider cells valid cell new place wide_cell here)
]

pub segments_alike : (a b : Raster ℤ) (v w : Raster Bool) (l m : ℤ) (n : ℕ) → a ≡ b → v ≡ w → l ≡ m → segments_to a v l n ≡ segments_to b w m n
segments_alike a b v w l m n cells valid level = ap (λ (r : Raster ℤ). segments_to r v l n) cells ∙ ap (λ (r : Raster Bool). segments_to b r l n) valid ∙ ap (λ (z : ℤ). segments_to b w z n) level
