-- Where the segments of a level go on.
use Rattle.std.proofs.Common.{◌≡◌, ◌≢◌, ℕ, ℤ, ◌+◌, ◌-◌, ◌<◌, ◌≤◌, ◌⊎◌, inl, inr, Bool, true, false, List, [], ◌∷◌, Some, length, get_or, set, refl, sym, ap, ◌∙◌, subst, arith}
use Rattle.std.specs.Prelude.{AllPairs, Contains, slice_get}
use Rattle.std.proofs.lemmas.Bool.{cases_eq, cases_lt, false≢true}
use Rattle.std.proofs.lemmas.List.{get_or-set_other, get_or-set_same}
use Rattle.std.proofs.lemmas.Option.{get_or_from_slice_get, slice_get-get_or, slice_get_within}
use Rattle.cell_base.proofs.OrderLemmas.{before_not_itself, before_trans}
use Rattle.cell_base.proofs.PlaceLemmas.{element_at}
use Rattle.cell_base.specs.Raster.{Place, Raster}
use Rattle.cell_base.specs.Order.{IsBefore}
use Rattle.cell_base.proofs.ListDeciders.{contains_cases}
use Rattle.contour_segments.specs.Crossings.{IsHighLeft, IsHighRight}
use Rattle.contour_segments.specs.Segments.{ComesBefore, cross_on, has_corners, is_high, is_joined, places_of, segments_in, segments_of, segments_on, sides_of}
use Rattle.contour_segments.specs.declared.segment.Cross.{Cross}
use Rattle.contour_segments.specs.declared.segment.Segment.{Segment}
use Rattle.contour_segments.specs.declared.side.Side.{Side}
use Rattle.contour_segments.specs.declared.side.Side.TheVariants.{Top, Right, Bottom, Left}
use Rattle.contour_segments.proofs.CrossingLemmas.{if_in, in_order}
use Rattle.contour_segments.proofs.MemberLemmas.{none_in, of_flat}
use Rattle.contour_segments.proofs.SideLemmas.{crosses_apart}
use Rattle.contour_segments.proofs.TableLemmas.{keeps_right}
use Rattle.contour_chain.specs.Contours.{AreSegments}
use Rattle.contour_chain.specs.Inner.Links.{AllBefore, AreLinked, ArePassed, HasPassed, IsBeyond, IsFirstAt, IsFirstFrom, Starts, StartsAt, cell_of, number_of}

-- two sides of a lattice cell that are one crossing are one
same_side : (p : Place) (s t : Side) → cross_on p s ≡ cross_on p t → s ≡ t
same_side p Top Top same = refl
same_side p Top Right same = absurd (crosses_apart p Top Right refl same)
same_side p Top Bottom same = absurd (crosses_apart p Top Bottom refl same)
same_side p Top Left same = absurd (crosses_apart p Top Left refl same)
same_side p Right Top same = absurd (crosses_apart p Right Top refl same)
same_side p Right Right same = refl
same_side p Right Bottom same = absurd (crosses_apart p Right Bottom refl same)
same_side p Right Left same = absurd (crosses_apart p Right Left refl same)
same_side p Bottom Top same = absurd (crosses_apart p Bottom Top refl same)
same_side p Bottom Right same = absurd (crosses_apart p Bottom Right refl same)
same_side p Bottom Bottom same = refl
same_side p Bottom Left same = absurd (crosses_apart p Bottom Left refl same)
same_side p Left Top same = absurd (crosses_apart p Left Top refl same)
same_side p Left Right same = absurd (crosses_apart p Left Right refl same)
same_side p Left Bottom same = absurd (crosses_apart p Left Bottom refl same)
same_side p Left Left same = refl

-- a lattice cell whose side is the side of another, with the high corner on the other hand, lies beyond it
beyond_side : (cells : Raster ℤ) (level : ℤ) (p q : Place) (s t : Side) → cross_on p s ≡ cross_on q t → IsHighRight cells level p s → IsHighLeft cells level q t → IsBeyond t q p
beyond_side cells level (r, c) (x, y) Top Top same right left = absurd (both_ways (ap (λ (k : Cross). k.row) same) (ap (λ (k : Cross). k.col) same))
  where
    both_ways : r ≡ x → c ≡ y → ⊥
    both_ways rows cols = false≢true (sym left.1 ∙ sym (ap (λ (k : ℕ). is_high cells level (k, c)) rows ∙ ap (λ (k : ℕ). is_high cells level (x, k)) cols) ∙ right.0)
beyond_side cells level (r, c) (x, y) Top Right same right left = absurd (false≢true (ap (λ (k : Cross). k.down) same))
beyond_side cells level (r, c) (x, y) Top Bottom same right left = (ap (λ (k : Cross). k.row) same, ap (λ (k : Cross). k.col) same)
beyond_side cells level (r, c) (x, y) Top Left same right left = absurd (false≢true (ap (λ (k : Cross). k.down) same))
beyond_side cells level (r, c) (x, y) Right Top same right left = absurd (false≢true (sym (ap (λ (k : Cross). k.down) same)))
beyond_side cells level (r, c) (x, y) Right Right same right left = absurd (both_ways (ap (λ (k : Cross). k.row) same) (ap (λ (k : Cross). k.col) same))
  where
    both_ways : r ≡ x → c + 1 ≡ y + 1 → ⊥
    both_ways rows cols = false≢true (sym left.1 ∙ sym (ap (λ (k : ℕ). is_high cells level (k, c + 1)) rows ∙ ap (λ (k : ℕ). is_high cells level (x, k)) cols) ∙ right.0)
beyond_side cells level (r, c) (x, y) Right Bottom same right left = absurd (false≢true (sym (ap (λ (k : Cross). k.down) same)))
beyond_side cells level (r, c) (x, y) Right Left same right left = (ap (λ (k : Cross). k.row) same, ap (λ (k : Cross). k.col) same)
beyond_side cells level (r, c) (x, y) Bottom Top same right left = (ap (λ (k : Cross). k.row) same, ap (λ (k : Cross). k.col) same)
beyond_side cells level (r, c) (x, y) Bottom Right same right left = absurd (false≢true (ap (λ (k : Cross). k.down) same))
beyond_side cells level (r, c) (x, y) Bottom Bottom same right left = absurd (both_ways (ap (λ (k : Cross). k.row) same) (ap (λ (k : Cross). k.col) same))
  where
    both_ways : r + 1 ≡ x + 1 → c ≡ y → ⊥
    both_ways rows cols = false≢true (sym left.1 ∙ sym (ap (λ (k : ℕ). is_high cells level (k, c + 1)) rows ∙ ap (λ (k : ℕ). is_high cells level (x + 1, k + 1)) cols) ∙ right.0)
beyond_side cells level (r, c) (x, y) Bottom Left same right left = absurd (false≢true (ap (λ (k : Cross). k.down) same))
beyond_side cells level (r, c) (x, y) Left Top same right left = absurd (false≢true (sym (ap (λ (k : Cross). k.down) same)))
beyond_side cells level (r, c) (x, y) Left Right same right left = (ap (λ (k : Cross). k.row) same, ap (λ (k : Cross). k.col) same)
beyond_side cells level (r, c) (x, y) Left Bottom same right left = absurd (false≢true (sym (ap (λ (k : Cross). k.down) same)))
beyond_side cells level (r, c) (x, y) Left Left same right left = absurd (both_ways (ap (λ (k : Cross). k.row) same) (ap (λ (k : Cross). k.col) same))
  where
    both_ways : r ≡ x → c ≡ y → ⊥
    both_ways rows cols = false≢true (sym left.1 ∙ sym (ap (λ (k : ℕ). is_high cells level (k + 1, c)) rows ∙ ap (λ (k : ℕ). is_high cells level (x + 1, k)) cols) ∙ right.0)

-- at most two segments lie in a lattice cell

few_sides : (nw ne se sw joined : Bool) → length (sides_of nw ne se sw joined) ≤ 2
few_sides false false false false joined = omega arith
few_sides false false false true joined = omega arith
few_sides false false true false joined = omega arith
few_sides false false true true joined = omega arith
few_sides false true false false joined = omega arith
few_sides false true false true true = omega arith
few_sides false true false true false = omega arith
few_sides false true true false joined = omega arith
few_sides false true true true joined = omega arith
few_sides true false false false joined = omega arith
few_sides true false false true joined = omega arith
few_sides true false true false true = omega arith
few_sides true false true false false = omega arith
few_sides true false true true joined = omega arith
few_sides true true false false joined = omega arith
few_sides true true false true joined = omega arith
few_sides true true true false joined = omega arith
few_sides true true true true joined = omega arith

turn_below : (place : Place) (turn : ℕ) (sides : List (Side × Side)) (s : Segment) → Contains (segments_on place turn sides) s → s.turn < turn + length sides
turn_below place turn [] s member = absurd (none_in s member)
turn_below place turn (p ∷ ps) s member = elim (contains_cases _ (segments_on place (turn + 1) ps) s member) [
  | inl here ↦
      let is : turn ≡ s.turn = ap (λ (x : Segment). x.turn) here in
      omega (arith, is)
  | inr there ↦
      let rest = turn_below place (turn + 1) ps s there in
      omega (arith, rest)
]

few_turns : (cells : Raster ℤ) (valid : Raster Bool) (level : ℤ) (s : Segment) → Contains (segments_of cells valid level) s → s.turn < 2
few_turns cells valid level s member = in_cell found.0.0 found.0.1 found.2
  where
    found : (place : Place) × Contains (places_of (cells.nrows - 1) (cells.ncols - 1)) place × Contains (segments_in cells valid level place) s
    found = of_flat (segments_in cells valid level) (places_of (cells.nrows - 1) (cells.ncols - 1)) s member

    in_cell : (r c : ℕ) → Contains (segments_in cells valid level (r, c)) s → s.turn < 2
    in_cell r c has =
        let high = is_high cells level in
        let sides = sides_of (high (r, c)) (high (r, c + 1)) (high (r + 1, c + 1)) (high (r + 1, c)) (is_joined cells level (r, c)) in
        let below = turn_below (r, c) 0 sides s (if_in (has_corners valid (r, c)) (segments_on (r, c) 0 sides) s has) in
        let few = few_sides (high (r, c)) (high (r, c + 1)) (high (r + 1, c + 1)) (high (r + 1, c)) (is_joined cells level (r, c)) in
        omega (arith, below, few)

goes_beyond : (cells : Raster ℤ) (valid : Raster Bool) (level : ℤ) (s t : Segment) (side : Side) → Contains (segments_of cells valid level) s → Contains (segments_of cells valid level) t → s.to ≡ cross_on (cell_of s) side → t.from ≡ s.to → IsBeyond side (cell_of s) (cell_of t)
goes_beyond cells valid level s t side has_s has_t out meets =
    let of_s = keeps_right cells valid level s has_s in
    let of_t = keeps_right cells valid level t has_t in
    let is : of_s.goes_over ≡ side = same_side (cell_of s) of_s.goes_over side (sym of_s.to ∙ out) in
    let same : cross_on (cell_of t) of_t.comes_over ≡ cross_on (cell_of s) side = sym of_t.from ∙ meets ∙ out in
    beyond_side cells level (cell_of t) (cell_of s) of_t.comes_over side same of_t.comes (subst (λ (x : Side). IsHighLeft cells level (cell_of s) x) is of_s.goes)

pub linked : (segments : List Segment) → AreSegments segments → AreLinked segments
linked segments are = subst AreLinked (sym are.is) (record {
  order = in_order are.cells are.valid are.level;
  turns = few_turns are.cells are.valid are.level;
  goes = λ s has.
      let keeps = keeps_right are.cells are.valid are.level s has in
      (keeps.goes_over, keeps.to);
  on = goes_beyond are.cells are.valid are.level;
})

-- two members of a list by their indexes
pub pairs_at : {A : Type 0} (R : A → A → Type 0) (xs : List A) (i j : ℕ) (x y : A) → AllPairs R xs → i < j → slice_get xs i ≡ Some x → slice_get xs j ≡ Some y → R x y
pairs_at R xs i j x y pairs less at_i at_j =
    let both = pairs i j x less (slice_get_within xs j y at_j) in
    subst (λ z. R z y) (get_or_from_slice_get xs i x x at_i) (subst (λ z. R (get_or xs i x) z) (get_or_from_slice_get xs j y x at_j) both)

pub member_at : {A : Type 0} (xs : List A) (i : ℕ) (x : A) → slice_get xs i ≡ Some x → Contains xs x
member_at xs i x at = (i, slice_get_within xs i x at, get_or_from_slice_get xs i x x at)

pub index_of : {A : Type 0} (xs : List A) (x : A) → Contains xs x → (i : ℕ) × (slice_get xs i ≡ Some x)
index_of xs x has = (has.0, slice_get-get_or xs has.0 x has.1 ∙ ap Some has.2)

-- the lattice cell beyond a side is one

same_place : (p q : Place) → p.0 ≡ q.0 → p.1 ≡ q.1 → p ≡ q
same_place (a, b) (x, y) rows cols = ap (λ (k : ℕ). (k, b)) rows ∙ ap (λ (k : ℕ). (x, k)) cols

pub beyond_only : (side : Side) (p q r : Place) → IsBeyond side p q → IsBeyond side p r → q ≡ r
beyond_only Top p q r one two = same_place q r (omega (arith, one.0, two.0)) (omega (arith, one.1, two.1))
beyond_only Right p q r one two = same_place q r (omega (arith, one.0, two.0)) (omega (arith, one.1, two.1))
beyond_only Bottom p q r one two = same_place q r (omega (arith, one.0, two.0)) (omega (arith, one.1, two.1))
beyond_only Left p q r one two = same_place q r (omega (arith, one.0, two.0)) (omega (arith, one.1, two.1))

-- and beyond the same side of a later one it is later
shifted : (k a b : Place) → IsBefore k a → IsBefore a b ⊎ ((a.0 ≡ b.0) × (a.1 ≡ b.1)) → IsBefore k b
shifted k a b before (inl less) = before_trans k a b before less
shifted k a b before (inr same) = subst (λ (p : Place). IsBefore k p) (same_place a b same.0 same.1) before

order_beyond : (side : Side) (p q a b : Place) → IsBeyond side p a → IsBeyond side q b → IsBefore p q → IsBefore a b ⊎ ((a.0 ≡ b.0) × (a.1 ≡ b.1))
order_beyond Top p q a b one two (inl less) = inl (inl (omega (arith, one.0, two.0, less)))
order_beyond Top p q a b one two (inr less) = inl (inr (omega (arith, one.0, two.0, less.0), omega (arith, one.1, two.1, less.1)))
order_beyond Right p q a b one two (inl less) = inl (inl (omega (arith, one.0, two.0, less)))
order_beyond Right p q a b one two (inr less) = inl (inr (omega (arith, one.0, two.0, less.0), omega (arith, one.1, two.1, less.1)))
order_beyond Bottom p q a b one two (inl less) = inl (inl (omega (arith, one.0, two.0, less)))
order_beyond Bottom p q a b one two (inr less) = inl (inr (omega (arith, one.0, two.0, less.0), omega (arith, one.1, two.1, less.1)))
order_beyond Left p q a b one two (inl less) = inl (inl (omega (arith, one.0, two.0, less)))
order_beyond Left p q a b one two (inr less) = inl (inr (omega (arith, one.0, two.0, less.0), omega (arith, one.1, two.1, less.1)))

pub beyond_later : (side : Side) (s t : Segment) (a b k : Place) → IsBeyond side (cell_of s) a → IsBeyond side (cell_of t) b → ComesBefore s t → IsBefore k a → IsBefore k b
beyond_later side s t a b k one two (inl less) before = shifted k a b before (order_beyond side (cell_of s) (cell_of t) a b one two less)
beyond_later side s t a b k one two (inr same) before =
    let cells : cell_of t ≡ cell_of s = same_place (cell_of t) (cell_of s) (sym same.0) (sym same.1) in
    subst (λ (p : Place). IsBefore k p) (beyond_only side (cell_of s) a b one (subst (λ (p : Place). IsBeyond side p b) cells two)) before

-- of three segments in order, the last in a lattice cell that the first doesn't lie before, one is a third there
not_three : (a b s : Segment) (place : Place) → (¬ IsBefore (cell_of a) place) → ComesBefore a b → ComesBefore b s → ComesBefore a s → cell_of s ≡ place → s.turn < 2 → ⊥
not_three a b s place stops first second (inl less) at turn = stops (subst (λ (p : Place). IsBefore (cell_of a) p) at less)
not_three a b s place stops (inl one) (inl two) (inr same) at turn = stops (subst (λ (p : Place). IsBefore (cell_of a) p) at (before_trans (cell_of a) (cell_of b) (cell_of s) one two))
not_three a b s place stops (inl one) (inr two) (inr same) at turn = stops (subst (λ (p : Place). IsBefore (cell_of a) p) (same_place (cell_of b) (cell_of s) two.0 two.1 ∙ at) one)
not_three a b s place stops (inr one) (inl two) (inr same) at turn = stops (subst (λ (p : Place). IsBefore p place) (same_place (cell_of b) (cell_of a) (sym one.0) (sym one.1)) (subst (λ (p : Place). IsBefore (cell_of b) p) at two))
not_three a b s place stops (inr one) (inr two) (inr same) at turn = omega (arith, one.2, two.2, turn)

pub none_starts : (segments : List Segment) (cross : Cross) (n : ℕ) → AreLinked segments → IsFirstAt segments cross n → (¬ Starts segments cross n) → (¬ Starts segments cross (n + 1)) → StartsAt segments cross (length segments)
none_starts segments cross n are is not_first not_second = record {
  within = omega arith;
  found = λ s at. absurd (omega (arith, slice_get_within segments (length segments) s at));
  none = λ end s has meets.
      let at = index_of segments s has in
      let here = is.here s has meets in
      elim (cases_lt at.0 n) [
        | inl before ↦ before_not_itself is.place (subst (λ (p : Place). IsBefore p is.place) here (is.first.before at.0 s before at.1))
        | inr not_before ↦ elim (cases_eq at.0 n) [
          | inl first ↦ not_first (s, ap (λ (k : ℕ). slice_get segments k) (sym first) ∙ at.1, meets)
          | inr not_n ↦ elim (cases_eq at.0 (n + 1)) [
            | inl second ↦ not_second (s, ap (λ (k : ℕ). slice_get segments k) (sym second) ∙ at.1, meets)
            | inr later ↦
                let far = slice_get_within segments at.0 s at.1 in
                let a = element_at segments n (omega (arith, far, not_before)) in
                let b = element_at segments (n + 1) (omega (arith, far, not_before, not_n, later)) in
                not_three a.0 b.0 s is.place (is.first.stops a.0 a.1) (pairs_at ComesBefore segments n (n + 1) a.0 b.0 are.order (omega arith) a.1 b.1) (pairs_at ComesBefore segments (n + 1) at.0 b.0 s are.order (omega (arith, not_before, not_n, later)) b.1 at.1) (pairs_at ComesBefore segments n at.0 a.0 s are.order (omega (arith, not_before, not_n)) a.1 at.1) here (are.turns s has)
          ]
        ]
      ];
}

pub starts_at : (segments : List Segment) (cross : Cross) (n : ℕ) → Starts segments cross n → StartsAt segments cross n
starts_at segments cross n is =
    let within = slice_get_within segments n is.0 is.1 in
    record {
      within = omega (arith, within);
      found = λ s at.
          let both : Some is.0 ≡ Some s = sym is.1 ∙ at in
          let same : is.0 ≡ s = cc in
          ap (λ (x : Segment). x.from) (sym same) ∙ is.2;
      none = λ end. absurd (omega (arith, within, end));
    }

-- where no lattice cell lies beyond, or the first that isn't before it is known

pub none_beyond : (segments : List Segment) (s : Segment) (side : Side) → AreLinked segments → Contains segments s → s.to ≡ cross_on (cell_of s) side → ((q : Place) → ¬ IsBeyond side (cell_of s) q) → StartsAt segments s.to (length segments)
none_beyond segments s side are has out none = record {
  within = omega arith;
  found = λ t at. absurd (omega (arith, slice_get_within segments (length segments) t at));
  none = λ end t has_t meets. none (cell_of t) (are.on s t side has has_t out meets);
}

pub first_beyond : (segments : List Segment) (s : Segment) (side : Side) (place : Place) (n : ℕ) → AreLinked segments → Contains segments s → s.to ≡ cross_on (cell_of s) side → IsBeyond side (cell_of s) place → IsFirstFrom segments place n → IsFirstAt segments s.to n
first_beyond segments s side place n are has out beyond first = record {
  place = place;
  first = first;
  here = λ t has_t meets. beyond_only side (cell_of s) (cell_of t) place (are.on s t side has has_t out meets) beyond;
}

-- what has been passed for a side, after a segment that goes out over it
pub passed_more : (segments : List Segment) (s : Segment) (side : Side) (place : Place) (i n : ℕ) → AreLinked segments → slice_get segments i ≡ Some s → IsBeyond side (cell_of s) place → AllBefore segments n place → HasPassed segments side (i + 1) n
passed_more segments s side place i n are at_i beyond before = λ j t q later at_j beyond_t k u less at_k. beyond_later side s t place q (cell_of u) beyond beyond_t (pairs_at ComesBefore segments i j s t are.order (omega (arith, later)) at_i at_j) (before k u less at_k)

side_or_not : (s t : Side) → (s ≡ t) ⊎ (number_of s ≢ number_of t)
side_or_not Top Top = inl refl
side_or_not Top Right = inr (λ same. omega (arith, same))
side_or_not Top Bottom = inr (λ same. omega (arith, same))
side_or_not Top Left = inr (λ same. omega (arith, same))
side_or_not Right Top = inr (λ same. omega (arith, same))
side_or_not Right Right = inl refl
side_or_not Right Bottom = inr (λ same. omega (arith, same))
side_or_not Right Left = inr (λ same. omega (arith, same))
side_or_not Bottom Top = inr (λ same. omega (arith, same))
side_or_not Bottom Right = inr (λ same. omega (arith, same))
side_or_not Bottom Bottom = inl refl
side_or_not Bottom Left = inr (λ same. omega (arith, same))
side_or_not Left Top = inr (λ same. omega (arith, same))
side_or_not Left Right = inr (λ same. omega (arith, same))
side_or_not Left Bottom = inr (λ same. omega (arith, same))
side_or_not Left Left = inl refl

pub passed_set : (segments : List Segment) (s : Segment) (side : Side) (place : Place) (i n : ℕ) (passed : List ℕ) → AreLinked segments → length passed ≡ 4 → slice_get segments i ≡ Some s → IsBeyond side (cell_of s) place → IsFirstFrom segments place n → ArePassed segments i passed → ArePassed segments (i + 1) (set passed (number_of side) n)
passed_set segments s side place i n passed are four at beyond first old = λ other m at_other. elim (side_or_not other side) [
  | inl same ↦
      let read : get_or (set passed (number_of side) n) (number_of other) 0 ≡ m = get_or_from_slice_get (set passed (number_of side) n) (number_of other) m 0 at_other in
      let written : get_or (set passed (number_of side) n) (number_of other) 0 ≡ n = ap (λ (x : Side). get_or (set passed (number_of side) n) (number_of x) 0) same ∙ get_or-set_same passed (number_of side) n 0 (omega (arith, four, few side)) in
      let is : n ≡ m = sym written ∙ read in
      subst (λ (k : ℕ). (k ≤ length segments) × HasPassed segments other (i + 1) k) is (first.within, subst (λ (x : Side). HasPassed segments x (i + 1) n) (sym same) (passed_more segments s side place i n are at beyond first.before))
  | inr apart ↦
      let within : number_of other < length passed = omega (arith, four, few other) in
      let read : get_or (set passed (number_of side) n) (number_of other) 0 ≡ m = get_or_from_slice_get (set passed (number_of side) n) (number_of other) m 0 at_other in
      let old_value : get_or passed (number_of other) 0 ≡ m = sym (get_or-set_other passed (number_of side) (number_of other) n 0 apart) ∙ read in
      let at_old : slice_get passed (number_of other) ≡ Some m = slice_get-get_or passed (number_of other) 0 within ∙ ap Some old_value in
      let before = old other m at_old in
      (before.0, λ j t q later. before.1 j t q (omega (arith, later)))
]
  where
    few : (x : Side) → number_of x < 4
    few Top = omega arith
    few Right = omega arith
    few Bottom = omega arith
    few Left = omega arith
