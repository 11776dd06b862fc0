-- The levels of both kinds in one list.
use Rattle.std.proofs.Common.{Option, ◌≡◌, ◌≢◌, ◌⊎◌, inl, inr, ℤ, suc, ◌+◌, ◌<◌, ◌<ℤ◌, ◌≤ℤ◌, ◌↔◌, Bool, true, false, List, [], ◌∷◌, ◌++◌, length, get_or, map, refl, sym, ap, ◌∙◌, subst, arith}
use Rattle.std.specs.Prelude.{AllPairs, Contains, if◌then◌else◌, int_lt}
use Rattle.std.specs.List.{IsDistinct, dedup, range_with_len}
use Rattle.std.specs.List.Sorted.{IsPermutation, IsSorted}
use Rattle.std.specs.Ordering.{eq_by_cmp, int_cmp, int_eq, is_lt}
use Rattle.std.specs.Bool.{Decides}
use Rattle.std.specs.Cmp.{IsStrictWeakOrder}
use Rattle.std.proofs.lemmas.Int.{ints}
use Rattle.std.proofs.lemmas.Bool.Decides.{Decides-int_eq}
use Rattle.std.proofs.lemmas.Cmp.{int_cmp_total, int_eq_equiv}
use Rattle.std.proofs.lemmas.List.{length-append}
use Rattle.std.proofs.lemmas.List.Elements.{Contains-append_cases, Contains-append_left, Contains-append_right}
use Rattle.std.proofs.lemmas.List.FromFn.{length-map-range_with_len}
use Rattle.std.proofs.lemmas.List.Kept.{Contains-dedup, Contains-from_dedup, IsStrictlySortedBy-dedup}
use Rattle.std.proofs.lemmas.List.Sorted.{Contains-permutation, IsPermutation-sym, ranks_by, sorted_far}
use Rattle.std.proofs.lemmas.Map.Keys.{IsDistinct-IsPermutation, IsDistinct-from_sorted, apart_from_distinct}
use Rattle.std.proofs.lemmas.Map.Made.{AllPairs-from_IsDistinct, IsDistinct-from_AllPairs}
use Rattle.cell_base.proofs.ListDeciders.{contains_cases, contains_here, contains_there}
use Rattle.contour_segments.specs.Levels.{AreLevels, IsAsked}
use Rattle.contour_segments.specs.Inner.Series.{AreOthers, AreSpaced, IsAt, level_at}
use Rattle.contour_segments.specs.declared.level.LevelSpec.{LevelSpec}
use Rattle.contour_segments.specs.declared.series.Series.{Series}
use Rattle.contour_segments.proofs.MemberLemmas.{in_map, in_range, none_in, of_map, of_range, once_join, pairs_cons, pairs_head, pairs_map, pairs_nil, pairs_tail, range_rises, same_order}
use Rattle.contour_segments.proofs.SeriesLemmas.{at_or_not, level_at_rises}

-- the kept levels are those of the passed ones that aren't in the series
pub record AreKept (passed : List ℤ) (series : Series) (kept : List ℤ) : Type 0 where
  pub all : (level : ℤ) → Contains kept level ↔ (Contains passed level × (¬ IsAt series level))

-- a list in ascending order with the members of another, which has none twice

abbrev put : ℤ → List ℤ → List ℤ
put x [] = x ∷ []
put x (y ∷ ys) = if int_lt x y then (x ∷ (y ∷ ys)) else (y ∷ put x ys)

of_put : (x : ℤ) (ys : List ℤ) (z : ℤ) → Contains (put x ys) z → (x ≡ z) ⊎ Contains ys z
of_put x [] z member = contains_cases x [] z member
of_put x (y ∷ ys) z member = by_test (int_lt x y) (of_put x ys z) member
  where
    by_test : (b : Bool) → (Contains (put x ys) z → (x ≡ z) ⊎ Contains ys z) → Contains (if b then (x ∷ (y ∷ ys)) else (y ∷ put x ys)) z → (x ≡ z) ⊎ Contains (y ∷ ys) z
    by_test true rest found = contains_cases x (y ∷ ys) z found
    by_test false rest found = elim (contains_cases y (put x ys) z found) [
      | inl here ↦ inr (subst (λ w. Contains (y ∷ ys) w) here (contains_here y ys))
      | inr there ↦ elim (rest there) [ inl same ↦ inl same | inr old ↦ inr (contains_there y ys z old) ]
    ]

in_put : (x : ℤ) (ys : List ℤ) (z : ℤ) → (x ≡ z) ⊎ Contains ys z → Contains (put x ys) z
in_put x [] z (inl same) = subst (λ w. Contains (x ∷ []) w) same (contains_here x [])
in_put x [] z (inr member) = absurd (none_in z member)
in_put x (y ∷ ys) z either = by_test (int_lt x y) (in_put x ys z) either
  where
    by_test : (b : Bool) → ((x ≡ z) ⊎ Contains ys z → Contains (put x ys) z) → (x ≡ z) ⊎ Contains (y ∷ ys) z → Contains (if b then (x ∷ (y ∷ ys)) else (y ∷ put x ys)) z
    by_test true rest (inl same) = subst (λ w. Contains (x ∷ (y ∷ ys)) w) same (contains_here x (y ∷ ys))
    by_test true rest (inr old) = contains_there x (y ∷ ys) z old
    by_test false rest (inl same) = contains_there y (put x ys) z (rest (inl same))
    by_test false rest (inr old) = elim (contains_cases y ys z old) [
      | inl here ↦ subst (λ w. Contains (y ∷ put x ys) w) here (contains_here y (put x ys))
      | inr there ↦ contains_there y (put x ys) z (rest (inr there))
    ]

put_long : (x : ℤ) (ys : List ℤ) → length (put x ys) ≡ suc (length ys)
put_long x [] = refl
put_long x (y ∷ ys) = by_test (int_lt x y) (put_long x ys)
  where
    by_test : (b : Bool) → length (put x ys) ≡ suc (length ys) → length (if b then (x ∷ (y ∷ ys)) else (y ∷ put x ys)) ≡ suc (length (y ∷ ys))
    by_test true rest = refl
    by_test false rest = ap suc rest

less_by : (x y : ℤ) → int_lt x y ≡ true → x <ℤ y
less_by x y is = grind (arith, ints)

not_less_by : (x y : ℤ) → int_lt x y ≡ false → y ≤ℤ x
not_less_by x y is = grind (arith, ints)

less_trans : (x y z : ℤ) → x <ℤ y → y <ℤ z → x <ℤ z
less_trans x y z one two = omega (arith, ints, one, two)

less_other : (x y : ℤ) → y ≤ℤ x → y ≢ x → y <ℤ x
less_other x y low other = grind (arith, ints)

put_rises : (x : ℤ) (ys : List ℤ) → (¬ Contains ys x) → AllPairs (λ a b. a <ℤ b) ys → AllPairs (λ a b. a <ℤ b) (put x ys)
put_rises x [] new rises = pairs_cons (λ a b. a <ℤ b) x [] (λ z member. absurd (none_in z member)) rises
put_rises x (y ∷ ys) new rises = by_test (int_lt x y) (put_rises x ys (λ old. new (contains_there y ys x old)) (pairs_tail (λ a b. a <ℤ b) y ys rises)) refl
  where
    by_test : (b : Bool) → AllPairs (λ a b. a <ℤ b) (put x ys) → int_lt x y ≡ b → AllPairs (λ a b. a <ℤ b) (if b then (x ∷ (y ∷ ys)) else (y ∷ put x ys))
    by_test true rest is = pairs_cons (λ a b. a <ℤ b) x (y ∷ ys) (λ z member. elim (contains_cases y ys z member) [
      | inl here ↦ subst (λ w. x <ℤ w) here (less_by x y is)
      | inr there ↦ less_trans x y z (less_by x y is) (pairs_head (λ a b. a <ℤ b) y ys rises z there)
    ]) rises
    by_test false rest is = pairs_cons (λ a b. a <ℤ b) y (put x ys) (λ z member. elim (of_put x ys z member) [
      | inl same ↦ subst (λ w. y <ℤ w) same (less_other x y (not_less_by x y is) (λ here. new (subst (λ w. Contains (y ∷ ys) w) here (contains_here y ys))))
      | inr old ↦ pairs_head (λ a b. a <ℤ b) y ys rises z old
    ]) rest

pub record Ascends (xs ys : List ℤ) : Type 0 where
  pub rises : AllPairs (λ a b. a <ℤ b) ys
  pub from : (z : ℤ) → Contains ys z → Contains xs z
  pub all : (z : ℤ) → Contains xs z → Contains ys z
  pub long : length ys ≡ length xs

pub ascending : (xs : List ℤ) → AllPairs (λ a b. a ≢ b) xs → (ys : List ℤ) × Ascends xs ys
ascending [] once = ([], record { rises = pairs_nil (λ a b. a <ℤ b); from = λ z member. member; all = λ z member. member; long = refl })
ascending (x ∷ xs) once =
    let rest = ascending xs (pairs_tail (λ a b. a ≢ b) x xs once) in
    let ys = rest.0 in
    let is = rest.1 in (
      put x ys,
      record {
        rises = put_rises x ys (λ old. pairs_head (λ a b. a ≢ b) x xs once x (is.from x old) refl) is.rises;
        from = λ z member. elim (of_put x ys z member) [
          | inl same ↦ subst (λ w. Contains (x ∷ xs) w) same (contains_here x xs)
          | inr old ↦ contains_there x xs z (is.from z old)
        ];
        all = λ z member. elim (contains_cases x xs z member) [
          | inl here ↦ in_put x ys z (inl here)
          | inr there ↦ in_put x ys z (inr (is.all z there))
        ];
        long = put_long x ys ∙ ap suc is.long;
      },
    )

-- a sorted list with no level twice is in ascending order

is_order : IsStrictWeakOrder (λ x y. is_lt (int_cmp x y))
is_order = ranks_by int_cmp_total (λ x. x)

rises_by : (x y : ℤ) → is_lt (int_cmp y x) ≡ false → int_eq x y ≡ false → x <ℤ y
rises_by x y above other = grind (arith, ints)

pub sorted_rises : (xs : List ℤ) → IsSorted int_cmp xs → IsDistinct int_eq xs → AllPairs (λ a b. a <ℤ b) xs
sorted_rises xs sorted distinct = λ i j d less within. rises_by (get_or xs i d) (get_or xs j d) (sorted_far (λ x y. is_lt (int_cmp x y)) is_order xs sorted i j d (omega (arith, less)) within) (apart_from_distinct int_eq xs i j d distinct less within)

-- the levels that aren't in the series

ties : (x y : ℤ) → int_eq x y ≡ eq_by_cmp int_cmp x y
ties x y = grind (arith, ints)

same_by : (x y : ℤ) → int_eq x y ≡ true → x ≡ y
same_by x y is = grind (arith, ints)

distinct_dedup : (xs : List ℤ) → IsSorted int_cmp xs → IsDistinct int_eq (dedup int_eq xs)
distinct_dedup xs sorted = IsDistinct-from_AllPairs {eq = int_eq} Decides-int_eq (dedup int_eq xs) (AllPairs-from_IsDistinct {eq = eq_by_cmp int_cmp} tied (dedup int_eq xs) (IsDistinct-from_sorted int_cmp (dedup int_eq xs) (IsStrictlySortedBy-dedup {R = int_cmp} int_cmp_total {E = int_eq} ties xs sorted)))
  where
    tied : (a b : ℤ) → Decides (eq_by_cmp int_cmp a b) (a ≡ b)
    tied a b = subst (λ t. Decides t (a ≡ b)) (ties a b) (Decides-int_eq a b)

pub others_from : (fixed : List ℤ) (series : Series) (kept sorted : List ℤ) → AreKept fixed series kept → IsPermutation kept sorted → IsSorted int_cmp sorted → AreOthers fixed series (dedup int_eq sorted)
others_from fixed series kept sorted is moved order = record {
  all = λ level. (
    λ member. (is.all level).0 (Contains-permutation sorted kept level (IsPermutation-sym kept sorted moved) (Contains-from_dedup int_eq sorted level member)),
    λ both. Contains-dedup {E = int_eq} int_eq_equiv same_by sorted level (Contains-permutation kept sorted level moved ((is.all level).1 both)),
  );
  once = distinct_dedup sorted order;
}

pub kept_more : (passed : List ℤ) (series : Series) (kept : List ℤ) (level : ℤ) → AreKept passed series kept → (¬ IsAt series level) → AreKept (passed ++ level ∷ []) series (kept ++ level ∷ [])
kept_more passed series kept level is new = record {
  all = λ x. (
    λ member. elim (Contains-append_cases kept (level ∷ []) x member) [
      | inl old ↦
          let both = (is.all x).0 old in (Contains-append_left passed (level ∷ []) x both.0, both.1)
      | inr last ↦ elim (contains_cases level [] x last) [
        | inl here ↦ (Contains-append_right passed (level ∷ []) x last, λ at. new (subst (λ w. IsAt series w) (sym here) at))
        | inr none ↦ absurd (none_in x none)
      ]
    ],
    λ both. elim (Contains-append_cases passed (level ∷ []) x both.0) [
      | inl old ↦ Contains-append_left kept (level ∷ []) x ((is.all x).1 (old, both.1))
      | inr last ↦ Contains-append_right kept (level ∷ []) x last
    ],
  );
}

pub kept_same : (passed : List ℤ) (series : Series) (kept : List ℤ) (level : ℤ) → AreKept passed series kept → IsAt series level → AreKept (passed ++ level ∷ []) series kept
kept_same passed series kept level is at = record {
  all = λ x. (
    λ member.
        let both = (is.all x).0 member in (Contains-append_left passed (level ∷ []) x both.0, both.1),
    λ both. elim (Contains-append_cases passed (level ∷ []) x both.0) [
      | inl old ↦ (is.all x).1 (old, both.1)
      | inr last ↦ elim (contains_cases level [] x last) [
        | inl here ↦ absurd (both.1 (subst (λ w. IsAt series w) here at))
        | inr none ↦ absurd (none_in x none)
      ]
    ],
  );
}

-- both kinds together

abbrev pub all_levels : Series → List ℤ → List ℤ
all_levels series others = others ++ map (level_at series) (range_with_len 0 series.count)

pub all_asked : (spec : LevelSpec) (range : Option (ℤ × ℤ)) (series : Series) (others : List ℤ) → 0 < series.step → AreSpaced spec range series → AreOthers spec.fixed series others → (level : ℤ) → Contains (all_levels series others) level ↔ IsAsked spec range level
all_asked spec range series others some spaced are level = (
  λ member. elim (Contains-append_cases others (map (level_at series) (range_with_len 0 series.count)) level member) [
    | inl fixed ↦ inr ((are.all level).0 fixed).0
    | inr at ↦
        let found = of_map (level_at series) (range_with_len 0 series.count) level at in
        let few : found.0 < series.count = omega (arith, (of_range 0 series.count found.0 found.1).1) in
        inl ((spaced level).0 (found.0, few, sym found.2))
  ],
  λ asked. elim asked [
    | inl interval ↦ on_series ((spaced level).1 interval)
    | inr fixed ↦ elim (at_or_not series level some) [
      | inl at ↦ on_series at
      | inr other ↦ Contains-append_left others (map (level_at series) (range_with_len 0 series.count)) level ((are.all level).1 (fixed, other))
    ]
  ],
)
  where
    on_series : IsAt series level → Contains (all_levels series others) level
    on_series at = Contains-append_right others (map (level_at series) (range_with_len 0 series.count)) level (subst (λ w. Contains (map (level_at series) (range_with_len 0 series.count)) w) (sym at.2) (in_map (level_at series) (range_with_len 0 series.count) at.0 (in_range 0 series.count at.0 (omega arith) (omega (arith, at.1)))))

other_if_less : (x y : ℤ) → x <ℤ y → x ≢ y
other_if_less x y less same = omega (arith, ints, less, same)

pub all_once : (series : Series) (fixed others : List ℤ) → 0 < series.step → AreOthers fixed series others → AllPairs (λ a b. a ≢ b) (all_levels series others)
all_once series fixed others some are = once_join others (map (level_at series) (range_with_len 0 series.count)) (AllPairs-from_IsDistinct {eq = int_eq} Decides-int_eq others are.once) (pairs_map (λ j k. j < k) (λ a b. a ≢ b) (level_at series) (range_with_len 0 series.count) (λ j k less. other_if_less (level_at series j) (level_at series k) (level_at_rises series j k some less)) (range_rises 0 series.count)) (λ level old at.
    let found = of_map (level_at series) (range_with_len 0 series.count) level at in
    ((are.all level).0 old).1 (found.0, omega (arith, (of_range 0 series.count found.0 found.1).1), sym found.2))

pub all_long : (series : Series) (others : List ℤ) → length (all_levels series others) ≡ length others + series.count
all_long series others = length-append others (map (level_at series) (range_with_len 0 series.count)) ∙ ap (λ n. length others + n) (length-map-range_with_len (level_at series) 0 series.count)

-- what a list of all of them becomes when it is sorted
pub levels_sorted : (spec : LevelSpec) (range : Option (ℤ × ℤ)) (series : Series) (others sorted : List ℤ) → 0 < series.step → AreSpaced spec range series → AreOthers spec.fixed series others → IsPermutation (all_levels series others) sorted → IsSorted int_cmp sorted → AreLevels spec range sorted
levels_sorted spec range series others sorted some spaced are moved order =
    let all = all_levels series others in
    let asked = all_asked spec range series others some spaced are in
    let once = IsDistinct-from_AllPairs {eq = int_eq} Decides-int_eq all (all_once series spec.fixed others some are) in
    record {
      all = λ level. (
        λ member. (asked level).0 (Contains-permutation sorted all level (IsPermutation-sym all sorted moved) member),
        λ is. Contains-permutation all sorted level moved ((asked level).1 is),
      );
      rising = sorted_rises sorted order (IsDistinct-IsPermutation int_eq int_eq_equiv.symm all sorted moved once);
    }

-- the levels, without a list that is made of them
pub levels_counted : (spec : LevelSpec) (range : Option (ℤ × ℤ)) (series : Series) (others : List ℤ) → 0 < series.step → AreSpaced spec range series → AreOthers spec.fixed series others → (asked : List ℤ) × AreLevels spec range asked × (length asked ≡ series.count + length others)
levels_counted spec range series others some spaced are =
    let asked = all_asked spec range series others some spaced are in
    let made = ascending (all_levels series others) (all_once series spec.fixed others some are) in (
      made.0,
      record {
        all = λ level. (λ member. (asked level).0 (made.1.from level member), λ is. made.1.all level ((asked level).1 is));
        rising = made.1.rises;
      },
      omega (arith, made.1.long, all_long series others),
    )

-- two lists of the same levels are one

less_asym : (a b : ℤ) → a <ℤ b → ¬ (b <ℤ a)
less_asym a b one two = omega (arith, ints, one, two)

pub one_list_of_levels : (spec : LevelSpec) (range : Option (ℤ × ℤ)) (a b : List ℤ) → AreLevels spec range a → AreLevels spec range b → a ≡ b
one_list_of_levels spec range a b one two = same_order (λ x y. x <ℤ y) less_asym a b one.rising two.rising (λ level has. (two.all level).1 ((one.all level).0 has)) (λ level has. (one.all level).1 ((two.all level).0 has))
