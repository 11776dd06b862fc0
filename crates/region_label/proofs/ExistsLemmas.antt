-- A grid has a labelling under a connectivity, where the cells of components can be told.
use Rattle.std.proofs.Common.{◌≡◌, ◌↔◌, ◌⊎◌, inl, inr, ℕ, suc, ◌<◌, Bool, true, false, not, cond, List, [], ◌∷◌, Option, Some, None, map, length, get_or, refl, ap, sym, ◌∙◌, subst, arith}
use Rattle.std.specs.Prelude.{◌&&◌, AllPairs, Contains, filter, nat_lt, option_map, position, slice_get}
use Rattle.std.specs.Bool.{Decides}
use Rattle.std.specs.List.{list_all, position_or_len}
use Rattle.std.proofs.lemmas.Bool.{and_from, and_parts, both_ways, cases_Bool, cond_both, cond-true, eq-eqb, false_from_ne_true, lt-ltb, or_left, or_right}
use Rattle.std.proofs.lemmas.List.{length-map}
use Rattle.std.proofs.lemmas.List.Elements.{All-contains, filter_passes}
use Rattle.std.proofs.lemmas.List.Kept.{AllPairs-filter}
use Rattle.std.proofs.lemmas.List.Quantifiers.{position-Some}
use Rattle.std.proofs.lemmas.List.Sums.{position_or_len_is}
use Rattle.std.proofs.lemmas.Option.{get_or_from_slice_get, same_Some, slice_get-get_or, slice_get-map, slice_get_within}
use Rattle.cell_base.specs.Raster.{Place, Raster, AreAligned}
use Rattle.cell_base.specs.Order.{IsBefore}
use Rattle.cell_base.specs.Valid.{IsMarked}
use Rattle.cell_base.proofs.ListDeciders.{all_complete, contains_cases, contains_there, each_by, not_true, not_true_from}
use Rattle.cell_base.proofs.OrderLemmas.{before_not_itself, before_trans}
use Rattle.cell_base.proofs.PlaceDeciders.{is_before, is_before_sound}
use Rattle.cell_base.proofs.PlaceLemmas.{inside_from_value}
use Rattle.region_label.specs.Component.{HasSize, InComponent, IsFirst}
use Rattle.region_label.specs.Labelling.{RegionTable, IsInRegion, IsLabelling}
use Rattle.region_label.proofs.ComponentLemmas.{component_end, component_itself, component_sym, component_trans}
use Rattle.region_label.proofs.CountLemmas.{count_before}
use Rattle.region_label.proofs.JoinedDeciders.{joined_decided}
use Rattle.region_label.proofs.ListLemmas.{at_from_contains, contains_from_at}
use Rattle.region_label.proofs.PaintLemmas.{grid_by, grid_by_at, grid_by_shape}
use Rattle.region_label.proofs.PlacesLemmas.{places_of}

-- what passes a test is kept, and nothing else
kept_passes : {A : Type 0} (test : A → Bool) (xs : List A) (x : A) → Contains (filter test xs) x → test x ≡ true
kept_passes test xs x member = All-contains (λ y. test y ≡ true) (filter test xs) x (filter_passes test xs) member

passing_kept : {A : Type 0} (test : A → Bool) (xs : List A) (x : A) → Contains xs x → test x ≡ true → Contains (filter test xs) x
passing_kept test [] x member is = absurd (omega (arith, member.1))
passing_kept test (y ∷ ys) x member is = elim (contains_cases y ys x member) [
  | inl here ↦ subst (λ zs. Contains zs x) (sym (cond-true (test y) (y ∷ filter test ys) (filter test ys) (ap test here ∙ is))) (0, omega arith, here)
  | inr there ↦ cond_both (test y) (y ∷ filter test ys) (filter test ys) (λ zs. Contains zs x) (λ passes. contains_there y (filter test ys) x (passing_kept test ys x there is)) (λ fails. passing_kept test ys x there is)
]

-- the earliest in a list that passes a test
earliest : {A : Type 0} (R : A → A → Type 0) (test : A → Bool) (xs : List A) (x : A) → AllPairs R xs → Contains xs x → test x ≡ true → (y : A) × (test y ≡ true) × ((z : A) → Contains xs z → test z ≡ true → (y ≡ z) ⊎ R y z)
earliest R test [] x pairs member is = absurd (omega (arith, member.1))
earliest {A} R test (y ∷ ys) x pairs member is = elim (cases_Bool (test y)) [
  | inl passes ↦ (
    y,
    passes,
    λ z in_all also. elim (contains_cases y ys z in_all) [
      | inl here ↦ inl here
      | inr there ↦ inr (subst (R y) there.2 (pairs 0 (suc there.0) z (omega arith) (omega (arith, there.1))))
    ],
  )
  | inr fails ↦
      let later : (z : A) → Contains (y ∷ ys) z → test z ≡ true → Contains ys z = λ z in_all also. elim (contains_cases y ys z in_all) [
        | inl here ↦ absurd (both_ways (test y) fails (ap test here ∙ also))
        | inr there ↦ there
      ] in
      let rest = earliest R test ys x (λ i j d less within. pairs (suc i) (suc j) d (omega arith) (omega (arith, within))) (later x member is) is in
      (rest.0, rest.1, λ z in_all also. rest.2 z (later z in_all also) also)
]

is_before_complete : (a b : Place) → IsBefore a b → is_before a b ≡ true
is_before_complete a b (inl above) = or_left (nat_lt a.0 b.0) _ (lt-ltb a.0 b.0 above)
is_before_complete a b (inr level) = or_right (nat_lt a.0 b.0) _ (and_from _ _ (eq-eqb a.0 b.0 level.0) (lt-ltb a.1 b.1 level.1))

-- the places of a grid in order, and a decider of its components
record AreTold {T : Type 0} (connectivity : Bool) (cells : Raster T) (valid : Raster Bool) (places : List Place) (joined : Place → Place → Bool) : Type 0 where
  mask : AreAligned cells valid
  order : AllPairs IsBefore places
  all : (p : Place) → IsMarked valid p → Contains places p
  decides : (a b : Place) → Decides (joined a b) (InComponent connectivity cells valid a b)

-- whether a cell is the first of its component, and the first cells
abbrev no_earlier : (Place → Place → Bool) → Place → Place → Bool
no_earlier joined a b = not (joined a b && is_before b a)

abbrev is_first : List Place → (Place → Place → Bool) → Place → Bool
is_first places joined a = joined a a && list_all (no_earlier joined a) places

firsts_of : List Place → (Place → Place → Bool) → List Place
firsts_of places joined = filter (is_first places joined) places

first_decides : {T : Type 0} (connectivity : Bool) (cells : Raster T) (valid : Raster Bool) (places : List Place) (joined : Place → Place → Bool) (a : Place) → AreTold connectivity cells valid places joined → Decides (is_first places joined a) (IsFirst connectivity cells valid a)
first_decides connectivity cells valid places joined a told = (
  λ is.
      let parts = and_parts (joined a a) (list_all (no_earlier joined a) places) is in
      record {
        marked = (component_end connectivity cells valid a a ((told.decides a a).0 parts.0)).0;
        least = λ b ab before.
            let member = told.all b (component_end connectivity cells valid a b ab).0 in
            not_true (joined a b && is_before b a) (each_by (no_earlier joined a) places b parts.1 member) (and_from (joined a b) (is_before b a) ((told.decides a b).1 ab) (is_before_complete b a before));
      },
  λ first. and_from (joined a a) (list_all (no_earlier joined a) places) ((told.decides a a).1 (component_itself connectivity cells valid a first.marked)) (all_complete (λ b. ¬ (InComponent connectivity cells valid a b × IsBefore b a)) (no_earlier joined a) (λ b none. not_true_from (joined a b && is_before b a) (λ both.
      let parts = and_parts (joined a b) (is_before b a) both in
      none ((told.decides a b).0 parts.0, is_before_sound b a parts.1))) places (λ k d within both. first.least (get_or places k d) both.0 both.1)),
)

firsts_are : {T : Type 0} (connectivity : Bool) (cells : Raster T) (valid : Raster Bool) (places : List Place) (joined : Place → Place → Bool) (a : Place) → AreTold connectivity cells valid places joined → Contains (firsts_of places joined) a ↔ IsFirst connectivity cells valid a
unfolding firsts_of
firsts_are connectivity cells valid places joined a told =
    let decides = first_decides connectivity cells valid places joined a told in (
      λ member. decides.0 (kept_passes (is_first places joined) places a member),
      λ first. passing_kept (is_first places joined) places a (told.all a first.marked) (decides.1 first),
    )

firsts_in_order : (places : List Place) (joined : Place → Place → Bool) → AllPairs IsBefore places → (i j : ℕ) (a b : Place) → i < j → slice_get (firsts_of places joined) i ≡ Some a → slice_get (firsts_of places joined) j ≡ Some b → IsBefore a b
unfolding firsts_of
firsts_in_order places joined order i j a b less at_a at_b =
    let firsts = filter (is_first places joined) places in
    let before = AllPairs-filter IsBefore (is_first places joined) places order i j a less (slice_get_within firsts j b at_b) in
    subst (λ (q : Place). IsBefore a q) (get_or_from_slice_get firsts j b a at_b) (subst (λ (p : Place). IsBefore p (get_or firsts j a)) (get_or_from_slice_get firsts i a a at_a) before)

-- each valid cell is in the component of a first cell
has_first : {T : Type 0} (connectivity : Bool) (cells : Raster T) (valid : Raster Bool) (places : List Place) (joined : Place → Place → Bool) (p : Place) → AreTold connectivity cells valid places joined → IsMarked valid p → (a : Place) × IsFirst connectivity cells valid a × InComponent connectivity cells valid a p
has_first connectivity cells valid places joined p told marked =
    let own = (told.decides p p).1 (component_itself connectivity cells valid p marked) in
    let found = earliest IsBefore (joined p) places p told.order (told.all p marked) own in
    let pa = (told.decides p found.0).0 found.1 in
    let first : IsFirst connectivity cells valid found.0 = record {
      marked = (component_end connectivity cells valid p found.0 pa).0;
      least = λ b ab before.
          let pb = component_trans connectivity cells valid p found.0 b pa ab in
          elim (found.2 b (told.all b (component_end connectivity cells valid p b pb).0) ((told.decides p b).1 pb)) [
            | inl same ↦ before_not_itself b (subst (λ (q : Place). IsBefore b q) same before)
            | inr after ↦ before_not_itself b (before_trans b found.0 b before after)
          ];
    } in
    (found.0, first, component_sym connectivity cells valid p found.0 pa)

number_of : List Place → (Place → Place → Bool) → Place → Option ℕ
number_of firsts joined p = position (λ a. joined a p) firsts

-- the number of a cell is the index of the first cell of its component
numbered : {T : Type 0} (connectivity : Bool) (cells : Raster T) (valid : Raster Bool) (places : List Place) (joined : Place → Place → Bool) (k : ℕ) (a p : Place) → AreTold connectivity cells valid places joined → slice_get (firsts_of places joined) k ≡ Some a → InComponent connectivity cells valid a p → number_of (firsts_of places joined) joined p ≡ Some k
unfolding number_of
numbered connectivity cells valid places joined k a p told at ap_joined =
    let firsts = firsts_of places joined in
    let within = slice_get_within firsts k a at in
    let is_a = (firsts_are connectivity cells valid places joined a told).0 (contains_from_at firsts k a at) in
    let earlier : (i : ℕ) → i < k → joined (get_or firsts i a) p ≡ false = λ i less. false_from_ne_true (joined (get_or firsts i a) p) (λ is.
    let b = get_or firsts i a in
    let ab = component_trans connectivity cells valid a p b ap_joined (component_sym connectivity cells valid b p ((told.decides b p).0 is)) in
    is_a.least b ab (firsts_in_order places joined told.order i k b a less (slice_get-get_or firsts i a (omega (arith, less, within))) at)) in
    let here : joined (get_or firsts k a) p ≡ true = ap (λ (q : Place). joined q p) (get_or_from_slice_get firsts k a a at) ∙ (told.decides a p).1 ap_joined in
    let index : position_or_len (λ q. joined q p) firsts ≡ k = position_or_len_is (λ q. joined q p) firsts k a (omega (arith, within)) earlier (λ less. here) in
    let test : nat_lt k (length firsts) ≡ true = lt-ltb k (length firsts) within in
    ap (λ (i : ℕ). cond (nat_lt i (length firsts)) (Some i) None) index ∙ cond-true (nat_lt k (length firsts)) (Some k) None test

first_of_number : {T : Type 0} (connectivity : Bool) (cells : Raster T) (valid : Raster Bool) (places : List Place) (joined : Place → Place → Bool) (k : ℕ) (p : Place) → AreTold connectivity cells valid places joined → number_of (firsts_of places joined) joined p ≡ Some k → (a : Place) × (slice_get (firsts_of places joined) k ≡ Some a) × InComponent connectivity cells valid a p
unfolding number_of
first_of_number connectivity cells valid places joined k p told is =
    let firsts = firsts_of places joined in
    let found = position-Some (λ q. joined q p) firsts k p is in
    (get_or firsts k p, slice_get-get_or firsts k p found.0, (told.decides (get_or firsts k p) p).0 found.1)

-- the components as a table
regions_by : (nrows ncols : ℕ) → List Place → (Place → Place → Bool) → RegionTable
regions_by nrows ncols places joined = record {
  numbers = grid_by nrows ncols (number_of (firsts_of places joined) joined);
  firsts = firsts_of places joined;
  sizes = map (λ a. length (filter (joined a) places)) (firsts_of places joined);
}

numbers_are : {T : Type 0} (connectivity : Bool) (cells : Raster T) (valid : Raster Bool) (places : List Place) (joined : Place → Place → Bool) (k : ℕ) (p : Place) → AreTold connectivity cells valid places joined → IsInRegion (regions_by cells.nrows cells.ncols places joined) k p ↔ ((a : Place) × (slice_get (firsts_of places joined) k ≡ Some a) × InComponent connectivity cells valid a p)
unfolding regions_by
numbers_are connectivity cells valid places joined k p told =
    let number = number_of (firsts_of places joined) joined in
    let shape = grid_by_shape cells.nrows cells.ncols number told.mask.first.some_cols told.mask.first.some_rows told.mask.first.small in (
      λ in_k.
          let inside = inside_from_value (grid_by cells.nrows cells.ncols number) p (Some k) shape in_k in
          first_of_number connectivity cells valid places joined k p told (same_Some (number p) (Some k) (sym (grid_by_at cells.nrows cells.ncols number p inside.0 inside.1) ∙ in_k)),
      λ first.
          let inside = inside_from_value valid p true told.mask.second (component_end connectivity cells valid first.0 p first.2).0 in
          grid_by_at cells.nrows cells.ncols number p (omega (arith, inside.0, told.mask.nrows)) (omega (arith, inside.1, told.mask.ncols)) ∙ ap (λ (o : Option ℕ). Some o) (numbered connectivity cells valid places joined k first.0 p told first.1 first.2),
    )

sized : {T : Type 0} (connectivity : Bool) (cells : Raster T) (valid : Raster Bool) (places : List Place) (joined : Place → Place → Bool) (k : ℕ) (a : Place) (n : ℕ) → AreTold connectivity cells valid places joined → slice_get (firsts_of places joined) k ≡ Some a → slice_get (map (λ b. length (filter (joined b) places)) (firsts_of places joined)) k ≡ Some n → HasSize connectivity cells valid a n
sized connectivity cells valid places joined k a n told at at_n = (
  filter (joined a) places,
  record {
    all = λ p. (
      λ member. (told.decides a p).0 (kept_passes (joined a) places p member),
      λ ap_joined. passing_kept (joined a) places p (told.all p (component_end connectivity cells valid a p ap_joined).0) ((told.decides a p).1 ap_joined),
    );
    once = λ i j d less within same. before_not_itself _ (subst (λ (q : Place). IsBefore (get_or (filter (joined a) places) i d) q) (sym same) (AllPairs-filter IsBefore (joined a) places told.order i j d less within));
  },
  same_Some _ n (sym (slice_get-map (λ b. length (filter (joined b) places)) (firsts_of places joined) k ∙ ap (option_map (λ b. length (filter (joined b) places))) at) ∙ at_n),
)

told_labelling : {T : Type 0} (connectivity : Bool) (cells : Raster T) (valid : Raster Bool) (places : List Place) (joined : Place → Place → Bool) → AreTold connectivity cells valid places joined → IsLabelling connectivity cells valid (regions_by cells.nrows cells.ncols places joined)
unfolding regions_by
told_labelling connectivity cells valid places joined told =
    let firsts = firsts_of places joined in
    let number = number_of firsts joined in
    let regions = regions_by cells.nrows cells.ncols places joined in
    let frame = told.mask.first in
    let is_one : (a : Place) → Contains firsts a ↔ IsFirst connectivity cells valid a = λ a. firsts_are connectivity cells valid places joined a told in
    let region_is = λ (k : ℕ) (p : Place). numbers_are connectivity cells valid places joined k p told in
    record {
      mask = told.mask;
      numbers = record { first = frame; second = grid_by_shape cells.nrows cells.ncols number frame.some_cols frame.some_rows frame.small; ncols = refl; nrows = refl };
      first = λ k a at. (is_one a).0 (contains_from_at firsts k a at);
      number = λ k a at. count_before (IsFirst connectivity cells valid) firsts (firsts_in_order places joined told.order) is_one k a at;
      every = λ a first. (is_one a).1 first;
      valid_cells = λ p. (
        λ marked.
            let first = has_first connectivity cells valid places joined p told marked in
            let at = at_from_contains firsts first.0 ((is_one first.0).1 first.1) in
            (at.0, (region_is at.0 p).1 (first.0, at.1, first.2)),
        λ in_some.
            let first = (region_is in_some.0 p).0 in_some.1 in
            (component_end connectivity cells valid first.0 p first.2).0,
      );
      region = λ k a p at. (
        λ in_k.
            let first = (region_is k p).0 in_k in
            subst (λ (b : Place). InComponent connectivity cells valid b p) (same_Some first.0 a (sym first.1 ∙ at)) first.2,
        λ ap_joined. (region_is k p).1 (a, at, ap_joined),
      );
      known = λ k p in_k. let first = (region_is k p).0 in_k in slice_get_within firsts k first.0 first.1;
      sized = length-map firsts (λ a. length (filter (joined a) places));
      size = λ k a n at at_n. sized connectivity cells valid places joined k a n told at at_n;
    }

-- the cells of the grid in order, and the deciders over them, make the table
pub labelling_exists : {T : Type 0} (same : T → T → Bool) → ((a b : T) → Decides (same a b) (a ≡ b)) → (connectivity : Bool) (cells : Raster T) (valid : Raster Bool) → AreAligned cells valid → (regions : RegionTable) × IsLabelling connectivity cells valid regions
labelling_exists same decides connectivity cells valid mask =
    let places = places_of cells.nrows cells.ncols in
    let all : (p : Place) → IsMarked valid p → Contains places.0 p = λ p marked.
    let inside = inside_from_value valid p true mask.second marked in
    places.2 p (omega (arith, inside.0, mask.nrows)) (omega (arith, inside.1, mask.ncols)) in
    let joined = joined_decided same decides connectivity cells valid places.0 all in
    (regions_by cells.nrows cells.ncols places.0 joined.0, told_labelling connectivity cells valid places.0 joined.0 (record { mask = mask; order = places.1; all = all; decides = joined.1 }))
