-- A grid has one sieved grid at a threshold.
use Rattle.std.proofs.Common.{◌≡◌, ℕ, zero, suc, ◌+◌, ◌<◌, ◌≤◌, ◌⊎◌, inl, inr, Bool, true, false, List, [], ◌∷◌, Option, Some, None, length, refl, ap, sym, ◌∙◌, subst, arith}
use Rattle.std.specs.Prelude.{slice_get}
use Rattle.std.proofs.lemmas.Bool.{cases_eq, cases_lt, false≢true}
use Rattle.std.proofs.lemmas.Option.{none-some, same_Some}
use Rattle.cell_base.specs.Raster.{Place, Raster, AreAligned, IsRaster, value_at}
use Rattle.cell_base.specs.Steps.{IsStep}
use Rattle.cell_base.specs.Walk.{IsWalk}
use Rattle.cell_base.proofs.PlaceLemmas.{inside_from_value, same_raster}
use Rattle.cell_base.proofs.StepDeciders.{is_step, is_step_complete, is_step_sound}
use Rattle.region_label.specs.Labelling.{RegionTable, IsInRegion, IsLabelling}
use Rattle.region_label.proofs.OneLemmas.{one_labelling}
use Rattle.region_label.proofs.RegionDeciders.{is_in_region, is_in_region_complete, is_in_region_sound}
use Rattle.sieve_core.specs.Sieve.{HasRegionValue, IsChained, IsLargest, IsNextTo, IsSieved, TakesFrom, TakesValues, size_of}
use Rattle.sieve_core.specs.Inner.Neighbours.{IsNoBetter}
use Rattle.sieve_core.proofs.NeighbourLemmas.{no_better_itself, no_better_trans}
use Rattle.sieve_core.proofs.SieveLemmas.{one_largest}

-- it holds, or it doesn't
abbrev IsDecided : Type 0 → Type 0
IsDecided P = P ⊎ (¬ P)

bool_cases : (b : Bool) → (b ≡ true) ⊎ (b ≡ false)
bool_cases true = inl refl
bool_cases false = inr refl

by_test : (P : Type 0) (b : Bool) → (b ≡ true → P) → (P → b ≡ true) → IsDecided P
by_test P b sound complete = elim (bool_cases b) [ inl yes_is ↦ inl (sound yes_is) | inr no_is ↦ inr (λ p. false≢true (sym no_is ∙ complete p)) ]

-- some number below a bound, or none
search_below : (n : ℕ) (P : ℕ → Type 0) → ((k : ℕ) → IsDecided (P k)) → ((k : ℕ) × (k < n) × P k) ⊎ ((k : ℕ) → k < n → ¬ P k)
search_below zero P dec = inr (λ k less. absurd (omega arith))
search_below (suc n) P dec = elim (search_below n P dec) [
  | inl found ↦ inl (found.0, omega (arith, found.1), found.2)
  | inr none ↦ elim (dec n) [
    | inl here ↦ inl (n, omega arith, here)
    | inr not_here ↦ inr (λ k less. elim (cases_eq k n) [
      | inl same ↦ λ p. not_here (subst P same p)
      | inr other ↦ none k (omega arith)
    ])
  ]
]

decided_below : (n : ℕ) (P : ℕ → Type 0) → ((k : ℕ) → IsDecided (P k)) → IsDecided ((k : ℕ) × (k < n) × P k)
decided_below n P dec = elim (search_below n P dec) [ inl found ↦ inl found | inr none ↦ inr (λ found. none found.0 found.1 found.2) ]

decided_both : (P Q : Type 0) → IsDecided P → IsDecided Q → IsDecided (P × Q)
decided_both P Q (inl p) (inl q) = inl (p, q)
decided_both P Q (inl p) (inr not_q) = inr (λ both. not_q both.1)
decided_both P Q (inr not_p) q = inr (λ both. not_p both.0)

-- whether two cells make their components neighbours
abbrev IsTouch : Bool → RegionTable → ℕ → ℕ → Place → Place → Type 0
IsTouch connectivity regions k m p q = IsInRegion regions k p × (IsInRegion regions m q × IsStep connectivity p q)

touch_decided : (connectivity : Bool) (regions : RegionTable) (k m : ℕ) (p q : Place) → IsDecided (IsTouch connectivity regions k m p q)
touch_decided connectivity regions k m p q =
    decided_both (IsInRegion regions k p) (IsInRegion regions m q × IsStep connectivity p q) (by_test (IsInRegion regions k p) (is_in_region regions k p) (is_in_region_sound regions k p) (is_in_region_complete regions k p)) (decided_both (IsInRegion regions m q) (IsStep connectivity p q) (by_test (IsInRegion regions m q) (is_in_region regions m q) (is_in_region_sound regions m q) (is_in_region_complete regions m q)) (by_test (IsStep connectivity p q) (is_step connectivity p q) (is_step_sound connectivity p q) (is_step_complete connectivity p q)))

abbrev AnyTouch : Bool → RegionTable → ℕ → ℕ → Type 0
AnyTouch connectivity regions k m =
    (r : ℕ) × (r < regions.numbers.nrows) × ((c : ℕ) × (c < regions.numbers.ncols) × ((s : ℕ) × (s < regions.numbers.nrows) × ((d : ℕ) × (d < regions.numbers.ncols) × IsTouch connectivity regions k m (r, c) (s, d))))

any_touch_decided : (connectivity : Bool) (regions : RegionTable) (k m : ℕ) → IsDecided (AnyTouch connectivity regions k m)
any_touch_decided connectivity regions k m =
    let nrows = regions.numbers.nrows in
    let ncols = regions.numbers.ncols in
    decided_below nrows (λ r. (c : ℕ) × (c < ncols) × ((s : ℕ) × (s < nrows) × ((d : ℕ) × (d < ncols) × IsTouch connectivity regions k m (r, c) (s, d)))) (λ r.
    decided_below ncols (λ c. (s : ℕ) × (s < nrows) × ((d : ℕ) × (d < ncols) × IsTouch connectivity regions k m (r, c) (s, d))) (λ c.
    decided_below nrows (λ s. (d : ℕ) × (d < ncols) × IsTouch connectivity regions k m (r, c) (s, d)) (λ s.
    decided_below ncols (λ d. IsTouch connectivity regions k m (r, c) (s, d)) (λ d. touch_decided connectivity regions k m (r, c) (s, d)))))

next_decided : (connectivity : Bool) (regions : RegionTable) (k m : ℕ) → IsRaster regions.numbers → IsDecided (IsNextTo connectivity regions k m)
next_decided connectivity regions k m shape = elim (cases_eq k m) [
  | inl same ↦ inr (λ next. next.0 same)
  | inr other ↦ elim (any_touch_decided connectivity regions k m) [
    | inl found ↦ inl (other, (found.0, found.2.0), (found.2.2.0, found.2.2.2.0), found.2.2.2.2.0, found.2.2.2.2.1.0, found.2.2.2.2.1.1)
    | inr none ↦ inr (λ next.
        let in_p = inside_from_value regions.numbers next.1 (Some k) shape next.3 in
        let in_q = inside_from_value regions.numbers next.2 (Some m) shape next.4 in
        none (next.1.0, in_p.0, (next.1.1, in_p.1, (next.2.0, in_q.0, (next.2.1, in_q.1, (next.3, (next.4, next.5)))))))
  ]
]

-- of two components one is no better than the other
one_no_better : (regions : RegionTable) (j m : ℕ) → IsNoBetter regions j m ⊎ IsNoBetter regions m j
one_no_better regions j m = elim (cases_lt (size_of regions j) (size_of regions m)) [
  | inl less ↦ inl (inl less)
  | inr no_less ↦ elim (cases_lt (size_of regions m) (size_of regions j)) [
    | inl more ↦ inr (inl more)
    | inr no_more ↦ elim (cases_lt m (suc j)) [
      | inl lower ↦ inl (inr (omega arith, omega arith))
      | inr higher ↦ inr (inr (omega arith, omega arith))
    ]
  ]
]

-- the best of the neighbours with numbers below a bound, if there is one
best_below : (connectivity : Bool) (regions : RegionTable) (k n : ℕ) → IsRaster regions.numbers → ((m : ℕ) × IsNextTo connectivity regions k m × ((j : ℕ) → j < n → IsNextTo connectivity regions k j → IsNoBetter regions j m)) ⊎ ((j : ℕ) → j < n → ¬ IsNextTo connectivity regions k j)
best_below connectivity regions k zero shape = inr (λ j less. absurd (omega arith))
best_below connectivity regions k (suc n) shape = elim (next_decided connectivity regions k n shape) [
  | inr not_next ↦ elim (best_below connectivity regions k n shape) [
    | inl best ↦ inl (
      best.0,
      best.1,
      λ j less next. elim (cases_eq j n) [
        | inl same ↦ absurd (not_next (subst (λ (i : ℕ). IsNextTo connectivity regions k i) same next))
        | inr other ↦ best.2 j (omega arith) next
      ],
    )
    | inr none ↦ inr (λ j less next. elim (cases_eq j n) [
      | inl same ↦ not_next (subst (λ (i : ℕ). IsNextTo connectivity regions k i) same next)
      | inr other ↦ none j (omega arith) next
    ])
  ]
  | inl is_next ↦ elim (best_below connectivity regions k n shape) [
    | inr none ↦ inl (
      n,
      is_next,
      λ j less next. elim (cases_eq j n) [
        | inl same ↦ subst (λ (i : ℕ). IsNoBetter regions i n) (sym same) (no_better_itself regions n)
        | inr other ↦ absurd (none j (omega arith) next)
      ],
    )
    | inl best ↦ elim (one_no_better regions n best.0) [
      | inl worse ↦ inl (
        best.0,
        best.1,
        λ j less next. elim (cases_eq j n) [
          | inl same ↦ subst (λ (i : ℕ). IsNoBetter regions i best.0) (sym same) worse
          | inr other ↦ best.2 j (omega arith) next
        ],
      )
      | inr better ↦ inl (
        n,
        is_next,
        λ j less next. elim (cases_eq j n) [
          | inl same ↦ subst (λ (i : ℕ). IsNoBetter regions i n) (sym same) (no_better_itself regions n)
          | inr other ↦ no_better_trans regions j best.0 n (best.2 j (omega arith) next) better
        ],
      )
    ]
  ]
]

-- a component has a largest neighbour, or no neighbour
largest_or_none : (connectivity : Bool) (regions : RegionTable) (k : ℕ) → IsRaster regions.numbers → ((j : ℕ) (p : Place) → IsInRegion regions j p → j < length regions.firsts) → ((m : ℕ) × IsLargest connectivity regions k m) ⊎ ((m : ℕ) → ¬ IsNextTo connectivity regions k m)
largest_or_none connectivity regions k shape known = elim (best_below connectivity regions k (length regions.firsts) shape) [
  | inr none ↦ inr (λ m next. none m (known m next.2 next.4) next)
  | inl best ↦
      let no_better : (j : ℕ) → IsNextTo connectivity regions k j → IsNoBetter regions j best.0 = λ j next. best.2 j (known j next.2 next.4) next in
      inl (
        best.0,
        record {
          next_to = best.1;
          largest = λ j next. elim (no_better j next) [ inl less ↦ omega (arith, less) | inr same ↦ omega (arith, same.0) ];
          lowest = λ j next equal. elim (no_better j next) [ inl less ↦ absurd (omega (arith, less, equal)) | inr same ↦ same.1 ];
        },
      )
]

-- the first of so many members of a chain that is large enough, or none is
abbrev IsReached : Bool → RegionTable → ℕ → ℕ → ℕ → ℕ → Type 0
IsReached connectivity regions st n k m = (chain : List ℕ) × IsWalk (IsChained connectivity regions st) k chain m × (length chain < n) × (st ≤ size_of regions m)

reached_or_none : (connectivity : Bool) (regions : RegionTable) (st n k : ℕ) → IsRaster regions.numbers → ((j : ℕ) (p : Place) → IsInRegion regions j p → j < length regions.firsts) → ((m : ℕ) × IsReached connectivity regions st n k m) ⊎ ((m : ℕ) → ¬ IsReached connectivity regions st n k m)
reached_or_none connectivity regions st zero k shape known = inr (λ m reached. omega (arith, reached.2))
reached_or_none connectivity regions st (suc n) k shape known = elim (cases_lt (size_of regions k) st) [
  | inr big ↦ inl (k, ([], refl, omega arith, big))
  | inl small ↦ elim (largest_or_none connectivity regions k shape known) [
    | inr alone ↦ inr (λ m reached. no_way m reached.0 (λ c cs walked. alone c walked.0.1.next_to) small reached.1 reached.3)
    | inl largest ↦ elim (reached_or_none connectivity regions st n largest.0 shape known) [
      | inl further ↦ inl (further.0, (largest.0 ∷ further.1.0, ((small, largest.1), further.1.1), omega (arith, further.1.2), further.1.3))
      | inr none ↦ inr (λ m reached. no_way_on m largest.0 reached.0 largest.1 none small reached.1 reached.2 reached.3)
    ]
  ]
]
  where
    no_way : (m : ℕ) (chain : List ℕ) → ((c : ℕ) (cs : List ℕ) → IsWalk (IsChained connectivity regions st) k (c ∷ cs) m → ⊥) → size_of regions k < st → IsWalk (IsChained connectivity regions st) k chain m → st ≤ size_of regions m → ⊥
    no_way m [] alone small walked big = omega (arith, small, big, ap (size_of regions) walked)
    no_way m (c ∷ cs) alone small walked big = alone c cs walked

    no_way_on : (m next : ℕ) (chain : List ℕ) → IsLargest connectivity regions k next → ((j : ℕ) → ¬ IsReached connectivity regions st n next j) → size_of regions k < st → IsWalk (IsChained connectivity regions st) k chain m → length chain < suc n → st ≤ size_of regions m → ⊥
    no_way_on m next [] largest none small walked short big = omega (arith, small, big, ap (size_of regions) walked)
    no_way_on m next (c ∷ cs) largest none small walked short big =
        let same : c ≡ next = one_largest connectivity regions k c next walked.0.1 largest in
        none m (cs, subst (λ (j : ℕ). IsWalk (IsChained connectivity regions st) j cs m) same walked.1, omega (arith, short), big)

-- the value at a place
same_value : {T : Type 0} (connectivity : Bool) (cells a b : Raster T) (regions : RegionTable) (st : ℕ) → IsRaster regions.numbers → ((j : ℕ) (p : Place) → IsInRegion regions j p → j < length regions.firsts) → TakesValues connectivity regions st cells a → TakesValues connectivity regions st cells b → (p : Place) (o : Option (Option ℕ)) → value_at regions.numbers p ≡ o → value_at b p ≡ value_at a p
same_value connectivity cells a b regions st shape known is_a is_b p None at = is_b.not_valid p (λ k in_k. none-some (Some k) (sym at ∙ in_k)) ∙ sym (is_a.not_valid p (λ k in_k. none-some (Some k) (sym at ∙ in_k)))
same_value connectivity cells a b regions st shape known is_a is_b p (Some None) at = is_b.not_valid p (λ k in_k. none-some k (same_Some None (Some k) (sym at ∙ in_k))) ∙ sym (is_a.not_valid p (λ k in_k. none-some k (same_Some None (Some k) (sym at ∙ in_k))))
same_value connectivity cells a b regions st shape known is_a is_b p (Some (Some k)) at = elim (reached_or_none connectivity regions st (length regions.firsts) k shape known) [
  | inl reached ↦
      let in_a = is_a.taken p k reached.0 at reached.1 in
      let in_b = is_b.taken p k reached.0 at reached.1 in
      let first : in_b.0 ≡ in_a.0 = same_Some in_b.0 in_a.0 (sym in_b.1 ∙ in_a.1) in
      sym in_b.2 ∙ ap (value_at cells) first ∙ in_a.2
  | inr none ↦ is_b.stays p k at none ∙ sym (is_a.stays p k at none)
]

pub one_sieved : {T : Type 0} (connectivity : Bool) (cells a b : Raster T) (valid : Raster Bool) (st : ℕ) → IsSieved connectivity cells valid st a → IsSieved connectivity cells valid st b → a ≡ b
one_sieved connectivity cells a b valid st is_a is_b =
    let regions = is_a.0 in
    let same = one_labelling connectivity cells valid is_b.0 is_a.0 is_b.1 is_a.1 in
    let takes_b : TakesValues connectivity regions st cells b = subst (λ (r : RegionTable). TakesValues connectivity r st cells b) same is_b.2 in
    let aligned : AreAligned a b = record {
      first = is_a.2.aligned.second;
      second = is_b.2.aligned.second;
      ncols = is_b.2.aligned.ncols ∙ sym is_a.2.aligned.ncols;
      nrows = is_b.2.aligned.nrows ∙ sym is_a.2.aligned.nrows;
    } in
    sym (same_raster a b aligned (λ p. same_value connectivity cells a b regions st is_a.1.numbers.second is_a.1.known is_a.2 takes_b p (value_at regions.numbers p) refl))
