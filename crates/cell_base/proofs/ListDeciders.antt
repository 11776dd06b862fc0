-- Deciders over lists and numbers: tests that compute. A test is sound if what it passes holds, and complete if it passes all that holds.
use Rattle.std.proofs.Common.{◌≡◌, ℕ, zero, suc, ◌<◌, ◌⊎◌, inl, inr, Bool, true, false, not, List, [], ◌∷◌, refl, ◌∙◌, ap, arith}
use Rattle.std.specs.Prelude.{◌&&◌, ◌||◌, All, AllPairs, Contains}
use Rattle.std.specs.List.{list_all, list_any}
use Rattle.std.proofs.lemmas.Bool.{and_parts, both_ways, cases_eq, false_from_ne_true, false≢true, not-true, not_from_false, or_cases, or_left, or_right}
use Rattle.std.proofs.lemmas.List.Elements.{All-contains, All-weaker}
use Rattle.std.proofs.lemmas.List.Sums.{AllPass-from_list_all, list_all-from_AllPass}
use Rattle.std.proofs.lemmas.List.Kept.{AllPairs-cons}
use Rattle.cell_base.specs.Raster.{Place}

pub not_true : (a : Bool) → not a ≡ true → ¬ (a ≡ true)
not_true a is also = both_ways a (not-true a is) also

pub not_true_from : (a : Bool) → ¬ (a ≡ true) → not a ≡ true
not_true_from a none = not_from_false a (false_from_ne_true a none)

-- whether the one holds where the other does
abbrev pub implies : Bool → Bool → Bool
implies a b = not a || b

pub implied : (a b : Bool) → implies a b ≡ true → a ≡ true → b ≡ true
implied true b is holds = is
implied false b is holds = absurd (false≢true holds)

pub all_sound : {A : Type 0} (P : A → Type 0) (test : A → Bool) → ((x : A) → test x ≡ true → P x) → (xs : List A) → list_all test xs ≡ true → All P xs
all_sound P test sound xs is = All-weaker (λ x. test x ≡ true) P sound xs (AllPass-from_list_all test xs is)

pub all_complete : {A : Type 0} (P : A → Type 0) (test : A → Bool) → ((x : A) → P x → test x ≡ true) → (xs : List A) → All P xs → list_all test xs ≡ true
all_complete P test complete xs all = list_all-from_AllPass test xs (All-weaker P (λ x. test x ≡ true) complete xs all)

-- the test holds of each member and each later one
abbrev pub all_pairs : {A : Type 0} → (A → A → Bool) → List A → Bool
all_pairs test [] = true
all_pairs test (x ∷ xs) = list_all (test x) xs && all_pairs test xs

pub all_pairs_sound : {A : Type 0} (R : A → A → Type 0) (test : A → A → Bool) → ((x y : A) → test x y ≡ true → R x y) → (xs : List A) → all_pairs test xs ≡ true → AllPairs R xs
all_pairs_sound R test sound [] is = λ i j d less within. absurd (omega arith)
all_pairs_sound R test sound (x ∷ xs) is =
    let parts = and_parts (list_all (test x) xs) (all_pairs test xs) is in
    AllPairs-cons R x xs (all_sound (R x) (test x) (sound x) xs parts.0) (all_pairs_sound R test sound xs parts.1)

pub contains_cases : {A : Type 0} (y : A) (ys : List A) (x : A) → Contains (y ∷ ys) x → (y ≡ x) ⊎ Contains ys x
contains_cases y ys x (zero, within, is) = inl is
contains_cases y ys x (suc k, within, is) = inr (k, omega arith, is)

pub contains_there : {A : Type 0} (y : A) (ys : List A) (x : A) → Contains ys x → Contains (y ∷ ys) x
contains_there y ys x member = (suc member.0, omega (arith, member.1), member.2)

pub contains_here : {A : Type 0} (y : A) (ys : List A) → Contains (y ∷ ys) y
contains_here y ys = (0, omega arith, refl)

-- whether it is a member, by a test for sameness
abbrev pub has : {A : Type 0} → (A → A → Bool) → List A → A → Bool
has same xs x = list_any (λ y. same y x) xs

pub has_complete : {A : Type 0} (same : A → A → Bool) → ((a b : A) → a ≡ b → same a b ≡ true) → (xs : List A) (x : A) → Contains xs x → has same xs x ≡ true
has_complete same complete [] x member = absurd (omega (arith, member.1))
has_complete same complete (y ∷ ys) x member = elim (contains_cases y ys x member) [
  | inl here ↦ or_left (same y x) (has same ys x) (complete y x here)
  | inr there ↦ or_right (same y x) (has same ys x) (has_complete same complete ys x there)
]

pub any_sound : {A : Type 0} (test : A → Bool) (xs : List A) → list_any test xs ≡ true → (x : A) × Contains xs x × (test x ≡ true)
any_sound test [] is = absurd (false≢true is)
any_sound test (y ∷ ys) is = elim (or_cases (test y) (list_any test ys) is) [
  | inl here ↦ (y, contains_here y ys, here)
  | inr there ↦
      let found = any_sound test ys there in
      (found.0, contains_there y ys found.0 found.1, found.2)
]

pub any_complete : {A : Type 0} (test : A → Bool) (xs : List A) (x : A) → Contains xs x → test x ≡ true → list_any test xs ≡ true
any_complete test [] x member holds = absurd (omega (arith, member.1))
any_complete test (y ∷ ys) x member holds = elim (contains_cases y ys x member) [
  | inl here ↦ or_left (test y) (list_any test ys) (ap test here ∙ holds)
  | inr there ↦ or_right (test y) (list_any test ys) (any_complete test ys x there holds)
]

pub has_sound : {A : Type 0} (same : A → A → Bool) → ((a b : A) → same a b ≡ true → a ≡ b) → (xs : List A) (x : A) → has same xs x ≡ true → Contains xs x
has_sound same sound [] x is = absurd (false≢true is)
has_sound same sound (y ∷ ys) x is = elim (or_cases (same y x) (has same ys x) is) [
  | inl here ↦ (0, omega arith, sound y x here)
  | inr there ↦ contains_there y ys x (has_sound same sound ys x there)
]

pub each_by : {A : Type 0} (test : A → Bool) (xs : List A) (x : A) → list_all test xs ≡ true → Contains xs x → test x ≡ true
each_by test xs x is member = All-contains (λ y. test y ≡ true) xs x (AllPass-from_list_all test xs is) member

-- the test holds of each number below
abbrev pub all_below : (ℕ → Bool) → ℕ → Bool
all_below test zero = true
all_below test (suc n) = test n && all_below test n

pub below_by : (test : ℕ → Bool) (n k : ℕ) → all_below test n ≡ true → k < n → test k ≡ true
below_by test zero k is below = absurd (omega arith)
below_by test (suc n) k is below =
    let parts = and_parts (test n) (all_below test n) is in
    elim (cases_eq k n) [
      | inl same ↦ ap test same ∙ parts.0
      | inr other ↦ below_by test n k parts.1 (omega arith)
    ]

-- the test holds of each place of so many rows and columns
abbrev pub in_box : ℕ → ℕ → (Place → Bool) → Bool
in_box nrows ncols test = all_below (λ r. all_below (λ c. test (r, c)) ncols) nrows

pub box_by : (nrows ncols : ℕ) (test : Place → Bool) (p : Place) → in_box nrows ncols test ≡ true → p.0 < nrows → p.1 < ncols → test p ≡ true
box_by nrows ncols test p is in_row in_col = below_by (λ c. test (p.0, c)) ncols p.1 (below_by (λ r. all_below (λ c. test (r, c)) ncols) nrows p.0 is in_row) in_col
