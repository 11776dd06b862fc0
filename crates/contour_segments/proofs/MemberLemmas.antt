-- Members of lists that are joined end to end, and lists without repeats.
use Rattle.std.proofs.Common.{◌∙◌, refl, ◌≡◌, ◌≢◌, ℕ, zero, suc, ◌+◌, ◌<◌, ◌≤◌, inl, inr, List, [], ◌∷◌, ◌++◌, sym, ap, subst, arith}
use Rattle.std.specs.Prelude.{All, AllPairs, Contains, map}
use Rattle.std.specs.List.{flat_map, range_with_len}
use Rattle.std.proofs.lemmas.List.Elements.{All-nil, All-cons, Contains-append_cases, Contains-append_left, Contains-append_right}
use Rattle.std.proofs.lemmas.List.Kept.{AllPairs-cons}
use Rattle.std.proofs.lemmas.Bool.{cases_eq}
use Rattle.cell_base.proofs.ListDeciders.{contains_cases, contains_here, contains_there}

pub none_in : {A : Type 0} (x : A) → ¬ Contains [] x
none_in x member = omega (arith, member.1)

pub all_of : {A : Type 0} (P : A → Type 0) (xs : List A) → ((x : A) → Contains xs x → P x) → All P xs
all_of P [] each = All-nil P
all_of P (x ∷ xs) each = All-cons P x xs (each x (contains_here x xs)) (all_of P xs (λ y member. each y (contains_there x xs y member)))

pub pairs_nil : {A : Type 0} (R : A → A → Type 0) → AllPairs R []
pairs_nil R = λ i j d less within. absurd (omega arith)

pub pairs_cons : {A : Type 0} (R : A → A → Type 0) (x : A) (xs : List A) → ((y : A) → Contains xs y → R x y) → AllPairs R xs → AllPairs R (x ∷ xs)
pairs_cons R x xs head tail = AllPairs-cons R x xs (all_of (R x) xs head) tail

pub pairs_head : {A : Type 0} (R : A → A → Type 0) (x : A) (xs : List A) → AllPairs R (x ∷ xs) → (y : A) → Contains xs y → R x y
pairs_head R x xs pairs y member = subst (λ z. R x z) member.2 (pairs 0 (suc member.0) y (omega arith) (omega (arith, member.1)))

pub pairs_tail : {A : Type 0} (R : A → A → Type 0) (x : A) (xs : List A) → AllPairs R (x ∷ xs) → AllPairs R xs
pairs_tail R x xs pairs = λ i j d less within. pairs (suc i) (suc j) d (omega arith) (omega (arith, within))

pub in_flat : {A B : Type 0} (f : A → List B) (xs : List A) (x : A) (y : B) → Contains xs x → Contains (f x) y → Contains (flat_map f xs) y
in_flat f [] x y member has = absurd (none_in x member)
in_flat f (z ∷ zs) x y member has = elim (contains_cases z zs x member) [
  | inl here ↦ Contains-append_left (f z) (flat_map f zs) y (subst (λ u. Contains (f u) y) (sym here) has)
  | inr there ↦ Contains-append_right (f z) (flat_map f zs) y (in_flat f zs x y there has)
]

pub of_flat : {A B : Type 0} (f : A → List B) (xs : List A) (y : B) → Contains (flat_map f xs) y → (x : A) × Contains xs x × Contains (f x) y
of_flat f [] y member = absurd (none_in y member)
of_flat f (z ∷ zs) y member = elim (Contains-append_cases (f z) (flat_map f zs) y member) [
  | inl left ↦ (z, contains_here z zs, left)
  | inr right ↦
      let found = of_flat f zs y right in
      (found.0, contains_there z zs found.0 found.1, found.2)
]

pub in_map : {A B : Type 0} (f : A → B) (xs : List A) (x : A) → Contains xs x → Contains (map f xs) (f x)
in_map f [] x member = absurd (none_in x member)
in_map f (z ∷ zs) x member = elim (contains_cases z zs x member) [
  | inl here ↦ (0, omega arith, ap f here)
  | inr there ↦ contains_there (f z) (map f zs) (f x) (in_map f zs x there)
]

pub of_map : {A B : Type 0} (f : A → B) (xs : List A) (y : B) → Contains (map f xs) y → (x : A) × Contains xs x × (f x ≡ y)
of_map f [] y member = absurd (none_in y member)
of_map f (z ∷ zs) y member = elim (contains_cases (f z) (map f zs) y member) [
  | inl here ↦ (z, contains_here z zs, here)
  | inr there ↦
      let found = of_map f zs y there in
      (found.0, contains_there z zs found.0 found.1, found.2)
]

-- no member of the one is a member of the other
abbrev pub AreApart : {A : Type 0} → List A → List A → Type 0
AreApart {A} xs ys = (x : A) → Contains xs x → ¬ Contains ys x

pub once_join : {A : Type 0} (xs ys : List A) → AllPairs (λ x y. x ≢ y) xs → AllPairs (λ x y. x ≢ y) ys → AreApart xs ys → AllPairs (λ x y. x ≢ y) (xs ++ ys)
once_join [] ys one two apart = two
once_join (x ∷ xs) ys one two apart =
    pairs_cons (λ a b. a ≢ b) x (xs ++ ys)
    (λ y member same. elim (Contains-append_cases xs ys y member) [
      | inl left ↦ pairs_head (λ a b. a ≢ b) x xs one y left same
      | inr right ↦ apart x (contains_here x xs) (subst (λ z. Contains ys z) (sym same) right)
    ])
    (once_join xs ys (pairs_tail (λ a b. a ≢ b) x xs one) two (λ z member. apart z (contains_there x xs z member)))

pub once_right : {A : Type 0} (xs ys : List A) → AllPairs (λ x y. x ≢ y) (xs ++ ys) → AllPairs (λ x y. x ≢ y) ys
once_right [] ys once = once
once_right (x ∷ xs) ys once = once_right xs ys (pairs_tail (λ a b. a ≢ b) x (xs ++ ys) once)

pub once_apart : {A : Type 0} (xs ys : List A) → AllPairs (λ x y. x ≢ y) (xs ++ ys) → AreApart xs ys
once_apart [] ys once x left right = none_in x left
once_apart (z ∷ zs) ys once x left right = elim (contains_cases z zs x left) [
  | inl here ↦ pairs_head (λ a b. a ≢ b) z (zs ++ ys) once x (Contains-append_right zs ys x right) here
  | inr there ↦ once_apart zs ys (pairs_tail (λ a b. a ≢ b) z (zs ++ ys) once) x there right
]

pub apart_parts : {A B : Type 0} (f : A → List B) (xs : List A) → AllPairs (λ x y. x ≢ y) (flat_map f xs) → AllPairs (λ x y. AreApart (f x) (f y)) xs
apart_parts f [] once = pairs_nil (λ x y. AreApart (f x) (f y))
apart_parts f (z ∷ zs) once = pairs_cons (λ x y. AreApart (f x) (f y)) z zs
    (λ x member y left right. once_apart (f z) (flat_map f zs) once y left (in_flat f zs x y member right))
    (apart_parts f zs (once_right (f z) (flat_map f zs) once))

pub once_flat : {A B : Type 0} (f : A → List B) (xs : List A) → ((x : A) → Contains xs x → AllPairs (λ x y. x ≢ y) (f x))
    → AllPairs (λ x y. AreApart (f x) (f y)) xs → AllPairs (λ x y. x ≢ y) (flat_map f xs)
once_flat f [] each apart = pairs_nil (λ a b. a ≢ b)
once_flat f (z ∷ zs) each apart = once_join (f z) (flat_map f zs) (each z (contains_here z zs))
    (once_flat f zs (λ x member. each x (contains_there z zs x member)) (pairs_tail (λ x y. AreApart (f x) (f y)) z zs apart)) (λ y left right.
    let found = of_flat f zs y right in
    pairs_head (λ x y. AreApart (f x) (f y)) z zs apart found.0 found.1 y left found.2)

pub pairs_weaker : {A : Type 0} (R S : A → A → Type 0) (xs : List A) → ((x y : A) → Contains xs x → Contains xs y → R x y → S x y) → AllPairs R xs
    → AllPairs S xs
pairs_weaker R S [] weaker pairs = pairs_nil S
pairs_weaker R S (x ∷ xs) weaker pairs = pairs_cons S x xs
    (λ y member. weaker x y (contains_here x xs) (contains_there x xs y member) (pairs_head R x xs pairs y member))
    (pairs_weaker R S xs (λ y z in_y in_z. weaker y z (contains_there x xs y in_y) (contains_there x xs z in_z)) (pairs_tail R x xs pairs))

-- the numbers of a range

pub of_range : (a n k : ℕ) → Contains (range_with_len a n) k → (a ≤ k) × (k < a + n)
of_range a zero k member = absurd (none_in k member)
of_range a (suc n) k member = elim (contains_cases a (range_with_len (a + 1) n) k member) [
  | inl here ↦ (omega (arith, here), omega (arith, here))
  | inr there ↦
      let more = of_range (a + 1) n k there in (omega (arith, more.0), omega (arith, more.1))
]

pub in_range : (a n k : ℕ) → a ≤ k → k < a + n → Contains (range_with_len a n) k
in_range a zero k low high = absurd (omega arith)
in_range a (suc n) k low high = elim (cases_eq a k) [
  | inl same ↦ subst (λ j. Contains (range_with_len a (suc n)) j) same (contains_here a (range_with_len (a + 1) n))
  | inr other ↦ contains_there a (range_with_len (a + 1) n) k (in_range (a + 1) n k (omega arith) (omega arith))
]

pub range_rises : (a n : ℕ) → AllPairs (λ x y. x < y) (range_with_len a n)
range_rises a zero = pairs_nil (λ x y. x < y)
range_rises a (suc n) = pairs_cons (λ x y. x < y) a (range_with_len (a + 1) n) (λ k member.
    let more = (of_range (a + 1) n k member).0 in
    omega (arith, more)) (range_rises (a + 1) n)

pub pairs_map : {A B : Type 0} (R : A → A → Type 0) (S : B → B → Type 0) (f : A → B) (xs : List A) → ((x y : A) → R x y → S (f x) (f y)) → AllPairs R xs → AllPairs S (map f xs)
pairs_map R S f [] keeps pairs = pairs_nil S
pairs_map R S f (x ∷ xs) keeps pairs = pairs_cons S (f x) (map f xs) (λ y member.
    let found = of_map f xs y member in
    subst (λ z. S (f x) z) found.2 (keeps x found.0 (pairs_head R x xs pairs found.0 found.1))) (pairs_map R S f xs keeps (pairs_tail R x xs pairs))

-- pairs of lists that are joined

pub pairs_join : {A : Type 0} (R : A → A → Type 0) (xs ys : List A) → AllPairs R xs → AllPairs R ys → ((x y : A) → Contains xs x → Contains ys y → R x y) → AllPairs R (xs ++ ys)
pairs_join R [] ys one two across = two
pairs_join R (x ∷ xs) ys one two across =
    pairs_cons R x (xs ++ ys)
    (λ y member. elim (Contains-append_cases xs ys y member) [
      | inl left ↦ pairs_head R x xs one y left
      | inr right ↦ across x y (contains_here x xs) right
    ])
    (pairs_join R xs ys (pairs_tail R x xs one) two (λ a b on_a on_b. across a b (contains_there x xs a on_a) on_b))

-- pairs of a list that is joined of lists
pub pairs_flat : {A B : Type 0} (R : B → B → Type 0) (f : A → List B) (xs : List A) → ((x : A) → Contains xs x → AllPairs R (f x)) → AllPairs (λ x y. (a b : B) → Contains (f x) a → Contains (f y) b → R a b) xs → AllPairs R (flat_map f xs)
pairs_flat R f [] each across = pairs_nil R
pairs_flat {A} {B} R f (x ∷ xs) each across =
    let Across : A → A → Type 0 = λ y z. (a b : B) → Contains (f y) a → Contains (f z) b → R a b in
    pairs_join R (f x) (flat_map f xs) (each x (contains_here x xs)) (pairs_flat R f xs (λ y member. each y (contains_there x xs y member)) (pairs_tail Across x xs across)) (λ a b on_a on_b.
    let found = of_flat f xs b on_b in
    pairs_head Across x xs across found.0 found.1 a b on_a found.2)

-- two ordered lists with the same members are the same
pub same_order : {A : Type 0} (R : A → A → Type 0) → ((x y : A) → R x y → ¬ R y x) → (xs ys : List A) → AllPairs R xs → AllPairs R ys → ((x : A) → Contains xs x → Contains ys x) → ((x : A) → Contains ys x → Contains xs x) → xs ≡ ys
same_order R asym [] [] one two more less = refl
same_order R asym [] (y ∷ ys) one two more less = absurd (none_in y (less y (contains_here y ys)))
same_order R asym (x ∷ xs) [] one two more less = absurd (none_in x (more x (contains_here x xs)))
same_order {A} R asym (x ∷ xs) (y ∷ ys) one two more less =
    let same : x ≡ y = elim (contains_cases y ys x (more x (contains_here x xs))) [
      | inl here ↦ sym here
      | inr later_x ↦ elim (contains_cases x xs y (less y (contains_here y ys))) [
        | inl here ↦ here
        | inr later_y ↦ absurd (asym x y (pairs_head R x xs one y later_y) (pairs_head R y ys two x later_x))
      ]
    ] in
    let rest_more : (z : A) → Contains xs z → Contains ys z = λ z member. elim (contains_cases y ys z (more z (contains_there x xs z member))) [
      | inl here ↦
          let self : R x x = subst (λ w. R x w) (sym (same ∙ here)) (pairs_head R x xs one z member) in
          absurd (asym x x self self)
      | inr there ↦ there
    ] in
    let rest_less : (z : A) → Contains ys z → Contains xs z = λ z member. elim (contains_cases x xs z (less z (contains_there y ys z member))) [
      | inl here ↦
          let self : R y y = subst (λ w. R y w) (sym (sym same ∙ here)) (pairs_head R y ys two z member) in
          absurd (asym y y self self)
      | inr there ↦ there
    ] in
    ap (λ z. z ∷ xs) same ∙ ap (λ zs. y ∷ zs) (same_order R asym xs ys (pairs_tail R x xs one) (pairs_tail R y ys two) rest_more rest_less)
