-- Members of lists that are joined end to end, and lists without repeats.
use Rattle.std.proofs.Common.{◌≡◌, ◌≢◌, suc, inl, inr, List, [], ◌∷◌, ◌++◌, sym, ap, ◌∙◌, Some, subst, arith}
use Rattle.std.specs.Prelude.{All, AllPairs, Contains, map, slice_get}
use Rattle.std.specs.List.{flat_map}
use Rattle.std.proofs.lemmas.List.Elements.{All-nil, All-cons, Contains-append_cases, Contains-append_left, Contains-append_right}
use Rattle.std.proofs.lemmas.List.Kept.{AllPairs-cons}
use Rattle.cell_base.proofs.ListDeciders.{contains_cases, contains_here, contains_there}

pub none_in : {A : Type 0} (x : A) → ¬ Contains [] x
none_in x member = omega (arith, member.1)

pub all_of : {A : Type 0} (P : A → Type 0) (xs : List A) → ((x : A) → Contains xs x → P x) → All P xs
all_of P [] each = All-nil P
all_of P (x ∷ xs) each = All-cons P x xs (each x (contains_here x xs)) (all_of P xs (λ y member. each y (contains_there x xs y member)))

pub pairs_nil : {A : Type 0} (R : A → A → Type 0) → AllPairs R []
pairs_nil R = λ i j d less within. absurd (omega arith)

pub pairs_cons : {A : Type 0} (R : A → A → Type 0) (x : A) (xs : List A) → ((y : A) → Contains xs y → R x y) → AllPairs R xs → AllPairs R (x ∷ xs)
pairs_cons R x xs head tail = AllPairs-cons R x xs (all_of (R x) xs head) tail

pub pairs_head : {A : Type 0} (R : A → A → Type 0) (x : A) (xs : List A) → AllPairs R (x ∷ xs) → (y : A) → Contains xs y → R x y
pairs_head R x xs pairs y member = subst (λ z. R x z) member.2 (pairs 0 (suc member.0) y (omega arith) (omega (arith, member.1)))

pub pairs_tail : {A : Type 0} (R : A → A → Type 0) (x : A) (xs : List A) → AllPairs R (x ∷ xs) → AllPairs R xs
pairs_tail R x xs pairs = λ i j d less within. pairs (suc i) (suc j) d (omega arith) (omega (arith, within))

pub in_flat : {A B : Type 0} (f : A → List B) (xs : List A) (x : A) (y : B) → Contains xs x → Contains (f x) y → Contains (flat_map f xs) y
in_flat f [] x y member has = absurd (none_in x member)
in_flat f (z ∷ zs) x y member has = elim (contains_cases z zs x member) [
  | inl here ↦ Contains-append_left (f z) (flat_map f zs) y (subst (λ u. Contains (f u) y) (sym here) has)
  | inr there ↦ Contains-append_right (f z) (flat_map f zs) y (in_flat f zs x y there has)
]

pub of_flat : {A B : Type 0} (f : A → List B) (xs : List A) (y : B) → Contains (flat_map f xs) y → (x : A) × Contains xs x × Contains (f x) y
of_flat f [] y member = absurd (none_in y member)
of_flat f (z ∷ zs) y member = elim (Contains-append_cases (f z) (flat_map f zs) y member) [
  | inl left ↦ (z, contains_here z zs, left)
  | inr right ↦
      let found = of_flat f zs y right in
      (found.0, contains_there z zs found.0 found.1, found.2)
]

pub in_map : {A B : Type 0} (f : A → B) (xs : List A) (x : A) → Contains xs x → Contains (map f xs) (f x)
in_map f [] x member = absurd (none_in x member)
in_map f (z ∷ zs) x member = elim (contains_cases z zs x member) [
  | inl here ↦ (0, omega arith, ap f here)
  | inr there ↦ contains_there (f z) (map f zs) (f x) (in_map f zs x there)
]

pub of_map : {A B : Type 0} (f : A → B) (xs : List A) (y : B) → Contains (map f xs) y → (x : A) × Contains xs x × (f x ≡ y)
of_map f [] y member = absurd (none_in y member)
of_map f (z ∷ zs) y member = elim (contains_cases (f z) (map f zs) y member) [
  | inl here ↦ (z, contains_here z zs, here)
  | inr there ↦
      let found = of_map f zs y there in
      (found.0, contains_there z zs found.0 found.1, found.2)
]

-- what stands first
pub head_is : {A : Type 0} (xs ys : List A) (x y : A) → xs ≡ x ∷ ys → slice_get xs 0 ≡ Some y → x ≡ y
head_is xs ys x y is at =
    let both : Some x ≡ Some y = sym (ap (λ zs. slice_get zs 0) is) ∙ at in
    cc

-- no member of the one is a member of the other
abbrev pub AreApart : {A : Type 0} → List A → List A → Type 0
AreApart {A} xs ys = (x : A) → Contains xs x → ¬ Contains ys x

pub once_join : {A : Type 0} (xs ys : List A) → AllPairs (λ x y. x ≢ y) xs → AllPairs (λ x y. x ≢ y) ys → AreApart xs ys → AllPairs (λ x y. x ≢ y) (xs ++ ys)
once_join [] ys one two apart = two
once_join (x ∷ xs) ys one two apart =
    pairs_cons (λ a b. a ≢ b) x (xs ++ ys)
    (λ y member same. elim (Contains-append_cases xs ys y member) [
      | inl left ↦ pairs_head (λ a b. a ≢ b) x xs one y left same
      | inr right ↦ apart x (contains_here x xs) (subst (λ z. Contains ys z) (sym same) right)
    ])
    (once_join xs ys (pairs_tail (λ a b. a ≢ b) x xs one) two (λ z member. apart z (contains_there x xs z member)))

pub once_right : {A : Type 0} (xs ys : List A) → AllPairs (λ x y. x ≢ y) (xs ++ ys) → AllPairs (λ x y. x ≢ y) ys
once_right [] ys once = once
once_right (x ∷ xs) ys once = once_right xs ys (pairs_tail (λ a b. a ≢ b) x (xs ++ ys) once)

pub once_apart : {A : Type 0} (xs ys : List A) → AllPairs (λ x y. x ≢ y) (xs ++ ys) → AreApart xs ys
once_apart [] ys once x left right = none_in x left
once_apart (z ∷ zs) ys once x left right = elim (contains_cases z zs x left) [
  | inl here ↦ pairs_head (λ a b. a ≢ b) z (zs ++ ys) once x (Contains-append_right zs ys x right) here
  | inr there ↦ once_apart zs ys (pairs_tail (λ a b. a ≢ b) z (zs ++ ys) once) x there right
]

pub apart_parts : {A B : Type 0} (f : A → List B) (xs : List A) → AllPairs (λ x y. x ≢ y) (flat_map f xs) → AllPairs (λ x y. AreApart (f x) (f y)) xs
apart_parts f [] once = pairs_nil (λ x y. AreApart (f x) (f y))
apart_parts f (z ∷ zs) once = pairs_cons (λ x y. AreApart (f x) (f y)) z zs
    (λ x member y left right. once_apart (f z) (flat_map f zs) once y left (in_flat f zs x y member right))
    (apart_parts f zs (once_right (f z) (flat_map f zs) once))

pub once_flat : {A B : Type 0} (f : A → List B) (xs : List A) → ((x : A) → Contains xs x → AllPairs (λ x y. x ≢ y) (f x))
    → AllPairs (λ x y. AreApart (f x) (f y)) xs → AllPairs (λ x y. x ≢ y) (flat_map f xs)
once_flat f [] each apart = pairs_nil (λ a b. a ≢ b)
once_flat f (z ∷ zs) each apart = once_join (f z) (flat_map f zs) (each z (contains_here z zs))
    (once_flat f zs (λ x member. each x (contains_there z zs x member)) (pairs_tail (λ x y. AreApart (f x) (f y)) z zs apart)) (λ y left right.
    let found = of_flat f zs y right in
    pairs_head (λ x y. AreApart (f x) (f y)) z zs apart found.0 found.1 y left found.2)

pub pairs_weaker : {A : Type 0} (R S : A → A → Type 0) (xs : List A) → ((x y : A) → Contains xs x → Contains xs y → R x y → S x y) → AllPairs R xs
    → AllPairs S xs
pairs_weaker R S [] weaker pairs = pairs_nil S
pairs_weaker R S (x ∷ xs) weaker pairs = pairs_cons S x xs
    (λ y member. weaker x y (contains_here x xs) (contains_there x xs y member) (pairs_head R x xs pairs y member))
    (pairs_weaker R S xs (λ y z in_y in_z. weaker y z (contains_there x xs y in_y) (contains_there x xs z in_z)) (pairs_tail R x xs pairs))
