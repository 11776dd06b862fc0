use Rattle.std.proofs.Common.{◌≡◌, ◌≢◌, set, ℕ, zero, suc, ◌+◌, ◌<◌, ◌⊎◌, inl, inr, List, [], ◌∷◌, ◌++◌, Some, length, length-append, take, refl, ap, ◌∙◌, arith}
use Rattle.std.specs.Prelude.{Contains, slice_get}
use Rattle.std.proofs.lemmas.Option.{slice_get_within, slice_get-get_or, get_or_from_slice_get, gets}
use Rattle.std.proofs.lemmas.Grind.{common_steps}

-- a member stands somewhere
pub at_from_contains : {A : Type 0} (xs : List A) (x : A) → Contains xs x → (k : ℕ) × (slice_get xs k ≡ Some x)
at_from_contains xs x member = (member.0, slice_get-get_or xs member.0 x member.1 ∙ ap (λ y. Some y) member.2)

pub contains_from_at : {A : Type 0} (xs : List A) (k : ℕ) (x : A) → slice_get xs k ≡ Some x → Contains xs x
contains_from_at xs k x is = (k, slice_get_within xs k x is, get_or_from_slice_get xs k x x is)

pub slice_get-take : {A : Type 0} (n : ℕ) (xs : List A) (k : ℕ) → k < n → slice_get (take n xs) k ≡ slice_get xs k
slice_get-take n xs k below = grind (arith, common_steps, gets)

pub slice_get-push_old : {A : Type 0} (xs : List A) (x : A) (k : ℕ) → k < length xs → slice_get (xs ++ x ∷ []) k ≡ slice_get xs k
slice_get-push_old xs x k within = grind (arith, common_steps, gets)

pub slice_get-push_last : {A : Type 0} (xs : List A) (x : A) → slice_get (xs ++ x ∷ []) (length xs) ≡ Some x
slice_get-push_last xs x = grind (arith, common_steps, gets)

at_push_of : {A : Type 0} (xs : List A) (x : A) (k : ℕ) (y : A) → k < length xs + 1 → slice_get (xs ++ x ∷ []) k ≡ Some y → (slice_get xs k ≡ Some y) ⊎ ((k ≡ length xs) × (y ≡ x))
at_push_of [] x zero y within is = inr (refl, (let same : y ≡ x = cc in same))
at_push_of [] x (suc k) y within is = absurd (omega arith)
at_push_of (z ∷ zs) x zero y within is = inl is
at_push_of (z ∷ zs) x (suc k) y within is = elim (at_push_of zs x k y (omega arith) is) [
  | inl old ↦ inl old
  | inr new ↦ inr (omega (arith, new.0), new.1)
]

-- what stands in a list with one more
pub at_push_cases : {A : Type 0} (xs : List A) (x : A) (k : ℕ) (y : A) → slice_get (xs ++ x ∷ []) k ≡ Some y → (slice_get xs k ≡ Some y) ⊎ ((k ≡ length xs) × (y ≡ x))
at_push_cases xs x k y is =
    let within : k < length xs + 1 = omega (arith, length-append xs (x ∷ []), slice_get_within (xs ++ x ∷ []) k y is) in
    at_push_of xs x k y within is

pub slice_get-set_same : {A : Type 0} (xs : List A) (i : ℕ) (v : A) → i < length xs → slice_get (set xs i v) i ≡ Some v
slice_get-set_same xs i v within = grind (arith, common_steps, gets)

pub slice_get-set_other : {A : Type 0} (xs : List A) (i j : ℕ) (v : A) → j ≢ i → slice_get (set xs i v) j ≡ slice_get xs j
slice_get-set_other xs i j v other = grind (arith, common_steps, gets)

-- one more of the front
pub take_push : {A : Type 0} (xs : List A) (k : ℕ) (x : A) → slice_get xs k ≡ Some x → take (k + 1) xs ≡ take k xs ++ x ∷ []
take_push xs k x at = grind (arith, common_steps, gets, at, slice_get_within xs k x at)
