-- How many members a set has.
use Rattle.std.specs.Prelude.{◌≡◌, ◌≢◌, ℕ, ◌↔◌, List, length, AllPairs, Contains}

-- the list holds each member of the set once, and nothing else
pub record IsListOf {A : Type 0} (set : A → Type 0) (members : List A) : Type 0 where
  pub all : (x : A) → Contains members x ↔ set x
  pub once : AllPairs (λ x y. x ≢ y) members

-- the set has this many members
abbrev pub HasCount : {A : Type 0} → (A → Type 0) → ℕ → Type 0
HasCount {A} set n = (members : List A) × IsListOf set members × (length members ≡ n)
