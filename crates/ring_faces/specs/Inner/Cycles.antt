-- The cycles of a table's links, by the numbers of edges.
use Rattle.std.specs.Prelude.{◌≡◌, ◌≢◌, ℕ, zero, suc, ◌<◌, ◌≤◌, ◌⊎◌, Bool, true, false, List, [], ◌∷◌, AllPairs, Contains, length, slice_index, slice_index_or}
use Rattle.std.specs.List.{flat_map}
use Rattle.ring_faces.specs.declared.cycles.Cycle.{Cycle}

-- the number that so many links lead to
abbrev pub number_after : List ℕ → ℕ → ℕ → ℕ
number_after next zero i = i
number_after next (suc n) i = number_after next n (slice_index next i)

-- so many numbers, each linked to the one after it
abbrev pub numbers_from : List ℕ → ℕ → ℕ → List ℕ
numbers_from next zero i = []
numbers_from next (suc n) i = i ∷ numbers_from next n (slice_index next i)

-- the numbers of a cycle's edges
abbrev pub numbers_of : List ℕ → Cycle → List ℕ
numbers_of next cycle = numbers_from next cycle.edges cycle.first

-- each number is linked to one, and no two to the same
pub record AreLinks (next : List ℕ) : Type 0 where
  pub below : (i : ℕ) → i < length next → slice_index next i < length next
  pub apart : (i j : ℕ) → i < length next → j < length next → slice_index next i ≡ slice_index next j → i ≡ j

-- the links lead round, through each number once
pub record IsRound (next : List ℕ) (cycle : Cycle) : Type 0 where
  pub some : 0 < cycle.edges
  pub ends : number_after next cycle.edges cycle.first ≡ cycle.first
  pub once : AllPairs (λ i j. i ≢ j) (numbers_of next cycle)
  pub below : (i : ℕ) → Contains (numbers_of next cycle) i → i < length next

-- the number is marked
abbrev pub IsMarked : List Bool → ℕ → Type 0
IsMarked marks i = slice_index_or marks i false ≡ true

abbrev pub IsFree : List Bool → ℕ → Type 0
IsFree marks i = slice_index_or marks i false ≡ false

-- a mark for each number, so that what is linked to a marked number is marked
pub record AreMarks (next : List ℕ) (marks : List Bool) : Type 0 where
  pub sized : length marks ≡ length next
  pub back : (i : ℕ) → i < length next → IsMarked marks (slice_index next i) → IsMarked marks i

-- these numbers were free and are marked, and all others are as they were
pub record MarksThese (numbers : List ℕ) (old new : List Bool) : Type 0 where
  pub sized : length new ≡ length old
  pub fresh : (i : ℕ) → Contains numbers i → IsFree old i
  pub marked : (i : ℕ) → Contains numbers i → IsMarked new i
  pub kept : (i : ℕ) → IsMarked old i → IsMarked new i
  pub only : (i : ℕ) → IsMarked new i → IsMarked old i ⊎ Contains numbers i

-- the numbers of all cycles
abbrev pub all_numbers : List ℕ → List Cycle → List ℕ
all_numbers next cycles = flat_map (numbers_of next) cycles

-- cycles in the order of their first numbers, each from its least, no two with a number in common
pub record AreCycles (next : List ℕ) (cycles : List Cycle) : Type 0 where
  pub round : (cycle : Cycle) → Contains cycles cycle → IsRound next cycle
  pub least : (cycle : Cycle) → Contains cycles cycle → (i : ℕ) → Contains (numbers_of next cycle) i
      → cycle.first ≤ i
  pub order : AllPairs (λ c d. c.first < d.first) cycles
  pub once : AllPairs (λ i j. i ≢ j) (all_numbers next cycles)

-- the cycles through the numbers below this one were found, and their numbers are the marked ones
pub record AreFound (next : List ℕ) (cycles : List Cycle) (marks : List Bool) (n : ℕ) : Type 0 where
  pub closed : AreMarks next marks
  pub are : AreCycles next cycles
  pub below : (i : ℕ) → i < n → IsMarked marks i
  pub firsts : (cycle : Cycle) → Contains cycles cycle → cycle.first < n
  pub held : (i : ℕ) → IsMarked marks i → Contains (all_numbers next cycles) i
  pub marked : (i : ℕ) → Contains (all_numbers next cycles) i → IsMarked marks i

-- all cycles
pub record AreAllCycles (next : List ℕ) (cycles : List Cycle) : Type 0 where
  pub are : AreCycles next cycles
  pub all : (i : ℕ) → i < length next → Contains (all_numbers next cycles) i
