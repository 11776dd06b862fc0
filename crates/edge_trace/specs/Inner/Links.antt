-- How edges follow one another.
use Rattle.std.specs.Prelude.{◌≡◌, ℕ, zero, suc, ◌+◌, ◌-◌, ◌*◌, ◌/◌, ◌%◌, ◌^◌, ◌<◌, ◌≤◌, ◌⊎◌, List, [], ◌∷◌, Some, length, slice_get}
use Rattle.edge_trace.specs.declared.links.Turns.{Turns}
use Rattle.edge_trace.specs.declared.links.TurnSteps.{TurnSteps}
use Rattle.edge_trace.specs.declared.links.Window.{Window}

-- from a side to the side that goes on from its end to the right, straight on and to the left, by their numbers: round
-- the cell ahead on the right, the cell ahead on the left, and the cell itself

abbrev pub IsRight : ℕ → ℕ → ℕ → ℕ → Type 0
IsRight stride zero x t = t + 1 ≡ x + 4 * stride
IsRight stride (suc zero) x t = t ≡ x + 4 * stride + 3
IsRight stride (suc (suc zero)) x t = t + 4 * stride ≡ x + 3
IsRight stride (suc (suc (suc side))) x t = t + 4 * stride + 5 ≡ x

abbrev pub IsStraight : ℕ → ℕ → ℕ → ℕ → Type 0
IsStraight stride zero x t = t ≡ x + 4 * stride
IsStraight stride (suc zero) x t = t ≡ x + 4
IsStraight stride (suc (suc zero)) x t = t + 4 * stride ≡ x
IsStraight stride (suc (suc (suc side))) x t = t + 4 ≡ x

abbrev pub IsLeft : ℕ → ℕ → ℕ → Type 0
IsLeft zero x t = t ≡ x + 1
IsLeft (suc zero) x t = t ≡ x + 1
IsLeft (suc (suc zero)) x t = t ≡ x + 1
IsLeft (suc (suc (suc side))) x t = t + 3 ≡ x

pub record AreTurns (stride x : ℕ) (turns : Turns) : Type 0 where
  pub right : IsRight stride (x % 4) x turns.right
  pub straight : IsStraight stride (x % 4) x turns.straight
  pub left : IsLeft (x % 4) x turns.left

-- each number leaves room for those round it
abbrev pub AreRoomy : ℕ → List ℕ → Type 0
AreRoomy stride numbers = (i x : ℕ) → slice_get numbers i ≡ Some x → (4 * stride + 4 ≤ x) × (x + 8 * stride + 8 < 4294967296)

-- the number stands there, and the component beside it; or nowhere; or there if anywhere
abbrev pub IsThere : List ℕ → List ℕ → ℕ → ℕ → ℕ → Type 0
IsThere numbers owners k x i = (slice_get numbers i ≡ Some x) × (slice_get owners i ≡ Some k)

abbrev pub IsIfThere : List ℕ → List ℕ → ℕ → ℕ → ℕ → Type 0
IsIfThere numbers owners k x j = (i : ℕ) → IsThere numbers owners k x i → i ≡ j

abbrev pub IsAbsent : List ℕ → List ℕ → ℕ → ℕ → Type 0
IsAbsent numbers owners k x = (i : ℕ) → ¬ IsThere numbers owners k x i

-- a way is 4 times the index to which it leads, and the side of a number: of one that stands there, and the component
-- beside it; or there if anywhere

abbrev pub IsWayTo : List ℕ → List ℕ → ℕ → ℕ → ℕ → Type 0
IsWayTo numbers owners k x way = IsThere numbers owners k x (way / 4) × (way % 4 ≡ x % 4)

abbrev pub IsWayIfThere : List ℕ → List ℕ → ℕ → ℕ → ℕ → Type 0
IsWayIfThere numbers owners k x way = IsIfThere numbers owners k x (way / 4) × (way % 4 ≡ x % 4)

-- the way to the side to the right, else to the one straight on, else to the one to the left
abbrev pub IsFollower : List ℕ → List ℕ → ℕ → Turns → ℕ → Type 0
IsFollower numbers owners k turns way = IsWayTo numbers owners k turns.right way
    ⊎ (IsAbsent numbers owners k turns.right × (IsWayTo numbers owners k turns.straight way
    ⊎ (IsAbsent numbers owners k turns.straight × IsWayIfThere numbers owners k turns.left way)))

-- the side at the index is followed by that to which the way leads
abbrev pub Follows : ℕ → List ℕ → List ℕ → ℕ → ℕ → Type 0
Follows stride numbers owners i way = (x k : ℕ) → slice_get numbers i ≡ Some x → slice_get owners i ≡ Some k
    → (turns : Turns) × AreTurns stride x turns × IsFollower numbers owners k turns way

-- each side of a first part is followed by the one to which its way leads
pub record AreFollowed (stride : ℕ) (numbers owners ways : List ℕ) : Type 0 where
  pub within : length ways ≤ length numbers
  pub follows : (i way : ℕ) → slice_get ways i ≡ Some way → Follows stride numbers owners i way

-- what to add to a side's number, and then to take off, for the numbers of its turns
pub record AreTurnSteps (stride : ℕ) (steps : TurnSteps) : Type 0 where
  pub off : steps.off ≡ 4 * stride + 5
  pub right : steps.right ≡ (8 * stride + 4) ∷ (8 * stride + 8) ∷ 8 ∷ 0 ∷ []
  pub straight : steps.straight ≡ (8 * stride + 5) ∷ (4 * stride + 9) ∷ 5 ∷ (4 * stride + 1) ∷ []
  pub left : steps.left ≡ (4 * stride + 6) ∷ (4 * stride + 6) ∷ (4 * stride + 6) ∷ (4 * stride + 2) ∷ []

abbrev pub IsPowerOfTwo : ℕ → Type 0
IsPowerOfTwo n = (bits : ℕ) × (n ≡ 2 ^ bits) × (bits < 32)

-- a power of two of slots, each with an index
pub record AreSlots (numbers slots : List ℕ) : Type 0 where
  pub power : IsPowerOfTwo (length slots)
  pub inside : (i j : ℕ) → slice_get slots i ≡ Some j → j < length numbers

-- of the numbers from this one on, those before an index stand in their slots
abbrev pub AreNoted : List ℕ → List ℕ → ℕ → ℕ → Type 0
AreNoted numbers slots low filled = (j x : ℕ) → j < filled → slice_get numbers j ≡ Some x → low ≤ x
    → slice_get slots (x % length slots) ≡ Some j

-- the numbers before an index are below a bound, and no other
pub record IsCut (numbers : List ℕ) (bound at : ℕ) : Type 0 where
  pub within : at ≤ length numbers
  pub early : (j x : ℕ) → j < at → slice_get numbers j ≡ Some x → x < bound
  pub late : (j x : ℕ) → at ≤ j → slice_get numbers j ≡ Some x → bound ≤ x

-- the numbers from one bound up to another stand in their slots
pub record IsWindow (numbers : List ℕ) (window : Window) : Type 0 where
  pub slots : AreSlots numbers window.slots.items
  pub gone : IsCut numbers window.low window.gone
  pub filled : IsCut numbers window.high window.filled
  pub noted : AreNoted numbers window.slots.items window.low window.filled
  pub narrow : window.high ≤ window.low + length window.slots.items

-- the bounds are these now
pub record Moves (low high : ℕ) (old new : Window) : Type 0 where
  pub low_is : new.low ≡ low
  pub high_is : new.high ≡ high
  pub sized : length new.slots.items ≡ length old.slots.items

-- the numbers round the one at an index stand in their slots
abbrev pub AreFoundFrom : ℕ → List ℕ → List ℕ → ℕ → Type 0
AreFoundFrom stride numbers slots e = (x i t : ℕ) → slice_get numbers e ≡ Some x → slice_get numbers i ≡ Some t
    → x ≤ t + (4 * stride + 5) → t ≤ x + (4 * stride + 3) → slice_get slots (t % length slots) ≡ Some i

-- the sides of a row begin at this index and end at this bound, and the window reaches over the rows beside
pub record IsRowOf (stride : ℕ) (numbers : List ℕ) (window : Window) (end at : ℕ) : Type 0 where
  pub here : ℕ
  pub end_is : end ≡ here + 4 * stride
  pub begins : IsCut numbers here at
  pub low : window.low ≤ here - (4 * stride + 5)
  pub high : here + (8 * stride + 4) ≤ window.high

-- the numbers are those of so many rows
abbrev pub AreInRows : ℕ → ℕ → List ℕ → Type 0
AreInRows stride nrows numbers = (i x : ℕ) → slice_get numbers i ≡ Some x
    → (4 * stride ≤ x) × (x < (nrows + 1) * (4 * stride))
