-- Which segment follows which.
use Rattle.std.specs.Prelude.{◌≡◌, ◌≢◌, ℕ, ◌+◌, ◌<◌, ◌≤◌, ◌⊎◌, Bool, true, List, [], ◌∷◌, Option, Some, None, AllPairs, Contains, length, slice_get}
use Rattle.cell_base.specs.Raster.{Place}
use Rattle.cell_base.specs.Order.{IsBefore}
use Rattle.contour_segments.specs.Segments.{ComesBefore, cross_on}
use Rattle.contour_segments.specs.declared.segment.Cross.{Cross}
use Rattle.contour_segments.specs.declared.segment.Segment.{Segment}
use Rattle.contour_segments.specs.declared.side.Side.{Side}
use Rattle.contour_segments.specs.declared.side.Side.TheVariants.{Top, Right, Bottom, Left}
use Rattle.contour_chain.specs.Lines.{IsClosed, IsLine, IsLongest, StartsLeast}

abbrev pub cell_of : Segment → Place
cell_of s = (s.row, s.col)

-- the other lattice cell lies beyond this side
abbrev pub IsBeyond : Side → Place → Place → Type 0
IsBeyond Top p q = (q.0 + 1 ≡ p.0) × (q.1 ≡ p.1)
IsBeyond Right p q = (q.0 ≡ p.0) × (q.1 ≡ p.1 + 1)
IsBeyond Bottom p q = (q.0 ≡ p.0 + 1) × (q.1 ≡ p.1)
IsBeyond Left p q = (q.0 ≡ p.0) × (q.1 + 1 ≡ p.1)

-- the lattice cell beyond a side, if there can be one
abbrev pub IsBeyondIf : Side → Place → Option Place → Type 0
IsBeyondIf side p None = (q : Place) → ¬ IsBeyond side p q
IsBeyondIf side p (Some q) = IsBeyond side p q

-- the segments of a level: in order, at most two in a lattice cell, and each goes on in the lattice cell beyond the
-- side over which it goes out
pub record AreLinked (segments : List Segment) : Type 0 where
  pub order : AllPairs ComesBefore segments
  pub turns : (s : Segment) → Contains segments s → s.turn < 2
  pub goes : (s : Segment) → Contains segments s → (side : Side) × (s.to ≡ cross_on (cell_of s) side)
  pub on : (s t : Segment) (side : Side) → Contains segments s → Contains segments t → s.to ≡ cross_on (cell_of s) side → t.from ≡ s.to → IsBeyond side (cell_of s) (cell_of t)

-- the segments before this index lie in lattice cells before the place
abbrev pub AllBefore : List Segment → ℕ → Place → Type 0
AllBefore segments n place = (k : ℕ) (s : Segment) → k < n → slice_get segments k ≡ Some s → IsBefore (cell_of s) place

-- the segment at an index lies before the place, or starts at the crossing
abbrev pub Passes : List Segment → Place → ℕ → Type 0
Passes segments place n = (s : Segment) × (slice_get segments n ≡ Some s) × IsBefore (cell_of s) place

abbrev pub Starts : List Segment → Cross → ℕ → Type 0
Starts segments cross n = (s : Segment) × (slice_get segments n ≡ Some s) × (s.from ≡ cross)

-- it is the first index whose segment doesn't lie before the place
pub record IsFirstFrom (segments : List Segment) (place : Place) (n : ℕ) : Type 0 where
  pub within : n ≤ length segments
  pub before : AllBefore segments n place
  pub stops : (s : Segment) → slice_get segments n ≡ Some s → ¬ IsBefore (cell_of s) place

-- the segment that starts at a crossing stands at this index, or none does and the index is past the last
pub record StartsAt (segments : List Segment) (cross : Cross) (n : ℕ) : Type 0 where
  pub within : n ≤ length segments
  pub found : (s : Segment) → slice_get segments n ≡ Some s → s.from ≡ cross
  pub none : n ≡ length segments → (s : Segment) → Contains segments s → s.from ≢ cross

-- a segment that starts at the crossing lies in one lattice cell, and this is the first index whose segment doesn't
-- lie before it
pub record IsFirstAt (segments : List Segment) (cross : Cross) (n : ℕ) : Type 0 where
  pub place : Place
  pub first : IsFirstFrom segments place n
  pub here : (s : Segment) → Contains segments s → s.from ≡ cross → cell_of s ≡ place

-- each segment's follower, for a first part of them
pub record AreFollowers (segments : List Segment) (next : List ℕ) : Type 0 where
  pub within : length next ≤ length segments
  pub each : (i n : ℕ) (s : Segment) → slice_get next i ≡ Some n → slice_get segments i ≡ Some s → StartsAt segments s.to n

-- of the lattice cells beyond this side of segments from an index on, none lies at or before a passed segment
abbrev pub HasPassed : List Segment → Side → ℕ → ℕ → Type 0
HasPassed segments side from n = (j : ℕ) (t : Segment) (q : Place) → from ≤ j → slice_get segments j ≡ Some t → IsBeyond side (cell_of t) q → AllBefore segments n q

abbrev pub number_of : Side → ℕ
number_of Top = 0
number_of Right = 1
number_of Bottom = 2
number_of Left = 3

-- by side, so many segments have been passed
abbrev pub ArePassed : List Segment → ℕ → List ℕ → Type 0
ArePassed segments from passed = (side : Side) (n : ℕ) → slice_get passed (number_of side) ≡ Some n → (n ≤ length segments) × HasPassed segments side from n

-- a line of these links
pub record IsLineOf {A P : Type 0} (ends : A → P × P) (before : A → A → Type 0) (links line : List A) : Type 0 where
  pub run : IsLine ends line
  pub within : (s : A) → Contains line s → Contains links s
  pub once : AllPairs (λ s t. s ≢ t) line
  pub longest : ¬ IsClosed ends line → IsLongest ends links line
  pub least : IsClosed ends line → StartsLeast before line

-- by segment, whether it is another's follower
pub record AreMet (next : List ℕ) (met : List Bool) : Type 0 where
  pub sized : length met ≡ length next
  pub held : (i k : ℕ) → slice_get next k ≡ Some i → slice_get met i ≡ Some true ⊎ (length next ≤ i)
  pub marked : (i : ℕ) → slice_get met i ≡ Some true → (k : ℕ) × (slice_get next k ≡ Some i)

-- the first link of a line is one of these
abbrev pub HeadIn : {A : Type 0} → List A → List A → Type 0
HeadIn links [] = ⊥
HeadIn links (s ∷ ss) = Contains links s
