-- Walks along followers.
use Rattle.std.specs.Prelude.{◌≡◌, ℕ, ◌<◌, ◌⊎◌, ◌↔◌, Bool, true, List, ◌∷◌, ◌++◌, Some, AllPairs, Contains, length, slice_get, take}
use Rattle.contour_segments.specs.Segments.{ComesBefore}
use Rattle.contour_segments.specs.declared.segment.Segment.{Segment}
use Rattle.contour_chain.specs.Contours.{ends_of}
use Rattle.contour_chain.specs.Lines.{IsClosed, StartsBefore}
use Rattle.contour_chain.specs.Inner.Links.{HeadIn, IsLineOf}

-- a line of these segments
abbrev pub IsContour : List Segment → List Segment → Type 0
IsContour segments line = IsLineOf ends_of ComesBefore segments line

-- it begins with the segment at an index
abbrev pub IsLineFrom : List Segment → ℕ → List Segment → Type 0
IsLineFrom segments first line = IsContour segments line × (slice_get line 0 ≡ slice_get segments first)

-- some line does
abbrev pub BeginsLine : List Segment → ℕ → Type 0
BeginsLine segments first = (first < length segments) × ((line : List Segment) × IsLineFrom segments first line)

-- the segments of a line are taken, besides those that were
pub record Takes (segments line : List Segment) (old new : List Bool) : Type 0 where
  pub sized : length new ≡ length old
  pub each : (k : ℕ) (s : Segment) → slice_get segments k ≡ Some s → (slice_get new k ≡ Some true) ↔ ((slice_get old k ≡ Some true) ⊎ Contains line s)

-- just the segments on the lines are taken
pub record AreTaken (segments : List Segment) (lines : List (List Segment)) (taken : List Bool) : Type 0 where
  pub sized : length taken ≡ length segments
  pub each : (k : ℕ) (s : Segment) → slice_get segments k ≡ Some s → (slice_get taken k ≡ Some true) ↔ ((line : List Segment) × Contains lines line × Contains line s)

-- the lines are the open ones that begin with one of the first segments, so many, in their order
pub record Opens (segments : List Segment) (n : ℕ) (lines : List (List Segment)) : Type 0 where
  pub are : (line : List Segment) → Contains lines line → IsContour segments line × (¬ IsClosed ends_of line) × HeadIn (take n segments) line
  pub every : (line : List Segment) → IsContour segments line → (¬ IsClosed ends_of line) → HeadIn (take n segments) line → Contains lines line
  pub order : AllPairs (StartsBefore ComesBefore) lines

-- and these are the closed ones
pub record Closes (segments : List Segment) (n : ℕ) (lines : List (List Segment)) : Type 0 where
  pub are : (line : List Segment) → Contains lines line → IsContour segments line × IsClosed ends_of line × HeadIn (take n segments) line
  pub every : (line : List Segment) → IsContour segments line → IsClosed ends_of line → HeadIn (take n segments) line → Contains lines line
  pub order : AllPairs (StartsBefore ComesBefore) lines

-- the segment at an index comes next on a walk, which is the beginning of a line
pub record IsWalking (segments : List Segment) (first : ℕ) (line : List Segment) (at : ℕ) : Type 0 where
  pub next : Segment
  pub rest : List Segment
  pub stands : slice_get segments at ≡ Some next
  pub whole : IsLineFrom segments first (line ++ next ∷ rest)

-- one place of a list of marks is marked, besides those that were
pub record Marks (at : ℕ) (old new : List Bool) : Type 0 where
  pub sized : length new ≡ length old
  pub each : (k : ℕ) → (slice_get new k ≡ Some true) ↔ ((slice_get old k ≡ Some true) ⊎ ((k ≡ at) × (at < length old)))
