-- Lines of links. A link leads from a point to a point; `ends` tells its start and its end. This project's own.
use Rattle.std.specs.Prelude.{◌≡◌, ◌≢◌, ◌↔◌, List, [], ◌∷◌, All, AllPairs, Contains}
use Rattle.std.specs.List.{flat_map}

-- at each point at most one link starts, and at most one ends
pub record AreLinks {A P : Type 0} (ends : A → P × P) (links : List A) : Type 0 where
  pub starts : AllPairs (λ s t. (ends s).0 ≢ (ends t).0) links
  pub stops : AllPairs (λ s t. (ends s).1 ≢ (ends t).1) links

-- after the first link come these: each starts where the one before it ends
abbrev pub LeadsOn : {A P : Type 0} → (A → P × P) → A → List A → Type 0
LeadsOn ends s [] = Unit {0}
LeadsOn ends s (t ∷ ts) = ((ends t).0 ≡ (ends s).1) × LeadsOn ends t ts

-- where the last of them ends
abbrev pub end_of : {A P : Type 0} → (A → P × P) → A → List A → P
end_of ends s [] = (ends s).1
end_of ends s (t ∷ ts) = end_of ends t ts

-- a line isn't empty, and each of its links starts where the one before it ends
abbrev pub IsLine : {A P : Type 0} → (A → P × P) → List A → Type 0
IsLine ends [] = ⊥
IsLine ends (s ∷ ss) = LeadsOn ends s ss

-- a closed line ends where it starts; any other is open
abbrev pub IsClosed : {A P : Type 0} → (A → P × P) → List A → Type 0
IsClosed ends [] = ⊥
IsClosed ends (s ∷ ss) = end_of ends s ss ≡ (ends s).0

-- the line can't be made longer: no link ends where it starts, and none starts where it ends
abbrev pub IsLongest : {A P : Type 0} → (A → P × P) → List A → List A → Type 0
IsLongest ends links [] = ⊥
IsLongest {A} ends links (s ∷ ss) = (t : A) → Contains links t → ((ends t).1 ≢ (ends s).0) × ((ends t).0 ≢ end_of ends s ss)

-- the line starts at its least link
abbrev pub StartsLeast : {A : Type 0} → (A → A → Type 0) → List A → Type 0
StartsLeast before [] = ⊥
StartsLeast {A} before (s ∷ ss) = (t : A) → Contains ss t → before s t

-- the first link of the one line comes before that of the other
abbrev pub StartsBefore : {A : Type 0} → (A → A → Type 0) → List A → List A → Type 0
StartsBefore before [] h = ⊥
StartsBefore before (s ∷ ss) [] = ⊥
StartsBefore before (s ∷ ss) (t ∷ ts) = before s t

-- open lines come before closed ones, and lines of one kind in the order of their first links
pub record ComesFirst {A P : Type 0} (ends : A → P × P) (before : A → A → Type 0) (g h : List A) : Type 0 where
  pub kinds : IsClosed ends g → IsClosed ends h
  pub order : IsClosed ends g ↔ IsClosed ends h → StartsBefore before g h

-- the lines that links make: each link stands in just one of them, once; open ones can't be made longer, and closed
-- ones start at their least link
pub record AreLines {A P : Type 0} (ends : A → P × P) (before : A → A → Type 0) (links : List A) (lines : List (List A)) : Type 0 where
  pub all : (s : A) → Contains (flat_map (λ line. line) lines) s ↔ Contains links s
  pub once : AllPairs (λ s t. s ≢ t) (flat_map (λ line. line) lines)
  pub runs : All (IsLine ends) lines
  pub longest : All (λ line. ¬ IsClosed ends line → IsLongest ends links line) lines
  pub least : All (λ line. IsClosed ends line → StartsLeast before line) lines
  pub order : AllPairs (ComesFirst ends before) lines

-- it has this, and no other has it
abbrev pub IsOnly : {A : Type 0} → (A → Type 0) → A → Type 0
IsOnly {A} P x = P x × ((y : A) → P y → y ≡ x)

-- the links make exactly one list of lines
abbrev pub HaveOneListOfLines : {A P : Type 0} → (A → P × P) → (A → A → Type 0) → List A → Type 0
HaveOneListOfLines {A} ends before links = (lines : List (List A)) × IsOnly (AreLines ends before links) lines
