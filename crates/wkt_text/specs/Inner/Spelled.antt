-- How a list is written, member after member.
use Rattle.std.specs.Prelude.{◌≡◌, ◌<◌, ℕ, List, [], ◌∷◌, ◌++◌, All, length, take}
use Rattle.wkt_text.specs.declared.geometry.Pt.{Pt}
use Rattle.wkt_text.specs.Spelling.{list_text}

-- what is left to write of a list: each member with a mark in front of it, and the closing parenthesis
abbrev pub rest_text : {A : Type 0} → (A → List ℕ) → ℕ → List A → List ℕ
rest_text text mark [] = 41 ∷ []
rest_text text mark (member ∷ members) = mark ∷ (text member ++ rest_text text 44 members)

-- what was written of the text of these members behind what was there, and what is left
pub record IsWriting {A : Type 0} (text : A → List ℕ) (members : List A) (before now : List ℕ) (mark : ℕ) (left : List A) : Type 0 where
  pub whole : now ++ rest_text text mark left ≡ before ++ list_text text members
  pub front : take (length before) now ≡ before

-- paths, at least one, each of at least one point
pub record IsFull (paths : List (List Pt)) : Type 0 where
  pub some : 0 < length paths
  pub each : All (λ path. 0 < length path) paths
