-- What was appended of a text.
use Rattle.std.specs.Prelude.{◌≡◌, ℕ, List, ◌++◌}

-- the text was appended but for what is left of it
abbrev pub Appends : List ℕ → List ℕ → List ℕ → List ℕ → Type 0
Appends before now text left = (done : List ℕ) × (text ≡ done ++ left) × (now ≡ before ++ done)

-- a first part of the text was appended, which may be none or all of it
abbrev pub AppendsPart : List ℕ → List ℕ → List ℕ → Type 0
AppendsPart before now text = (left : List ℕ) × Appends before now text left
