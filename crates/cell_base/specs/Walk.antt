-- Walks, and what is joined inside a set of cells.
use Rattle.std.specs.Prelude.{◌≡◌, Bool, List, [], ◌∷◌}
use Rattle.cell_base.specs.Raster.{Place}
use Rattle.cell_base.specs.Steps.{IsStep}

-- a walk: from the first by one step after another through the list, whose last is the end
abbrev pub IsWalk : {A : Type 0} → (A → A → Type 0) → A → List A → A → Type 0
IsWalk step a [] b = a ≡ b
IsWalk step a (c ∷ cs) b = step a c × IsWalk step c cs b

-- a step of the connectivity to a cell of the set
abbrev pub StepsInto : Bool → (Place → Type 0) → Place → Place → Type 0
StepsInto connectivity set a b = IsStep connectivity a b × set b

-- a list of cells leads from the one to the other, all in the set, each one step from the cell before it
abbrev pub IsJoined : Bool → (Place → Type 0) → Place → Place → Type 0
IsJoined connectivity set a b = set a × (walk : List Place) × IsWalk (StepsInto connectivity set) a walk b

-- the cells of the set are joined among themselves
abbrev pub IsConnected : Bool → (Place → Type 0) → Type 0
IsConnected connectivity set = (a b : Place) → set a → set b → IsJoined connectivity set a b
