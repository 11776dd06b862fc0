-- The corners where a list of edges turns.
use Rattle.std.specs.Prelude.{◌≡◌, Bool, true, false, not, List, [], ◌∷◌, ◌++◌}
use Rattle.edge_trace.specs.Edge.{Corner, Edge, is_level}

-- the corner in front of the others, where the flags differ
abbrev pub at_turn : Bool → Bool → Corner → List Corner → List Corner
at_turn true true p ps = ps
at_turn false false p ps = ps
at_turn true false p ps = p ∷ ps
at_turn false true p ps = p ∷ ps

-- the corner where an edge begins was added, if the edge isn't on this way
abbrev pub AddsTurn : Edge → Bool → List Corner → List Corner → Type 0
AddsTurn e level old new = (ps : List Corner) → new ++ ps ≡ old ++ at_turn level (is_level e) e.0 ps

-- the starts of those edges whose direction isn't that of the edge before
abbrev pub turns_after : Bool → List Edge → List Corner
turns_after level [] = []
turns_after level (e ∷ es) = at_turn level (is_level e) e.0 (turns_after (is_level e) es)

-- of a closed list that begins at a turn
abbrev pub turns_of : List Edge → List Corner
turns_of [] = []
turns_of (e ∷ es) = turns_after (not (is_level e)) (e ∷ es)
