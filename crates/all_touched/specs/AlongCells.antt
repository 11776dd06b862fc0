-- Edges that run along the sides of cells. This project's own.
use Rattle.std.specs.Prelude.{◌≡◌, ◌⊎◌, ℕ}
use Rattle.geo_transform.specs.Corner.{corner_of}
use Rattle.geo_transform.specs.declared.frame.Frame.{Frame}
use Rattle.burn_scanline.specs.Ring.{Edge}

-- both ends lie on the line of a column's left side
pub record IsUpright (frame : Frame) (edge : Edge) : Type 0 where
  pub col : ℕ
  pub start : edge.0.x ≡ (corner_of frame 0 col).0
  pub end : edge.1.x ≡ (corner_of frame 0 col).0

-- both ends lie on the line of a row's upper side
pub record IsLevel (frame : Frame) (edge : Edge) : Type 0 where
  pub row : ℕ
  pub start : edge.0.y ≡ (corner_of frame row 0).1
  pub end : edge.1.y ≡ (corner_of frame row 0).1

-- an edge runs along the sides of cells
abbrev pub IsAlongCells : Frame → Edge → Type 0
IsAlongCells frame edge = IsUpright frame edge ⊎ IsLevel frame edge
