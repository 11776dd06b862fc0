-- Corners that are gathered in a block before they come to a list.
use Rattle.std.specs.Prelude.{◌≡◌, ℕ, ◌<◌, ◌≤◌, ◌++◌, List, length, take}
use Rattle.edge_trace.specs.Edge.{Corner}
use Rattle.ring_faces.specs.Inner.Lattice.{corners_of}
use Rattle.ring_faces.specs.declared.turns.TurnBlock.{TurnBlock}

-- the numbers of the corners that a block holds
abbrev pub held : TurnBlock → List ℕ
held block = take block.count block.corners.items

-- those of a list, and behind them those of a block
abbrev pub gathered : List ℕ → TurnBlock → List ℕ
gathered corners block = corners ++ held block

-- their corners
abbrev pub gathered_corners : ℕ → List ℕ → TurnBlock → List Corner
gathered_corners width corners block = corners_of width (gathered corners block)

-- a block has room, and holds no more than that
pub record IsBlock (block : TurnBlock) : Type 0 where
  pub some : 0 < length block.corners.items
  pub within : block.count ≤ length block.corners.items

pub record IsEmptyBlock (block : TurnBlock) : Type 0 where
  pub some : 0 < length block.corners.items
  pub none : block.count ≡ 0
