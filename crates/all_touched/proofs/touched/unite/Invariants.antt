use Rattle.all_touched.specs.Inner.Pieces.{AreUnited}
use Rattle.all_touched.proofs.touched.unite.Given as goal

-- the pieces before this one are united
abbrev pub invariant-pieces : goal.invariant-pieces
invariant-pieces l = AreUnited l.pieces l.i l.row l.end l.runs
