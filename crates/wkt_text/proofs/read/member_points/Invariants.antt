use Rattle.std.proofs.Common.{length}
use Rattle.wkt_text.specs.Grammar.{member_point}
use Rattle.wkt_text.specs.Inner.Listed.{IsListing}
use Rattle.wkt_text.proofs.read.member_points.Given as goal

abbrev pub invariant-members : goal.invariant-members
invariant-members l = IsListing member_point l.initial.cursor l.cursor l.points

abbrev pub decreases-members : goal.decreases-members
decreases-members l = length l.cursor.tokens
