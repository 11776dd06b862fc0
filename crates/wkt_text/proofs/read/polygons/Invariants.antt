use Rattle.std.proofs.Common.{length}
use Rattle.wkt_text.specs.Grammar.{polygon}
use Rattle.wkt_text.specs.Inner.Listed.{IsListing}
use Rattle.wkt_text.proofs.read.polygons.Given as goal

abbrev pub invariant-members : goal.invariant-members
invariant-members l = IsListing polygon l.initial.cursor l.cursor l.polygons

abbrev pub decreases-members : goal.decreases-members
decreases-members l = length l.cursor.tokens
