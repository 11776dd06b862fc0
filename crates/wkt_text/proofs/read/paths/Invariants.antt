use Rattle.std.proofs.Common.{length}
use Rattle.wkt_text.specs.Grammar.{path}
use Rattle.wkt_text.specs.Inner.Listed.{IsListing}
use Rattle.wkt_text.proofs.read.paths.Given as goal

abbrev pub invariant-members : goal.invariant-members
invariant-members l = IsListing path l.initial.cursor l.cursor l.paths

abbrev pub decreases-members : goal.decreases-members
decreases-members l = length l.cursor.tokens
