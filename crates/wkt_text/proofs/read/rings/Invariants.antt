use Rattle.std.proofs.Common.{length}
use Rattle.wkt_text.specs.Grammar.{ring}
use Rattle.wkt_text.specs.Inner.Listed.{IsListing}
use Rattle.wkt_text.proofs.read.rings.Given as goal

abbrev pub invariant-members : goal.invariant-members
invariant-members l = IsListing ring l.initial.cursor l.cursor l.rings

abbrev pub decreases-members : goal.decreases-members
decreases-members l = length l.cursor.tokens
