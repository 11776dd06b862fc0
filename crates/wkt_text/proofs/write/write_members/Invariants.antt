use Rattle.std.proofs.Common.{drop}
use Rattle.wkt_text.specs.Inner.Spelled.{IsWriting}
use Rattle.wkt_text.specs.Spelling.{member_text}
use Rattle.wkt_text.proofs.write.write_members.Given as goal

abbrev pub invariant-members : goal.invariant-members
invariant-members l = IsWriting member_text l.points l.fn.out.items l.out.items l.mark (drop l.member-index l.points)
