use Rattle.std.proofs.Common.{drop}
use Rattle.wkt_text.specs.Inner.Spelled.{IsWriting}
use Rattle.wkt_text.specs.Spelling.{point_text}
use Rattle.wkt_text.proofs.write.write_path.Given as goal

abbrev pub invariant-members : goal.invariant-members
invariant-members l = IsWriting point_text l.path l.fn.out.items l.out.items l.mark (drop l.member-index l.path)
