use Rattle.std.proofs.Common.{drop}
use Rattle.wkt_text.specs.Inner.Spelled.{IsWriting}
use Rattle.wkt_text.specs.Spelling.{path_text}
use Rattle.wkt_text.proofs.write.write_paths.Given as goal

abbrev pub invariant-members : goal.invariant-members
invariant-members l = IsWriting path_text l.paths l.fn.out.items l.out.items l.mark (drop l.member-index l.paths)
