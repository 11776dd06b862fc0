use Rattle.std.proofs.Common.{arith, ◌-◌}
use Rattle.geo_transform.proofs.CornerLemmas.{between}
use Rattle.geo_transform.proofs.frame.Frame.corner.Goals as goal

pub along-requires-2 : goal.along-requires-2
along-requires-2 c =
    let f = c.args.self.now in
    between f.yll f.cell f.nrows (f.nrows - c.args.row) c.requires.frame.some_size (omega arith) c.requires.frame.lower c.requires.frame.upper
