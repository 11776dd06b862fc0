use Rattle.std.proofs.Common.{sym, subst}
use Rattle.all_touched.specs.Inner.Pieces.{AreInside}
use Rattle.all_touched.proofs.touched.touched_runs.Goals as goal

pub returns-clause-inside : goal.returns-clause-inside
returns-clause-inside c = c.in_ok-unite.ensures.within c.args.frame.now.nrows c.args.frame.now.ncols
    (subst (AreInside c.args.frame.now.nrows c.args.frame.now.ncols) (sym c.deref.ensures.value) c.in_ok-gather.ensures.inside)
