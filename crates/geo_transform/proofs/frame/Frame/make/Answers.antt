use Rattle.std.proofs.Common.{sym}
use Rattle.std.proofs.lemmas.Result.{err_from_is_err_and}
use Rattle.geo_transform.specs.Layout.{Layout, square_layout}
use Rattle.geo_transform.proofs.FaultLemmas.{refused}
use Rattle.geo_transform.proofs.frame.Frame.make.Goals as goal

pub returns-in_err-check_size-clause-answer : goal.returns-in_err-check_size-clause-answer
returns-in_err-check_size-clause-answer c =
    let l : Layout = square_layout c.args.ncols c.args.nrows c.args.xll c.args.yll c.args.cell in
    let p = err_from_is_err_and c.from_residual.result c.from_residual.ensures.1 in
    rw (p.1, p.2) (sym (refused l _ (c.in_err-check_size.ensures.fault l (sym c.from.ensures) (sym c.from-2.ensures))))
