use Rattle.std.proofs.Common.{◌≡◌, ℕ, subst, arith}
use Rattle.edge_trace.specs.Inner.Finding.{AreAround}
use Rattle.edge_trace.proofs.sides.Finding.put_run.Goals as goal

pub returns-clause-around : goal.returns-clause-around
returns-clause-around c =
    let done : c.loop-col.col ≡ c.args.run.to = omega (arith, c.loop-col.invariant.to, c.loop-col-test.false) in
    subst (λ (n : ℕ). AreAround c.args.table.now c.args.run.row n c.loop-col.around) done c.loop-col.invariant.around
