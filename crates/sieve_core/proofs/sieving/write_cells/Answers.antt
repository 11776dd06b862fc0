use Rattle.std.proofs.Common.{◌≡◌, arith}
use Rattle.sieve_core.proofs.ValueLemmas.{writes_none, writes_on}
use Rattle.sieve_core.proofs.sieving.write_cells.Goals as goal

pub loop-col-init : goal.loop-col-init
loop-col-init g c = writes_none c.args.run.row c.args.run.from c.args.value c.args.cells.now c.requires.shape

pub loop-col-preserved : goal.loop-col-preserved
loop-col-preserved g c = writes_on c.args.run.row c.args.run.from c.loop-col.col c.args.value c.args.cells.now c.loop-col.cells c.set.new.self (omega arith) c.loop-col.invariant c.set.ensures

pub returns : goal.returns
returns g c =
    let end : c.loop-col.col ≡ c.args.run.to = omega arith in
    rw end at c.loop-col.invariant
