use Rattle.std.proofs.Common.{refl, arith}
use Rattle.cell_base.proofs.PlaceLemmas.{element_at}
use Rattle.sieve_core.specs.declared.targets.Target.TheVariants.{Unknown}
use Rattle.sieve_core.proofs.ChainLemmas.{read_at}
use Rattle.sieve_core.proofs.NeighbourLemmas.{read_number, read_run}
use Rattle.sieve_core.proofs.ValueLemmas.{first_inside, number_read, written_else, written_own, written_taken}
use Rattle.sieve_core.proofs.sieving.write_run.Goals as goal

pub returns-in_default-clause-written : goal.returns-in_default-clause-written
returns-in_default-clause-written g c = λ old written.
    let run = element_at c.args.table.now.runs c.args.i c.requires.i in
    absurd (number_read c.args.regions.now c.args.table.now c.components.result.now c.args.i run.0 c.requires.lent c.components.ensures run.1 c.in_default.not-Some)

pub returns-in_default-targets : goal.returns-in_default-targets
returns-in_default-targets g c = record {
  shape = c.requires.shape;
  cols = refl;
  rows = refl;
  written = λ old written.
      let run = element_at c.args.table.now.runs c.args.i c.requires.i in
      let number = read_number c.components.result.now c.args.table.now.components c.args.i c.in-Some.k c.components.ensures (omega (arith, c.requires.lent.numbered, c.requires.i)) c.in-Some.is in
      written_else c.args.regions.now c.args.table.now c.args.targets.now old c.args.cells.now c.args.i c.in-Some.k run.0 Unknown c.requires.lent c.requires.firsts written run.1 number c.in_default-targets.not-Takes;
}

pub returns-then-other-k-clause-written : goal.returns-then-other-k-clause-written
returns-then-other-k-clause-written g c = λ old written.
    let run = element_at c.args.table.now.runs c.args.i c.requires.i in
    let number = read_number c.components.result.now c.args.table.now.components c.args.i c.in-Some.k c.components.ensures (omega (arith, c.requires.lent.numbered, c.requires.i)) c.in-Some.is in
    let known = c.requires.lent.known c.args.i c.in-Some.k number in
    let target = read_at c.args.targets.now c.in-Some.k _ _ (omega (arith, known, c.requires.targets.long)) c.in-Takes.is in
    written_own c.args.regions.now c.args.table.now c.args.targets.now old c.args.cells.now c.args.i c.in-Some.k c.in-Takes.other run.0 c.requires.lent c.requires.firsts written run.1 number target c.if-other-k.true

pub first-row-requires : goal.first-row-requires
first-row-requires g c =
    let number = read_number c.components.result.now c.args.table.now.components c.args.i c.in-Some.k c.components.ensures (omega (arith, c.requires.lent.numbered, c.requires.i)) c.in-Some.is in
    let known = c.requires.lent.known c.args.i c.in-Some.k number in
    let target = read_at c.args.targets.now c.in-Some.k _ _ (omega (arith, known, c.requires.targets.long)) c.in-Takes.is in
    c.requires.targets.below c.in-Some.k c.in-Takes.other target

pub get-value-requires-clause-row : goal.get-value-requires-clause-row
get-value-requires-clause-row g c = omega (arith, (first_inside c.args.regions.now c.in-Takes.other c.first-row.result c.requires.firsts c.requires.numbers c.first-row.ensures).0, c.requires.rows)

pub get-value-requires-clause-col : goal.get-value-requires-clause-col
get-value-requires-clause-col g c = omega (arith, (first_inside c.args.regions.now c.in-Takes.other c.first-row.result c.requires.firsts c.requires.numbers c.first-row.ensures).1, c.requires.cols)

pub write_cells-requires-clause-row : goal.write_cells-requires-clause-row
write_cells-requires-clause-row g c =
    let at = read_run c.runs.result.now c.args.table.now.runs c.args.i c.runs.ensures.value c.requires.i in
    omega (arith, (c.runs.ensures.inside.inside c.args.i _ at).0, c.requires.lent.nrows, c.requires.rows)

pub write_cells-requires-clause-some : goal.write_cells-requires-clause-some
write_cells-requires-clause-some g c =
    let at = read_run c.runs.result.now c.args.table.now.runs c.args.i c.runs.ensures.value c.requires.i in
    omega (arith, (c.runs.ensures.inside.inside c.args.i _ at).1)

pub write_cells-requires-clause-cols : goal.write_cells-requires-clause-cols
write_cells-requires-clause-cols g c =
    let at = read_run c.runs.result.now c.args.table.now.runs c.args.i c.runs.ensures.value c.requires.i in
    omega (arith, (c.runs.ensures.inside.inside c.args.i _ at).2, c.requires.lent.ncols, c.requires.cols)

pub returns-clause-written : goal.returns-clause-written
returns-clause-written g c = λ old written.
    let number = read_number c.components.result.now c.args.table.now.components c.args.i c.in-Some.k c.components.ensures (omega (arith, c.requires.lent.numbered, c.requires.i)) c.in-Some.is in
    let known = c.requires.lent.known c.args.i c.in-Some.k number in
    let target = read_at c.args.targets.now c.in-Some.k _ _ (omega (arith, known, c.requires.targets.long)) c.in-Takes.is in
    let at = read_run c.runs.result.now c.args.table.now.runs c.args.i c.runs.ensures.value c.requires.i in
    written_taken _ c.args.regions.now c.args.table.now c.args.st c.args.targets.now old c.args.cells.now c.write_cells.new.cells c.args.i c.in-Some.k c.in-Takes.other _ c.first-row.result c.get-value.result c.requires.lent c.requires.firsts c.requires.targets written at number target c.first-row.ensures c.get-value.ensures c.write_cells.ensures
