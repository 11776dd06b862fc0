use Rattle.std.proofs.Common.{◌≡◌, ◌<◌, Some, None, sym, ◌∙◌, arith}
use Rattle.std.proofs.lemmas.Option.{same_Some}
use Rattle.edge_trace.proofs.StretchLemmas.{free_stretch, open_before, open_end, read_number, read_run, run_numbered, run_stretch}
use Rattle.edge_trace.proofs.sides.stretch_from.Goals as goal

pub returns-then-ahead-clause-stretch : goal.returns-then-ahead-clause-stretch
returns-then-ahead-clause-stretch c = free_stretch c.args.regions.now c.args.ahead.row c.args.k c.args.col 4294967295 (omega (arith, c.requires.col)) (λ col from to. open_end c.args.regions.now c.args.table.now c.args.ahead c.args.k c.args.col col c.requires.lent c.requires.ahead c.if-ahead.true from)

pub returns-then-col-run-clause-stretch : goal.returns-then-col-run-clause-stretch
returns-then-col-run-clause-stretch c =
    let some : c.args.ahead.at < c.args.ahead.end = omega (arith, c.requires.ahead.order, c.if-ahead.false) in
    let at = read_run c.runs.result.now c.args.table.now.runs c.args.ahead.at c.runs.ensures.value (omega (arith, some, c.requires.ahead.within)) in
    free_stretch c.args.regions.now c.args.ahead.row c.args.k c.args.col _ c.if-col-run.true (λ col from to. open_before c.args.regions.now c.args.table.now c.args.ahead _ c.args.k c.args.col col c.requires.lent c.requires.ahead some at from to)

pub returns-in-Some-clause-stretch : goal.returns-in-Some-clause-stretch
returns-in-Some-clause-stretch c =
    let some : c.args.ahead.at < c.args.ahead.end = omega (arith, c.requires.ahead.order, c.if-ahead.false) in
    let at = read_run c.runs.result.now c.args.table.now.runs c.args.ahead.at c.runs.ensures.value (omega (arith, some, c.requires.ahead.within)) in
    let number = read_number c.components.result.now c.args.table.now.components c.args.ahead.at (Some c.in-Some.other) c.components.ensures (omega (arith, some, c.requires.ahead.within, c.requires.lent.numbered)) c.in-Some.is in
    run_stretch c.args.regions.now c.args.table.now c.args.ahead _ c.args.k c.in-Some.other c.args.col c.requires.lent at number (c.requires.ahead.row c.args.ahead.at _ (omega arith) some at) c.if-col-run.false (c.requires.past _ some at)

pub returns-in-None-clause-stretch : goal.returns-in-None-clause-stretch
returns-in-None-clause-stretch c =
    let some : c.args.ahead.at < c.args.ahead.end = omega (arith, c.requires.ahead.order, c.if-ahead.false) in
    let at = read_run c.runs.result.now c.args.table.now.runs c.args.ahead.at c.runs.ensures.value (omega (arith, some, c.requires.ahead.within)) in
    let number = read_number c.components.result.now c.args.table.now.components c.args.ahead.at None c.components.ensures (omega (arith, some, c.requires.ahead.within, c.requires.lent.numbered)) c.in-None.is in
    let numbered = run_numbered c.args.regions.now c.args.table.now c.args.ahead.at _ c.requires.lent at in
    let both : None ≡ Some numbered.0 = same_Some None (Some numbered.0) (sym number ∙ numbered.1) in
    absurd (let never : ⊥ = cc in never)
