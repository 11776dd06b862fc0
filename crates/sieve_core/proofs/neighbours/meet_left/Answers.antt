use Rattle.std.proofs.Common.{◌≡◌, ◌+◌, ◌-◌, ℕ, inl, sym, subst, arith}
use Rattle.sieve_core.specs.Inner.Neighbours.{HaveMet}
use Rattle.sieve_core.proofs.NeighbourLemmas.{left_is, near_of_next, read_run}
use Rattle.sieve_core.proofs.neighbours.meet_left.Goals as goal

pub returns-then-left-run-clause-met : goal.returns-then-left-run-clause-met
returns-then-left-run-clause-met g c =
    let table = c.args.table.now in
    let one : (c.args.i - 1) + 1 ≡ c.args.i = omega (arith, c.if-i-eq0.false) in
    let at_left = read_run c.runs-runs.result.now table.runs (c.args.i - 1) c.runs-runs.ensures.value (omega (arith, c.requires.i)) in
    let at_run = read_run c.runs-runs.result.now table.runs c.args.i c.runs-runs.ensures.value c.requires.i in
    λ j a b at_a at_b row comes.
    let is = left_is _ c.args.regions.now table c.args.i j (c.args.i - 1) a b _ _ c.requires.lent at_a at_b row comes one at_left at_run in
    absurd (c.if-left-run.true (sym is.1))

pub returns-then-left-run-2-clause-met : goal.returns-then-left-run-2-clause-met
returns-then-left-run-2-clause-met g c =
    let table = c.args.table.now in
    let one : (c.args.i - 1) + 1 ≡ c.args.i = omega (arith, c.if-i-eq0.false) in
    let at_left = read_run c.runs-runs.result.now table.runs (c.args.i - 1) c.runs-runs.ensures.value (omega (arith, c.requires.i)) in
    let at_run = read_run c.runs-runs.result.now table.runs c.args.i c.runs-runs.ensures.value c.requires.i in
    λ j a b at_a at_b row comes.
    let is = left_is _ c.args.regions.now table c.args.i j (c.args.i - 1) a b _ _ c.requires.lent at_a at_b row comes one at_left at_run in
    absurd (c.if-left-run-2.true (sym is.2))

pub meet-requires-clause-near : goal.meet-requires-clause-near
meet-requires-clause-near g c =
    let table = c.args.table.now in
    let at_left = read_run c.runs-runs.result.now table.runs (c.args.i - 1) c.runs-runs.ensures.value (omega (arith, c.requires.i)) in
    let at_run = read_run c.runs-runs.result.now table.runs c.args.i c.runs-runs.ensures.value c.requires.i in
    near_of_next _ c.args.regions.now table (c.args.i - 1) c.args.i _ _ c.requires.lent at_left at_run (inl (sym c.if-left-run.false, sym c.if-left-run-2.false))

pub returns-clause-met : goal.returns-clause-met
returns-clause-met g c =
    let table = c.args.table.now in
    let one : (c.args.i - 1) + 1 ≡ c.args.i = omega (arith, c.if-i-eq0.false) in
    let at_left = read_run c.runs-runs.result.now table.runs (c.args.i - 1) c.runs-runs.ensures.value (omega (arith, c.requires.i)) in
    let at_run = read_run c.runs-runs.result.now table.runs c.args.i c.runs-runs.ensures.value c.requires.i in
    λ j a b at_a at_b row comes.
    let is = left_is _ c.args.regions.now table c.args.i j (c.args.i - 1) a b _ _ c.requires.lent at_a at_b row comes one at_left at_run in
    subst (λ (n : ℕ). HaveMet c.args.regions.now table c.args.st c.meet.new.largest.items n c.args.i) (sym is.0) c.meet.ensures.met
