use Rattle.std.proofs.Common.{◌≡◌, ℕ, Option, Some, ap, sym, ◌∙◌, arith}
use Rattle.std.specs.Prelude.{slice_get}
use Rattle.std.proofs.lemmas.Option.{same_Some, slice_get-get_or}
use Rattle.region_label.proofs.ListLemmas.{slice_get-set_same}
use Rattle.sieve_core.proofs.NeighbourLemmas.{best_set, improves_set, no_better_itself}
use Rattle.sieve_core.proofs.neighbours.offer.Goals as goal

pub returns-then-is_better-clause-improves : goal.returns-then-is_better-clause-improves
returns-then-is_better-clause-improves g c =
    let best = c.args.largest.now.items in
    let read : slice_get best c.args.k ≡ Some c.index.result.now = slice_get-get_or best c.args.k c.index.result.now (omega (arith, c.requires.best.long, c.requires.k)) ∙ ap (λ (o : Option ℕ). Some o) (sym c.index.ensures) in
    improves_set _ c.args.regions.now best c.args.k c.args.other (omega (arith, c.requires.best.long, c.requires.k)) c.requires.next (λ m at. c.is_better.ensures.yes c.if-is_better.true m (same_Some c.index.result.now (Some m) (sym read ∙ at)))

pub returns-then-is_better-clause-covered : goal.returns-then-is_better-clause-covered
returns-then-is_better-clause-covered g c = λ small. (c.args.other, slice_get-set_same c.args.largest.now.items c.args.k (Some c.args.other) (omega (arith, c.requires.best.long, c.requires.k)), no_better_itself c.args.regions.now c.args.other)

pub returns-then-is_better-clause-best : goal.returns-then-is_better-clause-best
returns-then-is_better-clause-best g c = best_set c.args.regions.now c.args.largest.now.items c.args.k c.args.other c.requires.best (omega (arith, c.requires.best.long, c.requires.k)) c.requires.other

pub returns-else-is_better-clause-covered : goal.returns-else-is_better-clause-covered
returns-else-is_better-clause-covered g c = λ small.
    let best = c.args.largest.now.items in
    let read : slice_get best c.args.k ≡ Some c.index.result.now = slice_get-get_or best c.args.k c.index.result.now (omega (arith, c.requires.best.long, c.requires.k)) ∙ ap (λ (o : Option ℕ). Some o) (sym c.index.ensures) in
    let no = c.is_better.ensures.no c.if-is_better.false in
    (no.0, read ∙ ap (λ (o : Option ℕ). Some o) no.1, no.2)
