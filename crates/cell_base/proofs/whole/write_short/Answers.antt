use Rattle.std.proofs.Common.{◌≡◌, ◌∙◌, ◌++◌, ◌<◌, ◌≤◌, ◌+◌, ◌/◌, ◌%◌, ℕ, List, [], ◌∷◌, pos, sym, ap, arith}
use Rattle.std.specs.Fmt.{decimal}
use Rattle.std.proofs.lemmas.Fmt.{decimal_digit, decimal_step}
use Rattle.fixed_coord.specs.Shortest.{shortest}
use Rattle.fixed_coord.proofs.ShortestLemmas.{shortest_whole}
use Rattle.cell_base.proofs.whole.write_short.Goals as goal

one_digit : (n : ℕ) → n < 10 → shortest (pos n) 0 ≡ (48 + n) ∷ []
one_digit n few = shortest_whole (pos n) ∙ decimal_digit n few

two_digits : (n : ℕ) → 10 ≤ n → n < 100 → shortest (pos n) 0 ≡ (48 + n / 10) ∷ (48 + n % 10) ∷ []
two_digits n more few = shortest_whole (pos n) ∙ decimal_step n more (omega arith)
    ∙ ap (λ (ds : List ℕ). ds ++ (48 + n % 10) ∷ []) (decimal_digit (n / 10) (omega arith))

pub returns-then-n-lt10-clause-ok : goal.returns-then-n-lt10-clause-ok
returns-then-n-lt10-clause-ok c = c.in_ok-push.ensures.items ∙ ap (λ (ds : List ℕ). c.args.out.now.items ++ ds) (sym (one_digit c.args.n (omega arith)))

pub returns-clause-ok : goal.returns-clause-ok
returns-clause-ok c = c.in_ok-extend_from_slice.ensures.items
    ∙ ap (λ (ds : List ℕ). c.args.out.now.items ++ ds) (sym (two_digits c.args.n (omega arith) (omega arith)))
