use Rattle.std.proofs.Common.{◌≡◌, ◌<◌, ℕ, get_or, false}
use Rattle.asc_grid.specs.Tokens.{is_blank}
use Rattle.asc_grid.proofs.tokens.token_len.Given as goal

-- no blank came
abbrev pub invariant-loop-at : goal.invariant-loop-at
invariant-loop-at l = (k : ℕ) → k < l.at → is_blank (get_or l.text k 0) ≡ false
