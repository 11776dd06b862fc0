use Rattle.std.proofs.Common.{◌≡◌, ℕ, drop, take}
use Rattle.asc_grid.specs.Tokens.{line_behind, tokens_from}
use Rattle.asc_grid.proofs.tokens.blanks.Given as goal

-- the blanks so far make no token
abbrev pub invariant-loop-at : goal.invariant-loop-at
invariant-loop-at l = (line : ℕ) → tokens_from (line_behind line (take l.at l.text)) (drop l.at l.text) ≡ tokens_from line l.text
