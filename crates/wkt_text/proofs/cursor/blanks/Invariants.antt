use Rattle.std.proofs.Common.{◌≡◌, ◌<◌, ℕ, drop, length}
use Rattle.wkt_text.specs.Inner.Cursor.{last_tokens}
use Rattle.wkt_text.proofs.cursor.blanks.Given as goal

-- the blanks so far make no token
abbrev pub invariant-loop-at : goal.invariant-loop-at
invariant-loop-at l = (end : ℕ) → length l.text < end → last_tokens end (drop l.at l.text) ≡ last_tokens end l.text
