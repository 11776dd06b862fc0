use Rattle.std.proofs.Common.{◌≡◌, ◌<◌, ℕ, get_or, true}
use Rattle.wkt_text.specs.Tokens.{is_letter}
use Rattle.wkt_text.proofs.cursor.word_len.Given as goal

-- each byte so far is one of a word
abbrev pub invariant-loop-at : goal.invariant-loop-at
invariant-loop-at l = (k : ℕ) → k < l.at → is_letter (get_or l.text k 0) ≡ true
