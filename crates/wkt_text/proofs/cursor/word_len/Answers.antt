use Rattle.std.proofs.Common.{◌≡◌, ◌<◌, ℕ, true, false, arith, get_or, length, refl}
use Rattle.std.proofs.lemmas.Grind.{common_steps}
use Rattle.std.proofs.lemmas.List.{get_or_past}
use Rattle.wkt_text.specs.Tokens.{is_letter}
use Rattle.wkt_text.proofs.CursorLemmas.{at_word}
use Rattle.wkt_text.proofs.cursor.word_len.Goals as goal

pub returns-then-not-is_letter-clause-word : goal.returns-then-not-is_letter-clause-word
returns-then-not-is_letter-clause-word c = λ some end within.
    let text = c.args.text.now in
    let stops : is_letter (get_or text c.loop-at.at 32) ≡ false = grind (arith, common_steps) in
    at_word text c.loop-at.at end within some (omega arith) c.loop-at.invariant stops

pub returns-clause-word : goal.returns-clause-word
returns-clause-word c = λ some end within.
    let text = c.args.text.now in
    let past : get_or text (length text) 32 ≡ 32 = get_or_past text (length text) 32 (omega arith) in
    let letters : (k : ℕ) → k < length text → is_letter (get_or text k 0) ≡ true = λ k h. c.loop-at.invariant k (omega (arith, h)) in
    let stops : is_letter (get_or text (length text) 32) ≡ false = rw past refl in
    at_word text (length text) end within some (omega arith) letters stops
