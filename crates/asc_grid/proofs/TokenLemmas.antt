-- Where tokens begin and end, and on which line.
use Rattle.std.proofs.Common.{◌≡◌, ℕ, zero, suc, ◌+◌, ◌<◌, ◌≤◌, Bool, true, false, List, [], ◌∷◌, length, take, drop, get_or, cond, arith, refl, sym, ap, ◌∙◌}
use Rattle.std.specs.Prelude.{if◌then◌else◌}
use Rattle.std.proofs.lemmas.Bool.{false≢true}
use Rattle.std.proofs.lemmas.List.Sums.{sum_by-cons}
use Rattle.std.proofs.lemmas.Bool.Decides.{nat_tests}
use Rattle.asc_grid.specs.Tokens.{begins_with_token, is_blank, is_line_end, line_behind, tokens_from}

-- one byte further is one line further where it ends a line
abbrev line_after : ℕ → ℕ → ℕ
line_after line byte = if is_line_end byte then line + 1 else line

line_step : (line rest : ℕ) (b : Bool) → (if b then line + 1 else line) + rest ≡ line + (cond b 1 0 + rest)
line_step line rest true = omega arith
line_step line rest false = omega arith

pub line_behind-cons : (line byte : ℕ) (bytes : List ℕ) → line_behind (line_after line byte) bytes ≡ line_behind line (byte ∷ bytes)
line_behind-cons line byte bytes = rw (sum_by-cons (λ b. cond (is_line_end b) 1 0) byte bytes) (line_step line _ (is_line_end byte))

pub begins-cons : (byte : ℕ) (bytes : List ℕ) → is_blank byte ≡ false → begins_with_token (byte ∷ bytes) ≡ true
begins-cons byte bytes solid = rw solid refl

-- a blank in front makes no token
pub tokens_from-blank : (line byte : ℕ) (bytes : List ℕ) → is_blank byte ≡ true → tokens_from line (byte ∷ bytes) ≡ tokens_from (line_after line byte) bytes
tokens_from-blank line byte bytes blank = rw blank refl

pub tokens_from-drop_blank : (line : ℕ) (text : List ℕ) (n : ℕ) → n < length text → is_blank (get_or text n 0) ≡ true → tokens_from (line_behind line (take (suc n) text)) (drop (suc n) text) ≡ tokens_from (line_behind line (take n text)) (drop n text)
tokens_from-drop_blank line [] n within blank = absurd (omega (arith, within))
tokens_from-drop_blank line (byte ∷ bytes) zero within blank =
    let step : line_behind line (byte ∷ []) ≡ line_after line byte = sym (line_behind-cons line byte []) ∙ omega arith in
    let here : line_behind line [] ≡ line = omega arith in
    rw (step, here) (sym (tokens_from-blank line byte bytes blank))
tokens_from-drop_blank line (byte ∷ bytes) (suc n) within blank =
    let now = line_behind-cons line byte (take n bytes) in
    let further = line_behind-cons line byte (take (suc n) bytes) in
    rw (← now, ← further) (tokens_from-drop_blank (line_after line byte) bytes n (omega (arith, within)) blank)

pub begins-drop : (text : List ℕ) (n : ℕ) → n < length text → is_blank (get_or text n 0) ≡ false → begins_with_token (drop n text) ≡ true
begins-drop [] n within solid = absurd (omega (arith, within))
begins-drop (byte ∷ bytes) zero within solid = begins-cons byte bytes solid
begins-drop (byte ∷ bytes) (suc n) within solid = begins-drop bytes n (omega (arith, within)) solid

-- no token begins at a blank, or at the end
pub no_token-drop : (text : List ℕ) (n : ℕ) → is_blank (get_or text n 32) ≡ true → begins_with_token (drop n text) ≡ false
no_token-drop [] zero blank = refl
no_token-drop [] (suc n) blank = refl
no_token-drop (byte ∷ bytes) zero blank = rw blank refl
no_token-drop (byte ∷ bytes) (suc n) blank = no_token-drop bytes n blank

solid_next : (byte : ℕ) (bytes : List ℕ) (n : ℕ) → suc n ≤ length bytes → ((k : ℕ) → k < suc n → is_blank (get_or bytes k 0) ≡ false) → begins_with_token bytes ≡ true
solid_next byte [] n within solid = absurd (omega (arith, within))
solid_next byte (next ∷ bytes) n within solid = begins-cons next bytes (solid 0 (omega arith))

-- a line's end is blank
pub solid_stays : (byte : ℕ) → is_blank byte ≡ false → is_line_end byte ≡ false
solid_stays byte solid = grind (arith, nat_tests)

-- bytes without a blank, up to a blank or the end, are the first token
first_token : (line : ℕ) (text : List ℕ) (n : ℕ) → suc n ≤ length text → ((k : ℕ) → k < suc n → is_blank (get_or text k 0) ≡ false) → begins_with_token (drop (suc n) text) ≡ false → tokens_from line text ≡ record { text = take (suc n) text; line = line } ∷ tokens_from line (drop (suc n) text)
first_token line [] n within solid ends = absurd (omega (arith, within))
first_token line (byte ∷ bytes) zero within solid ends =
    let here : is_blank byte ≡ false = solid 0 (omega arith) in
    let stays : is_line_end byte ≡ false = solid_stays byte here in
    rw (here, stays, ends) refl
first_token line (byte ∷ bytes) (suc n) within solid ends =
    let here : is_blank byte ≡ false = solid 0 (omega arith) in
    let stays : is_line_end byte ≡ false = solid_stays byte here in
    let rest : (k : ℕ) → k < suc n → is_blank (get_or bytes k 0) ≡ false = λ k h. solid (suc k) (omega (arith, h)) in
    let more : begins_with_token bytes ≡ true = solid_next byte bytes n (omega (arith, within)) rest in
    let first = first_token line bytes n (omega (arith, within)) rest ends in
    rw (here, stays, more, first) refl

-- the same for any number of bytes, where the text begins with a token
pub token_up_to : (line : ℕ) (text : List ℕ) (n : ℕ) → begins_with_token text ≡ true → n ≤ length text → ((k : ℕ) → k < n → is_blank (get_or text k 0) ≡ false) → begins_with_token (drop n text) ≡ false → tokens_from line text ≡ record { text = take n text; line = line } ∷ tokens_from line (drop n text)
token_up_to line text zero begins within solid ends = absurd (false≢true (sym ends ∙ begins))
token_up_to line text (suc n) begins within solid ends = first_token line text n within solid ends

-- a token ends no line
pub line_behind-token : (line : ℕ) (text : List ℕ) (n : ℕ) → ((k : ℕ) → k < n → is_blank (get_or text k 0) ≡ false) → n ≤ length text → line_behind line (take n text) ≡ line
line_behind-token line text zero solid within = omega arith
line_behind-token line [] (suc n) solid within = absurd (omega (arith, within))
line_behind-token line (byte ∷ bytes) (suc n) solid within =
    let here : is_line_end byte ≡ false = solid_stays byte (solid 0 (omega arith)) in
    let stays : line_after line byte ≡ line = rw here refl in
    sym (line_behind-cons line byte (take n bytes)) ∙ ap (λ l. line_behind l (take n bytes)) stays ∙ line_behind-token line bytes n (λ k h. solid (suc k) (omega (arith, h))) (omega (arith, within))
