-- Going on in a text.
use Rattle.std.proofs.Common.{◌≡◌, ℕ, ◌+◌, ◌<◌, Bool, true, false, List, [], ◌∷◌, ◌++◌, length, take, drop, Option, Some, None, IfSome, IfNone, not, cond, arith, refl, sym, ap, ◌∙◌, add_assoc}
use Rattle.std.proofs.lemmas.Bool.{false≢true}
use Rattle.std.proofs.lemmas.List.{drop-drop, take-append-drop}
use Rattle.std.proofs.lemmas.List.Sums.{sum_by-append}
use Rattle.std.proofs.Math.Seq.{take-add}
use Rattle.std.specs.Option.{is_some}
use Rattle.asc_grid.specs.Tokens.{Token, begins_with_token, is_blank, is_line_end, line_behind, tokens_from}
use Rattle.asc_grid.specs.Header.{begins_number, end_line}
use Rattle.asc_grid.specs.Inner.Cursor.{Cursor, begins_keyword, end_of, further, tokens_at}
use Rattle.asc_grid.proofs.TokenLemmas.{solid_stays}

line_behind-append : (line : ℕ) (xs ys : List ℕ) → line_behind (line_behind line xs) ys ≡ line_behind line (xs ++ ys)
line_behind-append line xs ys =
    let parts = sum_by-append (λ b. cond (is_line_end b) 1 0) xs ys in
    rw parts (add_assoc line _ _)

-- a text at some byte, and so many further on
pub further-at : (text : List ℕ) (at n : ℕ) → line_behind 1 (take (at + n) text) ≡ line_behind (line_behind 1 (take at text)) (take n (drop at text))
further-at text at n = rw (take-add at n text) (sym (line_behind-append 1 (take at text) (take n (drop at text))))

-- the text ends on the same line
pub end_of-further : (cursor : Cursor) (n : ℕ) → end_of (further cursor n) ≡ end_of cursor
end_of-further cursor n = line_behind-append cursor.line (take n cursor.left) (drop n cursor.left) ∙ ap (λ text. line_behind cursor.line text) (take-append-drop n cursor.left)

-- the cursor at some byte of a text, and so many bytes further
pub further-at_byte : (text : List ℕ) (at n : ℕ) → record { line = line_behind 1 (take (at + n) text); left = drop (at + n) text } ≡ further (record { line = line_behind 1 (take at text); left = drop at text }) n
further-at_byte text at n = rw (further-at text at n, ← drop-drop n at text) refl

-- the token that stands first was passed
pub token_taken : (cursor : Cursor) (left : List ℕ) (n : ℕ) → left ≡ cursor.left → tokens_from cursor.line left ≡ record { text = take n left; line = cursor.line } ∷ tokens_from cursor.line (drop n left) → line_behind cursor.line (take n left) ≡ cursor.line → tokens_at cursor ≡ record { text = take n left; line = (further cursor n).line } ∷ tokens_at (further cursor n)
token_taken cursor left n is first stays =
    let line : (further cursor n).line ≡ cursor.line = rw (← is) stays in
    rw (line, ← is) first

-- the first token is on the text's line, and begins as the text does
abbrev HasFirst : ℕ → List ℕ → Type 0
HasFirst line text = (t : Token) × (ts : List Token) × (tokens_from line text ≡ t ∷ ts) × (t.line ≡ line) × (begins_number t.text ≡ begins_number text)

first_by : (line byte : ℕ) (bytes : List ℕ) (joins : Bool) → is_blank byte ≡ false → begins_with_token bytes ≡ joins → (begins_with_token bytes ≡ true → HasFirst line bytes) → HasFirst line (byte ∷ bytes)
first_by line byte bytes false solid more rest = (record { text = byte ∷ []; line = line }, tokens_from line bytes, rw (solid, solid_stays byte solid, more) refl, refl, refl)
first_by line byte bytes true solid more rest =
    let found = rest more in
    (record { text = byte ∷ found.0.text; line = found.0.line }, found.1, rw (solid, solid_stays byte solid, more, found.2) refl, found.3, refl)

solid_first : (byte : ℕ) (bytes : List ℕ) → begins_with_token (byte ∷ bytes) ≡ true → is_blank byte ≡ false
solid_first byte bytes begins = grind (arith, begins)

first_of : (line : ℕ) (text : List ℕ) → begins_with_token text ≡ true → HasFirst line text
first_of line [] begins = absurd (false≢true begins)
first_of line (byte ∷ bytes) begins = first_by line byte bytes (begins_with_token bytes) (solid_first byte bytes begins) refl (first_of line bytes)

-- nothing is left, or a token comes right away
abbrev IsAtToken : Cursor → Type 0
IsAtToken cursor = 0 < length cursor.left → begins_with_token cursor.left ≡ true

begins_keyword-from : (line : ℕ) (text : List ℕ) → begins_with_token text ≡ true → begins_keyword (tokens_from line text) ≡ not (begins_number text)
begins_keyword-from line text begins =
    let first = first_of line text begins in
    rw first.2 (ap not first.4)

-- what begins a number stands for no keyword
pub no_keyword : (line : ℕ) (text : List ℕ) → (0 < length text → begins_with_token text ≡ true) → begins_number text ≡ true → begins_keyword (tokens_from line text) ≡ false
no_keyword line [] token number = absurd (false≢true number)
no_keyword line (byte ∷ bytes) token number = begins_keyword-from line (byte ∷ bytes) (token (omega arith)) ∙ ap not number

-- the cursor's line is that of the token that comes, or the last one
pub line_at_token : (last line : ℕ) (text : List ℕ) → (0 < length text → begins_with_token text ≡ true) → last ≡ line_behind line text → line ≡ end_line last (tokens_from line text)
line_at_token last line [] token is = sym (is ∙ omega arith)
line_at_token last line (byte ∷ bytes) token is =
    let first = first_of line (byte ∷ bytes) (token (omega arith)) in
    rw first.2 (sym first.3)

-- a token that begins no number stands for a keyword
pub is_keyword : {X : Type 0} (P : X → Type 0) (r : Option X) (line : ℕ) (text : List ℕ) → (0 < length text → begins_with_token text ≡ true) → begins_number text ≡ false → ((x : X) → P x → (t : Token) × (ts : List Token) × (tokens_from line text ≡ t ∷ ts)) → IfSome r P → IfNone r (tokens_from line text ≡ []) → is_some r ≡ begins_keyword (tokens_from line text)
is_keyword P (Some x) line [] token number found some none = let here = found x some in absurd (cons_nil here.0 here.1 here.2)
  where
    cons_nil : (t : Token) (ts : List Token) → tokens_from line [] ≡ t ∷ ts → ⊥
    cons_nil t ts is = cc is
is_keyword P (Some x) line (byte ∷ bytes) token number found some none = sym (begins_keyword-from line (byte ∷ bytes) (token (omega arith)) ∙ ap not number)
is_keyword P None line text token number found some none = rw none refl
