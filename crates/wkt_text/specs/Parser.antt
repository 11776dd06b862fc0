-- Parsers over tokens, and how parsers are put together. This project's own.
use Rattle.std.specs.Prelude.{◌≡◌, ℕ, zero, suc, List, [], ◌∷◌, length, Result, Ok, Err}
use Rattle.wkt_text.specs.Tokens.{Token, Opening, Closing, Comma}
use Rattle.wkt_text.specs.declared.fault.WktKind.{WktKind}
use Rattle.wkt_text.specs.declared.fault.WktKind.TheVariants.{Syntax}

-- a value and the tokens behind what was read, or an offence and the tokens from the one that offends on
abbrev pub Answer : Type 0 → Type 0
Answer A = Result (A × List Token) (WktKind × List Token)

abbrev pub Parser : Type 0 → Type 0
Parser A = List Token → Answer A

-- nothing is read
abbrev pub gives : {A : Type 0} → A → Parser A
gives value tokens = Ok (value, tokens)

abbrev pub refuses : {A : Type 0} → WktKind → Parser A
refuses kind tokens = Err (kind, tokens)

-- what was read, and then what stands behind it
abbrev pub followed_by : {A B : Type 0} → Answer A → (A → Parser B) → Answer B
followed_by (Err offence) next = Err offence
followed_by (Ok read) next = next read.0 read.1

abbrev pub opening : Parser (Unit {0})
opening (Opening offset ∷ rest) = Ok (tt, rest)
opening tokens = refuses Syntax tokens

abbrev pub closing : Parser (Unit {0})
closing (Closing offset ∷ rest) = Ok (tt, rest)
closing tokens = refuses Syntax tokens

-- a value, and then a closing parenthesis
abbrev pub closed : {A : Type 0} → A → Parser A
closed value tokens = followed_by (closing tokens) (λ _ rest. gives value rest)

-- what stands between parentheses
abbrev pub in_parentheses : {A : Type 0} → Parser A → Parser A
in_parentheses inner tokens = followed_by (opening tokens) (λ _ rest. followed_by (inner rest) closed)

-- a member, and where a comma stands behind it the further members that stand there
abbrev pub and_further : {A : Type 0} → Parser (List A) → A → Parser (List A)
and_further further member (Comma offset ∷ rest) =
    followed_by (further rest) (λ members behind. gives (member ∷ members) behind)
and_further further member tokens = gives (member ∷ []) tokens

-- members with commas between them, not more than so many
abbrev pub members : {A : Type 0} → ℕ → Parser A → Parser (List A)
members zero member tokens = refuses Syntax tokens
members (suc most) member tokens = followed_by (member tokens) (and_further (members most member))

-- members with commas between them; there are never more members than tokens
abbrev pub listed : {A : Type 0} → Parser A → Parser (List A)
listed member tokens = members (length tokens) member tokens

-- the same in parentheses
abbrev pub list_of : {A : Type 0} → Parser A → Parser (List A)
list_of member tokens = in_parentheses (listed member) tokens

-- no list is too long: it is a member, and where a comma stands behind it a list of further members
abbrev pub HasNoBound : {A : Type 0} → Parser A → Type 0
HasNoBound member = (tokens : List Token) → listed member tokens ≡ followed_by (member tokens) (and_further (listed member))
