-- What is left of a text that is read with a cursor.
use Rattle.std.specs.Prelude.{◌≡◌, ◌≢◌, ◌-◌, ◌<◌, ℕ, Bool, false, List, [], ◌∷◌, drop, length, take, Result, Ok, Err}
use Rattle.wkt_text.specs.Tokens.{Token, Word, is_blank, mark, tokens_from}
use Rattle.wkt_text.specs.Parser.{Parser}
use Rattle.wkt_text.specs.declared.fault.Refusal.{Refusal}
use Rattle.wkt_text.specs.declared.fault.Refusal.TheVariants.{Offence, NoMemory}
use Rattle.wkt_text.specs.declared.fault.WktKind.{WktKind}

-- the offset behind the text, and the tokens that are left
pub record Left : Type 0 where
  pub end : ℕ
  pub tokens : List Token

-- the tokens of a text's last bytes
abbrev pub last_tokens : ℕ → List ℕ → List Token
last_tokens end text = tokens_from (end - length text) text

-- however far the end is, the tokens of these last bytes are those of the text
abbrev pub HasSameTokens : List ℕ → List ℕ → Type 0
HasSameTokens text last = (end : ℕ) → length text < end → last_tokens end last ≡ last_tokens end text

-- the text's first bytes, so many, are a word
abbrev pub HasFirstWord : List ℕ → ℕ → Type 0
HasFirstWord text count =
    (end : ℕ) → length text < end
    → last_tokens end text ≡ Word (end - length text) (take count text) ∷ last_tokens end (drop count text)

-- a blank stands first
abbrev pub begins_with_blank : List ℕ → Bool
begins_with_blank [] = false
begins_with_blank (byte ∷ bytes) = is_blank byte

-- the parser read a value, and stands behind it
pub record IsRead {A : Type 0} (parser : Parser A) (old new : Left) (value : A) : Type 0 where
  pub read : parser old.tokens ≡ Ok (value, new.tokens)
  pub same_end : new.end ≡ old.end

-- the parser refused what is left, and stands at what offends
pub record IsRefused {A : Type 0} (parser : Parser A) (old new : Left) (kind : WktKind) : Type 0 where
  pub offence : parser old.tokens ≡ Err (kind, new.tokens)
  pub same_end : new.end ≡ old.end

-- the one or the other; after want of memory nothing is known
abbrev pub Reads : {A : Type 0} → Parser A → Left → Left → Result A Refusal → Type 0
Reads parser old new (Ok value) = IsRead parser old new value
Reads parser old new (Err (Offence kind)) = IsRefused parser old new kind
Reads parser old new (Err NoMemory) = Unit {0}

-- a word stands first, and behind it this text
abbrev pub StandsFirst : Left → List ℕ → List ℕ → Type 0
StandsFirst left word rest = (offset : ℕ) × (left.tokens ≡ Word offset word ∷ last_tokens left.end rest)

-- no word stands first
abbrev pub NoWord : List Token → Type 0
NoWord (Word offset word ∷ rest) = ⊥
NoWord tokens = Unit {0}

-- the token that this mark is stands first, and is taken
abbrev pub Takes : ℕ → List Token → List Token → Type 0
Takes byte tokens rest = (offset : ℕ) × (tokens ≡ mark offset byte ∷ rest)

-- another token stands first, or none
abbrev pub Lacks : ℕ → List Token → Type 0
Lacks byte tokens = (offset : ℕ) (rest : List Token) → tokens ≢ mark offset byte ∷ rest
