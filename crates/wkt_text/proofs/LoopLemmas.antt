-- For code that reads a list in a loop: what has been read of it.
use Rattle.std.proofs.Common.{◌≡◌, ◌<◌, ℕ, length, arith, subst, List, [], ◌∷◌, ◌++◌, refl, sym, ap, ◌∙◌, Ok, Err, append_assoc}
use Rattle.wkt_text.specs.declared.fault.WktKind.{WktKind}
use Rattle.wkt_text.specs.Tokens.{Token, Opening, Closing, Comma, Word}
use Rattle.wkt_text.specs.Parser.{Answer, Parser, gives, followed_by, and_further, listed}
use Rattle.wkt_text.specs.Inner.Listed.{LeavesFewer, ReadsSome, HasListed, IsListing}
use Rattle.wkt_text.specs.Inner.Cursor.{IsRead, IsRefused, Lacks, Left, Takes}
use Rattle.wkt_text.proofs.ListedLemmas.{listed_step}

-- nothing in front of it
with_none : {A : Type 0} (answer : Answer (List A)) → answer ≡ followed_by answer (λ more. gives ([] ++ more))
with_none (Err offence) = refl
with_none (Ok read) = refl

-- what stands in front of what stands in front
in_turn : {A : Type 0} (xs : List A) (x : A) (answer : Answer (List A))
    → followed_by (followed_by answer (λ more behind. gives (x ∷ more) behind)) (λ more. gives (xs ++ more)) ≡ followed_by answer (λ more. gives ((xs ++ x ∷ []) ++ more))
in_turn xs x (Err offence) = refl
in_turn xs x (Ok read) = ap (λ l. Ok (l, read.1)) (sym (append_assoc xs (x ∷ []) read.0))

-- nothing is read yet
pub none_yet : {A : Type 0} (member : Parser A) (first : Left) → IsListing member first first []
none_yet member first = record { listed = with_none (listed member first.tokens); same_end = refl }

-- the list's rest, from what its next member is read as
from_next : {A : Type 0} (member : Parser A) → ReadsSome member → (first : List Token) (xs : List A) (tokens : List Token) (answer : Answer A) → HasListed member first xs tokens → member tokens ≡ answer
    → listed member first ≡ followed_by (followed_by answer (and_further (listed member))) (λ more. gives (xs ++ more))
from_next member reads first xs tokens answer has e =
    has ∙ ap (λ answer. followed_by answer (λ more. gives (xs ++ more))) (listed_step member reads tokens ∙ ap (λ answer. followed_by answer (and_further (listed member))) e)

-- a member and a comma: the loop goes on behind the comma
listed_comma : {A : Type 0} (member : Parser A) → ReadsSome member → (first : List Token) (xs : List A) (tokens : List Token) (x : A) (offset : ℕ) (rest : List Token)
    → HasListed member first xs tokens → member tokens ≡ Ok (x, Comma offset ∷ rest) → HasListed member first (xs ++ x ∷ []) rest
listed_comma member reads first xs tokens x offset rest has e = from_next member reads first xs tokens (Ok (x, Comma offset ∷ rest)) has e ∙ in_turn xs x (listed member rest)

-- a member and no comma: the list is read
listed_last : {A : Type 0} (member : Parser A) → ReadsSome member → (first : List Token) (xs : List A) (tokens : List Token) (x : A) (rest : List Token)
    → HasListed member first xs tokens → member tokens ≡ Ok (x, rest) → and_further (listed member) x rest ≡ Ok (x ∷ [], rest) → listed member first ≡ Ok (xs ++ x ∷ [], rest)
listed_last member reads first xs tokens x rest has e ends =
    from_next member reads first xs tokens (Ok (x, rest)) has e ∙ ap (λ answer. followed_by answer (λ more. gives (xs ++ more))) ends

-- no member: its offence is the list's
listed_refused : {A : Type 0} (member : Parser A) → ReadsSome member → (first : List Token) (xs : List A) (tokens : List Token) (kind : WktKind) (rest : List Token)
    → HasListed member first xs tokens → member tokens ≡ Err (kind, rest) → listed member first ≡ Err (kind, rest)
listed_refused member reads first xs tokens kind rest has e = from_next member reads first xs tokens (Err (kind, rest)) has e

-- by what the code sees: the comma is taken
pub goes_on : {A : Type 0} {member : Parser A} {first old mid new : Left} {xs : List A} {x : A}
    → ReadsSome member → IsListing member first old xs → IsRead member old mid x → Takes 44 mid.tokens new.tokens → new.end ≡ mid.end
    → IsListing member first new (xs ++ x ∷ [])
goes_on {member} {first} {old} {mid} {new} {xs} {x} reads before is taken same =
    let behind : member old.tokens ≡ Ok (x, Comma taken.0 ∷ new.tokens) = is.read ∙ ap (λ tokens. Ok (x, tokens)) taken.1 in
    record {
      listed = listed_comma member reads first.tokens xs old.tokens x taken.0 new.tokens before.listed behind;
      same_end = same ∙ is.same_end ∙ before.same_end;
    }

-- fewer tokens are left behind it
pub fewer : {A : Type 0} {member : Parser A} {old mid : Left} {x : A} (rest : List Token)
    → ReadsSome member → IsRead member old mid x → Takes 44 mid.tokens rest → length rest < length old.tokens
fewer {member} {old} {mid} {x} rest reads is taken =
    let less : LeavesFewer (length old.tokens) (Ok (x, mid.tokens)) = subst (LeavesFewer (length old.tokens)) is.read (reads.some old.tokens) in
    omega (arith, less, ap length taken.1)

no_further : {A : Type 0} (further : Parser (List A)) (x : A) (behind : List Token) → Lacks 44 behind → and_further further x behind ≡ Ok (x ∷ [], behind)
no_further further x [] lacks = refl
no_further further x (Opening offset ∷ rest) lacks = refl
no_further further x (Closing offset ∷ rest) lacks = refl
no_further further x (Comma offset ∷ rest) lacks = absurd (lacks offset rest refl)
no_further further x (Word offset word ∷ rest) lacks = refl

-- no comma stands there: the list is read
pub ends : {A : Type 0} {member : Parser A} {first old mid new : Left} {xs : List A} {x : A}
    → ReadsSome member → IsListing member first old xs → IsRead member old mid x → Lacks 44 mid.tokens → new.tokens ≡ mid.tokens → new.end ≡ mid.end
    → IsRead (listed member) first new (xs ++ x ∷ [])
ends {member} {first} {old} {mid} {new} {xs} {x} reads before is lacks unmoved same =
    let last = listed_last member reads first.tokens xs old.tokens x mid.tokens before.listed is.read (no_further (listed member) x mid.tokens lacks) in
    record {
      read = last ∙ ap (λ tokens. Ok (xs ++ x ∷ [], tokens)) (sym unmoved);
      same_end = same ∙ is.same_end ∙ before.same_end;
    }

-- a member is refused, and so is the list
pub refused : {A : Type 0} {member : Parser A} {first old new : Left} {xs : List A} {kind : WktKind}
    → ReadsSome member → IsListing member first old xs → IsRefused member old new kind → IsRefused (listed member) first new kind
refused {member} {first} {old} {new} {xs} {kind} reads before is = record {
  offence = listed_refused member reads first.tokens xs old.tokens kind new.tokens before.listed is.offence;
  same_end = is.same_end ∙ before.same_end;
}
