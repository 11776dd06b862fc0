-- How a list of members is read, without a bound.
use Rattle.std.specs.Prelude.{◌≡◌, ℕ, ◌<◌, List, [], ◌++◌, length, Ok, Err}
use Rattle.wkt_text.specs.Tokens.{Token}
use Rattle.wkt_text.specs.Inner.Cursor.{Left}
use Rattle.wkt_text.specs.Parser.{Parser, Answer, gives, followed_by, listed}
use Rattle.wkt_text.specs.declared.fault.WktKind.TheVariants.{Syntax}

-- fewer tokens are left than so many
abbrev pub LeavesFewer : {A : Type 0} → ℕ → Answer A → Type 0
LeavesFewer count (Err offence) = Unit {0}
LeavesFewer count (Ok read) = length read.1 < count

-- a parser that reads at least one token
pub record ReadsSome {A : Type 0} (member : Parser A) : Type 0 where
  pub none : member [] ≡ Err (Syntax, [])
  pub some : (tokens : List Token) → LeavesFewer (length tokens) (member tokens)

-- what a list from its first token on is: these members, and then the list from the tokens that are left on
abbrev pub HasListed : {A : Type 0} → Parser A → List Token → List A → List Token → Type 0
HasListed member first read left =
    listed member first ≡ followed_by (listed member left) (λ more. gives (read ++ more))

-- these members were read of a list, which goes on at what is left
pub record IsListing {A : Type 0} (member : Parser A) (first now : Left) (read : List A) : Type 0 where
  pub listed : HasListed member first.tokens read now.tokens
  pub same_end : now.end ≡ first.end
