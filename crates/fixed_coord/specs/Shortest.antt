-- The shortest decimal text of a number of units. This project's own.
use Rattle.std.specs.Prelude.{ℕ, ℤ, zero, suc, pos, negsuc, ◌≡◌, ◌<◌, ◌≤◌, ◌*◌, ◌+◌, ◌^◌, ◌/◌, ◌%◌}
use Rattle.std.specs.Prelude.{◌==◌, if◌then◌else◌, List, [], ◌∷◌, ◌++◌, length}
use Rattle.std.specs.Fmt.{decimal}
use Rattle.std.specs.Str.Parse.{AllDigits, digits_value}

-- the digits behind the point of `rest` units of 10^-places, as long as something is left
abbrev pub decimals : ℕ → ℕ → List ℕ
decimals zero rest = []
decimals (suc places) rest =
    if rest == 0 then [] else (48 + rest / 10 ^ places) ∷ decimals places (rest % 10 ^ places)

-- a point and those digits, or nothing where nothing is left
abbrev pub point_and_decimals : ℕ → ℕ → List ℕ
point_and_decimals places rest = if rest == 0 then [] else 46 ∷ decimals places rest

-- the shortest text without an exponent, and with a digit before the point, of so many units of 10^-places
abbrev pub shortest_size : ℕ → ℕ → List ℕ
shortest_size size places = decimal (size / 10 ^ places) ++ point_and_decimals places (size % 10 ^ places)

abbrev pub shortest : ℤ → ℕ → List ℕ
shortest (pos size) places = shortest_size size places
shortest (negsuc size) places = 45 ∷ shortest_size (suc size) places

-- whole digits and decimals, with a point between them where there are decimals
abbrev pub plain_text : List ℕ → List ℕ → List ℕ
plain_text whole [] = whole
plain_text whole (c ∷ cs) = whole ++ (46 ∷ c ∷ cs)

-- whole digits, at least one, and decimals that stand for so many units of 10^-places
pub record IsPlain (size places : ℕ) (whole fraction : List ℕ) : Type 0 where
  pub some : 0 < length whole
  pub whole_digits : AllDigits 10 whole
  pub decimal_digits : AllDigits 10 fraction
  pub value : digits_value 10 (whole ++ fraction) * 10 ^ places ≡ size * 10 ^ length fraction

-- no plain text that stands for so many units of 10^-places is shorter than this one
abbrev pub NoneIsShorter : ℕ → ℕ → List ℕ → Type 0
NoneIsShorter size places text =
    (whole fraction : List ℕ) → IsPlain size places whole fraction → length text ≤ length (plain_text whole fraction)
