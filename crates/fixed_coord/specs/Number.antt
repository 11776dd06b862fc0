-- Number texts and the decimal fractions that they stand for. This project's own.
use Rattle.std.specs.Prelude.{ℕ, ◌+◌, ◌*◌, ◌^◌, nat_lt, Bool, false, ◌==◌, ◌&&◌, ◌||◌, if◌then◌else◌}
use Rattle.std.specs.Prelude.{List, [], ◌∷◌, ◌++◌, length, drop, take_while, Option, Some, None, option_map}
use Rattle.std.specs.List.{prefix_len}
use Rattle.std.specs.Char.{is_ascii_digit}
use Rattle.std.specs.Str.{all_ascii_digits}
use Rattle.std.specs.Str.Parse.{digits_value}

-- a number text in its parts: a sign, the digits before and behind the point, and an exponent with its sign
pub record Parts : Type 0 where
  pub negative : Bool
  pub whole : List ℕ
  pub fraction : List ℕ
  pub down : Bool
  pub power : List ℕ

-- a decimal fraction: `above / below`, with a minus where it is negative
pub record Fraction : Type 0 where
  pub negative : Bool
  pub above : ℕ
  pub below : ℕ

-- the ASCII digits that a text begins with, and what follows them
abbrev pub digits_in_front : List ℕ → List ℕ
digits_in_front text = take_while is_ascii_digit text

abbrev pub behind_digits : List ℕ → List ℕ
behind_digits text = drop (prefix_len is_ascii_digit text) text

-- digits and nothing else, at least one
abbrev pub is_digits : List ℕ → Bool
is_digits text = nat_lt 0 (length text) && all_ascii_digits text

-- whether a text begins with a minus, and what follows its sign, '+' or '-', if it has one
abbrev pub has_minus : List ℕ → Bool
has_minus [] = false
has_minus (c ∷ cs) = c == 45

abbrev pub behind_sign : List ℕ → List ℕ
behind_sign [] = []
behind_sign (c ∷ cs) = if (c == 43) || (c == 45) then cs else c ∷ cs

-- the digits behind a point that a text begins with, and what follows them
abbrev pub decimals_in_front : List ℕ → List ℕ
decimals_in_front [] = []
decimals_in_front (c ∷ cs) = if c == 46 then digits_in_front cs else []

abbrev pub behind_decimals : List ℕ → List ℕ
behind_decimals [] = []
behind_decimals (c ∷ cs) = if c == 46 then behind_digits cs else c ∷ cs

-- the exponent that a text is: nothing, or 'e' or 'E' with a sign or none and digits.
-- It answers whether it goes down, and its digits
abbrev pub exponent_of : List ℕ → Option (Bool × List ℕ)
exponent_of [] = Some (false, [])
exponent_of (c ∷ cs) =
    if ((c == 101) || (c == 69)) && is_digits (behind_sign cs)
    then Some (has_minus cs, behind_sign cs)
    else None

-- the parts of a text, if it is a number text
abbrev pub parts_of : List ℕ → Option Parts
parts_of text =
    let whole = digits_in_front (behind_sign text) in
    let rest = behind_digits (behind_sign text) in
    let fraction = decimals_in_front rest in
    let with_exponent : Bool × List ℕ → Parts =
    λ e. record { negative = has_minus text; whole = whole; fraction = fraction; down = e.0; power = e.1 } in
    if nat_lt 0 (length whole + length fraction)
    then option_map with_exponent (exponent_of (behind_decimals rest))
    else None

-- the fraction that the parts stand for
abbrev pub fraction_of : Parts → Fraction
fraction_of p =
    let power = digits_value 10 p.power in
    record {
      negative = p.negative;
      above = digits_value 10 (p.whole ++ p.fraction) * 10 ^ (if p.down then 0 else power);
      below = 10 ^ (length p.fraction + (if p.down then power else 0));
    }
