-- Words that are counts.
use Rattle.std.proofs.Common.{◌≡◌, ◌≢◌, ◌≤◌, ◌<◌, ℕ, List, true, false, Some, None, refl, length, arith, ◌&&◌}
use Rattle.std.specs.Prelude.{nat_le}
use Rattle.std.proofs.lemmas.Bool.{false_from_ne_true}
use Rattle.std.proofs.lemmas.Bool.Decides.{nat_tests}
use Rattle.std.specs.Str.Parse.{digits_value}
use Rattle.fixed_coord.specs.Number.{is_digits}
use Rattle.tool_words.specs.Value.{count_of, most_count}

-- a word with a byte that is no digit, or without a byte
pub no_digits : (word : List ℕ) → (is_digits word ≢ true) → count_of word ≡ None
no_digits word other = rw (false_from_ne_true (is_digits word) other) refl

-- a word of more digits than a count has
pub too_long : (word : List ℕ) → 10 < length word → count_of word ≡ None
too_long word long =
    let over : nat_le (length word) 10 ≡ false = grind (arith, nat_tests, long) in
    let both : (is_digits word && nat_le (length word) 10) ≡ false = grind (arith, nat_tests, over) in
    rw both refl

-- digits for too great a number
pub too_great : (word : List ℕ) → is_digits word ≡ true → length word ≤ 10 → most_count < digits_value 10 word → count_of word ≡ None
too_great word digits few great =
    let within : nat_le (length word) 10 ≡ true = grind (arith, nat_tests, few) in
    let over : nat_le (digits_value 10 word) most_count ≡ false = grind (arith, nat_tests, great) in
    rw (digits, within, over) refl

-- a count
pub is_count : (word : List ℕ) → is_digits word ≡ true → length word ≤ 10 → digits_value 10 word ≤ most_count → count_of word ≡ Some (digits_value 10 word)
is_count word digits few small =
    let within : nat_le (length word) 10 ≡ true = grind (arith, nat_tests, few) in
    let under : nat_le (digits_value 10 word) most_count ≡ true = grind (arith, nat_tests, small) in
    rw (digits, within, under) refl
