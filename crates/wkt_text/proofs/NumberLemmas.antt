-- The shortest text of a coordinate is a word, and stands for the coordinate.
use Rattle.std.proofs.Common.{◌≡◌, ℕ, ℤ, suc, ◌/◌, ◌%◌, ◌^◌, ◌<◌, ◌≤◌, Bool, true, false, ◌==◌, if◌then◌else◌, List, [], ◌∷◌, length, arith, refl, ap, ◌∙◌, pos, negsuc, unsigned_abs, Ok}
use Rattle.std.specs.Fmt.{decimal}
use Rattle.std.specs.Char.{digit_value}
use Rattle.std.specs.Str.Parse.{AllDigits, IsNumeral, digits_value}
use Rattle.std.proofs.lemmas.Fmt.{decimal_is_IsNumeral_wide}
use Rattle.std.proofs.lemmas.List.{length-append}
use Rattle.std.proofs.lemmas.Bool.Decides.{nat_tests}
use Rattle.std.proofs.lemmas.Int.{ints}
use Rattle.std.proofs.Math.Nat.{div-le_self}
use Rattle.fixed_coord.specs.Coordinate.{IsCoord, is_coord, coord_of, coord_places, in_range}
use Rattle.fixed_coord.specs.Shortest.{decimals, point_and_decimals, shortest, shortest_size}
use Rattle.fixed_coord.proofs.ShortestLemmas.{decimals_spell, shortest_reads}
use Rattle.fixed_coord.proofs.CutLemmas.{pow10_pos}
use Rattle.wkt_text.specs.Tokens.{is_letter}
use Rattle.wkt_text.proofs.EachLemmas.{each_append}
use Rattle.wkt_text.proofs.TokenLemmas.{AreLetters}

digit_letter : (c : ℕ) → digit_value c < 10 → is_letter c ≡ true
digit_letter c h = grind (arith, nat_tests)

digits_letters : (ds : List ℕ) → AllDigits 10 ds → AreLetters ds
digits_letters [] all = tt
digits_letters (d ∷ ds) all = (digit_letter d all.0, digits_letters ds all.1)

decimals_letters : (offsets rest : ℕ) (none : Bool) → rest < 10 ^ offsets → AreLetters (if none then [] else 46 ∷ decimals offsets rest)
decimals_letters offsets rest true small = tt
decimals_letters offsets rest false small = (refl, digits_letters (decimals offsets rest) (decimals_spell offsets rest small).digits)

-- bytes of a word, at least one
pub record IsWord (word : List ℕ) : Type 0 where
  pub some : 0 < length word
  pub letters : AreLetters word

size_word : (size offsets : ℕ) → size < 10 ^ 64 → IsWord (shortest_size size offsets)
size_word size offsets small =
    let q : ℕ = size / 10 ^ offsets in
    let r : ℕ = size % 10 ^ offsets in
    let numeral : IsNumeral 10 (decimal q) × (digits_value 10 (decimal q) ≡ q) = decimal_is_IsNumeral_wide q (omega (arith, div-le_self size (10 ^ offsets))) in
    let less : r < 10 ^ offsets = omega (arith, pow10_pos offsets) in
    record {
      some = omega (arith, length-append (decimal q) (point_and_decimals offsets r), numeral.0.0);
      letters = each_append (λ c. is_letter c ≡ true) (decimal q) (point_and_decimals offsets r) (digits_letters (decimal q) numeral.0.1) (decimals_letters offsets r (r == 0) less);
    }

pub shortest_word : (v : ℤ) (offsets : ℕ) → unsigned_abs v ≤ 10 ^ 30 → IsWord (shortest v offsets)
shortest_word (pos size) offsets small = size_word size offsets (omega (arith, small))
shortest_word (negsuc size) offsets small = record { some = omega arith; letters = (refl, (size_word (suc size) offsets (omega (arith, small))).letters) }

pub coord_small : (v : ℤ) → IsCoord v → unsigned_abs v ≤ 10 ^ 30
coord_small v c = grind (arith, ints, c.low, c.high)

coord_test : (v : ℤ) → IsCoord v → is_coord v ≡ true
coord_test v c = grind (arith, ints, c.low, c.high)

pub coord_reads : (v : ℤ) → IsCoord v → coord_of (shortest v coord_places) ≡ Ok v
coord_reads v c = ap in_range (shortest_reads v coord_places (coord_small v c)) ∙ rw (coord_test v c) refl
