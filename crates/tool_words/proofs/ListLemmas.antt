-- Lists of words.
use Rattle.std.proofs.Common.{◌≡◌, ◌<◌, ◌+◌, ◌++◌, ◌∷◌, [], ◌∙◌, ℕ, List, length, take, drop, map, ap, arith}
use Rattle.std.proofs.lemmas.Grind.{common_steps}
use Rattle.std.proofs.lemmas.List.{map-set, take_more_set}
use Rattle.std.specs.Prelude.{slice_get, slice_set, unwrap_or}
use Rattle.std.proofs.lemmas.Option.{gets}

-- a value that is written behind the first so many of a list
pub take_written : {A B : Type 0} (f : A → B) (xs : List A) (n : ℕ) (x : A) → n < length xs → take (n + 1) (map f (slice_set xs n x)) ≡ take n (map f xs) ++ f x ∷ []
take_written f xs n x inside =
    let within : n < length (map f xs) = grind (arith, common_steps) in
    ap (take (n + 1)) (map-set f xs n x) ∙ take_more_set (map f xs) n (f x) within

-- a member of what is taken behind some of a list
pub got_behind : {A : Type 0} (xs : List A) (k n i : ℕ) → i < n → slice_get (take n (drop k xs)) i ≡ slice_get xs (k + i)
got_behind xs k n i inside = grind (arith, common_steps, gets, inside)

-- one member more
pub take_one : (xs : List (List ℕ)) (i : ℕ) → i < length xs → take (i + 1) xs ≡ take i xs ++ unwrap_or (slice_get xs i) [] ∷ []
take_one xs i inside = grind (arith, common_steps, gets, inside)
