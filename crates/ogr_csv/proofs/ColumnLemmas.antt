-- The first column with a name.
use Rattle.std.proofs.Common.{◌≡◌, ℕ, zero, suc, ◌<◌, ◌≤◌, true, false, List, [], ◌∷◌, length, get_or, arith, refl, ap, ◌∙◌, sym, Some, None}
use Rattle.std.specs.Prelude.{nat_lt, if◌then◌else◌}
use Rattle.std.specs.List.{position_or_len}
use Rattle.std.specs.Str.{str_eq_ignore_ascii_case}
use Rattle.std.proofs.lemmas.Bool.Decides.{nat_tests}
use Rattle.std.proofs.lemmas.List.Sums.{position_or_len_is}
use Rattle.csv.specs.Records.{field_at}
use Rattle.ogr_csv.specs.Inner.Read.{is_named}
use Rattle.ogr_csv.specs.Layer.{column_of}

named_get : (name : List ℕ) (fields : List (List ℕ)) (i : ℕ) → i < length fields → is_named name (field_at fields i) ≡ str_eq_ignore_ascii_case (get_or fields i []) name
unfolding field_at
named_get name [] i within = absurd (omega (arith, within))
named_get name (field ∷ fields) zero within = refl
named_get name (field ∷ fields) (suc i) within = named_get name fields i (omega (arith, within))

by_position : (name : List ℕ) (fields : List (List ℕ)) (i : ℕ) → i ≤ length fields → ((k : ℕ) → k < i → is_named name (field_at fields k) ≡ false)
    → (i < length fields → is_named name (field_at fields i) ≡ true) → position_or_len (λ field. str_eq_ignore_ascii_case field name) fields ≡ i
by_position name fields i within before is =
    position_or_len_is (λ field. str_eq_ignore_ascii_case field name) fields i [] within
    (λ k h. sym (named_get name fields k (omega (arith, h, within))) ∙ before k h) (λ h. sym (named_get name fields i h) ∙ is h)

pub column_found : (name : List ℕ) (fields : List (List ℕ)) (i : ℕ) → i < length fields → ((k : ℕ) → k < i → is_named name (field_at fields k) ≡ false)
    → is_named name (field_at fields i) ≡ true → column_of name fields ≡ Some i
column_found name fields i within before is =
    let first = by_position name fields i (omega (arith, within)) before (λ _. is) in
    let less : nat_lt i (length fields) ≡ true = grind (arith, nat_tests, within) in
    rw (first, less) refl

pub column_missing : (name : List ℕ) (fields : List (List ℕ)) → ((k : ℕ) → k < length fields → is_named name (field_at fields k) ≡ false) → column_of name fields ≡ None
column_missing name fields before =
    let all = by_position name fields (length fields) (omega arith) before (λ h. absurd (omega (arith, h))) in
    let none : nat_lt (length fields) (length fields) ≡ false = grind (arith, nat_tests) in
    rw (all, none) refl
