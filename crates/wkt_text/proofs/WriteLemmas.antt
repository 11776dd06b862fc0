-- Lists that are written member after member.
use Rattle.std.proofs.Common.{◌≡◌, ℕ, ◌<◌, List, [], ◌∷◌, ◌++◌, length, take, arith, refl, sym, ap, ◌∙◌, append_assoc}
use Rattle.std.specs.Prelude.{map}
use Rattle.std.specs.List.{join_with_byte}
use Rattle.std.proofs.Math.Seq.{take-length}
use Rattle.fixed_coord.proofs.WriteLemmas.{still_front}
use Rattle.wkt_text.specs.Spelling.{list_text}
use Rattle.wkt_text.specs.Inner.Spelled.{IsWriting, rest_text}

-- the members with commas between them, and the closing parenthesis
rest_is : {A : Type 0} (text : A → List ℕ) (member : A) (members : List A)
    → text member ++ rest_text text 44 members ≡ join_with_byte 44 (map text (member ∷ members)) ++ 41 ∷ []
rest_is text member [] = refl
rest_is text member (next ∷ members) =
    ap (λ rest. text member ++ 44 ∷ rest) (rest_is text next members)
    ∙ sym (append_assoc (text member) (44 ∷ join_with_byte 44 (map text (next ∷ members))) (41 ∷ []))

all_left : {A : Type 0} (text : A → List ℕ) (members : List A) → 0 < length members → rest_text text 40 members ≡ list_text text members
all_left text [] some = absurd (omega (arith, some))
all_left text (member ∷ members) some = ap (λ rest. 40 ∷ rest) (rest_is text member members)

-- nothing is written yet
pub none_written : {A : Type 0} (text : A → List ℕ) (members : List A) (before : List ℕ) → 0 < length members → IsWriting text members before before 40 members
none_written text members before some = record {
  whole = ap (λ rest. before ++ rest) (all_left text members some);
  front = take-length before;
}

-- a mark and the next member
pub member_written : {A : Type 0} {text : A → List ℕ} {members : List A} {before now : List ℕ} {mark : ℕ} {left : List A} (member : A) (rest : List A) (marked new : List ℕ)
    → IsWriting text members before now mark left → left ≡ member ∷ rest → marked ≡ now ++ mark ∷ [] → new ≡ marked ++ text member
    → IsWriting text members before new 44 rest
member_written {text} {members} {before} {now} {mark} {left} member rest marked new is next first second =
    let done : new ≡ now ++ (mark ∷ text member) = second ∙ ap (λ xs. xs ++ text member) first ∙ append_assoc now (mark ∷ []) (text member) in
    record {
      whole =
          ap (λ xs. xs ++ rest_text text 44 rest) done ∙ append_assoc now (mark ∷ text member) (rest_text text 44 rest)
          ∙ ap (λ xs. now ++ rest_text text mark xs) (sym next) ∙ is.whole;
      front = ap (take (length before)) done ∙ still_front before now (mark ∷ text member) is.front;
    }

-- the closing parenthesis
pub all_written : {A : Type 0} {text : A → List ℕ} {members : List A} {before now : List ℕ} {mark : ℕ} {left : List A} (new : List ℕ)
    → IsWriting text members before now mark left → left ≡ [] → new ≡ now ++ 41 ∷ [] → new ≡ before ++ list_text text members
all_written {text} {members} {before} {now} {mark} {left} new is none last =
    last ∙ ap (λ xs. now ++ rest_text text mark xs) (sym none) ∙ is.whole
