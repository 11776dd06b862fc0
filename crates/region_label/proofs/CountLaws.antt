-- A set has one count, so a component has one number and one size.
use Rattle.std.proofs.Common.{◌≡◌, ◌≢◌, ℕ, suc, ◌+◌, ◌-◌, ◌<◌, ◌≤◌, inl, inr, List, [], ◌∷◌, length, get_or, sym, ap, ◌∙◌, arith}
use Rattle.std.specs.Prelude.{AllPairs, Contains, remove, sum_by}
use Rattle.std.proofs.lemmas.Bool.{cases_eq, cases_lt}
use Rattle.std.proofs.lemmas.List.{get_or_default}
use Rattle.std.proofs.lemmas.List.Edits.{get_or-remove_above, get_or-remove_below, length-remove}
use Rattle.std.proofs.lemmas.List.Sums.{sum_by-cons, sum_by-remove}
use Rattle.cell_base.proofs.ListDeciders.{contains_here, contains_there}
use Rattle.region_label.specs.Count.{HasCount}

kept_member : {A : Type 0} (ys : List A) (k : ℕ) (x z : A) → k < length ys → get_or ys k x ≡ x → x ≢ z → Contains ys z → Contains (remove ys k) z
kept_member ys k x z within at_k other member =
    let shorter = length-remove ys k within in
    elim (cases_lt member.0 k) [
      | inl before ↦ (member.0, omega (arith, shorter), get_or-remove_below ys k z member.0 before within ∙ member.2)
      | inr past ↦ elim (cases_eq member.0 k) [
        | inl same ↦ absurd (other (sym at_k ∙ get_or_default ys k x z within ∙ ap (λ (j : ℕ). get_or ys j z) (sym same) ∙ member.2))
        | inr after ↦
            let next : member.0 - 1 + 1 ≡ member.0 = omega arith in
            (member.0 - 1, omega (arith, shorter, member.1), get_or-remove_above ys k z (member.0 - 1) (omega arith) within ∙ ap (λ (j : ℕ). get_or ys j z) next ∙ member.2)
      ]
    ]

-- a list without repeats is no longer than one that has all its members
pub no_longer : {A : Type 0} (xs ys : List A) → AllPairs (λ a b. a ≢ b) xs → ((x : A) → Contains xs x → Contains ys x) → length xs ≤ length ys
no_longer [] ys once within = omega arith
no_longer (x ∷ xs) ys once within =
    let at = within x (contains_here x xs) in
    let shorter = length-remove ys at.0 at.1 in
    let rest = no_longer xs (remove ys at.0) (λ i j d less in_xs. once (suc i) (suc j) d (omega arith) (omega (arith, in_xs))) (λ z member. kept_member ys at.0 x z at.1 at.2 (λ same. once 0 (suc member.0) z (omega arith) (omega (arith, member.1)) (same ∙ sym member.2)) (within z (contains_there x xs z member))) in
    omega (arith, shorter, rest)

-- and what its members have in sum is no more
pub no_more : {A : Type 0} (f : A → ℕ) (xs ys : List A) → AllPairs (λ a b. a ≢ b) xs → ((x : A) → Contains xs x → Contains ys x) → sum_by f xs ≤ sum_by f ys
no_more f [] ys once within = omega arith
no_more f (x ∷ xs) ys once within =
    let at = within x (contains_here x xs) in
    let rest = no_more f xs (remove ys at.0) (λ i j d less in_xs. once (suc i) (suc j) d (omega arith) (omega (arith, in_xs))) (λ z member. kept_member ys at.0 x z at.1 at.2 (λ same. once 0 (suc member.0) z (omega arith) (omega (arith, member.1)) (same ∙ sym member.2)) (within z (contains_there x xs z member))) in
    omega (arith, rest, sum_by-cons f x xs, sum_by-remove f ys at.0 x at.1, ap f at.2)

pub one_count : {A : Type 0} (set : A → Type 0) (m n : ℕ) → HasCount set m → HasCount set n → m ≡ n
one_count set m n is_m is_n =
    let up = no_longer is_m.0 is_n.0 is_m.1.once (λ x member. (is_n.1.all x).1 ((is_m.1.all x).0 member)) in
    let down = no_longer is_n.0 is_m.0 is_n.1.once (λ x member. (is_m.1.all x).1 ((is_n.1.all x).0 member)) in
    omega (arith, up, down, is_m.2, is_n.2)
