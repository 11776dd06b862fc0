-- A chain has one way to go.
use Rattle.std.proofs.Common.{◌≡◌, ℕ, ◌<◌, ◌≤◌, List, [], ◌∷◌, sym, ◌∙◌, subst, arith}
use Rattle.std.specs.Prelude.{Bool}
use Rattle.cell_base.specs.Walk.{IsWalk}
use Rattle.region_label.specs.Labelling.{RegionTable}
use Rattle.sieve_core.specs.Sieve.{IsLargest, IsChained, TakesFrom, size_of}

-- a component has one largest neighbour
pub one_largest : (connectivity : Bool) (regions : RegionTable) (k m n : ℕ) → IsLargest connectivity regions k m → IsLargest connectivity regions k n → m ≡ n
one_largest connectivity regions k m n is_m is_n =
    let up = is_n.largest m is_m.next_to in
    let down = is_m.largest n is_n.next_to in
    let same : size_of regions n ≡ size_of regions m = omega (arith, up, down) in
    omega (arith, is_m.lowest n is_n.next_to same, is_n.lowest m is_m.next_to (sym same))

one_end : (connectivity : Bool) (regions : RegionTable) (st k m n : ℕ) (xs ys : List ℕ) → IsWalk (IsChained connectivity regions st) k xs m → IsWalk (IsChained connectivity regions st) k ys n → st ≤ size_of regions m → st ≤ size_of regions n → m ≡ n
one_end connectivity regions st k m n [] [] first second big_m big_n = sym first ∙ second
one_end connectivity regions st k m n [] (y ∷ ys) first second big_m big_n =
    let big : st ≤ size_of regions k = subst (λ (j : ℕ). st ≤ size_of regions j) (sym first) big_m in
    absurd (omega (arith, big, second.0.0))
one_end connectivity regions st k m n (x ∷ xs) [] first second big_m big_n =
    let big : st ≤ size_of regions k = subst (λ (j : ℕ). st ≤ size_of regions j) (sym second) big_n in
    absurd (omega (arith, big, first.0.0))
one_end connectivity regions st k m n (x ∷ xs) (y ∷ ys) first second big_m big_n =
    let same : y ≡ x = one_largest connectivity regions k y x second.0.1 first.0.1 in
    one_end connectivity regions st x m n xs ys first.1 (subst (λ (j : ℕ). IsWalk (IsChained connectivity regions st) j ys n) same second.1) big_m big_n

-- a component takes the value of at most one
pub takes_once : (connectivity : Bool) (regions : RegionTable) (st k m n : ℕ) → TakesFrom connectivity regions st k m → TakesFrom connectivity regions st k n → m ≡ n
takes_once connectivity regions st k m n from_m from_n = one_end connectivity regions st k m n from_m.0 from_n.0 from_m.1 from_n.1 from_m.3 from_n.3

stays_among : (connectivity : Bool) (regions : RegionTable) (st : ℕ) (set : ℕ → Type 0) → ((j m : ℕ) → set j → IsChained connectivity regions st j m → set m) → (k m : ℕ) (chain : List ℕ) → set k → IsWalk (IsChained connectivity regions st) k chain m → set m
stays_among connectivity regions st set closed k m [] in_k walked = subst set walked in_k
stays_among connectivity regions st set closed k m (c ∷ cs) in_k walked = stays_among connectivity regions st set closed c m cs (closed k c in_k walked.0) walked.1

-- where a chain stays among small components there is none to take from
pub takes_from_none : (connectivity : Bool) (regions : RegionTable) (st : ℕ) (set : ℕ → Type 0) → ((j m : ℕ) → set j → IsChained connectivity regions st j m → set m) → ((j : ℕ) → set j → size_of regions j < st) → (k : ℕ) → set k → (m : ℕ) → ¬ TakesFrom connectivity regions st k m
takes_from_none connectivity regions st set closed small k in_k m from =
    let end = stays_among connectivity regions st set closed k m from.0 in_k from.1 in
    omega (arith, small m end, from.3)
