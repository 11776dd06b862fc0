-- Lists of targets, component by component.
use Rattle.std.proofs.Common.{◌≡◌, ℕ, zero, suc, ◌+◌, ◌<◌, Bool, true, List, [], ◌∷◌, Option, Some, None, subst, arith}
use Rattle.std.specs.Prelude.{nat_lt, slice_get, slice_index}
use Rattle.std.specs.List.{list_all}
use Rattle.std.proofs.lemmas.Bool.{ltb-true, and_parts}
use Rattle.std.proofs.lemmas.Option.{same_Some}
use Rattle.region_label.specs.Labelling.{RegionTable}
use Rattle.sieve_core.specs.Sieve.{TakesFrom}
use Rattle.sieve_core.proofs.SieveLemmas.{takes_from_none}
use Rattle.sieve_core.proofs.SieveDeciders.{AreTargets}

-- each of the list is right, counted from k
abbrev pub AreRight : Bool → RegionTable → ℕ → ℕ → List (Option ℕ) → Type 0
AreRight connectivity regions st k [] = Unit {0}
AreRight connectivity regions st k (None ∷ ts) = ((m : ℕ) → ¬ TakesFrom connectivity regions st k m) × AreRight connectivity regions st (suc k) ts
AreRight connectivity regions st k (Some m ∷ ts) = TakesFrom connectivity regions st k m × AreRight connectivity regions st (suc k) ts

right_taken : (connectivity : Bool) (regions : RegionTable) (st k : ℕ) (ts : List (Option ℕ)) → AreRight connectivity regions st k ts → (i m : ℕ) → slice_get ts i ≡ Some (Some m) → TakesFrom connectivity regions st (k + i) m
right_taken connectivity regions st k [] right i m at = absurd (let none : None ≡ Some (Some m) = at in cc)
right_taken connectivity regions st k (None ∷ ts) right zero m at = absurd (let none : Some None ≡ Some (Some m) = at in cc)
right_taken connectivity regions st k (Some n ∷ ts) right zero m at =
    let here : k ≡ k + 0 = omega arith in
    subst (λ (j : ℕ). TakesFrom connectivity regions st j m) here (subst (λ (j : ℕ). TakesFrom connectivity regions st k j) (same_Some n m (same_Some (Some n) (Some m) at)) right.0)
right_taken connectivity regions st k (None ∷ ts) right (suc i) m at =
    let there : suc k + i ≡ k + suc i = omega arith in
    subst (λ (j : ℕ). TakesFrom connectivity regions st j m) there (right_taken connectivity regions st (suc k) ts right.1 i m at)
right_taken connectivity regions st k (Some n ∷ ts) right (suc i) m at =
    let there : suc k + i ≡ k + suc i = omega arith in
    subst (λ (j : ℕ). TakesFrom connectivity regions st j m) there (right_taken connectivity regions st (suc k) ts right.1 i m at)

right_none : (connectivity : Bool) (regions : RegionTable) (st k : ℕ) (ts : List (Option ℕ)) → AreRight connectivity regions st k ts → (i : ℕ) → slice_get ts i ≡ Some None → (m : ℕ) → ¬ TakesFrom connectivity regions st (k + i) m
right_none connectivity regions st k [] right i at m takes = cc
right_none connectivity regions st k (None ∷ ts) right zero at m takes =
    let here : k + 0 ≡ k = omega arith in
    right.0 m (subst (λ (j : ℕ). TakesFrom connectivity regions st j m) here takes)
right_none connectivity regions st k (Some n ∷ ts) right zero at m takes = cc
right_none connectivity regions st k (None ∷ ts) right (suc i) at m takes =
    let there : k + suc i ≡ suc k + i = omega arith in
    right_none connectivity regions st (suc k) ts right.1 i at m (subst (λ (j : ℕ). TakesFrom connectivity regions st j m) there takes)
right_none connectivity regions st k (Some n ∷ ts) right (suc i) at m takes =
    let there : k + suc i ≡ suc k + i = omega arith in
    right_none connectivity regions st (suc k) ts right.1 i at m (subst (λ (j : ℕ). TakesFrom connectivity regions st j m) there takes)

pub targets_by : (connectivity : Bool) (regions : RegionTable) (st : ℕ) (ts : List (Option ℕ)) → AreRight connectivity regions st 0 ts → AreTargets connectivity regions st ts
targets_by connectivity regions st ts right = record {
  taken = λ k m at.
      let here : 0 + k ≡ k = omega arith in
      subst (λ (j : ℕ). TakesFrom connectivity regions st j m) here (right_taken connectivity regions st 0 ts right k m at);
  none = λ k at m takes.
      let here : k ≡ 0 + k = omega arith in
      right_none connectivity regions st 0 ts right k at m (subst (λ (j : ℕ). TakesFrom connectivity regions st j m) here takes);
}

small_at : (st : ℕ) (sizes : List ℕ) → 0 < st → list_all (λ n. nat_lt n st) sizes ≡ true → (j : ℕ) → slice_index sizes j < st
small_at st [] some all j = some
small_at st (n ∷ ns) some all zero = ltb-true n st (and_parts (nat_lt n st) (list_all (λ m. nat_lt m st) ns) all).0
small_at st (n ∷ ns) some all (suc j) = small_at st ns some (and_parts (nat_lt n st) (list_all (λ m. nat_lt m st) ns) all).1 j

-- where all components are small none takes a value
pub none_where_small : (connectivity : Bool) (regions : RegionTable) (st : ℕ) → 0 < st → list_all (λ n. nat_lt n st) regions.sizes ≡ true → (k m : ℕ) → ¬ TakesFrom connectivity regions st k m
none_where_small connectivity regions st some all k m = takes_from_none connectivity regions st (λ j. Unit {0}) (λ j n in_j chained. tt) (λ j in_j. small_at st regions.sizes some all j) k tt m
