-- How many cells the runs of a list have.
use Rattle.std.proofs.Common.{◌≡◌, ◌≢◌, ℕ, zero, suc, ◌+◌, ◌-◌, ◌<◌, ◌⊎◌, inl, inr, List, [], ◌∷◌, ◌++◌, map, length, get_or, refl, ap, sym, ◌∙◌, subst, arith}
use Rattle.std.specs.Prelude.{AllPairs, Contains, sum_by}
use Rattle.std.specs.List.{flat_map, range_with_len}
use Rattle.std.proofs.lemmas.List.{get_or_default}
use Rattle.std.proofs.lemmas.List.Concat.{length-flat_map}
use Rattle.std.proofs.lemmas.List.Elements.{Contains-append_cases, Contains-append_left, Contains-append_right}
use Rattle.std.proofs.lemmas.List.FromFn.{get_or-map-range_with_len, length-map-range_with_len}
use Rattle.cell_base.specs.Raster.{Place}
use Rattle.cell_base.proofs.ListDeciders.{contains_here, contains_there}
use Rattle.region_label.specs.Count.{HasCount}
use Rattle.region_label.specs.Run.{Run, IsCellOf}

-- no member is repeated, by recursion
IsOnce : {A : Type 0} → List A → Type 0
IsOnce [] = Unit {0}
IsOnce (x ∷ xs) = (¬ Contains xs x) × IsOnce xs

not_in_none : {A : Type 0} (x : A) → Contains [] x → ⊥
not_in_none x member = omega (arith, member.1)

contains_cases : {A : Type 0} (x : A) (xs : List A) (y : A) → Contains (x ∷ xs) y → (x ≡ y) ⊎ Contains xs y
contains_cases x xs y (zero, within, is) = inl is
contains_cases x xs y (suc k, within, is) = inr (k, omega arith, is)

once_append : {A : Type 0} (xs ys : List A) → IsOnce xs → IsOnce ys → ((z : A) → Contains xs z → Contains ys z → ⊥) → IsOnce (xs ++ ys)
unfolding IsOnce
once_append [] ys first second apart = second
once_append (x ∷ xs) ys first second apart = (
  λ member. elim (Contains-append_cases xs ys x member) [
    | inl left ↦ first.0 left
    | inr right ↦ apart x (contains_here x xs) right
  ],
  once_append xs ys first.1 second (λ z in_xs in_ys. apart z (contains_there x xs z in_xs) in_ys),
)

once_of_pairs : {A : Type 0} (xs : List A) → AllPairs (λ x y. x ≢ y) xs → IsOnce xs
unfolding IsOnce
once_of_pairs [] pairs = tt
once_of_pairs (x ∷ xs) pairs = (
  λ member. pairs 0 (suc member.0) x (omega arith) (omega (arith, member.1)) (sym member.2),
  once_of_pairs xs (λ i j d less within. pairs (suc i) (suc j) d (omega arith) (omega (arith, within))),
)

pairs_of_once : {A : Type 0} (xs : List A) → IsOnce xs → AllPairs (λ x y. x ≢ y) xs
unfolding IsOnce
pairs_of_once [] once i j d less within = absurd (omega (arith, within))
pairs_of_once (x ∷ xs) once i zero d less within = absurd (omega arith)
pairs_of_once (x ∷ xs) once zero (suc j) d less within = λ same. once.0 (j, omega (arith, within), get_or_default xs j x d (omega (arith, within)) ∙ sym same)
pairs_of_once (x ∷ xs) once (suc i) (suc j) d less within = pairs_of_once xs once.1 i j d (omega arith) (omega (arith, within))

flat_member : {X A : Type 0} (f : X → List A) (xs : List X) (z : A) → Contains (flat_map f xs) z → (x : X) × Contains xs x × Contains (f x) z
flat_member f [] z member = absurd (not_in_none z member)
flat_member f (x ∷ xs) z member = elim (Contains-append_cases (f x) (flat_map f xs) z member) [
  | inl here ↦ (x, contains_here x xs, here)
  | inr there ↦
      let found = flat_member f xs z there in
      (found.0, contains_there x xs found.0 found.1, found.2)
]

once_flat : {X A : Type 0} (f : X → List A) (xs : List X) → IsOnce xs → ((x : X) → Contains xs x → IsOnce (f x)) → ((x y : X) (z : A) → Contains xs x → Contains xs y → x ≢ y → Contains (f x) z → Contains (f y) z → ⊥) → IsOnce (flat_map f xs)
unfolding IsOnce
once_flat f [] once each apart = tt
once_flat f (x ∷ xs) once each apart =
    once_append (f x) (flat_map f xs) (each x (contains_here x xs)) (once_flat f xs once.1 (λ y member. each y (contains_there x xs y member)) (λ y z w in_y in_z. apart y z w (contains_there x xs y in_y) (contains_there x xs z in_z))) (λ z here there.
    let found = flat_member f xs z there in
    apart x found.0 z (contains_here x xs) (contains_there x xs found.0 found.1) (λ same. once.0 (subst (λ w. Contains xs w) (sym same) found.1)) here found.2)

flat_has : {X A : Type 0} (f : X → List A) (xs : List X) (x : X) (z : A) → Contains xs x → Contains (f x) z → Contains (flat_map f xs) z
flat_has f [] x z member has = absurd (not_in_none x member)
flat_has f (y ∷ ys) x z member has = elim (contains_cases y ys x member) [
  | inl same ↦ Contains-append_left (f y) (flat_map f ys) z (subst (λ w. Contains (f w) z) (sym same) has)
  | inr later ↦ Contains-append_right (f y) (flat_map f ys) z (flat_has f ys x z later has)
]

-- the cells of a run from the left
cells_in : Run → List Place
cells_in run = map (λ col. (run.row, col)) (range_with_len run.from (run.to - run.from))

length-cells_in : (run : Run) → length (cells_in run) ≡ run.to - run.from
unfolding cells_in
length-cells_in run = length-map-range_with_len (λ col. (run.row, col)) run.from (run.to - run.from)

cell_at : (run : Run) (k : ℕ) (d : Place) → k < run.to - run.from → get_or (cells_in run) k d ≡ (run.row, run.from + k)
unfolding cells_in
cell_at run k d within = get_or-map-range_with_len (λ col. (run.row, col)) run.from (run.to - run.from) k (run.from + k) d within refl

in_run : (run : Run) (p : Place) → Contains (cells_in run) p → IsCellOf run p
in_run run p member =
    let within : member.0 < run.to - run.from = omega (arith, member.1, length-cells_in run) in
    let is : (run.row, run.from + member.0) ≡ p = sym (cell_at run member.0 p within) ∙ member.2 in
    let row : run.row ≡ p.0 = ap (λ (q : Place). q.0) is in
    let col : run.from + member.0 ≡ p.1 = ap (λ (q : Place). q.1) is in
    (sym row, omega (arith, col), omega (arith, col, within))

has_in_run : (run : Run) (p : Place) → IsCellOf run p → Contains (cells_in run) p
has_in_run run p is =
    let within : p.1 - run.from < run.to - run.from = omega (arith, is.1, is.2) in
    let row : run.row ≡ p.0 = sym is.0 in
    let col : run.from + (p.1 - run.from) ≡ p.1 = omega (arith, is.1) in
    let same : (run.row, run.from + (p.1 - run.from)) ≡ (p.0, p.1) = cc in
    (p.1 - run.from, omega (arith, within, length-cells_in run), cell_at run (p.1 - run.from) p within ∙ same)

once_in_run : (run : Run) → IsOnce (cells_in run)
once_in_run run = once_of_pairs (cells_in run) (λ i j d less within same.
    let in_j : j < run.to - run.from = omega (arith, within, length-cells_in run) in
    let both : (run.row, run.from + i) ≡ (run.row, run.from + j) = sym (cell_at run i d (omega arith)) ∙ same ∙ cell_at run j d in_j in
    let col : run.from + i ≡ run.from + j = ap (λ (q : Place). q.1) both in
    omega (arith, col, less))

-- a set that is made up of the runs of a list has as many cells as these
pub census : (set : Place → Type 0) (run_of : ℕ → Run) (list : List ℕ) → AllPairs (λ i j. i ≢ j) list → ((i : ℕ) (p : Place) → Contains list i → IsCellOf (run_of i) p → set p) → ((p : Place) → set p → (i : ℕ) × Contains list i × IsCellOf (run_of i) p) → ((i j : ℕ) (p : Place) → Contains list i → Contains list j → IsCellOf (run_of i) p → IsCellOf (run_of j) p → i ≡ j) → HasCount set (sum_by (λ i. (run_of i).to - (run_of i).from) list)
census set run_of list once each every apart = (
  flat_map (λ i. cells_in (run_of i)) list,
  record {
    all = λ p. (
      λ member.
          let found = flat_member (λ i. cells_in (run_of i)) list p member in
          each found.0 p found.1 (in_run (run_of found.0) p found.2),
      λ is.
          let found = every p is in
          flat_has (λ i. cells_in (run_of i)) list found.0 p found.1 (has_in_run (run_of found.0) p found.2),
    );
    once = pairs_of_once (flat_map (λ i. cells_in (run_of i)) list) (once_flat (λ i. cells_in (run_of i)) list (once_of_pairs list once) (λ i member. once_in_run (run_of i)) (λ i j p in_i in_j other here there. other (apart i j p in_i in_j (in_run (run_of i) p here) (in_run (run_of j) p there))));
  },
  length-flat_map (λ i. cells_in (run_of i)) list ∙ ap (λ (g : ℕ → ℕ). sum_by g list) (λ t. λ i. length-cells_in (run_of i) t),
)
