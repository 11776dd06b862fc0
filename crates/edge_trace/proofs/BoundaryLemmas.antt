-- The boundary edges of a set enclose exactly its cells.
use Rattle.std.proofs.Common.{◌≡◌, ◌≢◌, ℕ, zero, suc, ◌+◌, ◌%◌, ◌↔◌, Bool, true, false, not, List, [], ◌∷◌, refl, sym, ap, ◌∙◌, subst, arith, lit<}
use Rattle.std.specs.Prelude.{◌==◌, ◌&&◌, ◌||◌, AllPairs, Contains}
use Rattle.std.proofs.lemmas.Bool.{eqb-true, eq-eqb, false≢true, and_parts, and_from, false_from_ne_true}
use Rattle.std.proofs.lemmas.Bool.Decides.{nat_tests}
use Rattle.cell_base.specs.Raster.{Place}
use Rattle.cell_base.proofs.ListDeciders.{has, has_sound, has_complete, not_true, not_true_from}
use Rattle.region_label.specs.Count.{IsListOf}
use Rattle.region_label.specs.Labelling.{RegionTable, IsInRegion}
use Rattle.edge_trace.specs.Edge.{Edge, HasOnLeft, IsBoundaryEdge}
use Rattle.edge_trace.specs.Crossing.{is_crossed, crossing_count}
use Rattle.edge_trace.specs.EdgeTable.{EdgeTable, EnclosesRegions, HoldsBoundaries, IsEnclosedByBoundary}
use Rattle.edge_trace.proofs.EdgeDeciders.{same_edge, same_edge_sound, same_edge_complete}
use Rattle.edge_trace.proofs.ParityLemmas.{change_beside, is_odd, is_upright_at, odd_xor, odd_is_count, xor_false}
use Rattle.std.proofs.Math.Bool.{xor}
use Rattle.std.specs.Cmp.{both_ways}
use Rattle.region_label.proofs.RegionDeciders.{is_in_region, is_in_region_sound, is_in_region_complete}

abbrev pub down : ℕ → ℕ → Edge
down r j = ((r, j), (r + 1, j))

abbrev pub up : ℕ → ℕ → Edge
up r j = ((r + 1, j), (r, j))

-- the cell on the left of an edge that leads down
pub left_of_down : (r c : ℕ) (cell : Place) → HasOnLeft (down r c) cell → (cell.0 ≡ r) × (cell.1 ≡ c)
left_of_down r c cell (zero, within, is) = (ap (λ (e : Edge). e.0.0) is, ap (λ (e : Edge). e.0.1) is)
left_of_down r c cell (suc zero, within, is) = absurd (omega (arith, ap (λ (e : Edge). e.0.0) is, ap (λ (e : Edge). e.1.0) is))
left_of_down r c cell (suc (suc zero), within, is) = absurd (omega (arith, ap (λ (e : Edge). e.0.0) is, ap (λ (e : Edge). e.1.0) is))
left_of_down r c cell (suc (suc (suc zero)), within, is) = absurd (omega (arith, ap (λ (e : Edge). e.0.0) is, ap (λ (e : Edge). e.1.0) is))
left_of_down r c cell (suc (suc (suc (suc k))), within, is) = absurd (omega arith)

-- the cell on the left of an edge that leads up
pub left_of_up : (r c : ℕ) (cell : Place) → HasOnLeft (up r c) cell → (cell.0 ≡ r) × (cell.1 + 1 ≡ c)
left_of_up r c cell (zero, within, is) = absurd (omega (arith, ap (λ (e : Edge). e.0.0) is, ap (λ (e : Edge). e.1.0) is))
left_of_up r c cell (suc zero, within, is) = absurd (omega (arith, ap (λ (e : Edge). e.0.0) is, ap (λ (e : Edge). e.1.0) is))
left_of_up r c cell (suc (suc zero), within, is) = (ap (λ (e : Edge). e.1.0) is, ap (λ (e : Edge). e.0.1) is)
left_of_up r c cell (suc (suc (suc zero)), within, is) = absurd (omega (arith, ap (λ (e : Edge). e.0.0) is, ap (λ (e : Edge). e.1.0) is))
left_of_up r c cell (suc (suc (suc (suc k))), within, is) = absurd (omega arith)

-- a test of a set
abbrev pub Tests : (Place → Type 0) → (Place → Bool) → Type 0
Tests set test = (p : Place) → (test p ≡ true) ↔ set p

-- whether the cell to the left is in the set
abbrev left_test : (Place → Bool) → ℕ → ℕ → Bool
left_test test r zero = false
left_test test r (suc i) = test (r, i)

not_twice : (e : Edge) (es : List Edge) → AllPairs (λ x y. x ≢ y) (e ∷ es) → ¬ Contains es e
not_twice e es once member = once 0 (suc member.0) e (omega arith) (omega (arith, member.1)) (sym member.2)

once_rest : (e : Edge) (es : List Edge) → AllPairs (λ x y. x ≢ y) (e ∷ es) → AllPairs (λ x y. x ≢ y) es
once_rest e es once = λ i j d less within. once (suc i) (suc j) d (omega arith) (omega (arith, within))

without_case : (b c d : Bool) → (b || c) ≡ false → (c ≡ false → d ≡ false) → xor b d ≡ false
unfolding xor
without_case true c d none rest = absurd (false≢true (sym none))
without_case false c d none rest = xor_false d ∙ rest none

-- an edge that isn't there is counted evenly
odd_without : (x : Edge) (es : List Edge) → has same_edge es x ≡ false → is_odd (λ e. same_edge e x) es ≡ false
odd_without x [] none = refl
odd_without x (e ∷ es) none = without_case (same_edge e x) (has same_edge es x) (is_odd (λ f. same_edge f x) es) none (λ rest. odd_without x es rest)

member_case : (b c d : Bool) → (b ≡ true → c ≡ false) → (c ≡ false → d ≡ false) → d ≡ c → xor b d ≡ (b || c)
unfolding xor
member_case true c d once without same = rw (without (once refl)) refl
member_case false c d once without same = xor_false d ∙ same

-- in a list without repeats the parity of an edge says whether it is there
odd_is_member : (x : Edge) (es : List Edge) → AllPairs (λ a b. a ≢ b) es → is_odd (λ e. same_edge e x) es ≡ has same_edge es x
odd_is_member x [] once = refl
odd_is_member x (e ∷ es) once =
    member_case (same_edge e x) (has same_edge es x) (is_odd (λ f. same_edge f x) es) (λ same. false_from_ne_true (has same_edge es x) (λ there.
    let is : e ≡ x = same_edge_sound e x same in
    not_twice e es once (subst (λ (f : Edge). Contains es f) (sym is) (has_sound same_edge same_edge_sound es x there)))) (odd_without x es) (odd_is_member x es (once_rest e es once))

-- an upright edge between two cells leads down or up
split_upright : (r j : ℕ) (e : Edge) → is_upright_at r j e ≡ xor (same_edge e (down r j)) (same_edge e (up r j))
unfolding xor
split_upright r j e = grind (arith, nat_tests)

odd_split : (r j : ℕ) (es : List Edge) → is_odd (is_upright_at r j) es ≡ is_odd (λ e. xor (same_edge e (down r j)) (same_edge e (up r j))) es
odd_split r j [] = refl
odd_split r j (e ∷ es) = rw (split_upright r j e, odd_split r j es) refl

on_left_of_up : (r i j : ℕ) → i + 1 ≡ j → HasOnLeft (up r j) (r, i)
on_left_of_up r i j next = (2, lit< tt, ap (λ (k : ℕ). ((r + 1, k), (r, k))) next)

pub place_is : (cell : Place) (r c : ℕ) → cell.0 ≡ r → cell.1 ≡ c → cell ≡ (r, c)
place_is cell r c row col =
    let same : (cell.0, cell.1) ≡ (r, c) = cc in
    same

left_is : (test : Place → Bool) (r j : ℕ) (cell : Place) → (cell.0 ≡ r) × (cell.1 + 1 ≡ j) → test cell ≡ left_test test r j
left_is test r zero cell at = absurd (omega (arith, at.1))
left_is test r (suc i) cell at = ap test (place_is cell r i at.0 (omega (arith, at.1)))

left_set : (set : Place → Type 0) (test : Place → Bool) → Tests set test → (r j : ℕ) → left_test test r j ≡ true → (cell : Place) × HasOnLeft (up r j) cell × set cell
left_set set test tests r zero is = absurd (false≢true is)
left_set set test tests r (suc i) is = ((r, i), on_left_of_up r i (suc i) (omega arith), (tests (r, i)).0 is)

-- which upright edges are boundary edges

is_down_complete : (set : Place → Type 0) (test : Place → Bool) → Tests set test → (r j : ℕ) → IsBoundaryEdge set (down r j) → (test (r, j) && not (left_test test r j)) ≡ true
is_down_complete set test tests r j boundary =
    let at = left_of_down r j boundary.left.0 boundary.left.1 in
    let here : test (r, j) ≡ true = ap test (sym (place_is boundary.left.0 r j at.0 at.1)) ∙ (tests boundary.left.0).1 boundary.left.2 in
    and_from (test (r, j)) (not (left_test test r j)) here (not_true_from (left_test test r j) (λ left.
    let found = left_set set test tests r j left in
    boundary.right found.0 found.1 found.2))

is_down_sound : (set : Place → Type 0) (test : Place → Bool) → Tests set test → (r j : ℕ) → (test (r, j) && not (left_test test r j)) ≡ true → IsBoundaryEdge set (down r j)
is_down_sound set test tests r j is =
    let parts = and_parts (test (r, j)) (not (left_test test r j)) is in
    record {
      left = ((r, j), (0, lit< tt, refl), (tests (r, j)).0 parts.0);
      right = λ cell on_right in_set. not_true (left_test test r j) parts.1 (sym (left_is test r j cell (left_of_up r j cell on_right)) ∙ (tests cell).1 in_set);
    }

is_up_complete : (set : Place → Type 0) (test : Place → Bool) → Tests set test → (r j : ℕ) → IsBoundaryEdge set (up r j) → (left_test test r j && not (test (r, j))) ≡ true
is_up_complete set test tests r j boundary =
    let left : left_test test r j ≡ true = sym (left_is test r j boundary.left.0 (left_of_up r j boundary.left.0 boundary.left.1)) ∙ (tests boundary.left.0).1 boundary.left.2 in
    and_from (left_test test r j) (not (test (r, j))) left (not_true_from (test (r, j)) (λ here. boundary.right (r, j) (0, lit< tt, refl) ((tests (r, j)).0 here)))

is_up_sound : (set : Place → Type 0) (test : Place → Bool) → Tests set test → (r j : ℕ) → (left_test test r j && not (test (r, j))) ≡ true → IsBoundaryEdge set (up r j)
is_up_sound set test tests r j is =
    let parts = and_parts (left_test test r j) (not (test (r, j))) is in
    record {
      left = left_set set test tests r j parts.0;
      right = λ cell on_right in_set.
          let at = left_of_down r j cell on_right in
          not_true (test (r, j)) parts.1 (ap test (sym (place_is cell r j at.0 at.1)) ∙ (tests cell).1 in_set);
    }

has_down : (set : Place → Type 0) (test : Place → Bool) → Tests set test → (edges : List Edge) → IsListOf (IsBoundaryEdge set) edges → (r j : ℕ) → has same_edge edges (down r j) ≡ (test (r, j) && not (left_test test r j))
has_down set test tests edges all r j = both_ways _ _
    (λ member. is_down_complete set test tests r j ((all.all (down r j)).0 (has_sound same_edge same_edge_sound edges (down r j) member)))
    (λ is. has_complete same_edge same_edge_complete edges (down r j) ((all.all (down r j)).1 (is_down_sound set test tests r j is)))

has_up : (set : Place → Type 0) (test : Place → Bool) → Tests set test → (edges : List Edge) → IsListOf (IsBoundaryEdge set) edges → (r j : ℕ) → has same_edge edges (up r j) ≡ (left_test test r j && not (test (r, j)))
has_up set test tests edges all r j = both_ways _ _
    (λ member. is_up_complete set test tests r j ((all.all (up r j)).0 (has_sound same_edge same_edge_sound edges (up r j) member)))
    (λ is. has_complete same_edge same_edge_complete edges (up r j) ((all.all (up r j)).1 (is_up_sound set test tests r j is)))

one_of_both : (a b : Bool) → xor (a && not b) (b && not a) ≡ xor a b
unfolding xor
one_of_both true true = refl
one_of_both true false = refl
one_of_both false true = refl
one_of_both false false = refl

xor_none : (a : Bool) → xor a false ≡ a
unfolding xor
xor_none true = refl
xor_none false = refl

xor_back : (a b : Bool) → xor a (xor b a) ≡ b
unfolding xor
xor_back true true = refl
xor_back true false = refl
xor_back false true = refl
xor_back false false = refl

-- between two cells of a row lies a boundary edge exactly where one of them is in the set
at_column : (set : Place → Type 0) (test : Place → Bool) → Tests set test → (edges : List Edge) → IsListOf (IsBoundaryEdge set) edges → (r j : ℕ) → is_odd (is_upright_at r j) edges ≡ xor (test (r, j)) (left_test test r j)
at_column set test tests edges all r j =
    let downs : is_odd (λ e. same_edge e (down r j)) edges ≡ (test (r, j) && not (left_test test r j)) = odd_is_member (down r j) edges all.once ∙ has_down set test tests edges all r j in
    let ups : is_odd (λ e. same_edge e (up r j)) edges ≡ (left_test test r j && not (test (r, j))) = odd_is_member (up r j) edges all.once ∙ has_up set test tests edges all r j in
    odd_split r j edges ∙ odd_xor (λ e. same_edge e (down r j)) (λ e. same_edge e (up r j)) edges ∙ ap (λ (b : Bool). xor b (is_odd (λ e. same_edge e (up r j)) edges)) downs ∙ ap (xor (test (r, j) && not (left_test test r j))) ups ∙ one_of_both (test (r, j)) (left_test test r j)

odd_each : (p q : Edge → Bool) → ((e : Edge) → p e ≡ q e) → (es : List Edge) → is_odd p es ≡ is_odd q es
odd_each p q same [] = refl
odd_each p q same (e ∷ es) = rw (same e, odd_each p q same es) refl

first_column : (r : ℕ) (e : Edge) → is_crossed (r, 0) e ≡ is_upright_at r 0 e
first_column r e = grind (arith, nat_tests)

next_column : (r c : ℕ) (e : Edge) → is_crossed (r, suc c) e ≡ xor (is_crossed (r, c) e) (is_upright_at r (suc c) e)
next_column r c e =
    let next : c + 1 ≡ suc c = omega arith in
    subst (λ (k : ℕ). is_crossed (r, k) e ≡ xor (is_crossed (r, c) e) (is_upright_at r k e)) next (change_beside r c e)

odd_is_test : (set : Place → Type 0) (test : Place → Bool) → Tests set test → (edges : List Edge) → IsListOf (IsBoundaryEdge set) edges → (r c : ℕ) → is_odd (is_crossed (r, c)) edges ≡ test (r, c)
odd_is_test set test tests edges all r zero = odd_each _ _ (first_column r) edges ∙ at_column set test tests edges all r zero ∙ xor_none (test (r, 0))
odd_is_test set test tests edges all r (suc c) =
    odd_each _ _ (next_column r c) edges ∙ odd_xor (is_crossed (r, c)) (is_upright_at r (suc c)) edges ∙ ap (λ (b : Bool). xor b (is_odd (is_upright_at r (suc c)) edges)) (odd_is_test set test tests edges all r c) ∙ ap (xor (test (r, c))) (at_column set test tests edges all r (suc c)) ∙ xor_back (test (r, c)) (test (r, suc c))

-- so a set that can be tested is enclosed by its boundary
pub enclosed_by_boundary : (set : Place → Type 0) (test : Place → Bool) → Tests set test → IsEnclosedByBoundary set
enclosed_by_boundary set test tests edges all cell =
    let parity : test cell ≡ ((crossing_count edges cell % 2) == 1) = sym (odd_is_test set test tests edges all cell.0 cell.1) ∙ odd_is_count cell edges in (
      λ in_set. eqb-true (crossing_count edges cell % 2) 1 (sym parity ∙ (tests cell).1 in_set),
      λ odd. (tests cell).0 (parity ∙ eq-eqb (crossing_count edges cell % 2) 1 odd),
    )

-- each component is enclosed by its boundary
pub region_enclosed : (regions : RegionTable) (k : ℕ) → IsEnclosedByBoundary (IsInRegion regions k)
region_enclosed regions k = enclosed_by_boundary (IsInRegion regions k) (is_in_region regions k) (λ p. (is_in_region_sound regions k p, is_in_region_complete regions k p))

-- so are the cells of each component by its edges in a table that holds each boundary edge
pub table_encloses : (regions : RegionTable) (table : EdgeTable) → HoldsBoundaries regions table → EnclosesRegions regions table
table_encloses regions table holds k edges list =
    region_enclosed regions k edges (record {
      all = λ e. (
        λ member.
            let own = (list.all e).0 member in
            holds.boundary k own.0 e own.1 own.2,
        λ boundary. (list.all e).1 (holds.every k e boundary),
      );
      once = list.once;
    })
