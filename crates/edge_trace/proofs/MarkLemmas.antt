-- Marks at the ways of edges that walks passed.
use Rattle.std.proofs.Common.{◌≡◌, ℕ, suc, ◌+◌, ◌/◌, ◌%◌, ◌<◌, ◌≤◌, Bool, false, true, List, [], ◌∷◌, Some, length, map, nat_le, replicate, set, slice_index_or, refl, ap, sym, ◌∙◌, subst, arith}
use Rattle.std.specs.Prelude.{option_map, slice_get}
use Rattle.std.proofs.Math.Nat.{mod-eq_of_lt}
use Rattle.std.proofs.Math.Seq.{map-set_same}
use Rattle.std.proofs.lemmas.Bool.{le-leb, lt-leb}
use Rattle.std.proofs.lemmas.List.{length-map, map-id, map-set, set-get_or}
use Rattle.std.proofs.lemmas.Option.{get_or_from_slice_get, slice_get-map, slice_get_within}
use Rattle.cell_base.proofs.PlaceLemmas.{element_at}
use Rattle.edge_trace.specs.Walk.{EdgeWalks, StandsIn}
use Rattle.edge_trace.specs.Inner.Table.{IsTable, marks_of, table_of, unmarked, walks_of}
use Rattle.edge_trace.specs.declared.walk_edge.WalkEdge.{WalkEdge}
use Rattle.edge_trace.proofs.SlotLemmas.{read_at}
use Rattle.edge_trace.proofs.WalkLemmas.{stands_within}

map_same : {A B : Type 0} (f g : A → B) (xs : List A) → ((i : ℕ) (x : A) → slice_get xs i ≡ Some x → f x ≡ g x) → map f xs ≡ map g xs
map_same f g [] same = refl
map_same f g (x ∷ xs) same = cc (same 0 x refl, map_same f g xs (λ i y at. same (suc i) y at))

all_false : {A : Type 0} (xs : List A) → map (λ (x : A). false) xs ≡ replicate (length xs) false
all_false [] = refl
all_false (x ∷ xs) = ap (λ (bs : List Bool). false ∷ bs) (all_false xs)

-- the ways of a table have no mark
low_ways : (shift stride : ℕ) (numbers ways : List ℕ) → IsTable shift stride numbers ways → (i way : ℕ) → slice_get ways i ≡ Some way → way < 2147483648
low_ways shift stride numbers ways is i way to =
    let here = element_at numbers i (omega (arith, slice_get_within ways i way to, is.linked)) in
    let leads = is.leads i here.0 way here.1 to in
    omega (arith, slice_get_within numbers (way / 4) leads.number leads.there, is.few)

pub unmarked_ways : (shift stride : ℕ) (numbers ways : List ℕ) → IsTable shift stride numbers ways → unmarked ways ≡ ways
unmarked_ways shift stride numbers ways is = map_same (λ (way : ℕ). way % 2147483648) (λ (way : ℕ). way) ways (λ i way to. mod-eq_of_lt (low_ways shift stride numbers ways is i way to)) ∙ map-id ways

pub no_marks : (shift stride : ℕ) (numbers ways : List ℕ) → IsTable shift stride numbers ways → marks_of ways ≡ replicate (length ways) false
no_marks shift stride numbers ways is = map_same (λ (way : ℕ). nat_le 2147483648 way) (λ (way : ℕ). false) ways (λ i way to. lt-leb 2147483648 way (low_ways shift stride numbers ways is i way to)) ∙ all_false ways

-- the word that a walk reads at an edge
pub record Reads (stride : ℕ) (numbers ways : List ℕ) (edge : WalkEdge) (way : ℕ) : Type 0 where
  pub stands : StandsIn (table_of stride numbers (unmarked ways)) edge
  pub at : slice_get ways edge.number ≡ Some way

pub reads : (shift stride : ℕ) (numbers ways : List ℕ) (walks : EdgeWalks) (edge : WalkEdge) (way : ℕ) → IsTable shift stride numbers (unmarked ways) → walks_of stride numbers ways ≡ walks → StandsIn walks.table edge → way ≡ slice_index_or ways edge.number way → Reads stride numbers ways edge way
reads shift stride numbers ways walks edge way is view stands read =
    let here : StandsIn (table_of stride numbers (unmarked ways)) edge = subst (λ (w : EdgeWalks). StandsIn w.table edge) (sym view) stands in
    record {
      stands = here;
      at = read_at ways edge.number way (omega (arith, stands_within stride numbers (unmarked ways) edge here, is.linked, length-map ways (λ (w : ℕ). w % 2147483648))) read;
    }

-- where it has no mark, it is the way in the table
pub unmarked_at : (ways : List ℕ) (i way : ℕ) → slice_get ways i ≡ Some way → way < 2147483648 → slice_get (unmarked ways) i ≡ Some way
unmarked_at ways i way at low = slice_get-map (λ (w : ℕ). w % 2147483648) ways i ∙ ap (option_map (λ (w : ℕ). w % 2147483648)) at ∙ ap (λ (w : ℕ). Some w) (mod-eq_of_lt low)

pub mark_at : (ways : List ℕ) (i way : ℕ) → slice_get ways i ≡ Some way → slice_get (marks_of ways) i ≡ Some (nat_le 2147483648 way)
mark_at ways i way at = slice_get-map (λ (w : ℕ). nat_le 2147483648 w) ways i ∙ ap (option_map (λ (w : ℕ). nat_le 2147483648 w)) at

pub no_mark_at : (ways : List ℕ) (i way : ℕ) → slice_get ways i ≡ Some way → way < 2147483648 → slice_get (marks_of ways) i ≡ Some false
no_mark_at ways i way at low = mark_at ways i way at ∙ ap (λ (b : Bool). Some b) (lt-leb 2147483648 way low)

-- a mark leaves the table as it is
pub unmarked_set : (ways : List ℕ) (i way : ℕ) → slice_get ways i ≡ Some way → unmarked (set ways i (way + 2147483648)) ≡ unmarked ways
unmarked_set ways i way at =
    let same : (way + 2147483648) % 2147483648 ≡ way % 2147483648 = omega arith in
    map-set_same (λ (w : ℕ). w % 2147483648) ways i (way + 2147483648) 0 (same ∙ sym (ap (λ (w : ℕ). w % 2147483648) (get_or_from_slice_get ways i way 0 at)))

pub marks_set : (ways : List ℕ) (i way : ℕ) → marks_of (set ways i (way + 2147483648)) ≡ set (marks_of ways) i true
marks_set ways i way = map-set (λ (w : ℕ). nat_le 2147483648 w) ways i (way + 2147483648) ∙ ap (set (marks_of ways) i) (le-leb 2147483648 (way + 2147483648) (omega arith))

-- and one more changes nothing
pub marked_again : (ways : List ℕ) (i way : ℕ) → slice_get ways i ≡ Some way → 2147483648 ≤ way → marks_of ways ≡ set (marks_of ways) i true
marked_again ways i way at high =
    let marked : slice_get (marks_of ways) i ≡ Some true = mark_at ways i way at ∙ ap (λ (b : Bool). Some b) (le-leb 2147483648 way high) in
    sym (set-get_or (marks_of ways) i false) ∙ ap (set (marks_of ways) i) (get_or_from_slice_get (marks_of ways) i true false marked)
