-- The lists of a table, and its components.
use Rattle.std.proofs.Common.{◌≡◌, ◌≢◌, ℕ, zero, suc, ◌+◌, ◌<◌, ◌≤◌, inl, inr, ℤ, Bool, true, false, List, [], ◌∷◌, Option, Some, None, length, drop, take, get_or, refl, ap, sym, ◌∙◌, subst, arith}
use Rattle.std.specs.Prelude.{◌==◌, option_map, slice_get, slice_index}
use Rattle.std.proofs.lemmas.Bool.{cases_lt, eq-eqb, false_from_ne_true, eqb-true}
use Rattle.std.proofs.lemmas.Grind.{common_steps}
use Rattle.std.proofs.lemmas.Option.{get_or_from_slice_get, same_Some, slice_get-get_or, slice_get-map, slice_get_past, slice_get_within}
use Rattle.cell_base.specs.Raster.{Raster}
use Rattle.region_label.specs.Count.{IsListOf}
use Rattle.region_label.specs.RunTable.{IsTableOfCells}
use Rattle.region_label.specs.Inner.Lists.{AreFilled, IsLinked, IsListed, contacts}
use Rattle.region_label.specs.Inner.Table.{AreInOrder, linked_from, lists_of, table_of}
use Rattle.region_label.specs.declared.rows.RowRuns.{RowRuns}
use Rattle.region_label.specs.declared.lists.RunLists.{RunLists}
use Rattle.region_label.proofs.FillLemmas.{distinct_below}
use Rattle.region_label.proofs.ListLemmas.{slice_get-take}

pub drop_at : (list : List ℕ) (m i : ℕ) → slice_get list m ≡ Some i → drop m list ≡ i ∷ drop (suc m) list
drop_at (x ∷ xs) zero i at = let same : x ≡ i = cc in ap (λ (y : ℕ). y ∷ xs) same
drop_at (x ∷ xs) (suc m) i at = drop_at xs m i at
drop_at [] m i at = cc

-- the links give the list back, from each of its members on
pub linked_drop : (links list : List ℕ) (start last n m i : ℕ) → IsLinked links list start last → slice_get list m ≡ Some i → length list ≤ m + n → linked_from links n i ≡ drop m list
linked_drop links list start last zero m i linked at enough = absurd (omega (arith, slice_get_within list m i at))
linked_drop links list start last (suc n) m i linked at enough = elim (cases_lt (suc m) (length list)) [
  | inl less ↦
      let next = slice_get-get_or list (suc m) 0 less in
      let more : m + 1 ≡ suc m = omega arith in
      let link : slice_get links i ≡ Some (get_or list (suc m) 0) = linked.next m i (get_or list (suc m) 0) at (ap (slice_get list) more ∙ next) in
      let read : slice_index links i ≡ get_or list (suc m) 0 = get_or_from_slice_get links i (get_or list (suc m) 0) 0 link in
      let other : get_or list (suc m) 0 ≢ i = λ same. linked.once m (suc m) 0 (omega arith) less (get_or_from_slice_get list m i 0 at ∙ sym same) in
      let test : (slice_index links i == i) ≡ false = false_from_ne_true (slice_index links i == i) (λ is. other (sym read ∙ eqb-true (slice_index links i) i is)) in
      let rest : linked_from links n (slice_index links i) ≡ drop (suc m) list = ap (linked_from links n) read ∙ linked_drop links list start last n (suc m) (get_or list (suc m) 0) linked next (omega arith) in
      rw test (ap (λ (xs : List ℕ). i ∷ xs) rest ∙ sym (drop_at list m i at))
  | inr past ↦
      let end : m + 1 ≡ length list = omega (arith, slice_get_within list m i at) in
      let is_last : i ≡ last = same_Some i last (sym at ∙ linked.last_at m end) in
      let link : slice_get links i ≡ Some i = ap (slice_get links) is_last ∙ linked.ends ∙ ap (λ (k : ℕ). Some k) (sym is_last) in
      let read : slice_index links i ≡ i = get_or_from_slice_get links i i 0 link in
      let test : (slice_index links i == i) ≡ true = eq-eqb (slice_index links i) i read in
      let none : drop (suc m) list ≡ [] = grind (arith, common_steps) in
      rw test (ap (λ (xs : List ℕ). i ∷ xs) (sym none) ∙ sym (drop_at list m i at))
]

-- the runs of a table of these cells are filled
pub record IsWhole (connectivity : Bool) (cells : Raster ℤ) (valid : Raster Bool) (rows : RowRuns) (lists : RunLists) : Type 0 where
  pub table : IsTableOfCells cells valid (table_of rows lists)
  pub order : AreInOrder rows
  pub filled : AreFilled (contacts connectivity rows) (length rows.runs.items) lists (length rows.runs.items)

-- a list with its component
pub record HasList (connectivity : Bool) (rows : RowRuns) (lists : RunLists) (k : ℕ) (list : List ℕ) : Type 0 where
  pub within : k < lists.count
  pub listed : IsListed (contacts connectivity rows) lists.components.items lists.links.items lists.firsts.items k list

linked_list : (connectivity : Bool) (rows : RowRuns) (lists : RunLists) (k : ℕ) (list : List ℕ) → AreFilled (contacts connectivity rows) (length rows.runs.items) lists (length rows.runs.items) → IsListed (contacts connectivity rows) lists.components.items lists.links.items lists.firsts.items k list → (start : ℕ) → slice_get lists.firsts.items k ≡ Some start → linked_from lists.links.items (length lists.links.items) start ≡ list
linked_list connectivity rows lists k list filled listed start at =
    let same : start ≡ listed.start = same_Some start listed.start (sym at ∙ listed.start_at) in
    let short = distinct_below list (length lists.components.items) listed.linked.once (λ i member. slice_get_within lists.components.items i (Some k) (listed.numbered i member)) in
    ap (linked_from lists.links.items (length lists.links.items)) same ∙ linked_drop lists.links.items list listed.start listed.last (length lists.links.items) 0 listed.start listed.linked listed.linked.first (omega (arith, short, filled.sized.components, filled.sized.links))

taken_within : (count : ℕ) (firsts : List ℕ) (k start : ℕ) → slice_get (take count firsts) k ≡ Some start → (k < count) × (slice_get firsts k ≡ Some start)
taken_within count firsts k start at = elim (cases_lt k count) [
  | inl less ↦ (less, sym (slice_get-take count firsts k less) ∙ at)
  | inr past ↦
      let none : slice_get (take count firsts) k ≡ None = slice_get_past (take count firsts) k (grind (arith, common_steps)) in
      absurd (let both : None ≡ Some start = sym none ∙ at in cc)
]

pub mapped : {A B : Type 0} (f : A → B) (o : Option A) (y : B) → option_map f o ≡ Some y → (x : A) × (o ≡ Some x) × (f x ≡ y)
mapped f None y is = cc
mapped f (Some x) y is = (x, refl, same_Some (f x) y is)

-- each list of the table is that of its component
pub list_of : (connectivity : Bool) (rows : RowRuns) (lists : RunLists) (k : ℕ) (list : List ℕ) → AreFilled (contacts connectivity rows) (length rows.runs.items) lists (length rows.runs.items) → slice_get (lists_of lists) k ≡ Some list → HasList connectivity rows lists k list
list_of connectivity rows lists k list filled at =
    let found = mapped (linked_from lists.links.items (length lists.links.items)) (slice_get (take lists.count lists.firsts.items) k) list (sym (slice_get-map (linked_from lists.links.items (length lists.links.items)) (take lists.count lists.firsts.items) k) ∙ at) in
    let first = taken_within lists.count lists.firsts.items k found.0 found.1 in
    let had = filled.listed k first.0 in
    let same : had.0 ≡ list = sym (linked_list connectivity rows lists k had.0 filled had.1 found.0 first.1) ∙ found.2 in
    record {
      within = first.0;
      listed = subst (λ (l : List ℕ). IsListed (contacts connectivity rows) lists.components.items lists.links.items lists.firsts.items k l) same had.1;
    }

-- and each component has one
pub list_at : (connectivity : Bool) (rows : RowRuns) (lists : RunLists) (k : ℕ) → AreFilled (contacts connectivity rows) (length rows.runs.items) lists (length rows.runs.items) → k < lists.count → (list : List ℕ) × (slice_get (lists_of lists) k ≡ Some list) × IsListed (contacts connectivity rows) lists.components.items lists.links.items lists.firsts.items k list
list_at connectivity rows lists k filled less =
    let had = filled.listed k less in
    let first : slice_get (take lists.count lists.firsts.items) k ≡ Some had.1.start = slice_get-take lists.count lists.firsts.items k less ∙ had.1.start_at in
    let at : slice_get (lists_of lists) k ≡ Some (linked_from lists.links.items (length lists.links.items) had.1.start) = slice_get-map (linked_from lists.links.items (length lists.links.items)) (take lists.count lists.firsts.items) k ∙ ap (option_map (linked_from lists.links.items (length lists.links.items))) first in
    (had.0, at ∙ ap (λ (l : List ℕ). Some l) (linked_list connectivity rows lists k had.0 filled had.1 had.1.start had.1.start_at), had.1)

-- there are as many lists as components
pub length_lists : (connectivity : Bool) (rows : RowRuns) (lists : RunLists) → AreFilled (contacts connectivity rows) (length rows.runs.items) lists (length rows.runs.items) → length (lists_of lists) ≡ lists.count
length_lists connectivity rows lists filled =
    let room : lists.count ≤ length lists.firsts.items = omega (arith, filled.few, filled.sized.firsts) in
    grind (arith, common_steps, room)

pub is_list_of : (touch : ℕ → ℕ → Type 0) (lists : RunLists) (k : ℕ) (list : List ℕ) → IsListed touch lists.components.items lists.links.items lists.firsts.items k list → IsListOf (λ i. slice_get lists.components.items i ≡ Some (Some k)) list
is_list_of touch lists k list listed = record {
  all = λ i. (λ member. listed.numbered i member, λ is. listed.all i is);
  once = listed.linked.once;
}
