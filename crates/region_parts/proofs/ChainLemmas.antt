-- Linked lists of parts, put together from the last part on.
use Rattle.std.proofs.Common.{◌≡◌, ◌≢◌, ◌∙◌, ◌+◌, ◌-◌, ◌<◌, ◌≤◌, ℕ, zero, suc, inl, inr, true, false, List, [], ◌∷◌, Option, Some, None, length, map, drop, get_or, set, get_or-set_same, get_or-set_other, refl, sym, ap, subst, arith}
use Rattle.std.specs.Prelude.{nat_lt, slice_get, slice_index, unwrap_or}
use Rattle.std.specs.List.{range_with_len, zip}
use Rattle.std.proofs.Math.ListN.{length-set}
use Rattle.std.proofs.lemmas.Bool.{cases_Bool, cases_eq, eq-eqb, ne_eqb}
use Rattle.std.proofs.lemmas.Bool.Decides.{nat_tests}
use Rattle.std.proofs.lemmas.Option.{none-some, same_Some}
use Rattle.cell_base.specs.Raster.{Place, value_at}
use Rattle.region_label.specs.Labelling.{RegionTable}
use Rattle.region_parts.specs.Parts.{is_number, items_in, lies_in, part_numbers}
use Rattle.region_parts.specs.Inner.Lists.{AreLinked, IsChain, chain_from, numbers_from}
use Rattle.region_parts.specs.declared.parts.Lists.{Lists}

-- a chain is what the links give

chain_short : (links : List ℕ) (at : ℕ) (list : List ℕ) → IsChain links at list → length list + at ≤ length links
chain_short links at [] chain = omega (arith, chain)
chain_short links at (i ∷ is) chain = omega (arith, chain.0, chain.2, chain_short links (slice_index links i) is chain.3)

below_test : (m n : ℕ) → m < n → nat_lt m n ≡ true
below_test m n less = grind (arith, nat_tests)

past_test : (m n : ℕ) → m ≡ n → nat_lt m n ≡ false
past_test m n same = grind (arith, nat_tests)

chain_is : (links : List ℕ) (n at : ℕ) (list : List ℕ) → IsChain links at list → length list ≤ n → chain_from links n at ≡ list
chain_is links zero at [] chain short = refl
chain_is links zero at (i ∷ is) chain short = absurd (omega arith)
chain_is links (suc n) at [] chain short = rw (past_test at (length links) chain) refl
chain_is links (suc n) at (i ∷ is) chain short =
    let within : at < length links = omega (arith, chain.0, chain.1) in
    let rest : chain_from links n (slice_index links at) ≡ is = ap (λ (j : ℕ). chain_from links n (slice_index links j)) chain.0
    ∙ chain_is links n (slice_index links i) is chain.3 (omega arith) in
    rw (below_test at (length links) within) (ap (λ (js : List ℕ). at ∷ js) rest ∙ ap (λ (j : ℕ). j ∷ is) chain.0)

pub whole_chain : (links : List ℕ) (at : ℕ) (list : List ℕ) → IsChain links at list → chain_from links (length links) at ≡ list
whole_chain links at list chain = chain_is links (length links) at list chain (omega (arith, chain_short links at list chain))

-- all indices of a list are later than one
abbrev AreLater : ℕ → List ℕ → Type 0
AreLater r [] = Unit
AreLater r (i ∷ is) = (r < i) × AreLater r is

-- what is written at an earlier index doesn't change a chain
chain_frame : (links : List ℕ) (r v at : ℕ) (list : List ℕ) → IsChain links at list → AreLater r list → IsChain (set links r v) at list
chain_frame links r v at [] chain later = chain ∙ sym (length-set links r v)
chain_frame links r v at (i ∷ is) chain later =
    let same : slice_index (set links r v) i ≡ slice_index links i = get_or-set_other links r i v 0 (other i later.0) in (
      chain.0,
      omega (arith, chain.1, length-set links r v),
      omega (arith, chain.2, same),
      subst (λ (j : ℕ). IsChain (set links r v) j is) (sym same)
          (chain_frame links r v (slice_index links i) is chain.3 later.1),
    )
  where
    other : (i : ℕ) → r < i → i ≢ r
    other i less same = omega arith

-- where a chain of later indices begins
chain_start : (links : List ℕ) (at r : ℕ) (list : List ℕ) → IsChain links at list → AreLater r list → r < length links → r < at
chain_start links at r [] chain later within = omega (arith, chain)
chain_start links at r (i ∷ is) chain later within = omega (arith, chain.0, later.0)

-- the items of a component, one by one

pub item_in : {A : Type 0} (regions : RegionTable) (k : ℕ) (x : Place) (a : A) (items : List (Place × A)) → lies_in regions k x ≡ true → items_in regions k ((x, a) ∷ items) ≡ a ∷ items_in regions k items
item_in regions k x a items within = rw within refl

pub item_out : {A : Type 0} (regions : RegionTable) (k : ℕ) (x : Place) (a : A) (items : List (Place × A)) → lies_in regions k x ≡ false → items_in regions k ((x, a) ∷ items) ≡ items_in regions k items
item_out regions k x a items out = rw out refl

later_items : (regions : RegionTable) (k : ℕ) (firsts : List Place) (r a n : ℕ) → r < a → AreLater r (items_in regions k (zip firsts (range_with_len a n)))
later_items regions k [] r a n less = tt
later_items regions k (x ∷ xs) r a zero less = tt
later_items regions k (x ∷ xs) r a (suc n) less =
    let items = zip xs (range_with_len (a + 1) n) in
    let rest : AreLater r (items_in regions k items) = later_items regions k xs r (a + 1) n (omega (arith, less)) in
    elim (cases_Bool (lies_in regions k x)) [
      | inl lying ↦ subst (AreLater r) (sym (item_in regions k x a items lying)) (less, rest)
      | inr elsewhere ↦ subst (AreLater r) (sym (item_out regions k x a items elsewhere)) rest
    ]

later_numbers : (regions others : RegionTable) (k r : ℕ) → AreLater r (numbers_from regions others k (r + 1))
later_numbers regions others k r = later_items regions k (drop (r + 1) others.firsts) r (r + 1) (length others.firsts - (r + 1)) (omega arith)

drop_at : {A : Type 0} (xs : List A) (i : ℕ) (x : A) → slice_get xs i ≡ Some x → drop i xs ≡ x ∷ drop (i + 1) xs
drop_at [] i x is = absurd (none-some x is)
drop_at (y ∷ ys) zero x is = ap (λ z. z ∷ ys) (same_Some y x is)
drop_at (y ∷ ys) (suc i) x is =
    let next : suc (i + 1) ≡ suc i + 1 = omega arith in
    drop_at ys i x is ∙ ap (λ n. x ∷ drop n (y ∷ ys)) next

-- one part more in front
from_one : (regions others : RegionTable) (k r : ℕ) (place : Place) → r < length others.firsts → slice_get others.firsts r ≡ Some place
    → numbers_from regions others k r ≡ items_in regions k ((place, r) ∷ zip (drop (r + 1) others.firsts) (range_with_len (r + 1) (length others.firsts - (r + 1))))
from_one regions others k r place within at =
    let long : length others.firsts - r ≡ suc (length others.firsts - (r + 1)) = omega (arith, within) in
    ap (λ firsts. items_in regions k (zip firsts (range_with_len r (length others.firsts - r)))) (drop_at others.firsts r place at)
    ∙ ap (λ n. items_in regions k (zip (place ∷ drop (r + 1) others.firsts) (range_with_len r n))) long

pub lies : (regions : RegionTable) (k : ℕ) (place : Place) (o : Option ℕ) → value_at regions.numbers place ≡ Some o → lies_in regions k place ≡ is_number k o
lies regions k place o at = ap (λ (v : Option (Option ℕ)). is_number k (unwrap_or v None)) at

-- the lists of all components with one part more
pub linked_put : (regions others : RegionTable) (old new : Lists) (r k : ℕ) (place : Place) → AreLinked regions others old (r + 1) → r < length others.firsts
    → slice_get others.firsts r ≡ Some place → value_at regions.numbers place ≡ Some (Some k) → k < length regions.firsts
    → new.links.items ≡ set old.links.items r (slice_index old.firsts.items k) → new.firsts.items ≡ set old.firsts.items k r → AreLinked regions others new r
linked_put regions others old new r k place linked within at number known links firsts =
    let start = slice_index old.firsts.items k in
    let in_links : r < length old.links.items = omega (arith, within, linked.sized) in
    let later : (j : ℕ) → AreLater r (numbers_from regions others j (r + 1)) = λ j. later_numbers regions others j r in
    let items = zip (drop (r + 1) others.firsts) (range_with_len (r + 1) (length others.firsts - (r + 1))) in
    record {
      sized = ap length links ∙ length-set old.links.items r start ∙ linked.sized;
      count = ap length firsts ∙ length-set old.firsts.items k r ∙ linked.count;
      within = omega (arith, within);
      each = λ j in_j. subst (λ (ls : List ℕ). IsChain ls (slice_index new.firsts.items j) (numbers_from regions others j r)) (sym links)
          (subst (λ (fs : List ℕ). IsChain (set old.links.items r start) (slice_index fs j) (numbers_from regions others j r)) (sym firsts)
          (elim (cases_eq k j) [
            | inl same ↦
                let first : slice_index (set old.firsts.items k r) j ≡ r = ap (slice_index (set old.firsts.items k r)) (sym same)
                ∙ get_or-set_same old.firsts.items k r 0 (omega (arith, known, linked.count)) in
                let lying : lies_in regions j place ≡ true = lies regions j place (Some k) number ∙ eq-eqb k j same in
                let whole : numbers_from regions others j r ≡ r ∷ numbers_from regions others j (r + 1) = from_one regions others j r place within at ∙ item_in regions j place r items lying in
                let chain : IsChain old.links.items start (numbers_from regions others j (r + 1)) = subst (λ (i : ℕ). IsChain old.links.items (slice_index old.firsts.items i) (numbers_from regions others j (r + 1))) (sym same) (linked.each j in_j) in
                let link : slice_index (set old.links.items r start) r ≡ start = get_or-set_same old.links.items r start 0 in_links in
                let up = chain_start old.links.items start r (numbers_from regions others j (r + 1)) chain (later j) in_links in
                let framed = chain_frame old.links.items r start start (numbers_from regions others j (r + 1)) chain (later j) in
                subst (λ (n : ℕ). IsChain (set old.links.items r start) n (numbers_from regions others j r)) (sym first)
                (subst (λ (list : List ℕ). IsChain (set old.links.items r start) r list) (sym whole) (
                  refl,
                  omega (arith, in_links, length-set old.links.items r start),
                  omega (arith, up, link),
                  subst (λ (n : ℕ). IsChain (set old.links.items r start) n (numbers_from regions others j (r + 1))) (sym link) framed,
                ))
            | inr other ↦
                let first : slice_index (set old.firsts.items k r) j ≡ slice_index old.firsts.items j = get_or-set_other old.firsts.items k j r 0 (λ same. other (sym same)) in
                let elsewhere : lies_in regions j place ≡ false = lies regions j place (Some k) number ∙ ne_eqb k j other in
                let whole : numbers_from regions others j r ≡ numbers_from regions others j (r + 1) = from_one regions others j r place within at ∙ item_out regions j place r items elsewhere in
                subst (λ (n : ℕ). IsChain (set old.links.items r start) n (numbers_from regions others j r)) (sym first)
                (subst (λ (list : List ℕ). IsChain (set old.links.items r start) (slice_index old.firsts.items j) list) (sym whole)
                (chain_frame old.links.items r start (slice_index old.firsts.items j) (numbers_from regions others j (r + 1)) (linked.each j in_j) (later j)))
          ]));
    }

-- a part in no component
pub linked_pass : (regions others : RegionTable) (lists : Lists) (r : ℕ) (place : Place) → AreLinked regions others lists (r + 1) → r < length others.firsts
    → slice_get others.firsts r ≡ Some place → value_at regions.numbers place ≡ Some None → AreLinked regions others lists r
linked_pass regions others lists r place linked within at number =
    let items = zip (drop (r + 1) others.firsts) (range_with_len (r + 1) (length others.firsts - (r + 1))) in
    record {
      sized = linked.sized;
      count = linked.count;
      within = omega (arith, within);
      each = λ j in_j. subst (λ (list : List ℕ). IsChain lists.links.items (slice_index lists.firsts.items j) list)
          (sym (from_one regions others j r place within at ∙ item_out regions j place r items (lies regions j place None number)))
          (linked.each j in_j);
    }

-- walking a chain: what is left begins with this index
pub record Goes (links : List ℕ) (at : ℕ) (rest : List ℕ) : Type 0 where
  pub tail : List ℕ
  pub is : rest ≡ at ∷ tail
  pub up : at < slice_index links at
  pub within : slice_index links at ≤ length links
  pub chain : IsChain links (slice_index links at) tail

pub goes : (links : List ℕ) (at : ℕ) (rest : List ℕ) → IsChain links at rest → at < length links → Goes links at rest
goes links at [] chain within = absurd (omega (arith, chain, within))
goes links at (i ∷ is) chain within =
    let same : slice_index links at ≡ slice_index links i = ap (slice_index links) chain.0 in
    record {
      tail = is;
      is = ap (λ (j : ℕ). j ∷ is) (sym chain.0);
      up = omega (arith, chain.0, chain.2, same);
      within = omega (arith, same, chain_short links (slice_index links i) is chain.3);
      chain = subst (λ (j : ℕ). IsChain links j is) (sym same) chain.3;
    }

-- behind the last index nothing is left
pub ended : (links : List ℕ) (at : ℕ) (rest : List ℕ) → IsChain links at rest → length links ≤ at → rest ≡ []
ended links at [] chain past = refl
ended links at (i ∷ is) chain past = absurd (omega (arith, chain.0, chain.1, past))

-- a list for each number, by the list at each
pub lists_by : {A B : Type 0} (f : ℕ → B) (g : A → B) (xs : List A) (d : A) (a : ℕ) → ((i : ℕ) → i < length xs → g (get_or xs i d) ≡ f (a + i)) → map g xs ≡ map f (range_with_len a (length xs))
lists_by f g [] d a each = refl
lists_by f g (x ∷ xs) d a each =
    let here : a + 0 ≡ a = omega arith in
    let first : g x ≡ f a = each 0 (omega arith) ∙ ap f here in
    let rest : map g xs ≡ map f (range_with_len (a + 1) (length xs)) = lists_by f g xs d (a + 1) (λ i within.
    let on : a + suc i ≡ (a + 1) + i = omega arith in
    each (suc i) (omega (arith, within)) ∙ ap f on) in
    ap (λ y. y ∷ map g xs) first ∙ ap (λ ys. f a ∷ ys) rest

-- from the first part on, all of them
pub all_numbers : (regions others : RegionTable) (k : ℕ) → numbers_from regions others k 0 ≡ part_numbers regions others k
all_numbers regions others k =
    let all : length others.firsts - 0 ≡ length others.firsts = omega arith in
    ap (λ n. items_in regions k (zip others.firsts (range_with_len 0 n))) all
