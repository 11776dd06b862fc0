-- Linked lists of cycles, put together from the last cycle on.
use Rattle.std.proofs.Common.{◌≡◌, ◌≢◌, ℕ, zero, suc, ◌+◌, ◌<◌, ◌≤◌, inl, inr, true, false, List, [], ◌∷◌, length, get_or-set_same, get_or-set_other, set, Some, refl, sym, ap, ◌∙◌, subst, arith}
use Rattle.std.specs.Prelude.{AllPairs, Contains, nat_lt, slice_get, slice_index}
use Rattle.std.proofs.Math.ListN.{length-set}
use Rattle.std.proofs.lemmas.Bool.{cases_eq}
use Rattle.std.proofs.lemmas.Bool.Decides.{nat_tests}
use Rattle.std.proofs.lemmas.Option.{same_Some}
use Rattle.cell_base.specs.Raster.{value_at}
use Rattle.cell_base.proofs.ListDeciders.{contains_cases, contains_here, contains_there}
use Rattle.region_label.specs.Labelling.{RegionTable}
use Rattle.region_label.proofs.FillLemmas.{distinct_below}
use Rattle.edge_trace.specs.EdgeTable.{EdgeTable, IsEdgeOf}
use Rattle.ring_faces.specs.declared.cycles.Cycle.{Cycle}
use Rattle.ring_faces.specs.declared.lists.CycleLists.{CycleLists}
use Rattle.ring_faces.specs.Inner.Chains.{AreListed, AreRising, IsChain, IsCycleIn, IsListFrom, chain_from}
use Rattle.ring_faces.proofs.MemberLemmas.{pairs_cons, pairs_weaker}

-- a chain that is short enough is what the links give

pub below_test : (m n : ℕ) → m < n → nat_lt m n ≡ true
below_test m n less = grind (arith, nat_tests)

pub not_below : (m n : ℕ) → n ≤ m → nat_lt m n ≡ false
not_below m n past = grind (arith, nat_tests)

past_test : (m n : ℕ) → m ≡ n → nat_lt m n ≡ false
past_test m n same = grind (arith, nat_tests)

pub chain_is : (links : List ℕ) (n at : ℕ) (list : List ℕ) → IsChain links at list → length list ≤ n → chain_from links n at ≡ list
chain_is links zero at [] chain short = refl
chain_is links zero at (i ∷ is) chain short = absurd (omega arith)
chain_is links (suc n) at [] chain short = rw (past_test at (length links) chain) refl
chain_is links (suc n) at (i ∷ is) chain short =
    let within : at < length links = omega (arith, chain.0, chain.1) in
    let rest : chain_from links n (slice_index links at) ≡ is = ap (λ (j : ℕ). chain_from links n (slice_index links j)) chain.0
    ∙ chain_is links n (slice_index links i) is chain.2 (omega arith) in
    rw (below_test at (length links) within) (ap (λ (js : List ℕ). at ∷ js) rest ∙ ap (λ (j : ℕ). j ∷ is) chain.0)

-- a list of later and later indices is short
pub list_short : (list : List ℕ) (n : ℕ) → AllPairs (λ i j. i < j) list → ((i : ℕ) → Contains list i → i < n) → length list ≤ n
list_short list n order below = distinct_below list n (pairs_weaker (λ i j. i < j) (λ i j. i ≢ j) list (λ i j in_i in_j less. apart i j less) order) below
  where
    apart : (i j : ℕ) → i < j → i ≢ j
    apart i j less = omega arith

-- what is written at an index that isn't in the chain doesn't change it
chain_frame : (links : List ℕ) (r v at : ℕ) (list : List ℕ) → IsChain links at list → ((i : ℕ) → Contains list i → i ≢ r) → IsChain (set links r v) at list
chain_frame links r v at [] chain others = chain ∙ sym (length-set links r v)
chain_frame links r v at (i ∷ is) chain others =
    let other = others i (contains_here i is) in
    let same : slice_index (set links r v) i ≡ slice_index links i = get_or-set_other links r i v 0 other in (
      chain.0,
      omega (arith, chain.1, length-set links r v),
      subst (λ (j : ℕ). IsChain (set links r v) j is) (sym same)
          (chain_frame links r v (slice_index links i) is chain.2 (λ j member. others j (contains_there i is j member))),
    )

-- where a chain of later indices begins
chain_start : (links : List ℕ) (at r : ℕ) (list : List ℕ) → IsChain links at list → ((i : ℕ) → Contains list i → r + 1 ≤ i) → r < length links
    → (r < at) × (at ≤ length links)
chain_start links at r [] chain later within = (omega (arith, chain), omega (arith, chain))
chain_start links at r (i ∷ is) chain later within = (omega (arith, chain.0, later i (contains_here i is)), omega (arith, chain.0, chain.1))

-- one index more in front of a list
list_put : (links : List ℕ) (start r : ℕ) (mine : ℕ → Type 0) → IsListFrom links start (r + 1) mine → r < length links → mine r
    → IsListFrom (set links r start) r r mine
list_put links start r mine from within is =
    let later : (i : ℕ) → Contains from.list i → r + 1 ≤ i = λ i member. ((from.all i).0 member).0 in
    let long = length-set links r start in
    let frame = chain_frame links r start start from.list from.chain (λ i member same. omega (arith, later i member, same)) in
    record {
      list = r ∷ from.list;
      chain = (
        refl,
        omega (arith, within, long),
        subst (λ (j : ℕ). IsChain (set links r start) j from.list)
            (sym (get_or-set_same links r start 0 within)) frame,
      );
      order = pairs_cons (λ i j. i < j) r from.list (λ i member. omega (arith, later i member)) from.order;
      all = λ i. (
        λ member. elim (contains_cases r from.list i member) [
          | inl here ↦ (omega (arith, here), omega (arith, here, within, long), subst (λ (j : ℕ). mine j) here is)
          | inr later_on ↦
              let has = (from.all i).0 later_on in
              (omega (arith, has.0), omega (arith, has.1, long), has.2)
        ],
        λ has. elim (cases_eq r i) [
          | inl same ↦ (0, omega arith, same)
          | inr other ↦ contains_there r from.list i ((from.all i).1 (past r i has.0 other, omega (arith, has.1, long), has.2))
        ],
      );
    }
  where
    past : (m n : ℕ) → m ≤ n → m ≢ n → m + 1 ≤ n
    past m n up other = omega arith

-- and a list that doesn't take it
list_pass : (links : List ℕ) (start r v : ℕ) (mine : ℕ → Type 0) → IsListFrom links start (r + 1) mine → ¬ mine r → IsListFrom (set links r v) start r mine
list_pass links start r v mine from none =
    let long = length-set links r v in
    record {
      list = from.list;
      chain = chain_frame links r v start from.list from.chain (λ i member same. omega (arith, ((from.all i).0 member).0, same));
      order = from.order;
      all = λ i. (
        λ member.
            let has = (from.all i).0 member in
            (omega (arith, has.0), omega (arith, has.1, long), has.2),
        λ has. elim (cases_eq r i) [
          | inl same ↦ absurd (none (subst (λ (j : ℕ). mine j) (sym same) has.2))
          | inr other ↦ (from.all i).1 (past r i has.0 other, omega (arith, has.1, long), has.2)
        ],
      );
    }
  where
    past : (m n : ℕ) → m ≤ n → m ≢ n → m + 1 ≤ n
    past m n up other = omega arith

-- an edge is of one component
one_component : (regions : RegionTable) (table : EdgeTable) (j k i : ℕ) → IsEdgeOf regions table j i → IsEdgeOf regions table k i → j ≡ k
one_component regions table j k i of_j of_k =
    let cells : of_j.0 ≡ of_k.0 = same_Some of_j.0 of_k.0 (sym of_j.1 ∙ of_k.1) in
    same_Some j k (same_Some (Some j) (Some k) (sym of_j.2 ∙ ap (value_at regions.numbers) cells ∙ of_k.2))

rising_set : (links : List ℕ) (r v : ℕ) → AreRising links → r < v → v ≤ length links → AreRising (set links r v)
rising_set links r v rising up down i within = elim (cases_eq i r) [
  | inl same ↦
      let is : slice_index (set links r v) i ≡ v = ap (slice_index (set links r v)) same
      ∙ get_or-set_same links r v 0 (omega (arith, within, same, length-set links r v)) in
      (omega (arith, is, same, up), omega (arith, is, down, length-set links r v))
  | inr other ↦
      let is : slice_index (set links r v) i ≡ slice_index links i = get_or-set_other links r i v 0 other in
      let was = rising i (omega (arith, within, length-set links r v)) in
      (omega (arith, is, was.0), omega (arith, is, was.1, length-set links r v))
]

-- the lists of all components with one cycle more
pub listed_put : (regions : RegionTable) (table : EdgeTable) (cycles : List Cycle) (old new : CycleLists) (r k : ℕ) (c : Cycle)
    → AreListed regions table cycles old (r + 1) → r < length cycles → slice_get cycles r ≡ Some c → IsEdgeOf regions table k c.first
    → k < length regions.firsts → new.links.items ≡ set old.links.items r (slice_index old.firsts.items k)
    → new.firsts.items ≡ set old.firsts.items k r → AreListed regions table cycles new r
listed_put regions table cycles old new r k c listed within at of_k known links firsts =
    let start = slice_index old.firsts.items k in
    let mine = listed.each k known in
    let in_links : r < length old.links.items = omega (arith, within, listed.sized) in
    let up = chain_start old.links.items start r mine.list mine.chain (λ i member. ((mine.all i).0 member).0) in_links in
    record {
      sized = ap length links ∙ length-set old.links.items r start ∙ listed.sized;
      count = ap length firsts ∙ length-set old.firsts.items k r ∙ listed.count;
      rising = subst (λ (ls : List ℕ). AreRising ls) (sym links) (rising_set old.links.items r start listed.rising up.0 up.1);
      each = λ j in_j. subst (λ (ls : List ℕ). IsListFrom ls (slice_index new.firsts.items j) r (IsCycleIn regions table cycles j)) (sym links)
          (subst (λ (fs : List ℕ). IsListFrom (set old.links.items r start) (slice_index fs j) r (IsCycleIn regions table cycles j)) (sym firsts)
          (elim (cases_eq j k) [
            | inl same ↦
                let first : slice_index (set old.firsts.items k r) j ≡ r = ap (slice_index (set old.firsts.items k r)) same
                ∙ get_or-set_same old.firsts.items k r 0 (omega (arith, known, listed.count)) in
                subst (λ (n : ℕ). IsListFrom (set old.links.items r start) n r (IsCycleIn regions table cycles j)) (sym first)
                (subst (λ (n : ℕ). IsListFrom (set old.links.items r start) r r (IsCycleIn regions table cycles n)) (sym same)
                (list_put old.links.items start r (IsCycleIn regions table cycles k) mine in_links (c, at, of_k)))
            | inr other ↦
                let first : slice_index (set old.firsts.items k r) j ≡ slice_index old.firsts.items j = get_or-set_other old.firsts.items k j r 0 other in
                subst (λ (n : ℕ). IsListFrom (set old.links.items r start) n r (IsCycleIn regions table cycles j)) (sym first)
                (list_pass old.links.items (slice_index old.firsts.items j) r start (IsCycleIn regions table cycles j) (listed.each j in_j)
                (λ is. other (one_component regions table j k c.first
                (subst (λ (d : Cycle). IsEdgeOf regions table j d.first) (same_Some is.0 c (sym is.1 ∙ at)) is.2) of_k)))
          ]));
    }
