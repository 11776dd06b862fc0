-- Links make exactly one list of lines.
use Rattle.std.proofs.Common.{◌≡◌, ◌≢◌, ◌⊎◌, inl, inr, List, [], ◌∷◌, ◌++◌, sym, ap, ◌∙◌, subst}
use Rattle.std.specs.Prelude.{AllPairs, Contains}
use Rattle.cell_base.proofs.ListDeciders.{contains_cases, contains_here, contains_there}
use Rattle.contour_chain.specs.Inner.Links.{HeadIn, IsLineOf}
use Rattle.contour_chain.specs.Lines.{AreLines, AreLinks, ComesFirst, HaveOneListOfLines, IsClosed, IsLine, IsLongest, StartsBefore, StartsLeast}
use Rattle.contour_chain.proofs.LineLemmas.{Apart, by_pairs, closed_or_not, comes_asym, one_list, same_line}
use Rattle.contour_chain.proofs.JoinLemmas.{LineWith, line_with}
use Rattle.std.proofs.lemmas.List.Elements.{Contains-append_cases, Contains-append_left, Contains-append_right}
use Rattle.contour_segments.proofs.MemberLemmas.{all_of, AreApart, pairs_join, in_flat, none_in, of_flat, once_flat, pairs_cons, pairs_head, pairs_nil, pairs_tail, pairs_weaker}

-- the lines whose first links are among these, open ones and closed ones
record Gathered {A P : Type 0} (ends : A → P × P) (before : A → A → Type 0) (links xs : List A) : Type 0 where
  frees : List (List A)
  rounds : List (List A)
  frees_are : (g : List A) → Contains frees g → IsLineOf ends before links g × (¬ IsClosed ends g) × HeadIn xs g
  rounds_are : (g : List A) → Contains rounds g → IsLineOf ends before links g × IsClosed ends g × HeadIn xs g
  every : (g : List A) → IsLineOf ends before links g → HeadIn xs g → Contains frees g ⊎ Contains rounds g
  frees_order : AllPairs (StartsBefore before) frees
  rounds_order : AllPairs (StartsBefore before) rounds

head_there : {A : Type 0} (x : A) (xs g : List A) → HeadIn xs g → HeadIn (x ∷ xs) g
head_there x xs [] has = has
head_there x xs (s ∷ ss) has = contains_there x xs s has

head_cases : {A : Type 0} (x : A) (xs g : List A) → HeadIn (x ∷ xs) g → ((ss : List A) × (x ∷ ss ≡ g)) ⊎ HeadIn xs g
head_cases x xs [] has = absurd has
head_cases x xs (s ∷ ss) has = elim (contains_cases x xs s has) [
  | inl here ↦ inl (ss, ap (λ y. y ∷ ss) here)
  | inr there ↦ inr there
]

before_heads : {A : Type 0} (before : A → A → Type 0) (s : A) (ss xs g : List A) → ((t : A) → Contains xs t → before s t) → HeadIn xs g → StartsBefore before (s ∷ ss) g
before_heads before s ss xs [] first has = has
before_heads before s ss xs (t ∷ ts) first has = first t has

-- links that are apart, in order
pub record AreOrdered {A P : Type 0} (ends : A → P × P) (before : A → A → Type 0) (links : List A) : Type 0 where
  pub apart : Apart ends links
  pub order : AllPairs before links
  pub asym : (s t : A) → before s t → ¬ before t s

gather_more : {A P : Type 0} (ends : A → P × P) (before : A → A → Type 0) (links : List A) → AreOrdered ends before links → (x : A) (xs : List A) → Contains links x → ((t : A) → Contains xs t → before x t) → Gathered ends before links xs → Gathered ends before links (x ∷ xs)
gather_more {A} ends before links is x xs member first old =
    let at : LineWith ends before links x = line_with ends before is.asym links is.apart is.order x member in
    let here : (ss : List A) (g : List A) → IsLineOf ends before links g → x ∷ ss ≡ g → at.first ∷ at.others ≡ g = λ ss g line same. same_line ends before links (at.first ∷ at.others) g is.apart is.asym at.is line x at.has (subst (λ ys. Contains ys x) same (contains_here x ss)) in
    elim (is.apart.points (ends at.first).0 (ends x).0) [
      | inr other ↦ record {
        frees = old.frees;
        rounds = old.rounds;
        frees_are = λ g has. ((old.frees_are g has).0, (old.frees_are g has).1, head_there x xs g (old.frees_are g has).2);
        rounds_are = λ g has. ((old.rounds_are g has).0, (old.rounds_are g has).1, head_there x xs g (old.rounds_are g has).2);
        every = λ g line head. elim (head_cases x xs g head) [
          | inl is_x ↦ absurd (other (heads_same at.first x at.others is_x.0 (here is_x.0 g line is_x.1 ∙ sym is_x.1)))
          | inr later ↦ old.every g line later
        ];
        frees_order = old.frees_order;
        rounds_order = old.rounds_order;
      }
      | inl same ↦
          let first_is : at.first ≡ x = is.apart.starts at.first x (at.is.within at.first (contains_here at.first at.others)) member same in
          let g = at.first ∷ at.others in
          let head : Contains (x ∷ xs) at.first = subst (λ y. Contains (x ∷ xs) y) (sym first_is) (contains_here x xs) in
          let comes : (h : List A) → HeadIn xs h → StartsBefore before g h = λ h. before_heads before at.first at.others xs h (λ t has. subst (λ y. before y t) (sym first_is) (first t has)) in
          elim (closed_or_not ends is.apart.points g) [
            | inl closed ↦ record {
              frees = old.frees;
              rounds = g ∷ old.rounds;
              frees_are = λ h has. ((old.frees_are h has).0, (old.frees_are h has).1, head_there x xs h (old.frees_are h has).2);
              rounds_are = λ h has. elim (contains_cases g old.rounds h has) [
                | inl new ↦ subst (λ ys. IsLineOf ends before links ys × IsClosed ends ys × HeadIn (x ∷ xs) ys) new (at.is, closed, head)
                | inr there ↦ ((old.rounds_are h there).0, (old.rounds_are h there).1, head_there x xs h (old.rounds_are h there).2)
              ];
              every = λ h line head_h. elim (head_cases x xs h head_h) [
                | inl is_x ↦ inr (subst (λ ys. Contains (g ∷ old.rounds) ys) (here is_x.0 h line is_x.1) (contains_here g old.rounds))
                | inr later ↦ elim (old.every h line later) [ inl free ↦ inl free | inr round ↦ inr (contains_there g old.rounds h round) ]
              ];
              frees_order = old.frees_order;
              rounds_order = pairs_cons (StartsBefore before) g old.rounds (λ h has. comes h (old.rounds_are h has).2) old.rounds_order;
            }
            | inr free ↦ record {
              frees = g ∷ old.frees;
              rounds = old.rounds;
              rounds_are = λ h has. ((old.rounds_are h has).0, (old.rounds_are h has).1, head_there x xs h (old.rounds_are h has).2);
              frees_are = λ h has. elim (contains_cases g old.frees h has) [
                | inl new ↦ subst (λ ys. IsLineOf ends before links ys × (¬ IsClosed ends ys) × HeadIn (x ∷ xs) ys) new (at.is, free, head)
                | inr there ↦ ((old.frees_are h there).0, (old.frees_are h there).1, head_there x xs h (old.frees_are h there).2)
              ];
              every = λ h line head_h. elim (head_cases x xs h head_h) [
                | inl is_x ↦ inl (subst (λ ys. Contains (g ∷ old.frees) ys) (here is_x.0 h line is_x.1) (contains_here g old.frees))
                | inr later ↦ elim (old.every h line later) [ inl there ↦ inl (contains_there g old.frees h there) | inr round ↦ inr round ]
              ];
              rounds_order = old.rounds_order;
              frees_order = pairs_cons (StartsBefore before) g old.frees (λ h has. comes h (old.frees_are h has).2) old.frees_order;
            }
          ]
    ]
  where
    heads_same : (s t : A) (ss ts : List A) → s ∷ ss ≡ t ∷ ts → (ends s).0 ≡ (ends t).0
    heads_same s t ss ts same = let is_t : s ≡ t = cc in ap (λ y. (ends y).0) is_t

gather : {A P : Type 0} (ends : A → P × P) (before : A → A → Type 0) (links : List A) → AreOrdered ends before links → (xs : List A) → ((t : A) → Contains xs t → Contains links t) → AllPairs before xs → Gathered ends before links xs
gather {A} ends before links is [] within order = record {
  frees = [];
  rounds = [];
  frees_are = λ g has. absurd (none_in g has);
  rounds_are = λ g has. absurd (none_in g has);
  every = none;
  frees_order = pairs_nil (StartsBefore before);
  rounds_order = pairs_nil (StartsBefore before);
}
  where
    none : (g : List A) → IsLineOf ends before links g → HeadIn [] g → Contains [] g ⊎ Contains [] g
    none [] line has = absurd has
    none (s ∷ ss) line has = absurd (none_in s has)
gather ends before links is (x ∷ xs) within order = gather_more ends before links is x xs (within x (contains_here x xs)) (pairs_head before x xs order) (gather ends before links is xs (λ t has. within t (contains_there x xs t has)) (pairs_tail before x xs order))

-- each line starts with a link
head_within : {A P : Type 0} (ends : A → P × P) (before : A → A → Type 0) (links g : List A) → IsLineOf ends before links g → HeadIn links g
head_within ends before links [] line = absurd line.run
head_within ends before links (s ∷ ss) line = line.within s (contains_here s ss)

-- a list of all lines, in order
lines_from : {A P : Type 0} (ends : A → P × P) (before : A → A → Type 0) (links : List A) → AreOrdered ends before links → (lines : List (List A)) → ((g : List A) → Contains lines g → IsLineOf ends before links g) → ((g : List A) → IsLineOf ends before links g → Contains lines g) → AllPairs (ComesFirst ends before) lines → AreLines ends before links lines
lines_from {A} ends before links is lines each every order = record {
  all = λ s. (
    λ has.
        let found = of_flat (λ line. line) lines s has in
        (each found.0 found.1).within s found.2,
    λ has.
        let at : LineWith ends before links s = line_with ends before is.asym links is.apart is.order s has in
        in_flat (λ line. line) lines (at.first ∷ at.others) s (every (at.first ∷ at.others) at.is) at.has,
  );
  once = once_flat (λ line. line) lines (λ g member. (each g member).once) (pairs_weaker (ComesFirst ends before) AreApart lines (λ g h has_g has_h comes u on_g on_h.
      let same : g ≡ h = same_line ends before links g h is.apart is.asym (each g has_g) (each h has_h) u on_g on_h in
      let self : ComesFirst ends before g g = subst (λ ys. ComesFirst ends before g ys) (sym same) comes in
      comes_asym ends before is.asym g g self self) order);
  runs = all_of (IsLine ends) lines (λ g member. (each g member).run);
  longest = all_of (λ line. ¬ IsClosed ends line → IsLongest ends links line) lines (λ g member. (each g member).longest);
  least = all_of (λ line. IsClosed ends line → StartsLeast before line) lines (λ g member. (each g member).least);
  order = order;
}

-- all open lines and all closed ones, each kind in order
pub record AllKinds {A P : Type 0} (ends : A → P × P) (before : A → A → Type 0) (links : List A) (frees rounds : List (List A)) : Type 0 where
  pub frees_are : (g : List A) → Contains frees g → IsLineOf ends before links g × (¬ IsClosed ends g)
  pub rounds_are : (g : List A) → Contains rounds g → IsLineOf ends before links g × IsClosed ends g
  pub every : (g : List A) → IsLineOf ends before links g → Contains frees g ⊎ Contains rounds g
  pub frees_order : AllPairs (StartsBefore before) frees
  pub rounds_order : AllPairs (StartsBefore before) rounds

-- the open lines and then the closed ones are the lines
pub kinds_are_lines : {A P : Type 0} (ends : A → P × P) (before : A → A → Type 0) (links : List A) → AreOrdered ends before links → (frees rounds : List (List A)) → AllKinds ends before links frees rounds → AreLines ends before links (frees ++ rounds)
kinds_are_lines ends before links is frees rounds all =
    let order : AllPairs (ComesFirst ends before) (frees ++ rounds) = pairs_join (ComesFirst ends before) frees rounds
    (pairs_weaker (StartsBefore before) (ComesFirst ends before) frees (λ g h has_g has_h comes. record { kinds = λ closed. absurd ((all.frees_are g has_g).1 closed); order = λ both. comes }) all.frees_order)
    (pairs_weaker (StartsBefore before) (ComesFirst ends before) rounds (λ g h has_g has_h comes. record { kinds = λ closed. (all.rounds_are h has_h).1; order = λ both. comes }) all.rounds_order)
    (λ g h has_g has_h. record { kinds = λ closed. (all.rounds_are h has_h).1; order = λ both. absurd ((all.frees_are g has_g).1 (both.1 (all.rounds_are h has_h).1)) }) in
    lines_from ends before links is (frees ++ rounds) (λ g member. elim (Contains-append_cases frees rounds g member) [
      | inl left ↦ (all.frees_are g left).0
      | inr right ↦ (all.rounds_are g right).0
    ]) (λ g line. elim (all.every g line) [
      | inl left ↦ Contains-append_left frees rounds g left
      | inr right ↦ Contains-append_right frees rounds g right
    ]) order

some_list : {A P : Type 0} (ends : A → P × P) (before : A → A → Type 0) (links : List A) → AreOrdered ends before links → (lines : List (List A)) × AreLines ends before links lines
some_list ends before links is =
    let all : Gathered ends before links links = gather ends before links is links (λ t has. has) is.order in (
      all.frees ++ all.rounds,
      kinds_are_lines ends before links is all.frees all.rounds (record {
        frees_are = λ g member. ((all.frees_are g member).0, (all.frees_are g member).1);
        rounds_are = λ g member. ((all.rounds_are g member).0, (all.rounds_are g member).1);
        every = λ g line. all.every g line (head_within ends before links g line);
        frees_order = all.frees_order;
        rounds_order = all.rounds_order;
      }),
    )

-- exactly one list of lines
pub one_list_of_lines : {A P : Type 0} (ends : A → P × P) (before : A → A → Type 0) (links : List A) → ((p q : P) → (p ≡ q) ⊎ (p ≢ q)) → ((s t : A) → before s t → ¬ before t s) → AreLinks ends links → AllPairs before links → HaveOneListOfLines ends before links
one_list_of_lines ends before links points asym are order =
    let apart : Apart ends links = record {
      starts = by_pairs (λ s. (ends s).0) links are.starts;
      stops = by_pairs (λ s. (ends s).1) links are.stops;
      points = points;
    } in
    let is : AreOrdered ends before links = record { apart = apart; order = order; asym = asym } in
    let found = some_list ends before links is in
    (found.0, (found.1, λ other are_other. one_list ends before links apart asym other found.0 are_other found.1))
