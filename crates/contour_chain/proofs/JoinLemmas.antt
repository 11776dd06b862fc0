-- Each link stands in a line: links are added one by one, the least last, and the lines that they meet are joined.
use Rattle.std.proofs.Common.{◌≡◌, ◌≢◌, ◌⊎◌, inl, inr, List, [], ◌∷◌, ◌++◌, refl, sym, ap, ◌∙◌, subst}
use Rattle.std.specs.Prelude.{AllPairs, Contains}
use Rattle.cell_base.proofs.ListDeciders.{contains_cases, contains_here, contains_there}
use Rattle.contour_chain.specs.Inner.Links.{IsLineOf}
use Rattle.contour_chain.specs.Lines.{IsClosed, LeadsOn, end_of}
use Rattle.contour_chain.proofs.LineLemmas.{Apart, after, ahead, closed_or_not, last_of, same_line}
use Rattle.std.proofs.lemmas.List.Elements.{Contains-append_cases, Contains-append_left, Contains-append_right}
use Rattle.contour_segments.proofs.MemberLemmas.{none_in, once_join, pairs_cons, pairs_head, pairs_nil, pairs_tail}

-- the links but for the least are apart too
pub apart_rest : {A P : Type 0} (ends : A → P × P) (x : A) (xs : List A) → Apart ends (x ∷ xs) → Apart ends xs
apart_rest ends x xs apart = record {
  starts = λ s t has_s has_t. apart.starts s t (contains_there x xs s has_s) (contains_there x xs t has_t);
  stops = λ s t has_s has_t. apart.stops s t (contains_there x xs s has_s) (contains_there x xs t has_t);
  points = apart.points;
}

-- a member at which two points are the same, or none
find_by : {A P : Type 0} (key : A → P) → ((p q : P) → (p ≡ q) ⊎ (p ≢ q)) → (at : P) (xs : List A) → ((t : A) × Contains xs t × (key t ≡ at)) ⊎ ((t : A) → Contains xs t → key t ≢ at)
find_by key points at [] = inr (λ t member. absurd (none_in t member))
find_by key points at (x ∷ xs) = elim (points (key x) at) [
  | inl same ↦ inl (x, contains_here x xs, same)
  | inr other ↦ elim (find_by key points at xs) [
    | inl found ↦ inl (found.0, contains_there x xs found.0 found.1, found.2)
    | inr none ↦ inr (λ t member same. elim (contains_cases x xs t member) [
      | inl here ↦ other (ap key here ∙ same)
      | inr there ↦ none t there same
    ])
  ]
]

-- the line in which a link stands
pub record LineWith {A P : Type 0} (ends : A → P × P) (before : A → A → Type 0) (links : List A) (s : A) : Type 0 where
  pub first : A
  pub others : List A
  pub is : IsLineOf ends before links (first ∷ others)
  pub has : Contains (first ∷ others) s

-- what is asked of a new link x and the others, and the lines of the others
record IsCase {A P : Type 0} (ends : A → P × P) (before : A → A → Type 0) (x : A) (xs : List A) : Type 0 where
  all : Apart ends (x ∷ xs)
  rest : Apart ends xs
  new : ¬ Contains xs x
  first : (t : A) → Contains xs t → before x t
  asym : (s t : A) → before s t → ¬ before t s
  lines : (s : A) → Contains xs s → LineWith ends before xs s

not_start : {A P : Type 0} (ends : A → P × P) (before : A → A → Type 0) (x : A) (xs : List A) → IsCase ends before x xs → (t : A) → Contains xs t → (ends t).0 ≢ (ends x).0
not_start ends before x xs is t member same = is.new (subst (λ y. Contains xs y) (is.all.starts t x (contains_there x xs t member) (contains_here x xs) same) member)

not_stop : {A P : Type 0} (ends : A → P × P) (before : A → A → Type 0) (x : A) (xs : List A) → IsCase ends before x xs → (t : A) → Contains xs t → (ends t).1 ≢ (ends x).1
not_stop ends before x xs is t member same = is.new (subst (λ y. Contains xs y) (is.all.stops t x (contains_there x xs t member) (contains_here x xs) same) member)

-- what comes after the new link
record Right {A P : Type 0} (ends : A → P × P) (before : A → A → Type 0) (x : A) (xs : List A) : Type 0 where
  links : List A
  leads : LeadsOn ends x links
  within : (t : A) → Contains links t → Contains xs t
  once : AllPairs (λ s t. s ≢ t) links
  stop : (t : A) → Contains xs t → (ends t).0 ≢ end_of ends x links
  -- a line that shares a link with it is it
  same : (a : A) (rest : List A) → IsLineOf ends before xs (a ∷ rest) → (u : A) → Contains (a ∷ rest) u → Contains links u → a ∷ rest ≡ links
  -- a line that starts where the new link ends is it
  takes : (a : A) (rest : List A) → IsLineOf ends before xs (a ∷ rest) → (ends a).0 ≡ (ends x).1 → a ∷ rest ≡ links

right_line : {A P : Type 0} (ends : A → P × P) (before : A → A → Type 0) (x : A) (xs : List A) → IsCase ends before x xs → (b : A) (bs : List A) → IsLineOf ends before xs (b ∷ bs) → (ends b).0 ≡ (ends x).1 → Right ends before x xs
right_line ends before x xs is b bs line meets = record {
  links = b ∷ bs;
  leads = (meets, line.run);
  within = line.within;
  once = line.once;
  stop = λ t member. (line.longest (λ closed.
      let last = last_of ends b bs in
      not_stop ends before x xs is last.0 (line.within last.0 last.1) (last.2 ∙ closed ∙ meets)) t member).1;
  same = λ a rest other u on_a on_b. same_line ends before xs (a ∷ rest) (b ∷ bs) is.rest is.asym other line u on_a on_b;
  takes = λ a rest other start.
      let first : b ≡ a = is.rest.starts b a (line.within b (contains_here b bs)) (other.within a (contains_here a rest)) (meets ∙ sym start) in
      same_line ends before xs (a ∷ rest) (b ∷ bs) is.rest is.asym other line a (contains_here a rest) (subst (λ y. Contains (b ∷ bs) y) first (contains_here b bs));
}

right_of : {A P : Type 0} (ends : A → P × P) (before : A → A → Type 0) (x : A) (xs : List A) → IsCase ends before x xs → Right ends before x xs
right_of {A} ends before x xs is = elim (find_by (λ t. (ends t).0) is.all.points (ends x).1 xs) [
  | inr none ↦ record {
    links = [];
    leads = tt;
    within = λ t member. absurd (none_in t member);
    once = pairs_nil (λ a b. a ≢ b);
    stop = none;
    same = λ a rest other u on_a on_b. absurd (none_in u on_b);
    takes = λ a rest other start. absurd (none a (other.within a (contains_here a rest)) start);
  }
  | inl found ↦
      let at = is.lines found.0 found.1 in
      let meets : (ends at.first).0 ≡ (ends x).1 = elim (ahead ends at.first at.others at.is.run found.0 at.has) [
        | inl first ↦ ap (λ y. (ends y).0) first ∙ found.2
        | inr prior ↦ absurd (not_stop ends before x xs is prior.0 (at.is.within prior.0 prior.1) (prior.2 ∙ found.2))
      ] in
      right_line ends before x xs is at.first at.others at.is meets
]

-- what comes before the new link: a line that ends where it starts, or none
record Left {A P : Type 0} (ends : A → P × P) (before : A → A → Type 0) (x : A) (xs : List A) : Type 0 where
  first : A
  others : List A
  line : IsLineOf ends before xs (first ∷ others)
  meets : end_of ends first others ≡ (ends x).0
  free : ¬ IsClosed ends (first ∷ others)

left_of : {A P : Type 0} (ends : A → P × P) (before : A → A → Type 0) (x : A) (xs : List A) → IsCase ends before x xs → Left ends before x xs ⊎ ((t : A) → Contains xs t → (ends t).1 ≢ (ends x).0)
left_of ends before x xs is = elim (find_by (λ t. (ends t).1) is.all.points (ends x).0 xs) [
  | inr none ↦ inr none
  | inl found ↦
      let at = is.lines found.0 found.1 in
      let meets : end_of ends at.first at.others ≡ (ends x).0 = elim (after ends at.first at.others at.is.run found.0 at.has) [
        | inl next ↦ absurd (not_start ends before x xs is next.0 (at.is.within next.0 (contains_there at.first at.others next.0 next.1)) (next.2 ∙ found.2))
        | inr end ↦ end ∙ found.2
      ] in
      inl (record {
        first = at.first;
        others = at.others;
        line = at.is;
        meets = meets;
        free = λ closed. not_start ends before x xs is at.first (at.is.within at.first (contains_here at.first at.others)) (sym closed ∙ meets);
      })
]

-- the line of the new link, and which lines it takes in
record Joined {A P : Type 0} (ends : A → P × P) (before : A → A → Type 0) (x : A) (xs : List A) : Type 0 where
  first : A
  others : List A
  is : IsLineOf ends before (x ∷ xs) (first ∷ others)
  has : Contains (first ∷ others) x
  takes_end : (a : A) (rest : List A) → IsLineOf ends before xs (a ∷ rest) → end_of ends a rest ≡ (ends x).0 → (t : A) → Contains (a ∷ rest) t → Contains (first ∷ others) t
  takes_start : (a : A) (rest : List A) → IsLineOf ends before xs (a ∷ rest) → (ends a).0 ≡ (ends x).1 → (t : A) → Contains (a ∷ rest) t → Contains (first ∷ others) t

-- the new link and what comes after it, where that is closed or nothing comes before
joined_right : {A P : Type 0} (ends : A → P × P) (before : A → A → Type 0) (x : A) (xs : List A) → IsCase ends before x xs → (r : Right ends before x xs) → ((end_of ends x r.links ≢ (ends x).0) → (t : A) → Contains xs t → (ends t).1 ≢ (ends x).0) → ((a : A) (rest : List A) → IsLineOf ends before xs (a ∷ rest) → end_of ends a rest ≡ (ends x).0 → a ∷ rest ≡ r.links) → Joined ends before x xs
joined_right {A} ends before x xs is r free taken = record {
  first = x;
  others = r.links;
  is = record {
    run = r.leads;
    within = λ s member. elim (contains_cases x r.links s member) [
      | inl here ↦ subst (λ y. Contains (x ∷ xs) y) here (contains_here x xs)
      | inr there ↦ contains_there x xs s (r.within s there)
    ];
    once = pairs_cons (λ a b. a ≢ b) x r.links (λ y member same. is.new (subst (λ z. Contains xs z) (sym same) (r.within y member))) r.once;
    longest = λ not_closed t member. elim (contains_cases x xs t member) [
      | inl here ↦ (
        λ same. not_closed (alone r.links r.leads r.within (ap (λ y. (ends y).1) here ∙ same)),
        λ same. not_closed (sym same ∙ sym (ap (λ y. (ends y).0) here)),
      )
      | inr there ↦ (free not_closed t there, r.stop t there)
    ];
    least = λ closed t member. is.first t (r.within t member);
  };
  has = contains_here x r.links;
  takes_end = λ a rest line meets t member. contains_there x r.links t (subst (λ ys. Contains ys t) (taken a rest line meets) member);
  takes_start = λ a rest line meets t member. contains_there x r.links t (subst (λ ys. Contains ys t) (r.takes a rest line meets) member);
}
  where
    -- a link that ends where it starts is a line alone
    alone : (bs : List A) → LeadsOn ends x bs → ((t : A) → Contains bs t → Contains xs t) → (ends x).1 ≡ (ends x).0 → end_of ends x bs ≡ (ends x).0
    alone [] leads within loop = loop
    alone (b ∷ bs) leads within loop = absurd (not_start ends before x xs is b (within b (contains_here b bs)) (leads.0 ∙ loop))

run_join : {A P : Type 0} (ends : A → P × P) (a : A) (rest : List A) (x : A) (bs : List A) → LeadsOn ends a rest → end_of ends a rest ≡ (ends x).0 → LeadsOn ends x bs → LeadsOn ends a (rest ++ x ∷ bs)
run_join ends a [] x bs leads meets more = (sym meets, more)
run_join ends a (b ∷ rest) x bs leads meets more = (leads.0, run_join ends b rest x bs leads.1 meets more)

end_join : {A P : Type 0} (ends : A → P × P) (a : A) (rest : List A) (x : A) (bs : List A) → end_of ends a (rest ++ x ∷ bs) ≡ end_of ends x bs
end_join ends a [] x bs = refl
end_join ends a (b ∷ rest) x bs = end_join ends b rest x bs

-- a line that ends where another does is that one
same_end : {A P : Type 0} (ends : A → P × P) (before : A → A → Type 0) (x : A) (xs : List A) → IsCase ends before x xs → (a b : A) (rest bs : List A) → IsLineOf ends before xs (a ∷ rest) → IsLineOf ends before xs (b ∷ bs) → end_of ends a rest ≡ end_of ends b bs → a ∷ rest ≡ b ∷ bs
same_end ends before x xs is a b rest bs line_a line_b same =
    let last_a = last_of ends a rest in
    let last_b = last_of ends b bs in
    let meet = is.rest.stops last_b.0 last_a.0 (line_b.within last_b.0 last_b.1) (line_a.within last_a.0 last_a.1) (last_b.2 ∙ sym same ∙ sym last_a.2) in
    same_line ends before xs (a ∷ rest) (b ∷ bs) is.rest is.asym line_a line_b last_a.0 last_a.1 (subst (λ y. Contains (b ∷ bs) y) meet last_b.1)

-- the line before the new link, the link, and what comes after
joined_both : {A P : Type 0} (ends : A → P × P) (before : A → A → Type 0) (x : A) (xs : List A) → IsCase ends before x xs → (r : Right ends before x xs) → (l : Left ends before x xs) → end_of ends x r.links ≢ (ends x).0 → Joined ends before x xs
joined_both {A} ends before x xs is r l other = record {
  first = l.first;
  others = l.others ++ x ∷ r.links;
  is = record {
    run = run_join ends l.first l.others x r.links l.line.run l.meets r.leads;
    within = λ s member. elim (Contains-append_cases (l.first ∷ l.others) (x ∷ r.links) s member) [
      | inl left ↦ contains_there x xs s (l.line.within s left)
      | inr right ↦ elim (contains_cases x r.links s right) [
        | inl here ↦ subst (λ y. Contains (x ∷ xs) y) here (contains_here x xs)
        | inr there ↦ contains_there x xs s (r.within s there)
      ]
    ];
    once = once_join (l.first ∷ l.others) (x ∷ r.links) l.line.once (pairs_cons (λ a b. a ≢ b) x r.links (λ y member same. is.new (subst (λ z. Contains xs z) (sym same) (r.within y member))) r.once) (λ s left right. elim (contains_cases x r.links s right) [
      | inl here ↦ is.new (subst (λ z. Contains xs z) (sym here) (l.line.within s left))
      | inr there ↦ never (r.same l.first l.others l.line s left there)
    ]);
    longest = λ not_closed t member. elim (contains_cases x xs t member) [
      | inl here ↦ (
        λ same. never (r.takes l.first l.others l.line (sym same ∙ sym (ap (λ y. (ends y).1) here))),
        λ same. other (sym (ap (λ y. (ends y).0) here ∙ same ∙ end)),
      )
      | inr there ↦ ((l.line.longest l.free t there).0, λ same. r.stop t there (same ∙ end))
    ];
    least = λ closed. absurd (r.stop l.first (l.line.within l.first (contains_here l.first l.others)) (sym closed ∙ end));
  };
  has = Contains-append_right (l.first ∷ l.others) (x ∷ r.links) x (contains_here x r.links);
  takes_end = λ a rest line meets t member. Contains-append_left (l.first ∷ l.others) (x ∷ r.links) t (subst (λ ys. Contains ys t) (same_end ends before x xs is a l.first rest l.others line l.line (meets ∙ sym l.meets)) member);
  takes_start = λ a rest line meets t member. Contains-append_right (l.first ∷ l.others) (x ∷ r.links) t (contains_there x r.links t (subst (λ ys. Contains ys t) (r.takes a rest line meets) member));
}
  where
    end : end_of ends l.first (l.others ++ x ∷ r.links) ≡ end_of ends x r.links
    end = end_join ends l.first l.others x r.links

    -- the two are not one line
    never : l.first ∷ l.others ≡ r.links → ⊥
    never same = other (sym (ap (λ ys. end_of ends x ys) same) ∙ l.meets)

joined : {A P : Type 0} (ends : A → P × P) (before : A → A → Type 0) (x : A) (xs : List A) → IsCase ends before x xs → Joined ends before x xs
joined {A} ends before x xs is =
    let r = right_of ends before x xs is in
    elim (left_of ends before x xs is) [
      | inr none ↦ joined_right ends before x xs is r (λ not_closed. none) (λ a rest line meets.
          let last = last_of ends a rest in
          absurd (none last.0 (line.within last.0 last.1) (last.2 ∙ meets)))
      | inl l ↦ elim (is.all.points (end_of ends x r.links) (ends x).0) [
        | inr other ↦ joined_both ends before x xs is r l other
        | inl round ↦ joined_right ends before x xs is r (λ not_closed. absurd (not_closed round)) (λ a rest line meets.
            let last = last_of ends x r.links in
            let mine = last_of ends a rest in
            let on_r : (w : A) × Contains r.links w × ((ends w).1 ≡ (ends x).0) = elim (contains_cases x r.links last.0 last.1) [
              | inr there ↦ (last.0, there, last.2 ∙ round)
              | inl here ↦ absurd (not_stop ends before x xs is mine.0 (line.within mine.0 mine.1) (mine.2 ∙ meets ∙ sym (last.2 ∙ round) ∙ sym (ap (λ y. (ends y).1) here)))
            ] in
            r.same a rest line on_r.0 (subst (λ y. Contains (a ∷ rest) y) (is.rest.stops mine.0 on_r.0 (line.within mine.0 mine.1) (r.within on_r.0 on_r.1) (mine.2 ∙ meets ∙ sym on_r.2)) mine.1) on_r.1)
      ]
    ]

-- a line that the new link doesn't meet stays a line
stays : {A P : Type 0} (ends : A → P × P) (before : A → A → Type 0) (x : A) (xs : List A) (a : A) (rest : List A) → IsLineOf ends before xs (a ∷ rest) → (¬ IsClosed ends (a ∷ rest) → ((ends x).1 ≢ (ends a).0) × ((ends x).0 ≢ end_of ends a rest)) → IsLineOf ends before (x ∷ xs) (a ∷ rest)
stays ends before x xs a rest line off = record {
  run = line.run;
  within = λ s member. contains_there x xs s (line.within s member);
  once = line.once;
  longest = λ not_closed t member. elim (contains_cases x xs t member) [
    | inl here ↦ (
      λ same. (off not_closed).0 (ap (λ y. (ends y).1) here ∙ same),
      λ same. (off not_closed).1 (ap (λ y. (ends y).0) here ∙ same),
    )
    | inr there ↦ line.longest not_closed t there
  ];
  least = line.least;
}

-- the lines with one link more
more_lines : {A P : Type 0} (ends : A → P × P) (before : A → A → Type 0) (x : A) (xs : List A) → IsCase ends before x xs → (s : A) → Contains (x ∷ xs) s → LineWith ends before (x ∷ xs) s
more_lines ends before x xs is s member =
    let new = joined ends before x xs is in
    elim (contains_cases x xs s member) [
      | inl here ↦ record { first = new.first; others = new.others; is = new.is; has = subst (λ y. Contains (new.first ∷ new.others) y) here new.has }
      | inr there ↦
          let at = is.lines s there in
          elim (closed_or_not ends is.all.points (at.first ∷ at.others)) [
            | inl closed ↦ record { first = at.first; others = at.others; is = stays ends before x xs at.first at.others at.is (λ not_closed. absurd (not_closed closed)); has = at.has }
            | inr not_closed ↦ elim (is.all.points (ends at.first).0 (ends x).1) [
              | inl start ↦ record { first = new.first; others = new.others; is = new.is; has = new.takes_start at.first at.others at.is start s at.has }
              | inr off_start ↦ elim (is.all.points (end_of ends at.first at.others) (ends x).0) [
                | inl end ↦ record { first = new.first; others = new.others; is = new.is; has = new.takes_end at.first at.others at.is end s at.has }
                | inr off_end ↦ record { first = at.first; others = at.others; is = stays ends before x xs at.first at.others at.is (λ free. (λ same. off_start (sym same), λ same. off_end (sym same))); has = at.has }
              ]
            ]
          ]
    ]

-- each link stands in a line
pub line_with : {A P : Type 0} (ends : A → P × P) (before : A → A → Type 0) → ((s t : A) → before s t → ¬ before t s) → (links : List A) → Apart ends links → AllPairs before links → (s : A) → Contains links s → LineWith ends before links s
line_with ends before asym [] apart order s member = absurd (none_in s member)
line_with {A} ends before asym (x ∷ xs) apart order s member =
    let first : (t : A) → Contains xs t → before x t = pairs_head before x xs order in
    more_lines ends before x xs (record {
      all = apart;
      rest = apart_rest ends x xs apart;
      new = λ again. asym x x (first x again) (first x again);
      first = first;
      asym = asym;
      lines = line_with ends before asym xs (apart_rest ends x xs apart) (pairs_tail before x xs order);
    }) s member
