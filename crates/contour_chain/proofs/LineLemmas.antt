-- Links make at most one list of lines.
use Rattle.std.proofs.Common.{◌≡◌, ◌≢◌, ◌⊎◌, inl, inr, List, [], ◌∷◌, ◌++◌, refl, sym, ap, ◌∙◌, subst}
use Rattle.std.specs.Prelude.{AllPairs, Contains}
use Rattle.std.specs.List.{flat_map}
use Rattle.std.proofs.lemmas.List.Elements.{All-contains, Contains-append_left}
use Rattle.cell_base.proofs.ListDeciders.{contains_cases, contains_here, contains_there}
use Rattle.contour_chain.specs.Inner.Links.{IsLineOf}
use Rattle.contour_chain.specs.Lines.{AreLines, ComesFirst, IsClosed, IsLine, IsLongest, LeadsOn, StartsBefore, StartsLeast, end_of}
use Rattle.contour_segments.proofs.MemberLemmas.{in_flat, none_in, of_flat, once_right, pairs_cons, pairs_head, pairs_nil, pairs_tail, same_order}

-- a list without repeats, and its parts

once_left : {A : Type 0} (xs ys : List A) → AllPairs (λ x y. x ≢ y) (xs ++ ys) → AllPairs (λ x y. x ≢ y) xs
once_left [] ys once = pairs_nil (λ a b. a ≢ b)
once_left (x ∷ xs) ys once = pairs_cons (λ a b. a ≢ b) x xs (λ y member. pairs_head (λ a b. a ≢ b) x (xs ++ ys) once y (Contains-append_left xs ys y member)) (once_left xs ys (pairs_tail (λ a b. a ≢ b) x (xs ++ ys) once))

once_parts : {A B : Type 0} (f : A → List B) (xs : List A) → AllPairs (λ x y. x ≢ y) (flat_map f xs) → (x : A) → Contains xs x → AllPairs (λ x y. x ≢ y) (f x)
once_parts f [] once x member = absurd (none_in x member)
once_parts f (z ∷ zs) once x member = elim (contains_cases z zs x member) [
  | inl here ↦ subst (λ u. AllPairs (λ x y. x ≢ y) (f u)) here (once_left (f z) (flat_map f zs) once)
  | inr there ↦ once_parts f zs (once_right (f z) (flat_map f zs) once) x there
]

-- links, of which no two start at one point and no two end at one
pub record Apart {A P : Type 0} (ends : A → P × P) (links : List A) : Type 0 where
  pub starts : (s t : A) → Contains links s → Contains links t → (ends s).0 ≡ (ends t).0 → s ≡ t
  pub stops : (s t : A) → Contains links s → Contains links t → (ends s).1 ≡ (ends t).1 → s ≡ t
  pub points : (p q : P) → (p ≡ q) ⊎ (p ≢ q)

-- what differs at two members tells them apart
pub by_pairs : {A P : Type 0} (key : A → P) (xs : List A) → AllPairs (λ s t. key s ≢ key t) xs → (s t : A) → Contains xs s → Contains xs t → key s ≡ key t → s ≡ t
by_pairs key [] pairs s t has_s has_t same = absurd (none_in s has_s)
by_pairs key (x ∷ xs) pairs s t has_s has_t same = elim (contains_cases x xs s has_s) [
  | inl here_s ↦ elim (contains_cases x xs t has_t) [
    | inl here_t ↦ sym here_s ∙ here_t
    | inr there_t ↦ absurd (pairs_head (λ a b. key a ≢ key b) x xs pairs t there_t (ap key here_s ∙ same))
  ]
  | inr there_s ↦ elim (contains_cases x xs t has_t) [
    | inl here_t ↦ absurd (pairs_head (λ a b. key a ≢ key b) x xs pairs s there_s (ap key here_t ∙ sym same))
    | inr there_t ↦ by_pairs key xs (pairs_tail (λ a b. key a ≢ key b) x xs pairs) s t there_s there_t same
  ]
]

pub closed_or_not : {A P : Type 0} (ends : A → P × P) → ((p q : P) → (p ≡ q) ⊎ (p ≢ q)) → (line : List A) → IsClosed ends line ⊎ (¬ IsClosed ends line)
closed_or_not ends points [] = inr (λ is. is)
closed_or_not ends points (s ∷ ss) = points (end_of ends s ss) (ends s).0

-- the link after one of a line, or the line's end
pub after : {A P : Type 0} (ends : A → P × P) (s : A) (ss : List A) → LeadsOn ends s ss → (u : A) → Contains (s ∷ ss) u → ((w : A) × Contains ss w × ((ends w).0 ≡ (ends u).1)) ⊎ (end_of ends s ss ≡ (ends u).1)
after ends s [] leads u has = elim (contains_cases s [] u has) [
  | inl here ↦ inr (ap (λ x. (ends x).1) here)
  | inr there ↦ absurd (none_in u there)
]
after ends s (t ∷ ts) leads u has = elim (contains_cases s (t ∷ ts) u has) [
  | inl here ↦ inl (t, contains_here t ts, leads.0 ∙ ap (λ x. (ends x).1) here)
  | inr there ↦ elim (after ends t ts leads.1 u there) [
    | inl next ↦ inl (next.0, contains_there t ts next.0 next.1, next.2)
    | inr end ↦ inr end
  ]
]

-- the link before one of a line, but for its first
pub ahead : {A P : Type 0} (ends : A → P × P) (s : A) (ss : List A) → LeadsOn ends s ss → (u : A) → Contains (s ∷ ss) u → (s ≡ u) ⊎ ((w : A) × Contains (s ∷ ss) w × ((ends w).1 ≡ (ends u).0))
ahead ends s [] leads u has = elim (contains_cases s [] u has) [
  | inl here ↦ inl here
  | inr there ↦ absurd (none_in u there)
]
ahead ends s (t ∷ ts) leads u has = elim (contains_cases s (t ∷ ts) u has) [
  | inl here ↦ inl here
  | inr there ↦ elim (ahead ends t ts leads.1 u there) [
    | inl first ↦ inr (s, contains_here s (t ∷ ts), sym leads.0 ∙ ap (λ x. (ends x).0) first)
    | inr found ↦ inr (found.0, contains_there s (t ∷ ts) found.0 found.1, found.2)
  ]
]

-- the last link
pub last_of : {A P : Type 0} (ends : A → P × P) (s : A) (ss : List A) → (w : A) × Contains (s ∷ ss) w × ((ends w).1 ≡ end_of ends s ss)
last_of ends s [] = (s, contains_here s [], refl)
last_of ends s (t ∷ ts) =
    let found = last_of ends t ts in
    (found.0, contains_there s (t ∷ ts) found.0 found.1, found.2)

-- in a closed line each link has one before it
pub ahead_round : {A P : Type 0} (ends : A → P × P) (s : A) (ss : List A) → LeadsOn ends s ss → IsClosed ends (s ∷ ss) → (u : A) → Contains (s ∷ ss) u → (w : A) × Contains (s ∷ ss) w × ((ends w).1 ≡ (ends u).0)
ahead_round ends s ss leads closed u has = elim (ahead ends s ss leads u has) [
  | inl first ↦
      let last = last_of ends s ss in
      (last.0, last.1, last.2 ∙ closed ∙ ap (λ x. (ends x).0) first)
  | inr found ↦ found
]

-- the link that follows one of a line is in the line, and so is the one before it
pub forward : {A P : Type 0} (ends : A → P × P) (before : A → A → Type 0) (links line : List A) → Apart ends links → IsLineOf ends before links line → (u v : A) → Contains line u → Contains links v → (ends v).0 ≡ (ends u).1 → Contains line v
forward ends before links [] apart is u v has_u has_v meets = absurd is.run
forward ends before links (s ∷ ss) apart is u v has_u has_v meets = elim (after ends s ss is.run u has_u) [
  | inl next ↦ subst (λ x. Contains (s ∷ ss) x) (apart.starts next.0 v (is.within next.0 (contains_there s ss next.0 next.1)) has_v (next.2 ∙ sym meets)) (contains_there s ss next.0 next.1)
  | inr end ↦ elim (closed_or_not ends apart.points (s ∷ ss)) [
    | inl closed ↦ subst (λ x. Contains (s ∷ ss) x) (apart.starts s v (is.within s (contains_here s ss)) has_v (sym closed ∙ end ∙ sym meets)) (contains_here s ss)
    | inr free ↦ absurd ((is.longest free v has_v).1 (meets ∙ sym end))
  ]
]

pub backward : {A P : Type 0} (ends : A → P × P) (before : A → A → Type 0) (links line : List A) → Apart ends links → IsLineOf ends before links line → (u v : A) → Contains line u → Contains links v → (ends v).1 ≡ (ends u).0 → Contains line v
backward ends before links [] apart is u v has_u has_v meets = absurd is.run
backward ends before links (s ∷ ss) apart is u v has_u has_v meets = elim (ahead ends s ss is.run u has_u) [
  | inr found ↦ subst (λ x. Contains (s ∷ ss) x) (apart.stops found.0 v (is.within found.0 found.1) has_v (found.2 ∙ sym meets)) found.1
  | inl first ↦ elim (closed_or_not ends apart.points (s ∷ ss)) [
    | inl closed ↦
        let last = last_of ends s ss in
        subst (λ x. Contains (s ∷ ss) x) (apart.stops last.0 v (is.within last.0 last.1) has_v (last.2 ∙ closed ∙ ap (λ x. (ends x).0) first ∙ sym meets)) last.1
    | inr free ↦ absurd ((is.longest free v has_v).0 (meets ∙ sym (ap (λ x. (ends x).0) first)))
  ]
]

-- two lines with a common link have the same links

back_to_first : {A P : Type 0} (ends : A → P × P) (before : A → A → Type 0) (links h : List A) → Apart ends links → IsLineOf ends before links h → (s : A) (ss : List A) → LeadsOn ends s ss → ((x : A) → Contains (s ∷ ss) x → Contains links x) → (u : A) → Contains (s ∷ ss) u → Contains h u → Contains h s
back_to_first ends before links h apart is s [] leads within u has on_h = elim (contains_cases s [] u has) [
  | inl here ↦ subst (λ x. Contains h x) (sym here) on_h
  | inr there ↦ absurd (none_in u there)
]
back_to_first ends before links h apart is s (t ∷ ts) leads within u has on_h = elim (contains_cases s (t ∷ ts) u has) [
  | inl here ↦ subst (λ x. Contains h x) (sym here) on_h
  | inr there ↦
      let has_t = back_to_first ends before links h apart is t ts leads.1 (λ x member. within x (contains_there s (t ∷ ts) x member)) u there on_h in
      backward ends before links h apart is t s has_t (within s (contains_here s (t ∷ ts))) (sym leads.0)
]

from_first : {A P : Type 0} (ends : A → P × P) (before : A → A → Type 0) (links h : List A) → Apart ends links → IsLineOf ends before links h → (s : A) (ss : List A) → LeadsOn ends s ss → ((x : A) → Contains (s ∷ ss) x → Contains links x) → Contains h s → (x : A) → Contains (s ∷ ss) x → Contains h x
from_first ends before links h apart is s [] leads within on_h x has = elim (contains_cases s [] x has) [
  | inl here ↦ subst (λ y. Contains h y) here on_h
  | inr there ↦ absurd (none_in x there)
]
from_first ends before links h apart is s (t ∷ ts) leads within on_h x has = elim (contains_cases s (t ∷ ts) x has) [
  | inl here ↦ subst (λ y. Contains h y) here on_h
  | inr there ↦
      let within_t : (y : _) → Contains (t ∷ ts) y → Contains links y = λ y member. within y (contains_there s (t ∷ ts) y member) in
      from_first ends before links h apart is t ts leads.1 within_t (forward ends before links h apart is s t on_h (within_t t (contains_here t ts)) leads.0) x there
]

pub same_links : {A P : Type 0} (ends : A → P × P) (before : A → A → Type 0) (links g h : List A) → Apart ends links → IsLineOf ends before links g → IsLineOf ends before links h → (u : A) → Contains g u → Contains h u → (x : A) → Contains g x → Contains h x
same_links ends before links [] h apart is_g is_h u on_g on_h x has = absurd is_g.run
same_links ends before links (s ∷ ss) h apart is_g is_h u on_g on_h x has = from_first ends before links h apart is_h s ss is_g.run is_g.within (back_to_first ends before links h apart is_h s ss is_g.run is_g.within u on_g on_h) x has

-- two runs from one link are the same, where neither goes on after the other's end
same_rest : {A P : Type 0} (ends : A → P × P) (links : List A) → Apart ends links → (u v : A) (ss ts : List A) → u ≡ v → LeadsOn ends u ss → LeadsOn ends v ts → ((x : A) → Contains ss x → Contains links x) → ((x : A) → Contains ts x → Contains links x) → ((x : A) → Contains ss x → (ends x).0 ≢ end_of ends v ts) → ((x : A) → Contains ts x → (ends x).0 ≢ end_of ends u ss) → ss ≡ ts
same_rest ends links apart u v [] [] is leads_s leads_t in_s in_t stop_s stop_t = refl
same_rest ends links apart u v [] (t ∷ ts) is leads_s leads_t in_s in_t stop_s stop_t = absurd (stop_t t (contains_here t ts) (leads_t.0 ∙ ap (λ x. (ends x).1) (sym is)))
same_rest ends links apart u v (s ∷ ss) [] is leads_s leads_t in_s in_t stop_s stop_t = absurd (stop_s s (contains_here s ss) (leads_s.0 ∙ ap (λ x. (ends x).1) is))
same_rest ends links apart u v (s ∷ ss) (t ∷ ts) is leads_s leads_t in_s in_t stop_s stop_t =
    let same = apart.starts s t (in_s s (contains_here s ss)) (in_t t (contains_here t ts)) (leads_s.0 ∙ ap (λ x. (ends x).1) is ∙ sym leads_t.0) in
    let rest = same_rest ends links apart s t ss ts same leads_s.1 leads_t.1 (λ x member. in_s x (contains_there s ss x member)) (λ x member. in_t x (contains_there t ts x member)) (λ x member. stop_s x (contains_there s ss x member)) (λ x member. stop_t x (contains_there t ts x member)) in
    ap (λ x. x ∷ ss) same ∙ ap (λ xs. t ∷ xs) rest

-- no link but the first of a line starts where it ends
stops_at : {A P : Type 0} (ends : A → P × P) (before : A → A → Type 0) (links : List A) → Apart ends links → (s : A) (ss : List A) → IsLineOf ends before links (s ∷ ss) → (x : A) → Contains links x → s ≢ x → (ends x).0 ≢ end_of ends s ss
stops_at ends before links apart s ss is x has other meets = elim (closed_or_not ends apart.points (s ∷ ss)) [
  | inl closed ↦ other (apart.starts s x (is.within s (contains_here s ss)) has (sym closed ∙ sym meets))
  | inr free ↦ (is.longest free x has).1 meets
]

same_from : {A P : Type 0} (ends : A → P × P) (before : A → A → Type 0) (links : List A) → Apart ends links → (s t : A) (ss ts : List A) → IsLineOf ends before links (s ∷ ss) → IsLineOf ends before links (t ∷ ts) → s ≡ t → s ∷ ss ≡ t ∷ ts
same_from {A} ends before links apart s t ss ts is_s is_t is =
    let in_s : (x : A) → Contains ss x → Contains links x = λ x member. is_s.within x (contains_there s ss x member) in
    let in_t : (x : A) → Contains ts x → Contains links x = λ x member. is_t.within x (contains_there t ts x member) in
    ap (λ x. x ∷ ss) is ∙ ap (λ xs. t ∷ xs) (same_rest ends links apart s t ss ts is is_s.run is_t.run in_s in_t (λ x member. stops_at ends before links apart t ts is_t x (in_s x member) (λ same. pairs_head (λ a b. a ≢ b) s ss is_s.once x member (is ∙ same))) (λ x member. stops_at ends before links apart s ss is_s x (in_t x member) (λ same. pairs_head (λ a b. a ≢ b) t ts is_t.once x member (sym is ∙ same))))

-- two lines with a common link are the same
pub same_line : {A P : Type 0} (ends : A → P × P) (before : A → A → Type 0) (links g h : List A) → Apart ends links → ((x y : A) → before x y → ¬ before y x) → IsLineOf ends before links g → IsLineOf ends before links h → (u : A) → Contains g u → Contains h u → g ≡ h
same_line ends before links [] h apart asym is_g is_h u on_g on_h = absurd is_g.run
same_line ends before links (s ∷ ss) [] apart asym is_g is_h u on_g on_h = absurd is_h.run
same_line ends before links (s ∷ ss) (t ∷ ts) apart asym is_g is_h u on_g on_h =
    let s_on_h = same_links ends before links (s ∷ ss) (t ∷ ts) apart is_g is_h u on_g on_h s (contains_here s ss) in
    let t_on_g = same_links ends before links (t ∷ ts) (s ∷ ss) apart is_h is_g u on_h on_g t (contains_here t ts) in
    same_from ends before links apart s t ss ts is_g is_h (elim (closed_or_not ends apart.points (s ∷ ss)) [
      | inr free ↦ elim (ahead ends t ts is_h.run s s_on_h) [
        | inl first ↦ sym first
        | inr found ↦ absurd ((is_g.longest free found.0 (is_h.within found.0 found.1)).0 found.2)
      ]
      | inl closed ↦ elim (closed_or_not ends apart.points (t ∷ ts)) [
        | inr free ↦
            let found = ahead_round ends s ss is_g.run closed t t_on_g in
            absurd ((is_h.longest free found.0 (is_g.within found.0 found.1)).0 found.2)
        | inl also ↦ elim (contains_cases t ts s s_on_h) [
          | inl here ↦ sym here
          | inr later_s ↦ elim (contains_cases s ss t t_on_g) [
            | inl here ↦ here
            | inr later_t ↦ absurd (asym t s (is_h.least also s later_s) (is_g.least closed t later_t))
          ]
        ]
      ]
    ])

starts_asym : {A : Type 0} (before : A → A → Type 0) → ((x y : A) → before x y → ¬ before y x) → (g h : List A) → StartsBefore before g h → ¬ StartsBefore before h g
starts_asym before asym [] h one two = one
starts_asym before asym (s ∷ ss) [] one two = one
starts_asym before asym (s ∷ ss) (t ∷ ts) one two = asym s t one two

pub comes_asym : {A P : Type 0} (ends : A → P × P) (before : A → A → Type 0) → ((x y : A) → before x y → ¬ before y x) → (g h : List A) → ComesFirst ends before g h → ¬ ComesFirst ends before h g
comes_asym ends before asym g h one two = starts_asym before asym g h (one.order (one.kinds, two.kinds)) (two.order (two.kinds, one.kinds))

-- each of the lines is a line
pub line_of : {A P : Type 0} (ends : A → P × P) (before : A → A → Type 0) (links : List A) (lines : List (List A)) → AreLines ends before links lines → (g : List A) → Contains lines g → IsLineOf ends before links g
line_of ends before links lines are g member = record {
  run = All-contains (IsLine ends) lines g are.runs member;
  within = λ s has. (are.all s).0 (in_flat (λ line. line) lines g s member has);
  once = once_parts (λ line. line) lines are.once g member;
  longest = All-contains (λ line. ¬ IsClosed ends line → IsLongest ends links line) lines g are.longest member;
  least = All-contains (λ line. IsClosed ends line → StartsLeast before line) lines g are.least member;
}

lines_within : {A P : Type 0} (ends : A → P × P) (before : A → A → Type 0) (links : List A) → Apart ends links → ((x y : A) → before x y → ¬ before y x) → (one two : List (List A)) → AreLines ends before links one → AreLines ends before links two → (g : List A) → Contains one g → Contains two g
lines_within ends before links apart asym one two are_one are_two [] member = absurd (line_of ends before links one are_one [] member).run
lines_within ends before links apart asym one two are_one are_two (s ∷ ss) member =
    let is_g = line_of ends before links one are_one (s ∷ ss) member in
    let found = of_flat (λ line. line) two s ((are_two.all s).1 (is_g.within s (contains_here s ss))) in
    subst (λ line. Contains two line) (sym (same_line ends before links (s ∷ ss) found.0 apart asym is_g (line_of ends before links two are_two found.0 found.1) s (contains_here s ss) found.2)) found.1

-- at most one list of lines
pub one_list : {A P : Type 0} (ends : A → P × P) (before : A → A → Type 0) (links : List A) → Apart ends links → ((x y : A) → before x y → ¬ before y x) → (one two : List (List A)) → AreLines ends before links one → AreLines ends before links two → one ≡ two
one_list ends before links apart asym one two are_one are_two = same_order (ComesFirst ends before) (comes_asym ends before asym) one two are_one.order are_two.order (lines_within ends before links apart asym one two are_one are_two) (lines_within ends before links apart asym two one are_two are_one)
