-- The lines of a level's segments, and the walk that finds them.
use Rattle.std.proofs.Common.{◌≡◌, ◌≢◌, ℕ, ℤ, zero, suc, ◌+◌, ◌<◌, ◌≤◌, ◌⊎◌, inl, inr, Bool, true, false, List, [], ◌∷◌, ◌++◌, Some, length, length-append, get_or, take, replicate, append_assoc, refl, sym, ap, ◌∙◌, subst, arith}
use Rattle.std.specs.Prelude.{AllPairs, Contains, slice_get}
use Rattle.std.proofs.lemmas.Bool.{cases_eq, cases_lt, false≢true}
use Rattle.std.proofs.lemmas.Grind.{common_steps}
use Rattle.std.proofs.lemmas.List.{length-replicate}
use Rattle.std.proofs.lemmas.List.Elements.{Contains-append_cases, Contains-append_left, Contains-append_right}
use Rattle.std.proofs.lemmas.Option.{gets, get_or_from_slice_get, slice_get_within}
use Rattle.cell_base.specs.Raster.{Raster}
use Rattle.cell_base.proofs.ListDeciders.{contains_cases, contains_here, contains_there}
use Rattle.cell_base.proofs.OrderLemmas.{before_not_itself, before_trans}
use Rattle.cell_base.proofs.PlaceLemmas.{element_at}
use Rattle.contour_segments.specs.Segments.{ComesBefore, segments_of}
use Rattle.contour_segments.specs.declared.segment.Cross.{Cross}
use Rattle.contour_segments.specs.declared.segment.Segment.{Segment}
use Rattle.contour_segments.proofs.CrossingLemmas.{cross_once, in_order}
use Rattle.contour_segments.proofs.MemberLemmas.{none_in, pairs_cons, pairs_head, pairs_join, pairs_nil, pairs_tail}
use Rattle.contour_chain.specs.Contours.{AreContours, AreSegments, HasOneListOfContours, ends_of}
use Rattle.contour_chain.specs.Lines.{IsClosed, StartsBefore}
use Rattle.contour_chain.specs.Inner.Links.{AreFollowers, AreMet, HeadIn, IsLineOf, StartsAt, cell_of}
use Rattle.contour_chain.specs.Inner.Walks.{AreTaken, BeginsLine, Closes, IsContour, IsLineFrom, IsWalking, Marks, Opens, Takes}
use Rattle.contour_chain.proofs.LineLemmas.{by_pairs, closed_or_not, same_line}
use Rattle.contour_chain.proofs.GatherLemmas.{AreOrdered, kinds_are_lines, one_list_of_lines}
use Rattle.contour_chain.proofs.WalkLemmas.{closed_first, comes_to_end, goes_on, open_first}
use Rattle.contour_chain.proofs.LinkLemmas.{index_of, member_at, pairs_at}

pub comes_asym : (s t : Segment) → ComesBefore s t → ¬ ComesBefore t s
comes_asym s t (inl one) (inl two) = before_not_itself (cell_of s) (before_trans (cell_of s) (cell_of t) (cell_of s) one two)
comes_asym s t (inl (inl one)) (inr two) = omega (arith, one, two.0)
comes_asym s t (inl (inr one)) (inr two) = omega (arith, one.1, two.1)
comes_asym s t (inr one) (inl (inl two)) = omega (arith, two, one.0)
comes_asym s t (inr one) (inl (inr two)) = omega (arith, two.1, one.1)
comes_asym s t (inr one) (inr two) = omega (arith, one.2, two.2)

same_down : (a b : Bool) → (a ≡ b) ⊎ (a ≢ b)
same_down true true = inl refl
same_down true false = inr (λ same. false≢true (sym same))
same_down false true = inr false≢true
same_down false false = inl refl

cross_is : (x y : Cross) → x.row ≡ y.row → x.col ≡ y.col → x.down ≡ y.down → x ≡ y
cross_is x y rows cols downs =
    let one : x ≡ record { row = y.row; col = x.col; down = x.down } = ap (λ (n : ℕ). record { row = n; col = x.col; down = x.down }) rows in
    let two : record { row = y.row; col = x.col; down = x.down } ≡ record { row = y.row; col = y.col; down = x.down } = ap (λ (n : ℕ). record { row = y.row; col = n; down = x.down }) cols in
    let three : record { row = y.row; col = y.col; down = x.down } ≡ y = ap (λ (b : Bool). record { row = y.row; col = y.col; down = b }) downs in
    one ∙ two ∙ three

pub same_cross : (x y : Cross) → (x ≡ y) ⊎ (x ≢ y)
same_cross x y = elim (cases_eq x.row y.row) [
  | inr other ↦ inr (λ same. other (ap (λ (z : Cross). z.row) same))
  | inl rows ↦ elim (cases_eq x.col y.col) [
    | inr other ↦ inr (λ same. other (ap (λ (z : Cross). z.col) same))
    | inl cols ↦ elim (same_down x.down y.down) [
      | inr other ↦ inr (λ same. other (ap (λ (z : Cross). z.down) same))
      | inl downs ↦ inl (cross_is x y rows cols downs)
    ]
  ]
]

-- the segments of a level make exactly one list of lines
pub one_list_of_contours : (cells : Raster ℤ) (valid : Raster Bool) (level : ℤ) → HasOneListOfContours cells valid level
one_list_of_contours cells valid level =
    let once = cross_once cells valid level in
    one_list_of_lines ends_of ComesBefore (segments_of cells valid level) same_cross comes_asym (record { starts = once.starts; stops = once.ends }) (in_order cells valid level)

pub ordered : (segments : List Segment) → AreSegments segments → AreOrdered ends_of ComesBefore segments
ordered segments are = subst (λ (xs : List Segment). AreOrdered ends_of ComesBefore xs) (sym are.is) (record {
  apart = record {
    starts = by_pairs (λ (s : Segment). s.from) (segments_of are.cells are.valid are.level) (cross_once are.cells are.valid are.level).starts;
    stops = by_pairs (λ (s : Segment). s.to) (segments_of are.cells are.valid are.level) (cross_once are.cells are.valid are.level).ends;
    points = same_cross;
  };
  order = in_order are.cells are.valid are.level;
  asym = comes_asym;
})

-- a segment stands at one index
pub one_index : (segments : List Segment) (i j : ℕ) (s : Segment) → AllPairs ComesBefore segments → slice_get segments i ≡ Some s → slice_get segments j ≡ Some s → i ≡ j
one_index segments i j s order at_i at_j = elim (cases_lt i j) [
  | inl less ↦
      let comes = pairs_at ComesBefore segments i j s s order less at_i at_j in
      absurd (comes_asym s s comes comes)
  | inr not_less ↦ elim (cases_lt j i) [
    | inl more ↦
        let comes = pairs_at ComesBefore segments j i s s order more at_j at_i in
        absurd (comes_asym s s comes comes)
    | inr not_more ↦ omega (arith, not_less, not_more)
  ]
]

same_some : {A : Type 0} (x y : A) → Some x ≡ Some y → x ≡ y
same_some x y same = cc

-- the first members of a list

of_take : {A : Type 0} (n : ℕ) (xs : List A) (x : A) → Contains (take n xs) x → (j : ℕ) × (j < n) × (slice_get xs j ≡ Some x)
of_take zero xs x has = absurd (none_in x has)
of_take (suc n) [] x has = absurd (none_in x has)
of_take (suc n) (y ∷ ys) x has = elim (contains_cases y (take n ys) x has) [
  | inl here ↦ (0, omega arith, ap Some here)
  | inr there ↦
      let found = of_take n ys x there in
      (suc found.0, omega (arith, found.1), found.2)
]

in_take : {A : Type 0} (n j : ℕ) (xs : List A) (x : A) → j < n → slice_get xs j ≡ Some x → Contains (take n xs) x
in_take n j [] x less at = absurd (omega (arith, slice_get_within [] j x at))
in_take zero j (y ∷ ys) x less at = absurd (omega (arith, less))
in_take (suc n) zero (y ∷ ys) x less at = (0, omega arith, same_some y x at)
in_take (suc n) (suc j) (y ∷ ys) x less at = contains_there y (take n ys) x (in_take n j ys x (omega (arith, less)) at)

-- a list without repeats of members of another isn't longer

without : {A : Type 0} (ys : List A) (x : A) → Contains ys x → (zs : List A) × (length ys ≡ suc (length zs)) × ((y : A) → Contains ys y → y ≢ x → Contains zs y)
without [] x has = absurd (none_in x has)
without (z ∷ zs) x has = elim (contains_cases z zs x has) [
  | inl here ↦ (zs, refl, λ y member other. elim (contains_cases z zs y member) [ inl first ↦ absurd (other (sym first ∙ here)) | inr later ↦ later ])
  | inr there ↦
      let rest = without zs x there in (
        z ∷ rest.0,
        ap suc rest.1,
        λ y member other. elim (contains_cases z zs y member) [
          | inl first ↦ subst (λ w. Contains (z ∷ rest.0) w) first (contains_here z rest.0)
          | inr later ↦ contains_there z rest.0 y (rest.2 y later other)
        ],
      )
]

not_longer : {A : Type 0} (xs ys : List A) → AllPairs (λ a b. a ≢ b) xs → ((x : A) → Contains xs x → Contains ys x) → length xs ≤ length ys
not_longer [] ys once within = omega arith
not_longer (x ∷ xs) ys once within =
    let rest = without ys x (within x (contains_here x xs)) in
    let few = not_longer xs rest.0 (pairs_tail (λ a b. a ≢ b) x xs once) (λ y member. rest.2 y (within y (contains_there x xs y member)) (λ same. pairs_head (λ a b. a ≢ b) x xs once y member (sym same))) in
    omega (arith, few, rest.1)

-- the walk

pub walk_starts : (segments : List Segment) (first : ℕ) → BeginsLine segments first → IsWalking segments first [] first
walk_starts segments first (within, ([], is)) = absurd is.0.run
walk_starts segments first (within, (s ∷ ss, is)) = record { next = s; rest = ss; stands = sym is.1; whole = is }

pub walk_short : (segments : List Segment) (first at : ℕ) (line : List Segment) → IsWalking segments first line at → length line < length segments
walk_short segments first at line walking =
    let all = not_longer (line ++ walking.next ∷ walking.rest) segments walking.whole.0.once walking.whole.0.within in
    omega (arith, all, length-append line (walking.next ∷ walking.rest))

next_of : (segments done : List Segment) (u : Segment) (rest : List Segment) → AreOrdered ends_of ComesBefore segments → IsContour segments (done ++ u ∷ rest) → (v : Segment) → Contains segments v → v.from ≡ u.to → ((more : List Segment) × (rest ≡ v ∷ more)) ⊎ ((rest ≡ []) × (slice_get (done ++ u ∷ rest) 0 ≡ Some v))
next_of segments [] u rest is line v has meets = elim (goes_on ends_of ComesBefore segments is u rest line [] u rest refl v has meets) [
  | inl more ↦ inl more
  | inr end ↦ inr (end.0, ap Some (sym end.1))
]
next_of segments (d ∷ ds) u rest is line v has meets = elim (goes_on ends_of ComesBefore segments is d (ds ++ u ∷ rest) line (d ∷ ds) u rest refl v has meets) [
  | inl more ↦ inl more
  | inr end ↦ inr (end.0, ap Some (sym end.1))
]

end_of_walk : (segments done : List Segment) (u : Segment) (rest : List Segment) → AreOrdered ends_of ComesBefore segments → IsContour segments (done ++ u ∷ rest) → ((v : Segment) → Contains segments v → v.from ≢ u.to) → rest ≡ []
end_of_walk segments [] u rest is line none = (comes_to_end ends_of ComesBefore segments is u rest line [] u rest refl none).0
end_of_walk segments (d ∷ ds) u rest is line none = (comes_to_end ends_of ComesBefore segments is d (ds ++ u ∷ rest) line (d ∷ ds) u rest refl none).0

not_again : (line : List Segment) (u v : Segment) (more : List Segment) → AllPairs (λ a b. a ≢ b) (line ++ u ∷ v ∷ more) → slice_get (line ++ u ∷ v ∷ more) 0 ≡ Some v → ⊥
not_again [] u v more once head = pairs_head (λ a b. a ≢ b) u (v ∷ more) once v (contains_here v more) (same_some u v head)
not_again (d ∷ ds) u v more once head = pairs_head (λ a b. a ≢ b) d (ds ++ u ∷ v ∷ more) once v (Contains-append_right ds (u ∷ v ∷ more) v (contains_there u (v ∷ more) v (contains_here v more))) (same_some d v head)

one_more : (line : List Segment) (u : Segment) (rest : List Segment) → line ++ u ∷ rest ≡ (line ++ u ∷ []) ++ rest
one_more line u rest = sym (append_assoc line (u ∷ []) rest)

pub walk_next : (segments : List Segment) (first at n : ℕ) (line : List Segment) → AreSegments segments → (walking : IsWalking segments first line at) → StartsAt segments walking.next.to n → n ≢ first → n < length segments → IsWalking segments first (line ++ walking.next ∷ []) n
walk_next segments first at n line are walking starts other within =
    let is = ordered segments are in
    let found = element_at segments n within in
    let v = found.0 in
    let u = walking.next in
    elim (next_of segments line u walking.rest is walking.whole.0 v (member_at segments n v found.1) (starts.found v found.1)) [
      | inl more ↦
          let whole : line ++ u ∷ walking.rest ≡ (line ++ u ∷ []) ++ v ∷ more.0 = ap (λ (xs : List Segment). line ++ u ∷ xs) more.1 ∙ one_more line u (v ∷ more.0) in
          record { next = v; rest = more.0; stands = found.1; whole = subst (λ (xs : List Segment). IsLineFrom segments first xs) whole walking.whole }
      | inr end ↦ absurd (other (one_index segments n first v is.order found.1 (sym walking.whole.1 ∙ end.1)))
    ]

pub walk_round : (segments : List Segment) (first at n : ℕ) (line : List Segment) → AreSegments segments → (walking : IsWalking segments first line at) → StartsAt segments walking.next.to n → n ≡ first → n < length segments → IsLineFrom segments first (line ++ walking.next ∷ [])
walk_round segments first at n line are walking starts same within =
    let is = ordered segments are in
    let found = element_at segments n within in
    let v = found.0 in
    let u = walking.next in
    let head : slice_get (line ++ u ∷ walking.rest) 0 ≡ Some v = walking.whole.1 ∙ ap (λ (k : ℕ). slice_get segments k) (sym same) ∙ found.1 in
    elim (next_of segments line u walking.rest is walking.whole.0 v (member_at segments n v found.1) (starts.found v found.1)) [
      | inl more ↦
          let once : AllPairs (λ a b. a ≢ b) (line ++ u ∷ v ∷ more.0) = subst (λ (xs : List Segment). AllPairs (λ a b. a ≢ b) (line ++ u ∷ xs)) more.1 walking.whole.0.once in
          absurd (not_again line u v more.0 once (subst (λ (xs : List Segment). slice_get (line ++ u ∷ xs) 0 ≡ Some v) more.1 head))
      | inr end ↦ subst (λ (xs : List Segment). IsLineFrom segments first (line ++ u ∷ xs)) end.0 walking.whole
    ]

pub walk_end : (segments : List Segment) (first at n : ℕ) (line : List Segment) → AreSegments segments → (walking : IsWalking segments first line at) → StartsAt segments walking.next.to n → n ≡ length segments → IsLineFrom segments first (line ++ walking.next ∷ [])
walk_end segments first at n line are walking starts end = subst (λ (xs : List Segment). IsLineFrom segments first (line ++ walking.next ∷ xs)) (end_of_walk segments line walking.next walking.rest (ordered segments are) walking.whole.0 (starts.none end)) walking.whole

-- what is taken on the way

pub takes_none : (segments : List Segment) (taken : List Bool) → Takes segments [] taken taken
takes_none segments taken = record {
  sized = refl;
  each = λ k s at. (λ held. inl held, λ either. elim either [ inl held ↦ held | inr none ↦ absurd (none_in s none) ]);
}

pub takes_more : (segments line : List Segment) (u : Segment) (at : ℕ) (old now new : List Bool) → AllPairs ComesBefore segments → slice_get segments at ≡ Some u → length old ≡ length segments → Takes segments line old now → Marks at now new → Takes segments (line ++ u ∷ []) old new
takes_more segments line u at old now new order stands sized takes marks = record {
  sized = marks.sized ∙ takes.sized;
  each = λ k s at_k. (
    λ held. elim ((marks.each k).0 held) [
      | inl before ↦ elim ((takes.each k s at_k).0 before) [
        | inl first ↦ inl first
        | inr on_line ↦ inr (Contains-append_left line (u ∷ []) s on_line)
      ]
      | inr here ↦
          let same : s ≡ u = same_some s u (sym at_k ∙ ap (λ (j : ℕ). slice_get segments j) here.0 ∙ stands) in
          inr (subst (λ (x : Segment). Contains (line ++ u ∷ []) x) (sym same) (Contains-append_right line (u ∷ []) u (contains_here u [])))
    ],
    λ either. elim either [
      | inl first ↦ (marks.each k).1 (inl ((takes.each k s at_k).1 (inl first)))
      | inr member ↦ elim (Contains-append_cases line (u ∷ []) s member) [
        | inl on_line ↦ (marks.each k).1 (inl ((takes.each k s at_k).1 (inr on_line)))
        | inr last ↦ elim (contains_cases u [] s last) [
          | inl here ↦
              let index : k ≡ at = one_index segments k at s order at_k (stands ∙ ap Some here) in
              (marks.each k).1 (inr (index, omega (arith, takes.sized, sized, slice_get_within segments at u stands)))
          | inr none ↦ absurd (none_in s none)
        ]
      ]
    ],
  );
}

-- the lines that have been found, and the segments on them

pub taken_none : (segments : List Segment) → AreTaken segments [] (replicate (length segments) false)
taken_none segments = record {
  sized = length-replicate (length segments) false;
  each = λ k s at. (λ held. absurd (never (length segments) k held), λ found. absurd (none_in found.0 found.1));
}
  where
    never : (n k : ℕ) → slice_get (replicate n false) k ≡ Some true → ⊥
    never n k held = grind (arith, common_steps, gets, held)

pub taken_more : (segments line : List Segment) (lines : List (List Segment)) (old new : List Bool) → AreTaken segments lines old → Takes segments line old new → AreTaken segments (lines ++ line ∷ []) new
taken_more segments line lines old new are takes = record {
  sized = takes.sized ∙ are.sized;
  each = λ k s at. (
    λ held. elim ((takes.each k s at).0 held) [
      | inl before ↦
          let found = (are.each k s at).0 before in
          (found.0, Contains-append_left lines (line ∷ []) found.0 found.1, found.2)
      | inr on_line ↦ (line, Contains-append_right lines (line ∷ []) line (contains_here line []), on_line)
    ],
    λ found. elim (Contains-append_cases lines (line ∷ []) found.0 found.1) [
      | inl before ↦ (takes.each k s at).1 (inl ((are.each k s at).1 (found.0, before, found.2)))
      | inr last ↦ elim (contains_cases line [] found.0 last) [
        | inl here ↦ (takes.each k s at).1 (inr (subst (λ (g : List Segment). Contains g s) (sym here) found.2))
        | inr none ↦ absurd (none_in found.0 none)
      ]
    ],
  );
}

-- the segment that comes next, as it is read
pub read_next : (segments : List Segment) (first at : ℕ) (line : List Segment) (d : Segment) → (walking : IsWalking segments first line at) → get_or segments at d ≡ walking.next
read_next segments first at line d walking = get_or_from_slice_get segments at walking.next d walking.stands

-- where lines begin

head_wider : (segments : List Segment) (i : ℕ) (g : List Segment) → HeadIn (take i segments) g → HeadIn (take (i + 1) segments) g
head_wider segments i [] head = head
head_wider segments i (s ∷ ss) head =
    let found = of_take i segments s head in
    in_take (i + 1) found.0 segments s (omega (arith, found.1)) found.2

head_new : (segments : List Segment) (i : ℕ) (x : Segment) (g : List Segment) → slice_get segments i ≡ Some x → HeadIn (take (i + 1) segments) g → HeadIn (take i segments) g ⊎ ((ss : List Segment) × (g ≡ x ∷ ss))
head_new segments i x [] at head = absurd head
head_new segments i x (s ∷ ss) at head =
    let found = of_take (i + 1) segments s head in
    elim (cases_lt found.0 i) [
      | inl before ↦ inl (in_take i found.0 segments s before found.2)
      | inr not_before ↦
          let index : found.0 ≡ i = omega (arith, found.1, not_before) in
          let same : s ≡ x = same_some s x (sym found.2 ∙ ap (λ (k : ℕ). slice_get segments k) index ∙ at) in
          inr (ss, ap (λ (y : Segment). y ∷ ss) same)
    ]

head_any : (segments g : List Segment) → IsContour segments g → HeadIn (take (length segments) segments) g
head_any segments [] line = absurd line.run
head_any segments (s ∷ ss) line =
    let found = index_of segments s (line.within s (contains_here s ss)) in
    in_take (length segments) found.0 segments s (slice_get_within segments found.0 s found.1) found.1

comes_after : (segments : List Segment) (i : ℕ) (g : List Segment) (s : Segment) (ss : List Segment) → AllPairs ComesBefore segments → slice_get segments i ≡ Some s → HeadIn (take i segments) g → StartsBefore ComesBefore g (s ∷ ss)
comes_after segments i [] s ss order at head = head
comes_after segments i (a ∷ as_) s ss order at head =
    let found = of_take i segments a head in
    pairs_at ComesBefore segments found.0 i a s order found.1 found.2 at

-- two lines with a segment in common
one_line : (segments g h : List Segment) (s : Segment) → AreOrdered ends_of ComesBefore segments → IsContour segments g → IsContour segments h → Contains g s → Contains h s → g ≡ h
one_line segments g h s is line_g line_h on_g on_h = same_line ends_of ComesBefore segments g h is.apart is.asym line_g line_h s on_g on_h

-- one line more behind others, which begins after them
order_more : (segments : List Segment) (i : ℕ) (lines : List (List Segment)) (line : List Segment) (s : Segment) (ss : List Segment) → AllPairs ComesBefore segments → slice_get segments i ≡ Some s → line ≡ s ∷ ss → ((g : List Segment) → Contains lines g → HeadIn (take i segments) g) → AllPairs (StartsBefore ComesBefore) lines → AllPairs (StartsBefore ComesBefore) (lines ++ line ∷ [])
order_more segments i lines line s ss order at is heads old = pairs_join (StartsBefore ComesBefore) lines (line ∷ []) old (pairs_cons (StartsBefore ComesBefore) line [] (λ h none. absurd (none_in h none)) (pairs_nil (StartsBefore ComesBefore))) (λ g h has_g has_h. elim (contains_cases line [] h has_h) [
  | inl here ↦ subst (λ (x : List Segment). StartsBefore ComesBefore g x) (sym is ∙ here) (comes_after segments i g s ss order at (heads g has_g))
  | inr none ↦ absurd (none_in h none)
])

-- open lines

pub none_ends : (segments : List Segment) (next : List ℕ) (met : List Bool) (i : ℕ) (s : Segment) → AreSegments segments → length next ≡ length segments → AreFollowers segments next → AreMet next met → slice_get segments i ≡ Some s → (¬ (slice_get met i ≡ Some true)) → (t : Segment) → Contains segments t → t.to ≢ s.from
none_ends segments next met i s are all follow is at not_met t has meets =
    let ord = ordered segments are in
    let k = index_of segments t has in
    let n = element_at next k.0 (omega (arith, slice_get_within segments k.0 t k.1, all)) in
    let starts = follow.each k.0 n.0 t n.1 k.1 in
    elim (cases_lt n.0 (length segments)) [
      | inl within ↦
          let v = element_at segments n.0 within in
          let same : v.0 ≡ s = ord.apart.starts v.0 s (member_at segments n.0 v.0 v.1) (member_at segments i s at) (starts.found v.0 v.1 ∙ meets) in
          let index : n.0 ≡ i = one_index segments n.0 i s ord.order (v.1 ∙ ap Some same) at in
          elim (is.held i k.0 (n.1 ∙ ap Some index)) [
            | inl marked ↦ not_met marked
            | inr past ↦ omega (arith, past, all, slice_get_within segments i s at)
          ]
      | inr past ↦ starts.none (omega (arith, past, starts.within)) s (member_at segments i s at) (sym meets)
    ]

pub some_ends : (segments : List Segment) (next : List ℕ) (met : List Bool) (i : ℕ) (s : Segment) → length next ≡ length segments → AreFollowers segments next → AreMet next met → slice_get segments i ≡ Some s → slice_get met i ≡ Some true → (t : Segment) × Contains segments t × (t.to ≡ s.from)
some_ends segments next met i s all follow is at marked =
    let k = is.marked i marked in
    let t = element_at segments k.0 (omega (arith, slice_get_within next k.0 i k.1, all)) in
    let starts = follow.each k.0 i t.0 k.1 t.1 in
    (t.0, member_at segments k.0 t.0 t.1, sym (starts.found s at))

pub begins_open : (segments : List Segment) (i : ℕ) (s : Segment) → AreSegments segments → slice_get segments i ≡ Some s → ((t : Segment) → Contains segments t → t.to ≢ s.from) → BeginsLine segments i
begins_open segments i s are at none =
    let first = open_first ends_of ComesBefore segments (ordered segments are) s (member_at segments i s at) none in
    (slice_get_within segments i s at, (s ∷ first.0, (first.1, sym at)))

pub opens_none : (segments : List Segment) → Opens segments 0 []
opens_none segments = record {
  are = λ g has. absurd (none_in g has);
  every = λ g line free head. absurd (nowhere g head);
  order = pairs_nil (StartsBefore ComesBefore);
}
  where
    nowhere : (g : List Segment) → HeadIn (take 0 segments) g → ⊥
    nowhere [] head = head
    nowhere (s ∷ ss) head = omega (arith, (of_take 0 segments s head).1)

pub opens_skip : (segments : List Segment) (i : ℕ) (s : Segment) (lines : List (List Segment)) → slice_get segments i ≡ Some s → ((t : Segment) × Contains segments t × (t.to ≡ s.from)) → Opens segments i lines → Opens segments (i + 1) lines
opens_skip segments i s lines at some old = record {
  are = λ g has.
      let is = old.are g has in (is.0, is.1, head_wider segments i g is.2);
  every = λ g line free head. elim (head_new segments i s g at head) [
    | inl before ↦ old.every g line free before
    | inr here ↦ absurd (no_line here.0 (subst (λ (x : List Segment). IsContour segments x) here.1 line) (λ closed. free (subst (λ (x : List Segment). IsClosed ends_of x) (sym here.1) closed)))
  ];
  order = old.order;
}
  where
    no_line : (ss : List Segment) → IsContour segments (s ∷ ss) → (¬ IsClosed ends_of (s ∷ ss)) → ⊥
    no_line ss line free = (line.longest free some.0 some.1).0 some.2

pub opens_more : (segments : List Segment) (i : ℕ) (s : Segment) (line : List Segment) (lines : List (List Segment)) → AreSegments segments → slice_get segments i ≡ Some s → ((t : Segment) → Contains segments t → t.to ≢ s.from) → IsLineFrom segments i line → Opens segments i lines → Opens segments (i + 1) (lines ++ line ∷ [])
opens_more segments i s line lines segs at none from old =
    let ord = ordered segments segs in
    let first = open_first ends_of ComesBefore segments ord s (member_at segments i s at) none in
    let on_line : Contains line s = member_at line 0 s (from.1 ∙ at) in
    let is : line ≡ s ∷ first.0 = one_line segments line (s ∷ first.0) s ord from.0 first.1 on_line (contains_here s first.0) in
    let free : ¬ IsClosed ends_of line = λ closed. first.2 (subst (λ (x : List Segment). IsClosed ends_of x) is closed) in
    let head : HeadIn (take (i + 1) segments) line = subst (λ (x : List Segment). HeadIn (take (i + 1) segments) x) (sym is) (in_take (i + 1) i segments s (omega arith) at) in
    record {
      are = λ g has. elim (Contains-append_cases lines (line ∷ []) g has) [
        | inl before ↦
            let are = old.are g before in (are.0, are.1, head_wider segments i g are.2)
        | inr last ↦ elim (contains_cases line [] g last) [
          | inl here ↦ subst (λ (x : List Segment). IsContour segments x × (¬ IsClosed ends_of x) × HeadIn (take (i + 1) segments) x) here (from.0, free, head)
          | inr nothing ↦ absurd (none_in g nothing)
        ]
      ];
      every = λ g contour open_ head_g. elim (head_new segments i s g at head_g) [
        | inl before ↦ Contains-append_left lines (line ∷ []) g (old.every g contour open_ before)
        | inr here ↦
            let on_g : Contains g s = subst (λ (x : List Segment). Contains x s) (sym here.1) (contains_here s here.0) in
            let same : line ≡ g = one_line segments line g s ord from.0 contour on_line on_g in
            subst (λ (x : List Segment). Contains (lines ++ line ∷ []) x) same (Contains-append_right lines (line ∷ []) line (contains_here line []))
      ];
      order = order_more segments i lines line s first.0 ord.order at is (λ g has. (old.are g has).2) old.order;
    }

-- closed lines

pub closes_none : (segments : List Segment) → Closes segments 0 []
closes_none segments = record {
  are = λ g has. absurd (none_in g has);
  every = λ g line closed head. absurd (nowhere g head);
  order = pairs_nil (StartsBefore ComesBefore);
}
  where
    nowhere : (g : List Segment) → HeadIn (take 0 segments) g → ⊥
    nowhere [] head = head
    nowhere (s ∷ ss) head = omega (arith, (of_take 0 segments s head).1)

pub closes_skip : (segments : List Segment) (i : ℕ) (s : Segment) (frees rounds : List (List Segment)) (taken : List Bool) → AreSegments segments → slice_get segments i ≡ Some s → Opens segments (length segments) frees → AreTaken segments (frees ++ rounds) taken → slice_get taken i ≡ Some true → Closes segments i rounds → Closes segments (i + 1) rounds
closes_skip segments i s frees rounds taken segs at opens are marked old =
    let ord = ordered segments segs in
    let found = (are.each i s at).0 marked in
    record {
      are = λ g has.
          let is = old.are g has in (is.0, is.1, head_wider segments i g is.2);
      every = λ g line closed head. elim (head_new segments i s g at head) [
        | inl before ↦ old.every g line closed before
        | inr here ↦
            let on_g : Contains g s = subst (λ (x : List Segment). Contains x s) (sym here.1) (contains_here s here.0) in
            elim (Contains-append_cases frees rounds found.0 found.1) [
              | inl free ↦
                  let is = opens.are found.0 free in
                  let same : g ≡ found.0 = one_line segments g found.0 s ord line is.0 on_g found.2 in
                  absurd (is.1 (subst (λ (x : List Segment). IsClosed ends_of x) same closed))
              | inr round ↦
                  let is = old.are found.0 round in
                  let same : found.0 ≡ g = one_line segments found.0 g s ord is.0 line found.2 on_g in
                  subst (λ (x : List Segment). Contains rounds x) same round
            ]
      ];
      order = old.order;
    }

closed_from : (segments : List Segment) (i : ℕ) (s : Segment) (frees rounds : List (List Segment)) (taken : List Bool) → AreSegments segments → slice_get segments i ≡ Some s → Opens segments (length segments) frees → AreTaken segments (frees ++ rounds) taken → (¬ (slice_get taken i ≡ Some true)) → Closes segments i rounds → (ss : List Segment) × IsLineOf ends_of ComesBefore segments (s ∷ ss) × IsClosed ends_of (s ∷ ss)
closed_from segments i s frees rounds taken segs at opens are free old =
    let ord = ordered segments segs in
    closed_first ends_of ComesBefore segments ord (λ (g : List Segment). Contains (frees ++ rounds) g) s (member_at segments i s at)
    (λ g has on_g. free ((are.each i s at).1 (g, has, on_g)))
    (λ g line open_. Contains-append_left frees rounds g (opens.every g line open_ (head_any segments g line)))
    (λ t ts line before. elim (closed_or_not ends_of ord.apart.points (t ∷ ts)) [
      | inr open_ ↦ Contains-append_left frees rounds (t ∷ ts) (opens.every (t ∷ ts) line open_ (head_any segments (t ∷ ts) line))
      | inl closed ↦
          let j = index_of segments t (line.within t (contains_here t ts)) in
          Contains-append_right frees rounds (t ∷ ts) (old.every (t ∷ ts) line closed (in_take i j.0 segments t (earlier j.0 t j.1 before) j.1))
    ])
  where
    earlier : (j : ℕ) (t : Segment) → slice_get segments j ≡ Some t → ComesBefore t s → j < i
    earlier j t at_j before = elim (cases_lt j i) [
      | inl less ↦ less
      | inr not_less ↦ elim (cases_eq j i) [
        | inl same ↦
            let is : t ≡ s = same_some t s (sym at_j ∙ ap (λ (k : ℕ). slice_get segments k) same ∙ at) in
            absurd (comes_asym s s (subst (λ (x : Segment). ComesBefore x s) is before) (subst (λ (x : Segment). ComesBefore x s) is before))
        | inr other ↦ absurd (comes_asym t s before (pairs_at ComesBefore segments i j s t (ordered segments segs).order (omega (arith, not_less, other)) at at_j))
      ]
    ]

pub begins_closed : (segments : List Segment) (i : ℕ) (s : Segment) (frees rounds : List (List Segment)) (taken : List Bool) → AreSegments segments → slice_get segments i ≡ Some s → Opens segments (length segments) frees → AreTaken segments (frees ++ rounds) taken → (¬ (slice_get taken i ≡ Some true)) → Closes segments i rounds → BeginsLine segments i
begins_closed segments i s frees rounds taken segs at opens are free old =
    let first = closed_from segments i s frees rounds taken segs at opens are free old in
    (slice_get_within segments i s at, (s ∷ first.0, (first.1, sym at)))

pub closes_more : (segments : List Segment) (i : ℕ) (s : Segment) (frees rounds : List (List Segment)) (taken : List Bool) (line : List Segment) → AreSegments segments → slice_get segments i ≡ Some s → Opens segments (length segments) frees → AreTaken segments (frees ++ rounds) taken → (¬ (slice_get taken i ≡ Some true)) → IsLineFrom segments i line → Closes segments i rounds → Closes segments (i + 1) (rounds ++ line ∷ [])
closes_more segments i s frees rounds taken line segs at opens are free from old =
    let ord = ordered segments segs in
    let first = closed_from segments i s frees rounds taken segs at opens are free old in
    let on_line : Contains line s = member_at line 0 s (from.1 ∙ at) in
    let is : line ≡ s ∷ first.0 = one_line segments line (s ∷ first.0) s ord from.0 first.1 on_line (contains_here s first.0) in
    let round : IsClosed ends_of line = subst (λ (x : List Segment). IsClosed ends_of x) (sym is) first.2 in
    let head : HeadIn (take (i + 1) segments) line = subst (λ (x : List Segment). HeadIn (take (i + 1) segments) x) (sym is) (in_take (i + 1) i segments s (omega arith) at) in
    record {
      are = λ g has. elim (Contains-append_cases rounds (line ∷ []) g has) [
        | inl before ↦
            let known = old.are g before in (known.0, known.1, head_wider segments i g known.2)
        | inr last ↦ elim (contains_cases line [] g last) [
          | inl here ↦ subst (λ (x : List Segment). IsContour segments x × IsClosed ends_of x × HeadIn (take (i + 1) segments) x) here (from.0, round, head)
          | inr nothing ↦ absurd (none_in g nothing)
        ]
      ];
      every = λ g contour closed head_g. elim (head_new segments i s g at head_g) [
        | inl before ↦ Contains-append_left rounds (line ∷ []) g (old.every g contour closed before)
        | inr here ↦
            let on_g : Contains g s = subst (λ (x : List Segment). Contains x s) (sym here.1) (contains_here s here.0) in
            let same : line ≡ g = one_line segments line g s ord from.0 contour on_line on_g in
            subst (λ (x : List Segment). Contains (rounds ++ line ∷ []) x) same (Contains-append_right rounds (line ∷ []) line (contains_here line []))
      ];
      order = order_more segments i rounds line s first.0 ord.order at is (λ g has. (old.are g has).2) old.order;
    }

-- all open lines and then all closed ones are the contour lines
pub all_contours : (segments : List Segment) (frees rounds : List (List Segment)) → AreSegments segments → Opens segments (length segments) frees → Closes segments (length segments) rounds → AreContours segments (frees ++ rounds)
all_contours segments frees rounds segs opens closes =
    let ord = ordered segments segs in
    kinds_are_lines ends_of ComesBefore segments ord frees rounds (record {
      frees_are = λ g has. ((opens.are g has).0, (opens.are g has).1);
      rounds_are = λ g has. ((closes.are g has).0, (closes.are g has).1);
      every = λ g line. elim (closed_or_not ends_of ord.apart.points g) [
        | inr free ↦ inl (opens.every g line free (head_any segments g line))
        | inl closed ↦ inr (closes.every g line closed (head_any segments g line))
      ];
      frees_order = opens.order;
      rounds_order = closes.order;
    })
