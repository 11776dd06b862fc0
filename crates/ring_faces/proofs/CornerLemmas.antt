-- The corners of rings, gathered while their cycles are walked.
use Rattle.std.proofs.Common.{◌≡◌, ℕ, zero, suc, ◌+◌, ◌-◌, ◌<◌, ◌≤◌, inl, inr, Bool, true, false, List, [], ◌∷◌, ◌++◌, length, get_or, refl, sym, ap, ◌∙◌, arith}
use Rattle.std.specs.Prelude.{drop, map, not, slice_index, take}
use Rattle.std.proofs.lemmas.Bool.{cases_lt}
use Rattle.std.proofs.lemmas.List.{append-nil, append_assoc, drop-append-le, drop_all, get_or_append_left, get_or_at, length-append, length-drop, length-map, map-append, take-append-le, take_all}
use Rattle.std.proofs.lemmas.Option.{unwrap_or-slice_get}
use Rattle.edge_trace.specs.Edge.{Corner, Edge, is_level}
use Rattle.edge_trace.specs.EdgeTable.{EdgeTable}
use Rattle.ring_faces.specs.declared.cycles.Cycle.{Cycle}
use Rattle.ring_faces.specs.Inner.Cycles.{number_after, numbers_from}
use Rattle.ring_faces.specs.Inner.Lattice.{corner_of, corners_of}
use Rattle.ring_faces.specs.Inner.Turns.{AddsTurn, at_turn, turns_after}
use Rattle.ring_faces.specs.Inner.Tables.{edge_at, edges_from}
use Rattle.ring_faces.specs.Inner.Chains.{AreRings, between, cycle_at, ring_along, ring_in}
use Rattle.ring_faces.proofs.NumberLemmas.{numbers_push}

-- one edge more

-- whether the last edge is level
abbrev pub level_after : Bool → List Edge → Bool
level_after level [] = level
level_after level (e ∷ es) = level_after (is_level e) es

level_push : (level : Bool) (es : List Edge) (e : Edge) → level_after level (es ++ e ∷ []) ≡ is_level e
level_push level [] e = refl
level_push level (f ∷ es) e = level_push (is_level f) es e

turn_in_front : (level way : Bool) (p : Corner) (ps qs : List Corner) → at_turn level way p (ps ++ qs) ≡ at_turn level way p ps ++ qs
turn_in_front true true p ps qs = refl
turn_in_front true false p ps qs = refl
turn_in_front false true p ps qs = refl
turn_in_front false false p ps qs = refl

turns_push : (level : Bool) (es : List Edge) (e : Edge)
    → turns_after level (es ++ e ∷ []) ≡ turns_after level es ++ at_turn (level_after level es) (is_level e) e.0 []
turns_push level [] e = refl
turns_push level (f ∷ es) e = ap (at_turn level (is_level f) f.0) (turns_push (is_level f) es e)
    ∙ turn_in_front level (is_level f) f.0 (turns_after (is_level f) es) (at_turn (level_after (is_level f) es) (is_level e) e.0 [])

edges_push : (table : EdgeTable) (n i : ℕ) → edges_from table (suc n) i ≡ edges_from table n i ++ edge_at table (number_after table.next n i) ∷ []
edges_push table n i = ap (map (edge_at table)) (numbers_push table.next n i)
    ∙ map-append (edge_at table) (numbers_from table.next n i) (number_after table.next n i ∷ [])

-- the corners of a walk so far: those where its edges turn, after the ones that were there
pub record AreTurnsSoFar (table : EdgeTable) (old corners : List Corner) (level : Bool) (first count : ℕ) : Type 0 where
  pub corners_are : corners ≡ old ++ turns_after (not (is_level (edge_at table first))) (edges_from table count first)
  pub level_is : level ≡ level_after (not (is_level (edge_at table first))) (edges_from table count first)

pub turns_begin : (table : EdgeTable) (old : List Corner) (first : ℕ) → AreTurnsSoFar table old old (not (is_level (edge_at table first))) first 0
turns_begin table old first = record { corners_are = sym (append-nil old); level_is = refl }

pub turns_on : (table : EdgeTable) (old xs ys : List Corner) (level way : Bool) (first count at : ℕ) → AreTurnsSoFar table old xs level first count
    → number_after table.next count first ≡ at → AddsTurn (edge_at table at) level xs ys → way ≡ is_level (edge_at table at)
    → AreTurnsSoFar table old ys way first (count + 1)
turns_on table old xs ys level way first count at so_far leads adds way_is =
    let begin = not (is_level (edge_at table first)) in
    let es = edges_from table count first in
    let e = edge_at table at in
    let more : count + 1 ≡ suc count = omega arith in
    let pushed : edges_from table (count + 1) first ≡ es ++ e ∷ [] = ap (λ (n : ℕ). edges_from table n first) more ∙ edges_push table count first
    ∙ ap (λ (i : ℕ). es ++ edge_at table i ∷ []) leads in
    let turn = at_turn (level_after begin es) (is_level e) e.0 [] in
    let added : ys ≡ xs ++ turn = sym (append-nil ys) ∙ adds [] ∙ ap (λ (l : Bool). xs ++ at_turn l (is_level e) e.0 []) so_far.level_is in
    let all : ys ≡ old ++ turns_after begin (es ++ e ∷ []) = added ∙ ap (λ (cs : List Corner). cs ++ turn) so_far.corners_are
    ∙ append_assoc old (turns_after begin es) turn ∙ ap (λ (cs : List Corner). old ++ cs) (sym (turns_push begin es e)) in
    record {
      corners_are = all ∙ ap (λ (fs : List Edge). old ++ turns_after begin fs) (sym pushed);
      level_is = way_is ∙ sym (level_push begin es e) ∙ ap (level_after begin) (sym pushed);
    }

pub turns_done : (table : EdgeTable) (old corners : List Corner) (level : Bool) (first count : ℕ) → AreTurnsSoFar table old corners level first count
    → 0 < count → corners ≡ old ++ ring_along table (record { first = first; edges = count })
turns_done table old corners level first zero so_far some = absurd (omega arith)
turns_done table old corners level first (suc n) so_far some = so_far.corners_are

-- the rings so far, and one more

between_old : (xs ys : List Corner) (a b : ℕ) → a ≤ b → b ≤ length xs → between (xs ++ ys) a b ≡ between xs a b
between_old xs ys a b order within = ap (take (b - a)) (drop-append-le a xs ys (omega arith))
    ∙ take-append-le (b - a) (drop a xs) ys (omega (arith, length-drop a xs))

between_new : (xs ys : List Corner) (a b : ℕ) → a ≡ length xs → b ≡ length (xs ++ ys) → between (xs ++ ys) a b ≡ ys
between_new xs ys a b begin end = ap (take (b - a)) (drop-append-le a xs ys (omega arith) ∙ ap (λ (zs : List Corner). zs ++ ys)
    (drop_all a xs (omega arith))) ∙ take_all (b - a) ys (omega (arith, length-append xs ys))

corners_many : (width : ℕ) (numbers : List ℕ) → length (corners_of width numbers) ≡ length numbers
corners_many width numbers = length-map numbers (corner_of width)

pub rings_begin : (width : ℕ) (table : EdgeTable) (corners starts : List ℕ) → corners ≡ [] → starts ≡ 0 ∷ [] → AreRings width table [] corners starts
rings_begin width table corners starts none zeros = record {
  sized = ap length zeros;
  end = ap (λ (ns : List ℕ). slice_index ns 0) zeros ∙ sym (ap length none);
  in_rings = record {
    within = λ i less. omega (arith, ap (λ (ns : List ℕ). slice_index ns i) zeros, all_zero i);
    rising = λ i less. absurd (omega (arith, less, ap length zeros));
  };
  each = λ i less. absurd (omega (arith, less));
}
  where
    all_zero : (i : ℕ) → slice_index (0 ∷ []) i ≡ 0
    all_zero zero = refl
    all_zero (suc i) = refl

-- the starts after one more

start_before : (starts : List ℕ) (x i : ℕ) → i < length starts → slice_index (starts ++ x ∷ []) i ≡ slice_index starts i
start_before starts x i less = get_or_append_left starts (x ∷ []) 0 i less

start_last : (starts : List ℕ) (x i : ℕ) → length starts ≡ i → slice_index (starts ++ x ∷ []) i ≡ x
start_last starts x i is = get_or_at starts x [] 0 i is

cycle_got : (cycles : List Cycle) (i : ℕ) → cycle_at cycles i ≡ get_or cycles i (record { first = 0; edges = 0 })
cycle_got cycles i = unwrap_or-slice_get cycles i (record { first = 0; edges = 0 })

cycle_before : (cycles : List Cycle) (cycle : Cycle) (i : ℕ) → i < length cycles → cycle_at (cycles ++ cycle ∷ []) i ≡ cycle_at cycles i
cycle_before cycles cycle i less = cycle_got (cycles ++ cycle ∷ []) i ∙ get_or_append_left cycles (cycle ∷ []) (record { first = 0; edges = 0 }) i less
    ∙ sym (cycle_got cycles i)

cycle_last : (cycles : List Cycle) (cycle : Cycle) → cycle_at (cycles ++ cycle ∷ []) (length cycles) ≡ cycle
cycle_last cycles cycle = cycle_got (cycles ++ cycle ∷ []) (length cycles) ∙ get_or_at cycles cycle [] (record { first = 0; edges = 0 }) (length cycles) refl

pub rings_push : (width : ℕ) (table : EdgeTable) (cycles : List Cycle) (cycle : Cycle) (old new old_starts new_starts : List ℕ)
    → AreRings width table cycles old old_starts → corners_of width new ≡ corners_of width old ++ ring_along table cycle
    → new_starts ≡ old_starts ++ length new ∷ [] → AreRings width table (cycles ++ cycle ∷ []) new new_starts
rings_push width table cycles cycle old new old_starts new_starts are corners starts =
    let xs = corners_of width old in
    let ring = ring_along table cycle in
    let end = length new in
    let longer : end ≡ length (xs ++ ring) = sym (corners_many width new) ∙ ap length corners in
    let old_end : length xs ≡ length old = corners_many width old in
    let grown : length xs ≤ end = omega (arith, longer, length-append xs ring) in
    let many : length new_starts ≡ length old_starts + 1 = ap length starts ∙ length-append old_starts (end ∷ []) in
    let was : (i : ℕ) → i < length old_starts → slice_index new_starts i ≡ slice_index old_starts i = λ i less. ap
    (λ (ns : List ℕ). slice_index ns i) starts ∙ start_before old_starts end i less in
    let last : slice_index new_starts (length cycles + 1) ≡ end = ap (λ (ns : List ℕ). slice_index ns (length cycles + 1)) starts
    ∙ start_last old_starts end (length cycles + 1) are.sized in
    let begin : slice_index new_starts (length cycles) ≡ length xs = was (length cycles) (omega (arith, are.sized)) ∙ are.end ∙ sym old_end in
    let cycles_many : length (cycles ++ cycle ∷ []) ≡ length cycles + 1 = length-append cycles (cycle ∷ []) in
    record {
      sized = omega (arith, many, are.sized, cycles_many);
      end = ap (slice_index new_starts) cycles_many ∙ last;
      in_rings = record {
        within = λ i less. elim (cases_lt i (length old_starts)) [
          | inl before ↦ omega (arith, was i before, are.in_rings.within i before, old_end, grown)
          | inr past ↦
              let at : i ≡ length cycles + 1 = omega (arith, less, past, many, are.sized) in
              omega (arith, ap (slice_index new_starts) at ∙ last)
        ];
        rising = λ i less. elim (cases_lt (i + 1) (length old_starts)) [
          | inl inner ↦ omega (arith, was i (omega arith), was (i + 1) inner, are.in_rings.rising i inner)
          | inr past ↦
              let at : i ≡ length cycles = omega (arith, less, past, many, are.sized) in
              omega (arith, ap (slice_index new_starts) at ∙ begin, ap (λ (n : ℕ). slice_index new_starts (n + 1)) at ∙ last, grown)
        ];
      };
      each = λ i less. elim (cases_lt i (length cycles)) [
        | inl before ↦
            let from = was i (omega (arith, before, are.sized)) in
            let to = was (i + 1) (omega (arith, before, are.sized)) in
            let old_to : slice_index old_starts (i + 1) ≤ length xs = omega
            (arith, are.in_rings.within (i + 1) (omega (arith, before, are.sized)), old_end) in
            ap (λ (ps : List Corner). between ps (slice_index new_starts i) (slice_index new_starts (i + 1))) corners
            ∙ ap (λ (n : ℕ). between (xs ++ ring) n (slice_index new_starts (i + 1))) from
            ∙ ap (λ (n : ℕ). between (xs ++ ring) (slice_index old_starts i) n) to
            ∙ between_old xs ring (slice_index old_starts i) (slice_index old_starts (i + 1))
            (are.in_rings.rising i (omega (arith, before, are.sized))) old_to
            ∙ are.each i before ∙ ap (ring_along table) (sym (cycle_before cycles cycle i before))
        | inr past ↦
            let at : i ≡ length cycles = omega (arith, less, past, cycles_many) in
            let new_ring : ring_in width new new_starts (length cycles) ≡ ring = ap (λ (ps : List Corner). between ps (slice_index new_starts (length cycles))
            (slice_index new_starts (length cycles + 1))) corners
            ∙ between_new xs ring _ _ begin (last ∙ longer) in
            ap (ring_in width new new_starts) at ∙ new_ring ∙ ap (ring_along table) (sym (cycle_last cycles cycle) ∙ ap (cycle_at (cycles ++ cycle ∷ [])) (sym at))
      ];
    }

-- the corners of a kept ring, as they are lent

drop_map : {A B : Type 0} (f : A → B) (n : ℕ) (xs : List A) → drop n (map f xs) ≡ map f (drop n xs)
drop_map f zero xs = refl
drop_map f (suc n) [] = refl
drop_map f (suc n) (x ∷ xs) = drop_map f n xs

take_map : {A B : Type 0} (f : A → B) (n : ℕ) (xs : List A) → take n (map f xs) ≡ map f (take n xs)
take_map f zero xs = refl
take_map f (suc n) [] = refl
take_map f (suc n) (x ∷ xs) = ap (λ ys. f x ∷ ys) (take_map f n xs)

pub lent_corners : (width : ℕ) (numbers : List ℕ) (from to : ℕ)
    → corners_of width (take (to - from) (drop from numbers)) ≡ between (corners_of width numbers) from to
lent_corners width numbers from to = sym (ap (take (to - from)) (drop_map (corner_of width) from numbers)
    ∙ take_map (corner_of width) (to - from) (drop from numbers))
