-- The ring that a cycle's turns make: its edges are the cycle, it lists its turns, and it starts at the least corner.
use Rattle.std.proofs.Common.{◌≡◌, ◌≢◌, ℕ, zero, suc, ◌+◌, ◌-◌, ◌<◌, inl, inr, Bool, true, false, not, List, [], ◌∷◌, ◌++◌, get_or, refl, sym, ap, ◌∙◌, subst, arith}
use Rattle.std.specs.Prelude.{All}
use Rattle.std.specs.List.{zip, flat_map}
use Rattle.std.specs.Int.{abs_diff}
use Rattle.std.proofs.lemmas.Bool.{eq-eqb, ne_eqb}
use Rattle.std.proofs.lemmas.Bool.Decides.{nat_tests}
use Rattle.std.proofs.lemmas.List.Elements.{All-cons, All-nil}
use Rattle.cell_base.specs.Steps.{AreNext}
use Rattle.edge_trace.specs.Edge.{Corner, Edge, IsUnitEdge, turned, is_level}
use Rattle.ring_faces.specs.Ring.{Ring, cut, edges_of, nearer}
use Rattle.ring_faces.specs.CanonicalPolygon.{IsTurn, ListsTurns}
use Rattle.ring_faces.specs.Inner.Turns.{at_turn, turns_after, turns_of}
use Rattle.ring_faces.proofs.RingLemmas.{Leads}
use Rattle.ring_faces.proofs.TurnLemmas.{HasWay, nearer_self, far_none, far_suc, Turning}
use Rattle.ring_faces.proofs.SpotLemmas.{edge_is}

-- no edge is followed by the turned one
abbrev pub GoesOn : List Edge → Type 0
GoesOn [] = Unit
GoesOn (e ∷ []) = Unit
GoesOn (e ∷ f ∷ fs) = (f ≢ turned e) × GoesOn (f ∷ fs)

-- numbers on a straight way

pub on_up : (a b c : ℕ) → b ≡ a + 1 → b ≢ c → nearer b c ≢ a → (nearer a c ≡ b) × (abs_diff a c ≡ suc (abs_diff b c))
on_up a b c next far on =
    let past : b < c = grind (arith, nat_tests) in
    (grind (arith, nat_tests), omega arith)

pub on_down : (a b c : ℕ) → a ≡ b + 1 → b ≢ c → nearer b c ≢ a → (nearer a c ≡ b) × (abs_diff a c ≡ suc (abs_diff b c))
on_down a b c next far on =
    let past : c < b = grind (arith, nat_tests) in
    (grind (arith, nat_tests), omega arith)

on_way : (a b c : ℕ) → AreNext a b → b ≢ c → nearer b c ≢ a → (nearer a c ≡ b) × (abs_diff a c ≡ suc (abs_diff b c))
on_way a b c (inl down) far on = on_down a b c down far on
on_way a b c (inr up) far on = on_up a b c up far on

next_near : (a b : ℕ) → AreNext a b → (nearer a b ≡ b) × (abs_diff a b ≡ 1)
next_near a b (inl down) = (grind (arith, nat_tests), omega arith)
next_near a b (inr up) = (grind (arith, nat_tests), omega arith)

nearer_pair : (a b c : Corner) → nearer a.0 c.0 ≡ b.0 → nearer a.1 c.1 ≡ b.1 → (nearer a.0 c.0, nearer a.1 c.1) ≡ b
nearer_pair a b c rows cols =
    let same : (nearer a.0 c.0, nearer a.1 c.1) ≡ (b.0, b.1) = cc in
    same

-- a side of one unit edge
unit_cut : (a b : Corner) → IsUnitEdge (a, b) → cut (a, b) ≡ (a, b) ∷ []
unit_cut a b (inl (row, next)) =
    let near = next_near a.1 b.1 next in
    let long : abs_diff a.0 b.0 + abs_diff a.1 b.1 ≡ suc zero = omega (arith, far_none a.0 b.0 row, near.1) in
    let step = nearer_pair a b b (nearer_self a.0 b.0 row ∙ row) near.0 in
    rw (long, step) refl
unit_cut a b (inr (col, next)) =
    let near = next_near a.0 b.0 next in
    let long : abs_diff a.0 b.0 + abs_diff a.1 b.1 ≡ suc zero = omega (arith, far_none a.1 b.1 col, near.1) in
    let step = nearer_pair a b b near.0 (nearer_self a.1 b.1 col ∙ col) in
    rw (long, step) refl

-- one more edge in front of a straight side

cut_more : (a b c : Corner) → abs_diff a.0 c.0 + abs_diff a.1 c.1 ≡ suc (abs_diff b.0 c.0 + abs_diff b.1 c.1) → (nearer a.0 c.0, nearer a.1 c.1) ≡ b
    → cut (a, c) ≡ (a, b) ∷ cut (b, c)
cut_more a b c long step = rw (long, step) refl

cut_first : (b c : Corner) (n : ℕ) (rest : List Edge) (d : Edge) → abs_diff b.0 c.0 + abs_diff b.1 c.1 ≡ suc n
    → get_or (cut (b, c) ++ rest) 0 d ≡ (b, (nearer b.0 c.0, nearer b.1 c.1))
cut_first b c n rest d long = rw long refl

-- straight on: the edge before belongs to the side
more_side : (way : Bool) (a b c : Corner) (rest fs : List Edge) (f : Edge) → IsUnitEdge (a, b) → HasWay way (a, b) → HasWay way (b, c)
    → cut (b, c) ++ rest ≡ f ∷ fs → f ≢ (b, a) → (cut (a, c) ≡ (a, b) ∷ cut (b, c)) × HasWay way (a, c)
more_side true a b c rest fs f (inr (col, next)) way_a way_b is on = absurd (way_a.1 col)
more_side true a b c rest fs f (inl (row, next)) way_a way_b is on =
    let row_c : b.0 ≡ c.0 = way_b.0 in
    let far : abs_diff b.0 c.0 + abs_diff b.1 c.1 ≡ suc (abs_diff b.1 c.1 - 1) = omega (arith, far_none b.0 c.0 row_c, far_suc b.1 c.1 way_b.1) in
    let first : f ≡ (b, (nearer b.0 c.0, nearer b.1 c.1)) = sym (sym (cut_first b c (abs_diff b.1 c.1 - 1) rest f far)
    ∙ ap (λ (es : List Edge). get_or es 0 f) is) in
    let moves = on_way a.1 b.1 c.1 next way_b.1 (λ back. on (first
    ∙ ap (λ (p : Corner). (b, p)) (nearer_pair b a c (nearer_self b.0 c.0 row_c ∙ sym row) back))) in (
      cut_more a b c (omega (arith, far_none a.0 c.0 (row ∙ row_c), far_none b.0 c.0 row_c, moves.1))
          (nearer_pair a b c (nearer_self a.0 c.0 (row ∙ row_c) ∙ row) moves.0),
      (row ∙ row_c, away a.1 c.1 (abs_diff b.1 c.1) moves.1),
    )
  where
    away : (m n k : ℕ) → abs_diff m n ≡ suc k → m ≢ n
    away m n k long same = omega arith
more_side false a b c rest fs f (inl (row, next)) way_a way_b is on = absurd (way_a.1 row)
more_side false a b c rest fs f (inr (col, next)) way_a way_b is on =
    let col_c : b.1 ≡ c.1 = way_b.0 in
    let far : abs_diff b.0 c.0 + abs_diff b.1 c.1 ≡ suc (abs_diff b.0 c.0 - 1) = omega (arith, far_none b.1 c.1 col_c, far_suc b.0 c.0 way_b.1) in
    let first : f ≡ (b, (nearer b.0 c.0, nearer b.1 c.1)) = sym (sym (cut_first b c (abs_diff b.0 c.0 - 1) rest f far)
    ∙ ap (λ (es : List Edge). get_or es 0 f) is) in
    let moves = on_way a.0 b.0 c.0 next way_b.1 (λ back. on (first
    ∙ ap (λ (p : Corner). (b, p)) (nearer_pair b a c back (nearer_self b.1 c.1 col_c ∙ sym col)))) in (
      cut_more a b c (omega (arith, far_none a.1 c.1 (col ∙ col_c), far_none b.1 c.1 col_c, moves.1))
          (nearer_pair a b c moves.0 (nearer_self a.1 c.1 (col ∙ col_c) ∙ col)),
      (col ∙ col_c, away a.0 c.0 (abs_diff b.0 c.0) moves.1),
    )
  where
    away : (m n k : ℕ) → abs_diff m n ≡ suc k → m ≢ n
    away m n k long same = omega arith

-- the way of the last side
abbrev LastWay : Bool → List Edge → Type 0
LastWay way [] = Unit
LastWay way (s ∷ []) = HasWay way s
LastWay way (s ∷ t ∷ ts) = LastWay way (t ∷ ts)

unfoldable pub last_edge : Edge → List Edge → Edge
last_edge e [] = e
last_edge e (f ∷ fs) = last_edge f fs

abbrev sides_by : Corner → List Corner → Corner → List Edge
sides_by a corners b = zip (a ∷ corners) (corners ++ b ∷ [])

-- the corners list the turns of the edges, from one corner to another
record Lists (way last : Bool) (corners : List Corner) (a b : Corner) (es : List Edge) : Type 0 where
  edges : flat_map cut (sides_by a corners b) ≡ es
  turning : Turning way (sides_by a corners b)
  ends : LastWay last (sides_by a corners b)

same_way : (v w : Bool) (s : Edge) → HasWay v s → HasWay w s → v ≡ w
same_way true true s one two = refl
same_way true false s one two = absurd (two.1 one.0)
same_way false true s one two = absurd (one.1 two.0)
same_way false false s one two = refl

last_more : (last : Bool) (s : Edge) (a : Corner) (corners : List Corner) (b : Corner) → LastWay last (sides_by a corners b)
    → LastWay last (s ∷ sides_by a corners b)
last_more last s a [] b ends = ends
last_more last s a (c ∷ cs) b ends = ends

last_front : (last : Bool) (s t : Edge) (a : Corner) (corners : List Corner) (b : Corner) → LastWay last (s ∷ sides_by a corners b)
    → LastWay last (t ∷ sides_by a corners b)
last_front last s t a [] b ends = ends
last_front last s t a (c ∷ cs) b ends = ends

step_turn : (way last : Bool) (a b c : Corner) (corners : List Corner) (es : List Edge) → IsUnitEdge (a, b) → HasWay way (a, b)
    → Lists (not way) last corners b c es → Lists way last (b ∷ corners) a c ((a, b) ∷ es)
step_turn way last a b c corners es unit is rest = record {
  edges = ap (λ (fs : List Edge). fs ++ flat_map cut (sides_by b corners c)) (unit_cut a b unit) ∙ ap (λ (fs : List Edge). (a, b) ∷ fs) rest.edges;
  turning = (is, rest.turning);
  ends = last_more last (a, b) b corners c rest.ends;
}

step_on : (way last : Bool) (a b c : Corner) (corners : List Corner) (f : Edge) (fs : List Edge) → IsUnitEdge (a, b) → HasWay way (a, b) → f ≢ (b, a)
    → Lists way last corners b c (f ∷ fs) → Lists way last corners a c ((a, b) ∷ f ∷ fs)
step_on way last a b c [] f fs unit is on rest =
    let more = more_side way a b c [] fs f unit is rest.turning.0 rest.edges on in
    record {
      edges = ap (λ (es : List Edge). es ++ []) more.0 ∙ ap (λ (es : List Edge). (a, b) ∷ es) rest.edges;
      turning = (more.1, tt);
      ends = subst (λ (w : Bool). HasWay w (a, c)) (same_way way last (b, c) rest.turning.0 rest.ends) more.1;
    }
step_on way last a b c (p ∷ ps) f fs unit is on rest =
    let more = more_side way a b p (flat_map cut (sides_by p ps c)) fs f unit is rest.turning.0 rest.edges on in
    record {
      edges = ap (λ (es : List Edge). es ++ flat_map cut (sides_by p ps c)) more.0 ∙ ap (λ (es : List Edge). (a, b) ∷ es) rest.edges;
      turning = (more.1, rest.turning.1);
      ends = last_front last (b, p) (a, p) p ps c rest.ends;
    }

next_apart : (m n : ℕ) → AreNext m n → m ≢ n
next_apart m n (inl down) = omega arith
next_apart m n (inr up) = omega arith

unit_way : (e : Edge) → IsUnitEdge e → HasWay (is_level e) e
unit_way e (inl (row, next)) =
    let flag : is_level e ≡ true = eq-eqb e.0.0 e.1.0 row in
    rw flag (row, next_apart e.0.1 e.1.1 next)
unit_way e (inr (col, next)) =
    let flag : is_level e ≡ false = ne_eqb e.0.0 e.1.0 (next_apart e.0.0 e.1.0 next) in
    rw flag (col, next_apart e.0.0 e.1.0 next)

turn_step : (v w last : Bool) (a b c : Corner) (corners : List Corner) (f : Edge) (fs : List Edge) → IsUnitEdge (a, b) → HasWay v (a, b) → f ≢ (b, a)
    → Lists w last corners b c (f ∷ fs) → Lists v last (at_turn v w b corners) a c ((a, b) ∷ f ∷ fs)
turn_step true true last a b c corners f fs unit is on rest = step_on true last a b c corners f fs unit is on rest
turn_step false false last a b c corners f fs unit is on rest = step_on false last a b c corners f fs unit is on rest
turn_step true false last a b c corners f fs unit is on rest = step_turn true last a b c corners (f ∷ fs) unit is rest
turn_step false true last a b c corners f fs unit is on rest = step_turn false last a b c corners (f ∷ fs) unit is rest

-- the turns of a walk of unit edges that doesn't turn back list it
lists_turns : (a b : Corner) (e : Edge) (es : List Edge) → Leads a (e ∷ es) b → GoesOn (e ∷ es)
    → Lists (is_level e) (is_level (last_edge e es)) (turns_after (is_level e) es) a b (e ∷ es)
unfolding last_edge
lists_turns a b e [] leads on =
    let is : e ≡ (a, b) = edge_is e a b leads.0 leads.2 in
    let unit : IsUnitEdge (a, b) = subst (λ (f : Edge). IsUnitEdge f) is leads.1 in
    let way : HasWay (is_level e) (a, b) = subst (λ (f : Edge). HasWay (is_level e) f) is (unit_way e leads.1) in
    record { edges = ap (λ (es : List Edge). es ++ []) (unit_cut a b unit) ∙ ap (λ (f : Edge). f ∷ []) (sym is); turning = (way, tt); ends = way }
lists_turns a b e (f ∷ fs) leads on =
    let is : e ≡ (a, e.1) = edge_is e a e.1 leads.0 refl in
    let unit : IsUnitEdge (a, e.1) = subst (λ (g : Edge). IsUnitEdge g) is leads.1 in
    let way : HasWay (is_level e) (a, e.1) = subst (λ (g : Edge). HasWay (is_level e) g) is (unit_way e leads.1) in
    let back : f ≢ (e.1, a) = λ same. on.0 (same ∙ ap (λ (p : Corner). (e.1, p)) (sym leads.0)) in
    let rest = lists_turns e.1 b f fs leads.2 on.1 in
    let found = turn_step (is_level e) (is_level f) (is_level (last_edge f fs)) a e.1 b (turns_after (is_level f) fs) f fs unit way back rest in
    let at_start = subst (λ (p : Corner). Lists (is_level e) (is_level (last_edge f fs))
    (at_turn (is_level e) (is_level f) p (turns_after (is_level f) fs)) a b ((a, e.1) ∷ f ∷ fs)) (sym leads.2.0) found in
    subst (λ (g : Edge). Lists (is_level e) (is_level (last_edge f fs)) (at_turn (is_level e) (is_level f) f.0 (turns_after (is_level f) fs)) a b
    (g ∷ f ∷ fs)) (sym is) at_start

-- turning at each corner, round the end too

turn_is : (way : Bool) (s t : Edge) → HasWay way s → HasWay (not way) t → IsTurn (s, t)
turn_is true s t one two = inl (one, two)
turn_is false s t one two = inr (one, two)

turns_all : (way last : Bool) (first s : Edge) (ss : List Edge) → Turning way (s ∷ ss) → LastWay last (s ∷ ss) → HasWay (not last) first
    → All IsTurn (zip (s ∷ ss) (ss ++ first ∷ []))
turns_all way last first s [] turning ends is = All-cons IsTurn (s, first) [] (turn_is last s first ends is) (All-nil IsTurn)
turns_all way last first s (t ∷ ts) turning ends is = All-cons IsTurn (s, t) (zip (t ∷ ts) (ts ++ first ∷ []))
    (turn_is way s t turning.0 turning.1.0) (turns_all (not way) last first t ts turning.1 ends is)

ring_turns : (way last : Bool) (a : Corner) (corners : List Corner) → Turning way (sides_by a corners a) → LastWay last (sides_by a corners a)
    → way ≡ not last → ListsTurns (a ∷ corners)
ring_turns way last a [] turning ends other = turns_all way last (a, a) (a, a) [] turning ends (subst (λ (w : Bool). HasWay w (a, a)) other turning.0)
ring_turns way last a (c ∷ cs) turning ends other = turns_all way last (a, c) (a, c) (sides_by c cs a) turning ends
    (subst (λ (w : Bool). HasWay w (a, c)) other turning.0)

-- the ring of a closed list that begins at a turn
pub record Rings (a : Corner) (e : Edge) (es : List Edge) : Type 0 where
  pub first : turns_of (e ∷ es) ≡ a ∷ turns_after (is_level e) es
  pub edges : edges_of (turns_of (e ∷ es)) ≡ e ∷ es
  pub turns : ListsTurns (turns_of (e ∷ es))

turn_here : (way : Bool) (p : Corner) (ps : List Corner) → at_turn (not way) way p ps ≡ p ∷ ps
turn_here true p ps = refl
turn_here false p ps = refl

pub rings : (a : Corner) (e : Edge) (es : List Edge) → Leads a (e ∷ es) a → GoesOn (e ∷ es) → is_level e ≡ not (is_level (last_edge e es)) → Rings a e es
rings a e es leads on other =
    let found = lists_turns a a e es leads on in
    let corners = turns_after (is_level e) es in
    let first : turns_of (e ∷ es) ≡ a ∷ corners = turn_here (is_level e) e.0 corners ∙ ap (λ (p : Corner). p ∷ corners) leads.0 in
    record {
      first = first;
      edges = ap edges_of first ∙ found.edges;
      turns = subst (λ (r : Ring). ListsTurns r) (sym first) (ring_turns (is_level e) (is_level (last_edge e es)) a corners found.turning found.ends other);
    }
