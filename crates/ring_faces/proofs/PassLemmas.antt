-- Marks as the edges tell them that walks pass.
use Rattle.std.proofs.Common.{◌≡◌, ℕ, ◌+◌, ◌<◌, Bool, true, false, not, List, Some, length, get_or, refl, sym, ap, ◌∙◌, subst, set}
use Rattle.std.specs.Prelude.{slice_get}
use Rattle.std.proofs.lemmas.List.{set-get_or}
use Rattle.std.proofs.lemmas.Option.{get_or_from_slice_get, slice_get-get_or, slice_get_within}
use Rattle.edge_trace.specs.Edge.{Corner, Edge, is_level}
use Rattle.edge_trace.specs.EdgeTable.{EdgeTable, IsFollowedBy}
use Rattle.edge_trace.specs.Walk.{StandsIn, edge_between}
use Rattle.edge_trace.specs.declared.walk_edge.WalkEdge.{WalkEdge}
use Rattle.ring_faces.specs.Inner.Cycles.{AreLinks, AreMarks, IsFree, IsMarked, number_after}
use Rattle.ring_faces.specs.Inner.Lattice.{HasNumber, HaveNumbers}
use Rattle.ring_faces.specs.Inner.Tables.{edge_at}
use Rattle.ring_faces.specs.Inner.Turns.{AddsTurn}
use Rattle.ring_faces.proofs.CornerLemmas.{AreTurnsSoFar, turns_begin, turns_on}
use Rattle.ring_faces.proofs.NumberLemmas.{IsUnderWay, under_way_on}
use Rattle.ring_faces.proofs.TableLemmas.{at_edge}

pub told_free : (marks : List Bool) (i : ℕ) → slice_get marks i ≡ Some false → IsFree marks i
told_free marks i is = get_or_from_slice_get marks i false false is

pub told_marked : (marks : List Bool) (i : ℕ) → i < length marks → ¬ (slice_get marks i ≡ Some false) → IsMarked marks i
told_marked marks i within other = by_mark (get_or marks i false) refl
  where
    by_mark : (mark : Bool) → get_or marks i false ≡ mark → IsMarked marks i
    by_mark true is = is
    by_mark false is = absurd (other (slice_get-get_or marks i false within ∙ ap (λ (b : Bool). Some b) is))

-- what is marked stays as it is
pub marked_again : (marks : List Bool) (i : ℕ) → IsMarked marks i → set marks i true ≡ marks
marked_again marks i is = ap (set marks i) (sym is) ∙ set-get_or marks i false

-- one edge more was passed
pub passed_on : (table : EdgeTable) (old marks : List Bool) (first count at next : ℕ) → AreLinks table.next → AreMarks table.next old
    → IsUnderWay table.next old marks first count at → slice_get marks at ≡ Some false → IsFollowedBy table at next
    → IsUnderWay table.next old (set marks at true) first (count + 1) next
passed_on table old marks first count at next links closed way free follows =
    subst (λ (i : ℕ). IsUnderWay table.next old (set marks at true) first (count + 1) i) (get_or_from_slice_get table.next at next 0 follows)
    (under_way_on table.next old marks first count at links closed way (told_free marks at free))

-- the corners where the edges turn that were passed

pub turns_start : (table : EdgeTable) (old : List Corner) (edge : WalkEdge) (first : ℕ) (level : Bool) → edge.number ≡ first → StandsIn table edge
    → level ≡ is_level (edge_between edge) → AreTurnsSoFar table old old (not level) first 0
turns_start table old edge first level number stands is =
    let begins : edge_between edge ≡ edge_at table first = sym (at_edge table edge.number (edge_between edge) stands) ∙ ap (edge_at table) number in
    subst (λ (l : Bool). AreTurnsSoFar table old old (not l) first 0) (sym (is ∙ ap is_level begins)) (turns_begin table old first)

pub turns_passed : (table : EdgeTable) (old xs ys : List Corner) (level way : Bool) (first count : ℕ) (edge : WalkEdge)
    → AreTurnsSoFar table old xs level first count → number_after table.next count first ≡ edge.number → StandsIn table edge
    → AddsTurn (edge_between edge) level xs ys → way ≡ is_level (edge_between edge) → AreTurnsSoFar table old ys way first (count + 1)
turns_passed table old xs ys level way first count edge so_far leads stands adds is =
    let stood : edge_between edge ≡ edge_at table edge.number = sym (at_edge table edge.number (edge_between edge) stands) in
    turns_on table old xs ys level way first count edge.number so_far leads (subst (λ (e : Edge). AddsTurn e level xs ys) stood adds)
    (is ∙ ap is_level stood)

-- the corner where an edge begins that was passed has a number
pub number_passed : (table : EdgeTable) (width : ℕ) (edge : WalkEdge) → HaveNumbers width table → StandsIn table edge → HasNumber width (edge_between edge).0
number_passed table width edge have stands = subst (λ (e : Edge). HasNumber width e.0) (at_edge table edge.number (edge_between edge) stands)
    (have edge.number (slice_get_within table.edges edge.number (edge_between edge) stands))
