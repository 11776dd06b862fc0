use Rattle.std.proofs.Common.{◌≡◌, ◌<◌, ◌++◌, ◌∷◌, [], ℕ, List, Bool, false, length, length-append, get_or, sym, ap, ◌∙◌, subst, arith}
use Rattle.std.proofs.lemmas.Option.{slice_get-get_or}
use Rattle.contour_segments.specs.declared.segment.Segment.{Segment}
use Rattle.contour_chain.specs.Contours.{AreSegments}
use Rattle.contour_chain.specs.Inner.Links.{AreFollowers, StartsAt}
use Rattle.contour_chain.specs.Inner.Walks.{IsLineFrom, IsWalking, Marks, Takes}
use Rattle.contour_chain.proofs.ChainLemmas.{ordered, read_next, takes_more, takes_none, walk_end, walk_next, walk_round, walk_short, walk_starts}
use Rattle.contour_chain.proofs.walk.line_from.Goals as goal

abbrev none : Segment
none = record { row = 0; col = 0; turn = 0; from = record { row = 0; col = 0; down = false }; to = record { row = 0; col = 0; down = false } }

-- what a turn of the loop knows: the line that it had, and its segment's follower
record Turn (segments : List Segment) (next : List ℕ) (first at : ℕ) (line new : List Segment) : Type 0 where
  are : AreSegments segments
  walking : IsWalking segments first line at
  pushed : new ≡ line ++ walking.next ∷ []
  starts : StartsAt segments walking.next.to (get_or next at 0)

turn : (segments : List Segment) (next : List ℕ) (first at : ℕ) (line new : List Segment) → AreSegments segments → length next ≡ length segments → AreFollowers segments next → at < length segments → IsWalking segments first line at → new ≡ line ++ get_or segments at none ∷ [] → Turn segments next first at line new
turn segments next first at line new are all follow within walking pushed = record {
  are = are;
  walking = walking;
  pushed = pushed ∙ ap (λ (s : Segment). line ++ s ∷ []) (read_next segments first at line none walking);
  starts = follow.each at (get_or next at 0) walking.next (slice_get-get_or next at 0 (omega (arith, all, within))) walking.stands;
}

taken : (segments : List Segment) (next : List ℕ) (first at : ℕ) (line new : List Segment) → Turn segments next first at line new → (old now after : List Bool) → length old ≡ length segments → Takes segments line old now → Marks at now after → Takes segments new old after
taken segments next first at line new is old now after sized takes marks = subst (λ (xs : List Segment). Takes segments xs old after) (sym is.pushed) (takes_more segments line is.walking.next at old now after (ordered segments is.are).order is.walking.stands sized takes marks)

pub walk-init : goal.walk-init
walk-init c =
    let nothing : c.new-line.result ≡ [] = c.new-line.ensures in
    record {
      within = c.requires.line.0;
      sized = c.requires.sized;
      walking = subst (λ (xs : List Segment). IsWalking c.args.segments.now c.args.first xs c.args.first) (sym nothing) (walk_starts c.args.segments.now c.args.first c.requires.line);
      takes = subst (λ (xs : List Segment). Takes c.args.segments.now xs c.args.taken.now c.args.taken.now) (sym nothing) (takes_none c.args.segments.now c.args.taken.now);
    }

pub returns-then-at-first-clause-line : goal.returns-then-at-first-clause-line
returns-then-at-first-clause-line c =
    let segments = c.args.segments.now in
    let is = turn segments c.args.next.now c.args.first c.walk.at c.walk.line c.push.new.self c.requires.segments c.requires.all c.requires.follow c.walk.invariant.within c.walk.invariant.walking c.in_ok-push.ensures.ok in
    subst (λ (xs : List Segment). IsLineFrom segments c.args.first xs) (sym is.pushed) (walk_round segments c.args.first c.walk.at (get_or c.args.next.now c.walk.at 0) c.walk.line is.are is.walking is.starts c.if-at-first.true (omega (arith, c.if-at-first.true, c.requires.line.0)))

pub returns-then-at-first-clause-taken : goal.returns-then-at-first-clause-taken
returns-then-at-first-clause-taken c =
    let segments = c.args.segments.now in
    let is = turn segments c.args.next.now c.args.first c.walk.at c.walk.line c.push.new.self c.requires.segments c.requires.all c.requires.follow c.walk.invariant.within c.walk.invariant.walking c.in_ok-push.ensures.ok in
    taken segments c.args.next.now c.args.first c.walk.at c.walk.line c.push.new.self is c.args.taken.now c.walk.taken c.mark.new.marks c.requires.sized c.walk.invariant.takes c.mark.ensures

pub returns-then-at-segments-clause-line : goal.returns-then-at-segments-clause-line
returns-then-at-segments-clause-line c =
    let segments = c.args.segments.now in
    let is = turn segments c.args.next.now c.args.first c.walk.at c.walk.line c.push.new.self c.requires.segments c.requires.all c.requires.follow c.walk.invariant.within c.walk.invariant.walking c.in_ok-push.ensures.ok in
    subst (λ (xs : List Segment). IsLineFrom segments c.args.first xs) (sym is.pushed) (walk_end segments c.args.first c.walk.at (get_or c.args.next.now c.walk.at 0) c.walk.line is.are is.walking is.starts (omega (arith, c.if-at-segments.true)))

pub returns-then-at-segments-clause-taken : goal.returns-then-at-segments-clause-taken
returns-then-at-segments-clause-taken c =
    let segments = c.args.segments.now in
    let is = turn segments c.args.next.now c.args.first c.walk.at c.walk.line c.push.new.self c.requires.segments c.requires.all c.requires.follow c.walk.invariant.within c.walk.invariant.walking c.in_ok-push.ensures.ok in
    taken segments c.args.next.now c.args.first c.walk.at c.walk.line c.push.new.self is c.args.taken.now c.walk.taken c.mark.new.marks c.requires.sized c.walk.invariant.takes c.mark.ensures

pub walk-smaller : goal.walk-smaller
walk-smaller c =
    let segments = c.args.segments.now in
    let short = walk_short segments c.args.first c.walk.at c.walk.line c.walk.invariant.walking in
    let is = turn segments c.args.next.now c.args.first c.walk.at c.walk.line c.push.new.self c.requires.segments c.requires.all c.requires.follow c.walk.invariant.within c.walk.invariant.walking c.in_ok-push.ensures.ok in
    omega (arith, short, ap length is.pushed, length-append c.walk.line (is.walking.next ∷ []))

pub walk-preserved : goal.walk-preserved
walk-preserved c =
    let segments = c.args.segments.now in
    let is = turn segments c.args.next.now c.args.first c.walk.at c.walk.line c.push.new.self c.requires.segments c.requires.all c.requires.follow c.walk.invariant.within c.walk.invariant.walking c.in_ok-push.ensures.ok in
    let within : get_or c.args.next.now c.walk.at 0 < length segments = omega (arith, is.starts.within, c.if-at-segments.false) in
    record {
      within = within;
      sized = c.mark.ensures.sized ∙ c.walk.invariant.sized;
      walking = subst (λ (xs : List Segment). IsWalking segments c.args.first xs (get_or c.args.next.now c.walk.at 0)) (sym is.pushed) (walk_next segments c.args.first c.walk.at (get_or c.args.next.now c.walk.at 0) c.walk.line is.are is.walking is.starts c.if-at-first.false within);
      takes = taken segments c.args.next.now c.args.first c.walk.at c.walk.line c.push.new.self is c.args.taken.now c.walk.taken c.mark.new.marks c.requires.sized c.walk.invariant.takes c.mark.ensures;
    }
