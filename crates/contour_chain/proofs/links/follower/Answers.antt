use Rattle.std.proofs.Common.{◌≡◌, ◌<◌, ◌+◌, ℕ, List, Some, false, length, get_or, set, sym, ap, ◌∙◌, subst, arith}
use Rattle.std.specs.Prelude.{Contains, slice_get}
use Rattle.std.proofs.lemmas.Option.{slice_get-get_or}
use Rattle.contour_segments.specs.declared.segment.Segment.{Segment}
use Rattle.contour_segments.specs.declared.side.Side.{Side}
use Rattle.contour_chain.specs.Inner.Links.{ArePassed, StartsAt, number_of}
use Rattle.contour_chain.proofs.LinkLemmas.{first_beyond, linked, member_at, none_beyond, passed_set}
use Rattle.contour_chain.proofs.links.follower.Goals as goal

-- what an index past the end would give
abbrev none : Segment
none = record { row = 0; col = 0; turn = 0; from = record { row = 0; col = 0; down = false }; to = record { row = 0; col = 0; down = false } }

-- the segment at an index, read twice
same_read : (segments : List Segment) (i : ℕ) (s : Segment) → i < length segments → slice_get segments i ≡ Some s → get_or segments i none ≡ s
same_read segments i s within at =
    let both : Some (get_or segments i none) ≡ Some s = sym (slice_get-get_or segments i none within) ∙ at in
    cc

read : (segments : List Segment) (i : ℕ) → i < length segments → Contains segments (get_or segments i none)
read segments i within = member_at segments i (get_or segments i none) (slice_get-get_or segments i none within)

pub exit_of-side-requires : goal.exit_of-side-requires
exit_of-side-requires c = (linked c.args.segments.now c.requires.segments).goes (get_or c.args.segments.now c.args.i none) (read c.args.segments.now c.args.i c.requires.i)

passed_at : (passed : List ℕ) (side : Side) (k : ℕ) → length passed ≡ 4 → k ≡ number_of side → k < 4 → slice_get passed (number_of side) ≡ Some (get_or passed k 0)
passed_at passed side k four is few = ap (λ (n : ℕ). slice_get passed n) (sym is) ∙ slice_get-get_or passed k 0 (omega (arith, four, few))

pub first_from-at-requires-clause-within : goal.first_from-at-requires-clause-within
first_from-at-requires-clause-within c = (c.requires.passed c.exit_of-side.result (get_or c.args.passed.now c.number-k.result 0) (passed_at c.args.passed.now c.exit_of-side.result c.number-k.result c.told-passed c.number-k.ensures.value c.number-k.ensures.small)).0

pub first_from-at-requires-clause-before : goal.first_from-at-requires-clause-before
first_from-at-requires-clause-before c =
    let segments = c.args.segments.now in
    let passed = c.requires.passed c.exit_of-side.result (get_or c.args.passed.now c.number-k.result 0) (passed_at c.args.passed.now c.exit_of-side.result c.number-k.result c.told-passed c.number-k.ensures.value c.number-k.ensures.small) in
    passed.1 c.args.i (get_or segments c.args.i none) c.in-Some.place (omega arith) (slice_get-get_or segments c.args.i none c.requires.i) c.in-Some.ensures

pub starting_at-requires-clause-first : goal.starting_at-requires-clause-first
starting_at-requires-clause-first c = first_beyond c.args.segments.now (get_or c.args.segments.now c.args.i none) c.exit_of-side.result c.in-Some.place c.first_from-at.result (linked c.args.segments.now c.requires.segments) (read c.args.segments.now c.args.i c.requires.i) c.exit_of-side.ensures c.in-Some.ensures c.first_from-at.ensures

pub returns-in-None-clause-starts : goal.returns-in-None-clause-starts
returns-in-None-clause-starts c = λ s at.
    let segments = c.args.segments.now in
    let starts = none_beyond segments (get_or segments c.args.i none) c.exit_of-side.result (linked segments c.requires.segments) (read segments c.args.i c.requires.i) c.exit_of-side.ensures c.in-None.ensures in
    subst (λ (x : Segment). StartsAt segments x.to (length segments)) (same_read segments c.args.i s c.requires.i at) starts

pub returns-in-Some-clause-starts : goal.returns-in-Some-clause-starts
returns-in-Some-clause-starts c = λ s at. subst (λ (x : Segment). StartsAt c.args.segments.now x.to c.starting_at.result) (same_read c.args.segments.now c.args.i s c.requires.i at) c.starting_at.ensures

pub returns-in-Some-clause-passed : goal.returns-in-Some-clause-passed
returns-in-Some-clause-passed c =
    let segments = c.args.segments.now in
    let set_passed : ArePassed segments (c.args.i + 1) (set c.args.passed.now (number_of c.exit_of-side.result) c.first_from-at.result) = passed_set segments (get_or segments c.args.i none) c.exit_of-side.result c.in-Some.place c.args.i c.first_from-at.result c.args.passed.now (linked segments c.requires.segments) c.told-passed (slice_get-get_or segments c.args.i none c.requires.i) c.in-Some.ensures c.first_from-at.ensures c.requires.passed in
    subst (λ (k : ℕ). ArePassed segments (c.args.i + 1) (set c.args.passed.now k c.first_from-at.result)) (sym c.number-k.ensures.value) set_passed
