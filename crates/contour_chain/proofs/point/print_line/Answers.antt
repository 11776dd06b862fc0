use Rattle.std.proofs.Common.{◌≡◌, ◌<◌, ◌≤◌, ◌+◌, ◌++◌, ◌∷◌, [], ℕ, ℤ, List, suc, false, length, get_or, drop, to_z, of_z, w64, sym, ap, ◌∙◌, subst, arith}
use Rattle.std.specs.Prelude.{Contains}
use Rattle.std.proofs.lemmas.Int.{ints}
use Rattle.std.proofs.lemmas.Grind.{common_steps}
use Rattle.std.proofs.lemmas.List.{append-nil}
use Rattle.cell_base.specs.Raster.{Raster}
use Rattle.geo_transform.specs.declared.frame.Frame.{Frame}
use Rattle.contour_segments.specs.declared.segment.Segment.{Segment}
use Rattle.wkt_text.specs.declared.geometry.Pt.{Pt}
use Rattle.contour_chain.specs.Points.{line_through, point_at, points_along}
use Rattle.contour_chain.specs.Inner.Crossings.{Straddles}
use Rattle.contour_chain.proofs.PathLemmas.{first_point, more_points, next_point, one_point, points_behind, some_points}
use Rattle.contour_chain.proofs.StraddleLemmas.{line_straddles, some_segment}
use Rattle.contour_chain.proofs.point.print_line.Goals as goal

abbrev none : Segment
none = record { row = 0; col = 0; turn = 0; from = record { row = 0; col = 0; down = false }; to = record { row = 0; col = 0; down = false } }

held : (line segments : List Segment) (i : ℕ) → segments ≡ line → i < length segments → Contains line (get_or segments i none)
held line segments i is within = subst (λ (xs : List Segment). Contains xs (get_or segments i none)) is (i, within, same_default segments i within)
  where
    same_default : (xs : List Segment) (i : ℕ) → i < length xs → get_or xs i (get_or xs i none) ≡ get_or xs i none
    same_default xs i within = grind (arith, common_steps, within)

long : (line segments : List Segment) (s : Segment) (ss : List Segment) → segments ≡ line → line ≡ s ∷ ss → 0 < length segments
long line segments s ss is first =
    let same : length segments ≡ suc (length ss) = ap length (is ∙ first) in
    omega (arith, same)

head_is : (segments : List Segment) (s : Segment) (ss : List Segment) → segments ≡ s ∷ ss → get_or segments 0 none ≡ s
head_is segments s ss is = ap (λ (xs : List Segment). get_or xs 0 none) is

pub point_at-last-requires-clause-straddles : goal.point_at-last-requires-clause-straddles
point_at-last-requires-clause-straddles c =
    let line = c.args.line.now in
    let segments = c.as_slice-segments.result.now in
    let level : c.args.level ≡ to_z w64 (of_z w64 c.units.result) = omega (arith, ints, c.units.ensures) in
    let first = some_segment c.args.cells.now c.args.level line c.requires.line in
    let has = held line segments 0 c.as_slice-segments.ensures (long line segments first.0 first.1 c.as_slice-segments.ensures first.2) in
    subst (λ (z : ℤ). Straddles c.args.cells.now z (get_or segments 0 none).from) level (line_straddles c.args.cells.now c.args.level line c.requires.line (get_or segments 0 none) has).0

pub loop-segment-init : goal.loop-segment-init
loop-segment-init c =
    let frame = c.args.frame.now in
    let cells = c.args.cells.now in
    let line = c.args.line.now in
    let segments = c.as_slice-segments.result.now in
    let level : to_z w64 (of_z w64 c.units.result) ≡ c.args.level = omega (arith, ints, c.units.ensures) in
    let first = some_segment cells c.args.level line c.requires.line in
    let start : get_or segments 0 none ≡ first.0 = head_is segments first.0 first.1 (c.as_slice-segments.ensures ∙ first.2) in
    let at : c.point_at-last.result ≡ point_at frame cells c.args.level first.0.from = c.point_at-last.ensures ∙ ap (λ (z : ℤ). point_at frame cells z (get_or segments 0 none).from) level ∙ ap (λ (s : Segment). point_at frame cells c.args.level s.from) start in
    let pushed : c.push.new.self ≡ c.point_at-last.result ∷ [] = c.in_ok-push.ensures.ok ∙ ap (λ (xs : List Pt). xs ++ c.point_at-last.result ∷ []) c.new-path.ensures in
    ap (λ (xs : List Pt). xs ++ points_behind frame cells c.args.level c.point_at-last.result segments) pushed ∙ ap (λ (xs : List Segment). (c.point_at-last.result ∷ []) ++ points_behind frame cells c.args.level c.point_at-last.result xs) c.as_slice-segments.ensures ∙ first_point frame cells c.args.level line first.0 first.1 c.point_at-last.result first.2 at

pub point_at-point-requires-clause-straddles : goal.point_at-point-requires-clause-straddles
point_at-point-requires-clause-straddles c =
    let line = c.args.line.now in
    let segments = c.as_slice-segments.result.now in
    let i = c.loop-segment.segment-index in
    let level : c.args.level ≡ to_z w64 (of_z w64 c.units-in-loop-segment.result) = omega (arith, ints, c.units-in-loop-segment.ensures) in
    let has = held line segments i c.as_slice-segments.ensures c.loop-segment-test.true in
    subst (λ (z : ℤ). Straddles c.args.cells.now z (get_or segments i none).to) level (line_straddles c.args.cells.now c.args.level line c.requires.line (get_or segments i none) has).1

rest_is : (segments : List Segment) (i : ℕ) → i < length segments → drop i segments ≡ get_or segments i none ∷ drop (i + 1) segments
rest_is segments i within = grind (arith, common_steps, within)

pub loop-segment-preserved : goal.loop-segment-preserved
loop-segment-preserved c =
    let frame = c.args.frame.now in
    let cells = c.args.cells.now in
    let segments = c.as_slice-segments.result.now in
    let i = c.loop-segment.segment-index in
    let s = get_or segments i none in
    let level : to_z w64 (of_z w64 c.units-in-loop-segment.result) ≡ c.args.level = omega (arith, ints, c.units-in-loop-segment.ensures) in
    let at : c.point_at-point.result ≡ point_at frame cells c.args.level s.to = c.point_at-point.ensures ∙ ap (λ (z : ℤ). point_at frame cells z s.to) level in
    let rest = rest_is segments i c.loop-segment-test.true in
    next_point frame cells c.args.level c.loop-segment.last c.point_at-point.result s (drop (i + 1) segments) c.loop-segment.path c.add.new.path at c.in_ok-add.ensures ∙ ap (λ (xs : List Segment). c.loop-segment.path ++ points_behind frame cells c.args.level c.loop-segment.last xs) (sym rest) ∙ c.loop-segment.invariant

-- when no segment is left, all points are there
whole : (frame : Frame) (cells : Raster ℤ) (level : ℤ) (last : Pt) (segments : List Segment) (i : ℕ) (path : List Pt) (line : List Segment) → length segments ≤ i → path ++ points_behind frame cells level last (drop i segments) ≡ points_along frame cells level line → path ≡ points_along frame cells level line
whole frame cells level last segments i path line past is =
    let none_left : drop i segments ≡ [] = grind (arith, common_steps, past) in
    sym (ap (λ (xs : List Segment). path ++ points_behind frame cells level last xs) none_left ∙ append-nil path) ∙ is

pub returns-then-len-eq1 : goal.returns-then-len-eq1
returns-then-len-eq1 c =
    let all = whole c.args.frame.now c.args.cells.now c.args.level c.loop-segment.last c.as_slice-segments.result.now c.loop-segment.segment-index c.loop-segment.path c.args.line.now (omega (arith, c.loop-segment-test.false)) c.loop-segment.invariant in
    one_point c.loop-segment.path (omega (arith, c.len.ensures, c.if-len-eq1.true)) ∙ ap line_through all

pub returns : goal.returns
returns c =
    let frame = c.args.frame.now in
    let cells = c.args.cells.now in
    let line = c.args.line.now in
    let all = whole frame cells c.args.level c.loop-segment.last c.as_slice-segments.result.now c.loop-segment.segment-index c.loop-segment.path line (omega (arith, c.loop-segment-test.false)) c.loop-segment.invariant in
    let first = some_segment cells c.args.level line c.requires.line in
    let some = some_points frame cells c.args.level line first.0 first.1 first.2 in
    more_points c.loop-segment.path some.0 some.1 (all ∙ some.2) (λ one. c.if-len-eq1.false (c.len.ensures ∙ one)) ∙ ap line_through all
