-- What the table of segments means: the high side on the Right, and a segment at each crossed side.
use Rattle.std.proofs.Common.{◌≡◌, ℕ, ℤ, ◌+◌, ◌-◌, ◌<◌, inl, inr, Bool, true, false, not, List, [], ◌∷◌, refl, sym, ap, ◌∙◌, subst, arith}
use Rattle.std.specs.Prelude.{◌&&◌, if◌then◌else◌, Contains, map}
use Rattle.std.specs.List.{list_all, list_any, range_with_len}
use Rattle.std.proofs.lemmas.Bool.{false≢true}
use Rattle.cell_base.specs.Raster.{Place, Raster}
use Rattle.std.proofs.lemmas.Bool.{and_from, and_parts}
use Rattle.cell_base.proofs.ListDeciders.{any_sound, contains_cases, contains_here, contains_there, each_by, implied, implies}
use Rattle.contour_segments.specs.declared.segment.Cross.{Cross}
use Rattle.contour_segments.specs.declared.segment.Segment.{Segment}
use Rattle.contour_segments.specs.Segments.{cross_on, has_corners, is_high, is_joined, places_of, segments_in, segments_of, segments_on, sides_of}
use Rattle.contour_segments.specs.declared.side.Side.{Side}
use Rattle.contour_segments.specs.declared.side.Side.TheVariants.{Top, Right, Bottom, Left}
use Rattle.contour_segments.specs.Crossings.{left_corner, right_corner, CrossesEach, IsHighLeft, IsHighRight, IsLatticeCell, KeepsHighRight}
use Rattle.contour_segments.proofs.MemberLemmas.{in_flat, in_map, in_range, none_in, of_flat}
use Rattle.contour_segments.proofs.CrossingLemmas.{if_in, joins, not_true_is}
use Rattle.contour_segments.proofs.SideLemmas.{in_left, in_right, is_right, other_side, sides_right}

right_is : (high : Place → Bool) (r c : ℕ) (s : Side) → high (right_corner (r, c) s) ≡ in_right s (high (r, c)) (high (r, c + 1)) (high (r + 1, c + 1)) (high (r + 1, c))
right_is high r c Top = refl
right_is high r c Right = refl
right_is high r c Bottom = refl
right_is high r c Left = refl

left_is : (high : Place → Bool) (r c : ℕ) (s : Side) → high (left_corner (r, c) s) ≡ in_left s (high (r, c)) (high (r, c + 1)) (high (r + 1, c + 1)) (high (r + 1, c))
left_is high r c Top = refl
left_is high r c Right = refl
left_is high r c Bottom = refl
left_is high r c Left = refl

right_told : (high : Place → Bool) (r c : ℕ) (s : Side) (b : Bool) → high (right_corner (r, c) s) ≡ b → in_right s (high (r, c)) (high (r, c + 1)) (high (r + 1, c + 1)) (high (r + 1, c)) ≡ b
right_told high r c s b is = sym (right_is high r c s) ∙ is

left_told : (high : Place → Bool) (r c : ℕ) (s : Side) (b : Bool) → high (left_corner (r, c) s) ≡ b → in_left s (high (r, c)) (high (r, c + 1)) (high (r + 1, c + 1)) (high (r + 1, c)) ≡ b
left_told high r c s b is = sym (left_is high r c s) ∙ is

cell_keeps : (cells : Raster ℤ) (valid : Raster Bool) (level : ℤ) (r c : ℕ) (s : Segment) → Contains (segments_in cells valid level (r, c)) s → KeepsHighRight cells level s
cell_keeps cells valid level r c s member =
    let high = is_high cells level in
    let nw = high (r, c) in
    let ne = high (r, c + 1) in
    let se = high (r + 1, c + 1) in
    let sw = high (r + 1, c) in
    let sides = sides_of nw ne se sw (is_joined cells level (r, c)) in
    let found = joins (r, c) 0 sides s (if_in (has_corners valid (r, c)) (segments_on (r, c) 0 sides) s member) in
    let a = found.pair.0 in
    let b = found.pair.1 in
    let told = each_by (is_right nw ne se sw) sides found.pair (sides_right nw ne se sw (is_joined cells level (r, c))) found.has in
    let parts = and_parts (in_right a nw ne se sw && not (in_left a nw ne se sw)) (in_left b nw ne se sw && not (in_right b nw ne se sw)) told in
    let one = and_parts (in_right a nw ne se sw) (not (in_left a nw ne se sw)) parts.0 in
    let two = and_parts (in_left b nw ne se sw) (not (in_right b nw ne se sw)) parts.1 in
    let comes : IsHighRight cells level (r, c) a = (right_is high r c a ∙ one.0, left_is high r c a ∙ not_true_is _ one.1) in
    let goes : IsHighLeft cells level (r, c) b = (left_is high r c b ∙ two.0, right_is high r c b ∙ not_true_is _ two.1) in
    record {
      comes_over = a;
      goes_over = b;
      from = found.from ∙ ap (λ (p : Place). cross_on p a) (sym found.at);
      to = found.to ∙ ap (λ (p : Place). cross_on p b) (sym found.at);
      comes = subst (λ (p : Place). IsHighRight cells level p a) (sym found.at) comes;
      goes = subst (λ (p : Place). IsHighLeft cells level p b) (sym found.at) goes;
    }

-- each segment of a level has the high side on its Right
pub keeps_right : (cells : Raster ℤ) (valid : Raster Bool) (level : ℤ) (s : Segment) → Contains (segments_of cells valid level) s → KeepsHighRight cells level s
keeps_right cells valid level s member =
    let found = of_flat (segments_in cells valid level) (places_of (cells.nrows - 1) (cells.ncols - 1)) s member in
    cell_keeps cells valid level found.0.0 found.0.1 s found.2

-- a side is one of these
abbrev is_side : Side → Side → Bool
is_side s t = not (other_side s t)

is_side_tells : (s t : Side) → is_side s t ≡ true → s ≡ t
is_side_tells Top Top is = refl
is_side_tells Right Right is = refl
is_side_tells Bottom Bottom is = refl
is_side_tells Left Left is = refl
is_side_tells Top Right is = absurd (false≢true is)
is_side_tells Top Bottom is = absurd (false≢true is)
is_side_tells Top Left is = absurd (false≢true is)
is_side_tells Right Top is = absurd (false≢true is)
is_side_tells Right Bottom is = absurd (false≢true is)
is_side_tells Right Left is = absurd (false≢true is)
is_side_tells Bottom Top is = absurd (false≢true is)
is_side_tells Bottom Right is = absurd (false≢true is)
is_side_tells Bottom Left is = absurd (false≢true is)
is_side_tells Left Top is = absurd (false≢true is)
is_side_tells Left Right is = absurd (false≢true is)
is_side_tells Left Bottom is = absurd (false≢true is)

abbrev all_sides : List Side
all_sides = Top ∷ Right ∷ Bottom ∷ Left ∷ []

in_all : (s : Side) → Contains all_sides s
in_all Top = (0, omega arith, refl)
in_all Right = (1, omega arith, refl)
in_all Bottom = (2, omega arith, refl)
in_all Left = (3, omega arith, refl)

-- where the corners of a side differ, one of these comes in or goes out over it
abbrev is_met : Bool → Bool → Bool → Bool → List (Side × Side) → Side → Bool
is_met nw ne se sw ps s = implies (in_right s nw ne se sw && not (in_left s nw ne se sw)) (list_any (λ p. is_side p.0 s) ps) && implies (in_left s nw ne se sw && not (in_right s nw ne se sw)) (list_any (λ p. is_side p.1 s) ps)

sides_met : (nw ne se sw joined : Bool) → list_all (is_met nw ne se sw (sides_of nw ne se sw joined)) all_sides ≡ true
sides_met false false false false joined = refl
sides_met false false false true joined = refl
sides_met false false true false joined = refl
sides_met false false true true joined = refl
sides_met false true false false joined = refl
sides_met false true false true true = refl
sides_met false true false true false = refl
sides_met false true true false joined = refl
sides_met false true true true joined = refl
sides_met true false false false joined = refl
sides_met true false false true joined = refl
sides_met true false true false true = refl
sides_met true false true false false = refl
sides_met true false true true joined = refl
sides_met true true false false joined = refl
sides_met true true false true joined = refl
sides_met true true true false joined = refl
sides_met true true true true joined = refl

-- a pair of sides has its segment
record On (place : Place) (turn : ℕ) (sides : List (Side × Side)) (pair : Side × Side) : Type 0 where
  segment : Segment
  has : Contains (segments_on place turn sides) segment
  from : segment.from ≡ cross_on place pair.0
  to : segment.to ≡ cross_on place pair.1

on_pair : (place : Place) (turn : ℕ) (sides : List (Side × Side)) (pair : Side × Side) → Contains sides pair → On place turn sides pair
on_pair place turn [] pair member = absurd (none_in pair member)
on_pair place turn (p ∷ ps) pair member = elim (contains_cases p ps pair member) [
  | inl here ↦ record {
    segment = record { row = place.0; col = place.1; turn = turn; from = cross_on place p.0; to = cross_on place p.1 };
    has = contains_here (record { row = place.0; col = place.1; turn = turn; from = cross_on place p.0; to = cross_on place p.1 }) (segments_on place (turn + 1) ps);
    from = ap (λ (q : Side × Side). cross_on place q.0) here;
    to = ap (λ (q : Side × Side). cross_on place q.1) here;
  }
  | inr there ↦
      let rest = on_pair place (turn + 1) ps pair there in
      record { segment = rest.segment; has = contains_there (record { row = place.0; col = place.1; turn = turn; from = cross_on place p.0; to = cross_on place p.1 }) (segments_on place (turn + 1) ps) rest.segment rest.has; from = rest.from; to = rest.to }
]

places_has : (nrows ncols : ℕ) (p : Place) → p.0 < nrows → p.1 < ncols → Contains (places_of nrows ncols) p
places_has nrows ncols (r, c) in_row in_col = in_flat (λ i. map (λ j. (i, j)) (range_with_len 0 ncols)) (range_with_len 0 nrows) r (r, c) (in_range 0 nrows r (omega arith) (omega arith)) (in_map (λ j. (r, j)) (range_with_len 0 ncols) c (in_range 0 ncols c (omega arith) (omega arith)))

if_has : (b : Bool) (xs : List Segment) (s : Segment) → b ≡ true → Contains xs s → Contains (if b then xs else []) s
if_has true xs s is member = member
if_has false xs s is member = absurd (false≢true is)

at_side : (x : Cross) (p : Place) (s t : Side) → x ≡ cross_on p s → s ≡ t → x ≡ cross_on p t
at_side x p s t is same = is ∙ ap (cross_on p) same

-- each crossed side of a lattice cell has its segment
pub crosses_each : (cells : Raster ℤ) (valid : Raster Bool) (level : ℤ) (place : Place) → IsLatticeCell cells valid place → (side : Side) → CrossesEach cells valid level place side
crosses_each cells valid level (r, c) is side =
    let high = is_high cells level in
    let nw = high (r, c) in
    let ne = high (r, c + 1) in
    let se = high (r + 1, c + 1) in
    let sw = high (r + 1, c) in
    let sides = sides_of nw ne se sw (is_joined cells level (r, c)) in
    let met = each_by (is_met nw ne se sw sides) all_sides side (sides_met nw ne se sw (is_joined cells level (r, c))) (in_all side) in
    let parts = and_parts (implies (in_right side nw ne se sw && not (in_left side nw ne se sw)) (list_any (λ p. is_side p.0 side) sides)) (implies (in_left side nw ne se sw && not (in_right side nw ne se sw)) (list_any (λ p. is_side p.1 side) sides)) met in
    let held : (s : Segment) → Contains (segments_on (r, c) 0 sides) s → Contains (segments_of cells valid level) s = λ s member. in_flat (segments_in cells valid level) (places_of (cells.nrows - 1) (cells.ncols - 1)) (r, c) s (places_has (cells.nrows - 1) (cells.ncols - 1) (r, c) (omega (arith, is.row)) (omega (arith, is.col))) (if_has (has_corners valid (r, c)) (segments_on (r, c) 0 sides) s is.corners member) in
    record {
      comes = λ at.
          let some = implied _ _ parts.0 (and_from _ _ (right_told high r c side true at.0) (ap not (left_told high r c side false at.1))) in
          let found = any_sound (λ p. is_side p.0 side) sides some in
          let on = on_pair (r, c) 0 sides found.0 found.1 in
          (on.segment, held on.segment on.has, at_side on.segment.from (r, c) found.0.0 side on.from (is_side_tells found.0.0 side found.2));
      goes = λ at.
          let some = implied _ _ parts.1 (and_from _ _ (left_told high r c side true at.0) (ap not (right_told high r c side false at.1))) in
          let found = any_sound (λ p. is_side p.1 side) sides some in
          let on = on_pair (r, c) 0 sides found.0 found.1 in
          (on.segment, held on.segment on.has, at_side on.segment.to (r, c) found.0.1 side on.to (is_side_tells found.0.1 side found.2));
    }
