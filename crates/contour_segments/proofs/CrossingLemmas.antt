-- At each crossing at most one segment of a level starts, and at most one ends; the segments are in order.
use Rattle.std.proofs.Common.{◌≡◌, ◌≢◌, ℕ, ℤ, ◌+◌, ◌-◌, ◌<◌, ◌≤◌, inl, inr, Bool, true, false, not, List, [], ◌∷◌, refl, sym, ap, ◌∙◌, subst, arith}
use Rattle.std.specs.Prelude.{◌&&◌, if◌then◌else◌, AllPairs, Contains, map}
use Rattle.std.specs.List.{list_all, range_with_len}
use Rattle.std.proofs.lemmas.Bool.{false≢true}
use Rattle.cell_base.specs.Raster.{Place, Raster}
use Rattle.cell_base.specs.Order.{IsBefore}
use Rattle.cell_base.proofs.OrderLemmas.{before_not_itself}
use Rattle.std.proofs.lemmas.Bool.{and_parts}
use Rattle.cell_base.proofs.ListDeciders.{all_pairs, contains_cases, contains_here, contains_there, each_by}
use Rattle.contour_segments.specs.Segments.{ComesBefore, cross_on, has_corners, is_high, is_joined, places_of, segments_in, segments_of, segments_on, sides_of}
use Rattle.contour_segments.specs.declared.segment.Segment.{Segment}
use Rattle.contour_segments.specs.declared.side.Side.{Side}
use Rattle.contour_segments.specs.Crossings.{CrossOnce}
use Rattle.contour_segments.proofs.MemberLemmas.{none_in, of_map, range_rises, pairs_flat, pairs_cons, pairs_head, pairs_nil, pairs_tail, pairs_weaker}
use Rattle.contour_segments.proofs.SideLemmas.{apart_sides, cell_at, crosses_apart, enters, in_left, in_right, is_right, leaves, other_side, sides_apart, sides_right}

abbrev pub cell_of : Segment → Place
cell_of s = (s.row, s.col)

-- where a segment of a lattice cell comes from
pub record Joins (place : Place) (turn : ℕ) (sides : List (Side × Side)) (s : Segment) : Type 0 where
  pub pair : Side × Side
  pub has : Contains sides pair
  pub from : s.from ≡ cross_on place pair.0
  pub to : s.to ≡ cross_on place pair.1
  pub at : cell_of s ≡ place
  pub turns : turn ≤ s.turn

pub joins : (place : Place) (turn : ℕ) (sides : List (Side × Side)) (s : Segment) → Contains (segments_on place turn sides) s → Joins place turn sides s
joins place turn [] s member = absurd (none_in s member)
joins place turn (p ∷ ps) s member = elim (contains_cases _ (segments_on place (turn + 1) ps) s member) [
  | inl here ↦ record {
    pair = p;
    has = contains_here p ps;
    from = ap (λ (x : Segment). x.from) (sym here);
    to = ap (λ (x : Segment). x.to) (sym here);
    at = ap cell_of (sym here);
    turns = let is : turn ≡ s.turn = ap (λ (x : Segment). x.turn) here in omega (arith, is);
  }
  | inr there ↦
      let rest = joins place (turn + 1) ps s there in
      record { pair = rest.pair; has = contains_there p ps rest.pair rest.has; from = rest.from; to = rest.to; at = rest.at; turns = omega (arith, rest.turns) }
]

-- two segments differ in start and in end, and the first comes before
abbrev pub AreApart : Segment → Segment → Type 0
AreApart s t = (s.from ≢ t.from) × (s.to ≢ t.to) × ComesBefore s t

same_cell : (place : Place) (s t : Segment) → cell_of s ≡ place → cell_of t ≡ place → s.turn < t.turn → ComesBefore s t
same_cell place s t at_s at_t less =
    let both : cell_of s ≡ cell_of t = at_s ∙ sym at_t in
    inr (ap (λ (p : Place). p.0) both, ap (λ (p : Place). p.1) both, less)

pub on_apart : (place : Place) (turn : ℕ) (sides : List (Side × Side)) → all_pairs apart_sides sides ≡ true → AllPairs AreApart (segments_on place turn sides)
on_apart place turn [] is = pairs_nil AreApart
on_apart place turn (p ∷ ps) is =
    let parts = and_parts (list_all (apart_sides p) ps) (all_pairs apart_sides ps) is in
    pairs_cons AreApart _ (segments_on place (turn + 1) ps)
    (λ t member.
    let found = joins place (turn + 1) ps t member in
    let other = each_by (apart_sides p) ps found.pair parts.0 found.has in
    let sides = and_parts (other_side p.0 found.pair.0) (other_side p.1 found.pair.1) other in (
      λ same. crosses_apart place p.0 found.pair.0 sides.0 (same ∙ found.from),
      λ same. crosses_apart place p.1 found.pair.1 sides.1 (same ∙ found.to),
      same_cell place (record { row = place.0; col = place.1; turn = turn; from = cross_on place p.0; to = cross_on place p.1 }) t refl found.at (omega (arith, found.turns)),
    ))
    (on_apart place (turn + 1) ps parts.1)

-- a segment of a lattice cell, and where its ends lead
record IsIn (high : Place → Bool) (place : Place) (s : Segment) : Type 0 where
  at : cell_of s ≡ place
  from : cell_at high s.from ≡ place
  to : cell_at (λ p. not (high p)) s.to ≡ place

pub not_true_is : (b : Bool) → not b ≡ true → b ≡ false
not_true_is true is = absurd (false≢true is)
not_true_is false is = refl

on_in : (high : Place → Bool) (r c : ℕ) (joined : Bool) (s : Segment) → Contains (segments_on (r, c) 0 (sides_of (high (r, c)) (high (r, c + 1)) (high (r + 1, c + 1)) (high (r + 1, c)) joined)) s → IsIn high (r, c) s
on_in high r c joined s member =
    let nw = high (r, c) in
    let ne = high (r, c + 1) in
    let se = high (r + 1, c + 1) in
    let sw = high (r + 1, c) in
    let found = joins (r, c) 0 (sides_of nw ne se sw joined) s member in
    let told = each_by (is_right nw ne se sw) (sides_of nw ne se sw joined) found.pair (sides_right nw ne se sw joined) found.has in
    let parts = and_parts (in_right found.pair.0 nw ne se sw && not (in_left found.pair.0 nw ne se sw)) (in_left found.pair.1 nw ne se sw && not (in_right found.pair.1 nw ne se sw)) told in
    let one = and_parts (in_right found.pair.0 nw ne se sw) (not (in_left found.pair.0 nw ne se sw)) parts.0 in
    let two = and_parts (in_left found.pair.1 nw ne se sw) (not (in_right found.pair.1 nw ne se sw)) parts.1 in
    record {
      at = found.at;
      from = ap (cell_at high) found.from ∙ enters high r c found.pair.0 one.0 (not_true_is _ one.1);
      to = ap (cell_at (λ p. not (high p))) found.to ∙ leaves high r c found.pair.1 two.0 (not_true_is _ two.1);
    }

-- the segments of a lattice cell, where it has some
if_apart : (b : Bool) (xs : List Segment) → AllPairs AreApart xs → AllPairs AreApart (if b then xs else [])
if_apart true xs is = is
if_apart false xs is = pairs_nil AreApart

pub if_in : (b : Bool) (xs : List Segment) (s : Segment) → Contains (if b then xs else []) s → Contains xs s
if_in true xs s member = member
if_in false xs s member = absurd (none_in s member)

cell_apart : (cells : Raster ℤ) (valid : Raster Bool) (level : ℤ) (place : Place) → AllPairs AreApart (segments_in cells valid level place)
cell_apart cells valid level (r, c) =
    let high = is_high cells level in
    let sides = sides_of (high (r, c)) (high (r, c + 1)) (high (r + 1, c + 1)) (high (r + 1, c)) (is_joined cells level (r, c)) in
    if_apart (has_corners valid (r, c)) (segments_on (r, c) 0 sides) (on_apart (r, c) 0 sides (sides_apart _ _ _ _ _))

cell_in : (cells : Raster ℤ) (valid : Raster Bool) (level : ℤ) (place : Place) (s : Segment) → Contains (segments_in cells valid level place) s → IsIn (is_high cells level) place s
cell_in cells valid level (r, c) s member =
    let high = is_high cells level in
    on_in high r c (is_joined cells level (r, c)) s (if_in (has_corners valid (r, c)) (segments_on (r, c) 0 (sides_of (high (r, c)) (high (r, c + 1)) (high (r + 1, c + 1)) (high (r + 1, c)) (is_joined cells level (r, c)))) s member)

row_order : (r : ℕ) (cols : List ℕ) → AllPairs (λ x y. x < y) cols → AllPairs IsBefore (map (λ c. (r, c)) cols)
row_order r [] rises = pairs_nil IsBefore
row_order r (c ∷ cs) rises = pairs_cons IsBefore (r, c) (map (λ d. (r, d)) cs) (λ p member.
    let found = of_map (λ d. (r, d)) cs p member in
    let less : c < found.0 = pairs_head (λ x y. x < y) c cs rises found.0 found.1 in
    subst (λ (q : Place). IsBefore (r, c) q) found.2 (inr (refl, less))) (row_order r cs (pairs_tail (λ x y. x < y) c cs rises))

-- the places are in order
pub places_order : (nrows ncols : ℕ) → AllPairs IsBefore (places_of nrows ncols)
places_order nrows ncols =
    let row : ℕ → List Place = λ r. map (λ c. (r, c)) (range_with_len 0 ncols) in
    pairs_flat IsBefore row (range_with_len 0 nrows) (λ r member. row_order r (range_with_len 0 ncols) (range_rises 0 ncols))
    (pairs_weaker (λ x y. x < y) (λ x y. (a b : Place) → Contains (row x) a → Contains (row y) b → IsBefore a b) (range_with_len 0 nrows) (λ x y on_x on_y less a b in_x in_y.
    let one = of_map (λ c. (x, c)) (range_with_len 0 ncols) a in_x in
    let two = of_map (λ c. (y, c)) (range_with_len 0 ncols) b in_y in
    let row_a : x ≡ a.0 = ap (λ (p : Place). p.0) one.2 in
    let row_b : y ≡ b.0 = ap (λ (p : Place). p.0) two.2 in
    inl (omega (arith, row_a, row_b, less))) (range_rises 0 nrows))

-- segments of two lattice cells
cells_apart : (high : Place → Bool) (p q : Place) → IsBefore p q → (s t : Segment) → IsIn high p s → IsIn high q t → AreApart s t
cells_apart high p q before s t in_p in_q = (
  λ same. differ (sym in_p.from ∙ ap (cell_at high) same ∙ in_q.from),
  λ same. differ (sym in_p.to ∙ ap (cell_at (λ x. not (high x))) same ∙ in_q.to),
  inl (subst (λ (x : Place). IsBefore x (cell_of t)) (sym in_p.at) (subst (λ (x : Place). IsBefore p x) (sym in_q.at) before)),
)
  where
    differ : p ≡ q → ⊥
    differ same = before_not_itself q (subst (λ (x : Place). IsBefore x q) same before)

pub all_apart : (cells : Raster ℤ) (valid : Raster Bool) (level : ℤ) → AllPairs AreApart (segments_of cells valid level)
all_apart cells valid level =
    let f = segments_in cells valid level in
    let places = places_of (cells.nrows - 1) (cells.ncols - 1) in
    pairs_flat AreApart f places (λ p member. cell_apart cells valid level p)
    (pairs_weaker IsBefore (λ p q. (s t : Segment) → Contains (f p) s → Contains (f q) t → AreApart s t) places (λ p q on_p on_q before s t in_p in_q. cells_apart (is_high cells level) p q before s t (cell_in cells valid level p s in_p) (cell_in cells valid level q t in_q)) (places_order (cells.nrows - 1) (cells.ncols - 1)))

-- at each crossing at most one segment starts, and at most one ends
pub cross_once : (cells : Raster ℤ) (valid : Raster Bool) (level : ℤ) → CrossOnce cells valid level
cross_once cells valid level = record {
  starts = pairs_weaker AreApart (λ s t. s.from ≢ t.from) (segments_of cells valid level) (λ s t on_s on_t apart. apart.0) (all_apart cells valid level);
  ends = pairs_weaker AreApart (λ s t. s.to ≢ t.to) (segments_of cells valid level) (λ s t on_s on_t apart. apart.1) (all_apart cells valid level);
}

-- the segments are in order
pub in_order : (cells : Raster ℤ) (valid : Raster Bool) (level : ℤ) → AllPairs ComesBefore (segments_of cells valid level)
in_order cells valid level = pairs_weaker AreApart ComesBefore (segments_of cells valid level) (λ s t on_s on_t apart. apart.2) (all_apart cells valid level)
