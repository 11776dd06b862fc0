-- Edges gathered from rings, and linked by the rows that they begin in.
use Rattle.std.proofs.Common.{◌≡◌, ℕ, ℤ, zero, suc, ◌+◌, ◌-◌, ◌<◌, ◌≤◌, ◌⊎◌, inl, inr, Bool, true, false, not, cond, List, [], ◌∷◌, ◌++◌, Option, Some, None, length, length-set, append_assoc, take, set, get_or, min, max, refl, ap, sym, ◌∙◌, subst, pos, ◌*ℤ◌, arith}
use Rattle.std.specs.Prelude.{◌&&◌, ◌||◌, nat_lt, nat_le, int_le, int_lt, All, map, option_map, slice_get, unwrap_or, if◌then◌else◌}
use Rattle.std.specs.Int.{int_max, int_min}
use Rattle.std.specs.Ordering.{int_eq}
use Rattle.std.specs.List.{filter, flat_map, list_any, range_with_len}
use Rattle.std.proofs.lemmas.Bool.{and_parts, cases_eq, eq-eqb, ne_eqb, or_right, or_left, or_from}
use Rattle.std.proofs.lemmas.Bool.Decides.{nat_tests}
use Rattle.std.proofs.lemmas.Int.{ints}
use Rattle.std.proofs.lemmas.List.{append-nil, map-append, take_more}
use Rattle.std.proofs.lemmas.Grind.{common_steps, flat_map-append}
use Rattle.std.proofs.lemmas.List.Elements.{All-append, All-cons, All-nil, filter-append}
use Rattle.std.proofs.lemmas.Option.{get_or_from_slice_get, slice_get-get_or, slice_get-map, slice_get_within}
use Rattle.std.proofs.Math.Seq.{map-set_same}
use Rattle.cell_base.proofs.PlaceLemmas.{element_at}
use Rattle.geo_transform.specs.Corner.{centre2_of, corner_of}
use Rattle.geo_transform.specs.declared.frame.Frame.{Frame}
use Rattle.wkt_text.specs.Geometry.{last_from}
use Rattle.wkt_text.specs.declared.geometry.Pt.{Pt}
use Rattle.burn_scanline.specs.Ring.{Edge, edges_of, edges_through}
use Rattle.burn_scanline.specs.EdgeTable.{IsSpanned, SpannedEdge, edge_of, first_row_of, has_length, has_row, is_row_of, meets_strip, starting_below}
use Rattle.burn_scanline.specs.Inner.Crossing.{AreRowsAbove, AreRowsAt}
use Rattle.burn_scanline.specs.Inner.Linking.{AreLinkedTo, Gathers, HaveRowsBelow, IsHead, IsLinkedTo, LinksOne, edges_in, from_link}
use Rattle.burn_scanline.specs.declared.edge_rows.SpanRule.{SpanRule}
use Rattle.burn_scanline.specs.declared.edge_rows.SpanRule.TheVariants.{Centre, Strip}
use Rattle.burn_scanline.specs.declared.edge_rows.LinkedEdge.{LinkedEdge}
use Rattle.burn_scanline.specs.declared.edge_rows.RowTable.{RowTable}
use Rattle.burn_scanline.proofs.RunLemmas.{at_set}

-- the numbers of the edges that begin in a row

pub first_at : (items : List LinkedEdge) (e : ℕ) (item : LinkedEdge) → slice_get items e ≡ Some item → first_row_of (edges_in items) e ≡ item.edge.first
first_at items e item at =
    let found : slice_get (edges_in items) e ≡ Some item.edge = slice_get-map (λ (i : LinkedEdge). i.edge) items e ∙ ap (λ (o : Option LinkedEdge). option_map (λ (i : LinkedEdge). i.edge) o) at in
    ap (λ (o : Option SpannedEdge). unwrap_or (option_map (λ (s : SpannedEdge). s.first) o) 0) found

starting_yes : (edges : List SpannedEdge) (row n : ℕ) → first_row_of edges n ≡ row → starting_below edges row (suc n) ≡ n ∷ starting_below edges row n
starting_yes edges row n is = ap (λ (b : Bool). (if b then n ∷ [] else []) ++ starting_below edges row n) (eq-eqb (first_row_of edges n) row is)

starting_no : (edges : List SpannedEdge) (row n : ℕ) → (first_row_of edges n ≡ row → ⊥) → starting_below edges row (suc n) ≡ starting_below edges row n
starting_no edges row n other = ap (λ (b : Bool). (if b then n ∷ [] else []) ++ starting_below edges row n) (ne_eqb (first_row_of edges n) row other)

pub starting_none : (edges : List SpannedEdge) (row n : ℕ) → ((e : ℕ) → e < n → first_row_of edges e ≡ row → ⊥) → starting_below edges row n ≡ []
starting_none edges row zero none = refl
starting_none edges row (suc n) none = starting_no edges row n (none n (omega arith)) ∙ starting_none edges row n (λ e less. none e (omega (arith, less)))

-- a walk goes on

pub walk_step : (items : List LinkedEdge) (at : ℕ) (item : LinkedEdge) → AreLinkedTo (length items) items → slice_get items at ≡ Some item → from_link (edges_in items) (Some at) ≡ at ∷ from_link (edges_in items) item.link
walk_step items at item linked found =
    let head = linked at item (slice_get_within items at item found) found in
    starting_yes (edges_in items) (first_row_of (edges_in items) at) at refl ∙ ap (λ (xs : List ℕ). at ∷ xs) (ap (λ (row : ℕ). starting_below (edges_in items) row at) (first_at items at item found) ∙ sym head.list)

pub walk_within : (items : List LinkedEdge) (at e : ℕ) (item : LinkedEdge) → AreLinkedTo (length items) items → slice_get items at ≡ Some item → item.link ≡ Some e → e < length items
walk_within items at e item linked found link =
    let within = slice_get_within items at item found in
    omega (arith, within, (linked at item within found).below e link)

-- linking one edge more

head_same : (a b : List SpannedEdge) (row n : ℕ) (head : Option ℕ) → a ≡ b → IsHead a row n head → IsHead b row n head
head_same a b row n head same is = subst (λ (edges : List SpannedEdge). IsHead edges row n head) same is

head_row : (edges : List SpannedEdge) (a b n : ℕ) (head : Option ℕ) → a ≡ b → IsHead edges a n head → IsHead edges b n head
head_row edges a b n head same is = subst (λ (row : ℕ). IsHead edges row n head) same is

head_more : (edges : List SpannedEdge) (row n : ℕ) (head : Option ℕ) → (first_row_of edges n ≡ row → ⊥) → IsHead edges row n head → IsHead edges row (suc n) head
head_more edges row n head other is = record {
  list = is.list ∙ sym (starting_no edges row n other);
  below = λ e at. omega (arith, is.below e at);
}

same_number : (a b : ℕ) → Some a ≡ Some b → a ≡ b
same_number a b same = cc

head_new : (edges : List SpannedEdge) (row n : ℕ) → first_row_of edges n ≡ row → IsHead edges row (suc n) (Some n)
head_new edges row n is = record {
  list = ap (λ (r : ℕ). starting_below edges r (suc n)) is;
  below = λ e at. omega (arith, same_number n e at);
}

link_here : (edges : List SpannedEdge) (first row n e : ℕ) (edge : SpannedEdge) (link : Option ℕ) (i : LinkedEdge) → first ≤ row → e ≡ n → i ≡ record { edge = edge; link = link } → edge.first ≡ row → IsHead edges (first + (row - first)) n link → IsHead edges i.edge.first e i.link
link_here edges first row n e edge link i less at is is_row head =
    let back : first + (row - first) ≡ i.edge.first = omega (arith, less, is_row, ap (λ (x : LinkedEdge). x.edge.first) is) in
    subst (λ (o : Option ℕ). IsHead edges i.edge.first e o) (sym (ap (λ (x : LinkedEdge). x.link) is)) (subst (λ (m : ℕ). IsHead edges i.edge.first m link) (sym at) (head_row edges (first + (row - first)) i.edge.first n link back head))

pub link_one : (n : ℕ) (old new : RowTable) (item : LinkedEdge) (link : Option ℕ) → IsLinkedTo n old → slice_get old.edges.items n ≡ Some item → slice_get old.heads.items (item.edge.first - old.first_row) ≡ Some link → new.edges.items ≡ set old.edges.items n (record { edge = item.edge; link = link }) → new.heads.items ≡ set old.heads.items (item.edge.first - old.first_row) (Some n) → new.first_row ≡ old.first_row → new.end_row ≡ old.end_row → LinksOne n old new
link_one n old new item link linked at at_head is_edges is_heads is_first is_end =
    let items = old.edges.items in
    let changed : LinkedEdge = record { edge = item.edge; link = link } in
    let row : ℕ = item.edge.first in
    let in_rows = linked.rows n item at in
    let same : edges_in new.edges.items ≡ edges_in items = ap edges_in is_edges ∙ map-set_same (λ (i : LinkedEdge). i.edge) items n changed item (ap (λ (i : LinkedEdge). i.edge) (sym (get_or_from_slice_get items n item item at))) in
    let here : first_row_of (edges_in items) n ≡ row = first_at items n item at in
    let back : old.first_row + (row - old.first_row) ≡ row = omega (arith, in_rows.0) in
    record {
      edges = same;
      end = is_end;
      linked = record {
        sized = omega (arith, linked.sized, is_first, is_end, ap length is_heads, length-set old.heads.items (row - old.first_row) (Some n));
        rows = λ e i found. elim (at_set items n changed e i (ap (λ (xs : List LinkedEdge). slice_get xs e) (sym is_edges) ∙ found)) [
          | inl before ↦
              let was = linked.rows e i before.1 in
              (omega (arith, was.0, is_first), was.1, omega (arith, was.2, is_end))
          | inr now ↦
              let edge : i.edge ≡ item.edge = ap (λ (x : LinkedEdge). x.edge) now.1 in
              (omega (arith, in_rows.0, is_first, ap (λ (x : SpannedEdge). x.first) edge), omega (arith, in_rows.1, ap (λ (x : SpannedEdge). x.first) edge, ap (λ (x : SpannedEdge). x.last) edge), omega (arith, in_rows.2, is_end, ap (λ (x : SpannedEdge). x.last) edge))
        ];
        links = λ e i less found. head_same (edges_in items) (edges_in new.edges.items) i.edge.first e i.link (sym same) (elim (at_set items n changed e i (ap (λ (xs : List LinkedEdge). slice_get xs e) (sym is_edges) ∙ found)) [
          | inl before ↦ linked.links e i (omega (arith, less, before.0)) before.1
          | inr now ↦ link_here (edges_in items) old.first_row row n e item.edge link i in_rows.0 now.0 now.1 refl (linked.heads (row - old.first_row) link at_head)
        ]);
        heads = λ i head found. head_same (edges_in items) (edges_in new.edges.items) (new.first_row + i) (suc n) head (sym same) (head_row (edges_in items) (old.first_row + i) (new.first_row + i) (suc n) head (omega (arith, is_first)) (elim (at_set old.heads.items (row - old.first_row) (Some n) i head (ap (λ (xs : List (Option ℕ)). slice_get xs i) (sym is_heads) ∙ found)) [
          | inl before ↦ head_more (edges_in items) (old.first_row + i) n head (λ begins. before.0 (omega (arith, begins, here, in_rows.0))) (linked.heads i head before.1)
          | inr now ↦
              let is_row : first_row_of (edges_in items) n ≡ old.first_row + i = omega (arith, here, now.0, in_rows.0) in
              subst (λ (o : Option ℕ). IsHead (edges_in items) (old.first_row + i) (suc n) o) (sym now.1) (head_new (edges_in items) (old.first_row + i) n is_row)
        ]));
      };
    }

-- gathering

pub gathers_none : (rule : SpanRule) (f : Frame) (items : List LinkedEdge) → Gathers rule f [] items items
gathers_none rule f items = record { edges = sym (append-nil (map edge_of (edges_in items))); spans = λ all. all }

pub gathers_more : (rule : SpanRule) (f : Frame) (a b : List Edge) (old mid new : List LinkedEdge) → Gathers rule f a old mid → Gathers rule f b mid new → Gathers rule f (a ++ b) old new
gathers_more rule f a b old mid new one two = record {
  edges = two.edges ∙ ap (λ (xs : List Edge). xs ++ filter (has_row rule f) b) one.edges ∙ append_assoc (map edge_of (edges_in old)) (filter (has_row rule f) a) (filter (has_row rule f) b) ∙ ap (λ (xs : List Edge). map edge_of (edges_in old) ++ xs) (sym (filter-append (has_row rule f) a b));
  spans = λ all. two.spans (one.spans all);
}

-- the rows of an edge, by the rows above its ends

lower_is : (y h : ℤ) → int_lt h y ≡ not (int_le y h)
lower_is y h = grind (arith, ints)

pub row_of_ends : (f : Frame) (a b : Pt) (ka kb row : ℕ) → AreRowsAbove f a.y ka → AreRowsAbove f b.y kb → row < f.nrows → is_row_of Centre f (a, b) row ≡ ((nat_lt row ka && not (nat_lt row kb)) || (nat_lt row kb && not (nat_lt row ka)))
row_of_ends f a b ka kb row above_a above_b in_rows =
    let h : ℤ = (centre2_of f row 0).1 in
    let at_a : int_le (pos 2 *ℤ a.y) h ≡ nat_lt row ka = above_a.at row in_rows in
    let at_b : int_le (pos 2 *ℤ b.y) h ≡ nat_lt row kb = above_b.at row in_rows in
    rw (lower_is (pos 2 *ℤ b.y) h, lower_is (pos 2 *ℤ a.y) h, at_a, at_b) refl

any_none : (test : ℕ → Bool) (a n : ℕ) → ((row : ℕ) → a ≤ row → row < a + n → test row ≡ false) → list_any test (range_with_len a n) ≡ false
any_none test a zero none = refl
any_none test a (suc n) none = or_from (test a) (list_any test (range_with_len (a + 1) n)) (none a (omega arith) (omega arith)) (any_none test (a + 1) n (λ row from to. none row (omega (arith, from)) (omega (arith, to))))

pub any_some : (test : ℕ → Bool) (a n row : ℕ) → a ≤ row → row < a + n → test row ≡ true → list_any test (range_with_len a n) ≡ true
any_some test a zero row from to is = absurd (omega (arith, from, to))
any_some test a (suc n) row from to is = elim (cases_eq a row) [
  | inl same ↦ or_left (test a) (list_any test (range_with_len (a + 1) n)) (ap test same ∙ is)
  | inr other ↦ or_right (test a) (list_any test (range_with_len (a + 1) n)) (any_some test (a + 1) n row (omega (arith, from, other)) (omega (arith, to)) is)
]

-- the rows of an edge of some length, by those of its ends

centre_rows : (row ka kb first end : ℕ) → first ≡ min ka kb → end ≡ max ka kb
    → ((nat_lt row ka && not (nat_lt row kb)) || (nat_lt row kb && not (nat_lt row ka))) ≡ (nat_le first row && nat_lt row end)
centre_rows row ka kb first end is_first is_end = grind (arith, nat_tests)

least_test : (a b z : ℤ) → int_lt (int_min a b) z ≡ (int_lt a z || int_lt b z)
least_test a b z = grind (arith, ints)

most_test : (a b z : ℤ) → int_lt z (int_max a b) ≡ (int_lt z a || int_lt z b)
most_test a b z = grind (arith, ints)

strip_rows : (row fa ea fb eb first end : ℕ) → first ≡ min fa fb → end ≡ max ea eb
    → ((nat_lt row ea || nat_lt row eb) && (nat_le fa row || nat_le fb row)) ≡ (nat_le first row && nat_lt row end)
strip_rows row fa ea fb eb first end is_first is_end = grind (arith, nat_tests)

-- the two ends are one point
abbrev pub is_one_point : Pt → Pt → Bool
is_one_point a b = int_eq a.x b.x && int_eq a.y b.y

one_point : (a b : Pt) → is_one_point a b ≡ true → a ≡ b
one_point a b is =
    let parts = and_parts (int_eq a.x b.x) (int_eq a.y b.y) is in
    let point : ℤ → ℤ → Pt = λ u v. record { x = u; y = v } in
    ap (λ (u : ℤ). point u a.y) (same_units a.x b.x parts.0) ∙ ap (point b.x) (same_units a.y b.y parts.1)
  where
    same_units : (m n : ℤ) → int_eq m n ≡ true → m ≡ n
    same_units m n same = grind (arith, ints, same)

rows_of_ends : (rule : SpanRule) (f : Frame) (a b : Pt) (fa ea fb eb first end row : ℕ) → AreRowsAt rule f a.y fa ea → AreRowsAt rule f b.y fb eb
    → is_one_point a b ≡ false → first ≡ min fa fb → end ≡ max ea eb → row < f.nrows → is_row_of rule f (a, b) row ≡ (nat_le first row && nat_lt row end)
rows_of_ends Centre f a b fa ea fb eb first end row at_a at_b other is_first is_end in_rows =
    row_of_ends f a b fa fb row at_a.0 at_b.0 in_rows ∙ centre_rows row fa fb first end is_first (is_end ∙ ap (λ (n : ℕ). max n eb) at_a.1 ∙ ap (max fa) at_b.1)
rows_of_ends Strip f a b fa ea fb eb first end row at_a at_b other is_first is_end in_rows =
    let top : ℤ = (corner_of f row 0).1 in
    let bottom : ℤ = (corner_of f (row + 1) 0).1 in
    ap (λ (x : Bool). not x && meets_strip f (a, b) row) other
    ∙ ap (λ (x : Bool). x && int_lt bottom (int_max a.y b.y)) (least_test a.y b.y top)
    ∙ ap (λ (x : Bool). (int_lt a.y top || int_lt b.y top) && x) (most_test a.y b.y bottom)
    ∙ ap (λ (x : Bool). (x || int_lt b.y top) && (int_lt bottom a.y || int_lt bottom b.y)) (at_a.below row in_rows)
    ∙ ap (λ (x : Bool). (nat_lt row ea || x) && (int_lt bottom a.y || int_lt bottom b.y)) (at_b.below row in_rows)
    ∙ ap (λ (x : Bool). (nat_lt row ea || nat_lt row eb) && (x || int_lt bottom b.y)) (at_a.above row in_rows)
    ∙ ap (λ (x : Bool). (nat_lt row ea || nat_lt row eb) && (nat_le fa row || x)) (at_b.above row in_rows)
    ∙ strip_rows row fa ea fb eb first end is_first is_end

end_within : (rule : SpanRule) (f : Frame) (y : ℤ) (first end : ℕ) → AreRowsAt rule f y first end → end ≤ f.nrows
end_within Centre f y first end at = omega (arith, at.0.within, at.1)
end_within Strip f y first end at = at.within

-- an edge of no length has no row
point_row : (rule : SpanRule) (f : Frame) (a : Pt) (row : ℕ) → is_row_of rule f (a, a) row ≡ false
point_row Centre f a row = never (pos 2 *ℤ a.y) (centre2_of f row 0).1
  where
    never : (y h : ℤ) → ((int_le y h && int_lt h y) || (int_le y h && int_lt h y)) ≡ false
    never y h = grind (arith, ints)
point_row Strip f a row = rw (same_units a.x, same_units a.y) refl
  where
    same_units : (n : ℤ) → int_eq n n ≡ true
    same_units n = grind (arith, ints)

gathers_nothing : (rule : SpanRule) (f : Frame) (e : Edge) (items : List LinkedEdge) → ((row : ℕ) → row < f.nrows → is_row_of rule f e row ≡ false)
    → Gathers rule f (e ∷ []) items items
gathers_nothing rule f e items no_row =
    let none : has_row rule f e ≡ false = any_none (is_row_of rule f e) 0 f.nrows (λ row from to. no_row row (omega (arith, to))) in
    record {
      edges = sym (ap (λ (x : Bool). map edge_of (edges_in items) ++ cond x (e ∷ []) []) none ∙ append-nil (map edge_of (edges_in items)));
      spans = λ all. all;
    }

pub gathers_point : (rule : SpanRule) (f : Frame) (a b : Pt) (items : List LinkedEdge) → is_one_point a b ≡ true → Gathers rule f ((a, b) ∷ []) items items
gathers_point rule f a b items same =
    subst (λ (q : Pt). Gathers rule f ((a, q) ∷ []) items items) (one_point a b same) (gathers_nothing rule f (a, a) items (λ row in_rows. point_row rule f a row))

none_between : (first end row : ℕ) → end ≤ first → (nat_le first row && nat_lt row end) ≡ false
none_between first end row less = grind (arith, nat_tests, less)

pub gathers_rowless : (rule : SpanRule) (f : Frame) (a b : Pt) (fa ea fb eb first end : ℕ) (items : List LinkedEdge) → AreRowsAt rule f a.y fa ea → AreRowsAt rule f b.y fb eb
    → is_one_point a b ≡ false → first ≡ min fa fb → end ≡ max ea eb → end ≤ first → Gathers rule f ((a, b) ∷ []) items items
gathers_rowless rule f a b fa ea fb eb first end items at_a at_b other is_first is_end less =
    gathers_nothing rule f (a, b) items (λ row in_rows. rows_of_ends rule f a b fa ea fb eb first end row at_a at_b other is_first is_end in_rows ∙ none_between first end row less)

up_to_last : (first end last row : ℕ) → last ≡ end - 1 → first < end → (nat_le first row && nat_lt row end) ≡ (nat_le first row && nat_le row last)
up_to_last first end last row is some = grind (arith, nat_tests, is, some)

pub gathers_edge : (rule : SpanRule) (f : Frame) (a b : Pt) (fa ea fb eb first end : ℕ) (items : List LinkedEdge) (item : LinkedEdge) → AreRowsAt rule f a.y fa ea → AreRowsAt rule f b.y fb eb
    → is_one_point a b ≡ false → first ≡ min fa fb → end ≡ max ea eb → first < end → item.edge.start ≡ a → item.edge.end ≡ b → item.edge.first ≡ first → item.edge.last ≡ end - 1
    → Gathers rule f ((a, b) ∷ []) items (items ++ item ∷ [])
gathers_edge rule f a b fa ea fb eb first end items item at_a at_b other is_first is_end more is_start is_stop from to =
    let within : item.edge.last < f.nrows = omega (arith, end_within rule f a.y fa ea at_a, end_within rule f b.y fb eb at_b, is_end, to, more) in
    let rows : (row : ℕ) → row < f.nrows → is_row_of rule f (a, b) row ≡ (nat_le item.edge.first row && nat_le row item.edge.last) = λ row in_rows.
    rows_of_ends rule f a b fa ea fb eb first end row at_a at_b other is_first is_end in_rows
    ∙ up_to_last first end item.edge.last row to more ∙ ap (λ (n : ℕ). nat_le n row && nat_le row item.edge.last) (sym from) in
    let some : item.edge.first ≤ item.edge.last = omega (arith, from, to, more) in
    let has : has_row rule f (a, b) ≡ true = any_some (is_row_of rule f (a, b)) 0 f.nrows item.edge.first (omega arith) (omega (arith, some, within)) (rows item.edge.first (omega (arith, some, within)) ∙ grind (arith, nat_tests, some)) in
    let ends : edge_of item.edge ≡ (a, b) = cc in
    record {
      edges = ap (map edge_of) (map-append (λ (i : LinkedEdge). i.edge) items (item ∷ [])) ∙ map-append edge_of (edges_in items) (item.edge ∷ []) ∙ ap (λ (e : Edge). map edge_of (edges_in items) ++ e ∷ []) ends ∙ ap (λ (x : Bool). map edge_of (edges_in items) ++ cond x ((a, b) ∷ []) []) (sym has);
      spans = λ all. subst (All (IsSpanned rule f)) (sym (map-append (λ (i : LinkedEdge). i.edge) items (item ∷ []))) (All-append (IsSpanned rule f) (edges_in items) (item.edge ∷ []) all (All-cons (IsSpanned rule f) item.edge [] (record {
        some = some;
        within = within;
        rows = λ row in_rows. ap (λ (e : Edge). is_row_of rule f e row) ends ∙ rows row in_rows;
      }) (All-nil (IsSpanned rule f))));
    }

-- the edges of a ring, one after another

pub through_push : (p x : Pt) (xs : List Pt) → edges_through p (xs ++ x ∷ []) ≡ edges_through p xs ++ (last_from p xs, x) ∷ []
through_push p x [] = refl
through_push p x (y ∷ xs) = ap (λ (es : List Edge). (p, y) ∷ es) (through_push y x xs)

pub last_push : (p x : Pt) (xs : List Pt) → last_from p (xs ++ x ∷ []) ≡ x
last_push p x [] = refl
last_push p x (y ∷ xs) = last_push y x xs

last_get : (p d : Pt) (path : List Pt) → get_or (p ∷ path) (length path) d ≡ last_from p path
last_get p d [] = refl
last_get p d (q ∷ path) = last_get q d path

pub ring_edges : (ring : List Pt) (d : Pt) → 0 < length ring → edges_through (get_or ring (length ring - 1) d) ring ≡ edges_of ring
ring_edges [] d some = absurd (omega (arith, some))
ring_edges (p ∷ path) d some =
    let end : length (p ∷ path) - 1 ≡ length path = omega arith in
    ap (λ (n : ℕ). edges_through (get_or (p ∷ path) n d) (p ∷ path)) end ∙ ap (λ (q : Pt). edges_through q (p ∷ path)) (last_get p d path)

-- one point of a ring more
pub ring_step : (rule : SpanRule) (f : Frame) (ring : List Pt) (at : ℕ) (p before x : Pt) (old mid new : List LinkedEdge) → at < length ring → slice_get ring at ≡ Some x → before ≡ last_from p (take at ring) → Gathers rule f (edges_through p (take at ring)) old mid → Gathers rule f ((before, x) ∷ []) mid new → Gathers rule f (edges_through p (take (at + 1) ring)) old new
ring_step rule f ring at p before x old mid new within found is one two =
    let more : take (at + 1) ring ≡ take at ring ++ x ∷ [] = take_more ring at x within ∙ ap (λ (y : Pt). take at ring ++ y ∷ []) (get_or_from_slice_get ring at x x found) in
    let edges : edges_through p (take at ring) ++ (before, x) ∷ [] ≡ edges_through p (take (at + 1) ring) = ap (λ (q : Pt). edges_through p (take at ring) ++ (q, x) ∷ []) is ∙ sym (ap (edges_through p) more ∙ through_push p x (take at ring)) in
    subst (λ (es : List Edge). Gathers rule f es old new) edges (gathers_more rule f (edges_through p (take at ring)) ((before, x) ∷ []) old mid new one two)

pub ring_last : (ring : List Pt) (at : ℕ) (p x : Pt) → at < length ring → slice_get ring at ≡ Some x → x ≡ last_from p (take (at + 1) ring)
ring_last ring at p x within found =
    let more : take (at + 1) ring ≡ take at ring ++ x ∷ [] = take_more ring at x within ∙ ap (λ (y : Pt). take at ring ++ y ∷ []) (get_or_from_slice_get ring at x x found) in
    sym (ap (last_from p) more ∙ last_push p x (take at ring))

-- one list more
pub flat_step : {A : Type 0} (rule : SpanRule) (f : Frame) (edges : A → List Edge) (xs : List A) (at : ℕ) (x : A) (old mid new : List LinkedEdge) → at < length xs → slice_get xs at ≡ Some x → Gathers rule f (flat_map edges (take at xs)) old mid → Gathers rule f (edges x) mid new → Gathers rule f (flat_map edges (take (at + 1) xs)) old new
flat_step {A} rule f edges xs at x old mid new within found one two =
    let more : take (at + 1) xs ≡ take at xs ++ x ∷ [] = take_more xs at x within ∙ ap (λ (y : A). take at xs ++ y ∷ []) (get_or_from_slice_get xs at x x found) in
    let joined : flat_map edges (take at xs) ++ edges x ≡ flat_map edges (take (at + 1) xs) = sym (ap (flat_map edges) more ∙ flat_map-append edges (take at xs) (x ∷ []) ∙ ap (λ (es : List Edge). flat_map edges (take at xs) ++ es) (append-nil (edges x))) in
    subst (λ (es : List Edge). Gathers rule f es old new) joined (gathers_more rule f (flat_map edges (take at xs)) (edges x) old mid new one two)

-- the same where the lists are those of lists
pub flat_flat_step : {A B : Type 0} (rule : SpanRule) (f : Frame) (edges : B → List Edge) (parts : A → List B) (xs : List A) (at : ℕ) (x : A) (old mid new : List LinkedEdge) → at < length xs → slice_get xs at ≡ Some x → Gathers rule f (flat_map edges (flat_map parts (take at xs))) old mid → Gathers rule f (flat_map edges (parts x)) mid new → Gathers rule f (flat_map edges (flat_map parts (take (at + 1) xs))) old new
flat_flat_step {A} {B} rule f edges parts xs at x old mid new within found one two =
    let more : take (at + 1) xs ≡ take at xs ++ x ∷ [] = take_more xs at x within ∙ ap (λ (y : A). take at xs ++ y ∷ []) (get_or_from_slice_get xs at x x found) in
    let inner : flat_map parts (take (at + 1) xs) ≡ flat_map parts (take at xs) ++ parts x = ap (flat_map parts) more ∙ flat_map-append parts (take at xs) (x ∷ []) ∙ ap (λ (es : List B). flat_map parts (take at xs) ++ es) (append-nil (parts x)) in
    let joined : flat_map edges (flat_map parts (take at xs)) ++ flat_map edges (parts x) ≡ flat_map edges (flat_map parts (take (at + 1) xs)) = sym (ap (flat_map edges) inner ∙ flat_map-append edges (flat_map parts (take at xs)) (parts x)) in
    subst (λ (es : List Edge). Gathers rule f es old new) joined (gathers_more rule f (flat_map edges (flat_map parts (take at xs))) (flat_map edges (parts x)) old mid new one two)

pub read_at : {A : Type 0} (xs : List A) (i : ℕ) (x : A) → i < length xs → x ≡ get_or xs i x → slice_get xs i ≡ Some x
read_at {A} xs i x within is = slice_get-get_or xs i x within ∙ ap (λ (y : A). Some y) (sym is)

-- no edge begins outside the table's rows
pub head_outside : (table : RowTable) (row : ℕ) → IsLinkedTo (length table.edges.items) table → (row < table.first_row) ⊎ (table.end_row ≤ row) → IsHead (edges_in table.edges.items) row (length table.edges.items) None
head_outside table row linked outside = record {
  list = sym (starting_none (edges_in table.edges.items) row (length table.edges.items) (λ e within begins.
      let item = element_at table.edges.items e within in
      let rows = linked.rows e item.0 item.1 in
      let first = first_at table.edges.items e item.0 item.1 in
      elim outside [
        | inl before ↦ omega (arith, before, begins, first, rows.0)
        | inr behind ↦ omega (arith, behind, begins, first, rows.1, rows.2)
      ]));
  below = λ e none. absurd (let no : None ≡ Some e = none in cc);
}

pub head_inside : (table : RowTable) (row : ℕ) (head : Option ℕ) → IsLinkedTo (length table.edges.items) table → table.first_row ≤ row → slice_get table.heads.items (row - table.first_row) ≡ Some head → IsHead (edges_in table.edges.items) row (length table.edges.items) head
head_inside table row head linked inside found = head_row (edges_in table.edges.items) (table.first_row + (row - table.first_row)) row (length table.edges.items) head (omega (arith, inside)) (linked.heads (row - table.first_row) head found)

-- the rows of spanned edges
pub rows_below : (rule : SpanRule) (f : Frame) (items : List LinkedEdge) → All (IsSpanned rule f) (edges_in items) → HaveRowsBelow f.nrows items
rows_below rule f items all = λ e item at.
    let found : slice_get (edges_in items) e ≡ Some item.edge = slice_get-map (λ (i : LinkedEdge). i.edge) items e ∙ ap (λ (o : Option LinkedEdge). option_map (λ (i : LinkedEdge). i.edge) o) at in
    let spanned : IsSpanned rule f item.edge = subst (IsSpanned rule f) (get_or_from_slice_get (edges_in items) e item.edge item.edge found) (all e item.edge (slice_get_within (edges_in items) e item.edge found)) in
    (spanned.some, spanned.within)

pub read_of : {A : Type 0} (xs ys : List A) (i : ℕ) (x : A) → xs ≡ ys → i < length xs → x ≡ get_or xs i x → slice_get ys i ≡ Some x
read_of {A} xs ys i x same within is = ap (λ (zs : List A). slice_get zs i) (sym same) ∙ read_at xs i x within is

-- the whole ring
pub ring_done : (rule : SpanRule) (f : Frame) (points ring : List Pt) (at : ℕ) (p q d : Pt) (old new : List LinkedEdge) → points ≡ ring → 0 < length points → length points ≤ at → p ≡ q → q ≡ get_or points (length points - 1) d → Gathers rule f (edges_through p (take at ring)) old new → Gathers rule f (edges_of ring) old new
ring_done rule f points ring at p q d old new same some end is_p is_q gathered =
    let whole : take at points ≡ points = grind (arith, common_steps) in
    let edges : edges_through p (take at ring) ≡ edges_of ring = ap (λ (r : List Pt). edges_through p (take at r)) (sym same) ∙ ap (edges_through p) whole ∙ ap (λ (r : Pt). edges_through r points) (is_p ∙ is_q) ∙ ring_edges points d some ∙ ap edges_of same in
    subst (λ (es : List Edge). Gathers rule f es old new) edges gathered
