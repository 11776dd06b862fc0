-- The cells of a row that an edge meets stand in one stretch.
use Rattle.std.proofs.Common.{◌≡◌, ℕ, ℤ, suc, ◌+◌, ◌-◌, ◌<◌, ◌≤◌, ◌<ℤ◌, ◌≤ℤ◌, ◌⊎◌, inl, inr, Bool, true, false, [], ◌∷◌, max, min, refl, sym, ap, ◌∙◌, subst, pos, negsuc, ◌+ℤ◌, ◌-ℤ◌, ◌*ℤ◌, arith}
use Rattle.std.specs.Prelude.{◌&&◌, ◌||◌, int_le, int_lt, nat_le, nat_lt}
use Rattle.std.specs.Int.{int_max, int_min}
use Rattle.std.specs.List.{list_any}
use Rattle.std.specs.Ordering.{int_eq}
use Rattle.std.proofs.lemmas.Bool.{and_parts}
use Rattle.std.proofs.lemmas.Bool.Decides.{nat_tests}
use Rattle.std.proofs.lemmas.Int.{ints}
use Rattle.std.proofs.Math.IntN.{*ℤ-zero, *ℤ_comm}
use Rattle.geo_transform.specs.Frame.{IsFrame}
use Rattle.geo_transform.specs.Corner.{corner_of}
use Rattle.geo_transform.specs.declared.frame.Frame.{Frame}
use Rattle.wkt_text.specs.declared.geometry.Pt.{Pt}
use Rattle.burn_scanline.specs.Ring.{Edge}
use Rattle.burn_scanline.specs.EdgeTable.{has_length, is_row_of, meets_strip}
use Rattle.burn_scanline.specs.Steps.{IsLeastSteps}
use Rattle.burn_scanline.specs.declared.edge_rows.SpanRule.TheVariants.{Strip}
use Rattle.burn_scanline.proofs.ColumnLemmas.{positive_is, product_some}
use Rattle.all_touched.specs.Touched.{corners_of, is_left_of, is_met, is_right_of, meets_column, turn_at}
use Rattle.all_touched.specs.declared.columns.Columns.{Columns}
use Rattle.all_touched.specs.declared.columns.RisingEdge.{RisingEdge}
use Rattle.all_touched.specs.Inner.Stretch.{AreBeside, ends_of, IsAcross, IsEndLeft, IsFirstRight, IsStretch, is_from_to}
use Rattle.all_touched.proofs.ColumnLemmas.{left_side, right_side}
use Rattle.all_touched.proofs.ProductLemmas.{grouped, product_below}
use Rattle.all_touched.proofs.TurnLemmas.{any_left, any_right, leads_left, leads_right, sides_swap, turn_across}

-- a column further, a turn falls by the edge's rise times a cell's size

fall_by : (f : Frame) (p q : Pt) (from to y fall : ℤ) (n : ℕ) → IsFrame f → fall ≡ (q.y -ℤ p.y) *ℤ f.cell → to ≡ from +ℤ f.cell *ℤ pos n
    → turn_at (p, q) (to, y) ≡ turn_at (p, q) (from, y) -ℤ fall *ℤ pos n
fall_by f p q from to y fall n is is_fall further =
    let cell = positive_is f.cell is.some_size in
    let v : ℤ = q.y -ℤ p.y in
    let way : to -ℤ from ≡ f.cell *ℤ pos n = omega (arith, ints, further) in
    let product : v *ℤ (to -ℤ from) ≡ fall *ℤ pos n =
    ap (λ (z : ℤ). v *ℤ z) way ∙ ap (λ (z : ℤ). v *ℤ (z *ℤ pos n)) cell.1 ∙ sym (grouped v cell.0 n) ∙ ap (λ (z : ℤ). (v *ℤ z) *ℤ pos n) (sym cell.1)
    ∙ ap (λ (z : ℤ). z *ℤ pos n) (sym is_fall) in
    turn_across p q from to y ∙ ap (λ (z : ℤ). turn_at (p, q) (from, y) -ℤ z) product

right_test : (turn first p reach : ℤ) (k col : ℕ) → turn ≡ first -ℤ p → reach ≡ first +ℤ pos 1 → int_le reach p ≡ nat_le k col → int_lt turn (pos 0) ≡ nat_le k col
right_test turn first p reach k col is is_reach test = grind (arith, ints, nat_tests)

left_test : (turn first p : ℤ) (k col : ℕ) → turn ≡ first -ℤ p → int_le first p ≡ nat_le k col → int_lt (pos 0) turn ≡ nat_lt col k
left_test turn first p k col is test = grind (arith, ints, nat_tests)

pub is_first_right : (f : Frame) (p q : Pt) (y first reach fall : ℤ) (k : ℕ) → IsFrame f → fall ≡ (q.y -ℤ p.y) *ℤ f.cell
    → first ≡ turn_at (p, q) ((corner_of f 0 1).0, y) → reach ≡ first +ℤ pos 1 → IsLeastSteps reach fall f.ncols k → IsFirstRight f (p, q) y k
is_first_right f p q y first reach fall k is is_fall is_first is_reach steps = record {
  within = steps.within;
  at = λ col in_cols. right_test (turn_at (p, q) ((corner_of f 0 (col + 1)).0, y)) first (fall *ℤ pos col) reach k col
      (fall_by f p q (corner_of f 0 1).0 (corner_of f 0 (col + 1)).0 y fall col is is_fall (right_side f col is) ∙ ap (λ (z : ℤ). z -ℤ fall *ℤ pos col) (sym is_first))
      is_reach (steps.at col in_cols);
}

pub is_end_left : (f : Frame) (p q : Pt) (y first fall : ℤ) (k : ℕ) → IsFrame f → fall ≡ (q.y -ℤ p.y) *ℤ f.cell
    → first ≡ turn_at (p, q) ((corner_of f 0 0).0, y) → IsLeastSteps first fall f.ncols k → IsEndLeft f (p, q) y k
is_end_left f p q y first fall k is is_fall is_first steps = record {
  within = steps.within;
  at = λ col in_cols. left_test (turn_at (p, q) ((corner_of f 0 col).0, y)) first (fall *ℤ pos col) k col
      (fall_by f p q (corner_of f 0 0).0 (corner_of f 0 col).0 y fall col is is_fall (left_side f col is) ∙ ap (λ (z : ℤ). z -ℤ fall *ℤ pos col) (sym is_first))
      (steps.at col in_cols);
}

-- a cell's square

wide_by : (x : ℤ) (s c : ℕ) → 0 < s → (x +ℤ pos c *ℤ pos s) <ℤ (x +ℤ pos (c + 1) *ℤ pos s)
wide_by x s c some = omega (arith, ints, some)

wide : (f : Frame) (col : ℕ) → IsFrame f → (corner_of f 0 col).0 <ℤ (corner_of f 0 (col + 1)).0
wide f col is =
    let cell = positive_is f.cell is.some_size in
    rw cell.1 (wide_by f.xll cell.0 col cell.2)

high : (f : Frame) (row : ℕ) → IsFrame f → row < f.nrows → (corner_of f (row + 1) 0).1 <ℤ (corner_of f row 0).1
high f row is in_rows =
    let cell = positive_is f.cell is.some_size in
    let more : f.nrows - row ≡ (f.nrows - (row + 1)) + 1 = omega (arith, in_rows) in
    rw (cell.1, more) (wide_by f.yll cell.0 (f.nrows - (row + 1)) cell.2)

-- the four corners, one by one
any_four : (p q r s : Bool) → (p || (q || (r || (s || false)))) ≡ (p || q || r || s)
any_four true q r s = refl
any_four false true r s = refl
any_four false false true s = refl
any_four false false false true = refl
any_four false false false false = refl

-- the four sides of a square, as names
abbrev left_of : Frame → ℕ → ℤ
left_of f col = (corner_of f 0 col).0

abbrev top_of : Frame → ℕ → ℤ
top_of f row = (corner_of f row 0).1

abbrev lefts : Frame → Edge → ℕ → ℕ → Bool
lefts f e row col = any_left e (left_of f col) (left_of f (col + 1)) (top_of f row) (top_of f (row + 1))

abbrev rights : Frame → Edge → ℕ → ℕ → Bool
rights f e row col = any_right e (left_of f col) (left_of f (col + 1)) (top_of f row) (top_of f (row + 1))

met_by : (f : Frame) (e : Edge) (row col : ℕ) → is_row_of Strip f e row ≡ true
    → is_met f e (row, col) ≡ (meets_column f e col && (lefts f e row col && rights f e row col))
met_by f e row col is =
    let corner : ℕ → ℕ → ℤ × ℤ = λ i j. corner_of f i j in
    ap (λ (p : Bool). p && (meets_column f e col && (list_any (is_left_of e) (corners_of f (row, col)) && list_any (is_right_of e) (corners_of f (row, col))))) is
    ∙ ap (λ (p : Bool). meets_column f e col && (p && list_any (is_right_of e) (corners_of f (row, col))))
    (any_four (is_left_of e (corner row col)) (is_left_of e (corner row (col + 1))) (is_left_of e (corner (row + 1) col)) (is_left_of e (corner (row + 1) (col + 1))))
    ∙ ap (λ (p : Bool). meets_column f e col && (lefts f e row col && p))
    (any_four (is_right_of e (corner row col)) (is_right_of e (corner row (col + 1))) (is_right_of e (corner (row + 1) col)) (is_right_of e (corner (row + 1) (col + 1))))

-- an edge seen from its other end

strip_back : (f : Frame) (p q : Pt) (row : ℕ) → is_row_of Strip f (q, p) row ≡ is_row_of Strip f (p, q) row
strip_back f p q row =
    rw (same_test q.x p.x, same_test q.y p.y, least_back q.y p.y, most_back q.y p.y) refl
  where
    same_test : (m n : ℤ) → int_eq m n ≡ int_eq n m
    same_test m n = grind (arith, ints)

    least_back : (m n : ℤ) → int_min m n ≡ int_min n m
    least_back m n = grind (arith, ints)

    most_back : (m n : ℤ) → int_max m n ≡ int_max n m
    most_back m n = grind (arith, ints)

across_back : (f : Frame) (p q : Pt) (col : ℕ) → meets_column f (q, p) col ≡ meets_column f (p, q) col
across_back f p q col = rw (least_back q.x p.x, most_back q.x p.x) refl
  where
    least_back : (m n : ℤ) → int_min m n ≡ int_min n m
    least_back m n = grind (arith, ints)

    most_back : (m n : ℤ) → int_max m n ≡ int_max n m
    most_back m n = grind (arith, ints)

pub is_across_back : (f : Frame) (p q : Pt) (from to : ℕ) → IsAcross f (p, q) from to → IsAcross f (q, p) from to
is_across_back f p q from to across = record {
  from_within = across.from_within;
  to_within = across.to_within;
  at = λ col in_cols. across_back f p q col ∙ across.at col in_cols;
}

and_swap : (p q r : Bool) → (p && (q && r)) ≡ (p && (r && q))
and_swap true true true = refl
and_swap true true false = refl
and_swap true false true = refl
and_swap true false false = refl
and_swap false q r = refl

met_back : (f : Frame) (p q : Pt) (row col : ℕ) → is_row_of Strip f (p, q) row ≡ true → is_met f (q, p) (row, col) ≡ is_met f (p, q) (row, col)
met_back f p q row col is =
    let swap = sides_swap p q (left_of f col) (left_of f (col + 1)) (top_of f row) (top_of f (row + 1)) in
    met_by f (q, p) row col (strip_back f p q row ∙ is)
    ∙ ap (λ (x : Bool). x && (lefts f (q, p) row col && rights f (q, p) row col)) (across_back f p q col)
    ∙ ap (λ (x : Bool). meets_column f (p, q) col && (x && rights f (q, p) row col)) swap.0
    ∙ ap (λ (x : Bool). meets_column f (p, q) col && (rights f (p, q) row col && x)) swap.1
    ∙ and_swap (meets_column f (p, q) col) (rights f (p, q) row col) (lefts f (p, q) row col)
    ∙ sym (met_by f (p, q) row col is)

pub stretch_back : (f : Frame) (p q : Pt) (row from to : ℕ) → (is_row_of Strip f (p, q) row ≡ true → IsStretch f (p, q) row from to)
    → is_row_of Strip f (q, p) row ≡ true → IsStretch f (q, p) row from to
stretch_back f p q row from to stretch is =
    let there : is_row_of Strip f (p, q) row ≡ true = sym (strip_back f p q row) ∙ is in
    let s = stretch there in
    record { from_within = s.from_within; to_within = s.to_within; at = λ col in_cols. met_back f p q row col there ∙ s.at col in_cols }

-- an edge that leads up

narrowed : (from to first end col : ℕ) → (is_from_to from to col && (nat_lt col end && nat_le first col)) ≡ is_from_to (max from first) (min to end) col
narrowed from to first end col = grind (arith, nat_tests)

pub stretch_right : (f : Frame) (p q : Pt) (row from to first end : ℕ) → IsFrame f → row < f.nrows → pos 0 <ℤ (q.y -ℤ p.y) → p.x ≤ℤ q.x → IsAcross f (p, q) from to
    → IsFirstRight f (p, q) (top_of f (row + 1)) first → IsEndLeft f (p, q) (top_of f row) end
    → is_row_of Strip f (p, q) row ≡ true → IsStretch f (p, q) row (max from first) (min to end)
stretch_right f p q row from to first end is in_rows up right across past before in_strip = record {
  from_within = omega (arith, across.from_within, past.within);
  to_within = omega (arith, across.to_within, before.within);
  at = λ col in_cols.
      let sides = leads_right p q (left_of f col) (left_of f (col + 1)) (top_of f row) (top_of f (row + 1)) up right (wide f col is) (high f row is in_rows) in
      met_by f (p, q) row col in_strip
      ∙ ap (λ (x : Bool). x && (lefts f (p, q) row col && rights f (p, q) row col)) (across.at col in_cols)
      ∙ ap (λ (x : Bool). is_from_to from to col && (x && rights f (p, q) row col)) (sides.0 ∙ before.at col in_cols)
      ∙ ap (λ (x : Bool). is_from_to from to col && (nat_lt col end && x)) (sides.1 ∙ past.at col in_cols)
      ∙ narrowed from to first end col;
}

pub stretch_left : (f : Frame) (p q : Pt) (row from to first end : ℕ) → IsFrame f → row < f.nrows → pos 0 <ℤ (q.y -ℤ p.y) → q.x <ℤ p.x → IsAcross f (p, q) from to
    → IsFirstRight f (p, q) (top_of f row) first → IsEndLeft f (p, q) (top_of f (row + 1)) end
    → is_row_of Strip f (p, q) row ≡ true → IsStretch f (p, q) row (max from first) (min to end)
stretch_left f p q row from to first end is in_rows up left across past before in_strip = record {
  from_within = omega (arith, across.from_within, past.within);
  to_within = omega (arith, across.to_within, before.within);
  at = λ col in_cols.
      let sides = leads_left p q (left_of f col) (left_of f (col + 1)) (top_of f row) (top_of f (row + 1)) up left (wide f col is) (high f row is in_rows) in
      met_by f (p, q) row col in_strip
      ∙ ap (λ (x : Bool). x && (lefts f (p, q) row col && rights f (p, q) row col)) (across.at col in_cols)
      ∙ ap (λ (x : Bool). is_from_to from to col && (x && rights f (p, q) row col)) (sides.0 ∙ before.at col in_cols)
      ∙ ap (λ (x : Bool). is_from_to from to col && (nat_lt col end && x)) (sides.1 ∙ past.at col in_cols)
      ∙ narrowed from to first end col;
}

-- the columns that the code finds

same_ends : (f : Frame) (e : Edge) (row from to from2 to2 : ℕ) → from2 ≡ from → to2 ≡ to → IsStretch f e row from to → IsStretch f e row from2 to2
same_ends f e row from to from2 to2 is_from is_to stretch =
    subst (λ (n : ℕ). IsStretch f e row n to2) (sym is_from) (subst (λ (n : ℕ). IsStretch f e row from n) (sym is_to) stretch)

pub beside_right : (f : Frame) (p q : Pt) (row : ℕ) (top bottom : ℤ) (all some : Columns) → IsFrame f → row < f.nrows → pos 0 <ℤ (q.y -ℤ p.y) → p.x ≤ℤ q.x
    → IsAcross f (p, q) all.from all.to → top ≡ top_of f row → bottom ≡ top_of f (row + 1) → AreBeside f (p, q) top bottom all some
    → is_row_of Strip f (p, q) row ≡ true → IsStretch f (p, q) row some.from some.to
beside_right f p q row top bottom all some is in_rows up right across is_top is_bottom beside in_strip =
    same_ends f (p, q) row (max all.from beside.first) (min all.to beside.end) some.from some.to beside.from beside.to
    (stretch_right f p q row all.from all.to beside.first beside.end is in_rows up right across
    (subst (λ (y : ℤ). IsFirstRight f (p, q) y beside.first) is_bottom beside.past) (subst (λ (y : ℤ). IsEndLeft f (p, q) y beside.end) is_top beside.before) in_strip)

pub beside_left : (f : Frame) (p q : Pt) (row : ℕ) (top bottom : ℤ) (all some : Columns) → IsFrame f → row < f.nrows → pos 0 <ℤ (q.y -ℤ p.y) → q.x <ℤ p.x
    → IsAcross f (p, q) all.from all.to → top ≡ top_of f row → bottom ≡ top_of f (row + 1) → AreBeside f (p, q) bottom top all some
    → is_row_of Strip f (p, q) row ≡ true → IsStretch f (p, q) row some.from some.to
beside_left f p q row top bottom all some is in_rows up left across is_top is_bottom beside in_strip =
    same_ends f (p, q) row (max all.from beside.first) (min all.to beside.end) some.from some.to beside.from beside.to
    (stretch_left f p q row all.from all.to beside.first beside.end is in_rows up left across
    (subst (λ (y : ℤ). IsFirstRight f (p, q) y beside.first) is_top beside.past) (subst (λ (y : ℤ). IsEndLeft f (p, q) y beside.end) is_bottom beside.before) in_strip)

-- straight edges meet all cells of their columns

implied : (m s : Bool) → (m ≡ true → s ≡ true) → (m && s) ≡ m
implied true s follows = follows refl
implied false s follows = refl

below : (m n : ℤ) → int_lt m n ≡ true → m <ℤ n
below m n is = grind (arith, ints, is)

test_below : (m n : ℤ) → m <ℤ n → int_lt m n ≡ true
test_below m n is = grind (arith, ints, is)

min_same : (m n z : ℤ) → m ≡ n → int_min m n <ℤ z → m <ℤ z
min_same m n z same less = grind (arith, ints, same, less)

max_same : (m n z : ℤ) → m ≡ n → z <ℤ int_max m n → z <ℤ m
max_same m n z same less = grind (arith, ints, same, less)

stands : (f : Frame) (p q : Pt) (row from to : ℕ) → IsAcross f (p, q) from to → is_row_of Strip f (p, q) row ≡ true
    → ((col : ℕ) → meets_column f (p, q) col ≡ true → (lefts f (p, q) row col && rights f (p, q) row col) ≡ true) → IsStretch f (p, q) row from to
stands f p q row from to across in_strip follows = record {
  from_within = across.from_within;
  to_within = across.to_within;
  at = λ col in_cols. met_by f (p, q) row col in_strip ∙ implied (meets_column f (p, q) col) (lefts f (p, q) row col && rights f (p, q) row col) (follows col) ∙ across.at col in_cols;
}

no_way : (u z : ℤ) → u ≡ pos 0 → u *ℤ z ≡ pos 0
no_way u z none = ap (λ (w : ℤ). w *ℤ z) none ∙ *ℤ_comm (pos 0) z ∙ *ℤ-zero z

upright_up : (f : Frame) (p q : Pt) (row from to : ℕ) → IsFrame f → row < f.nrows → p.x ≡ q.x → pos 0 <ℤ (q.y -ℤ p.y) → IsAcross f (p, q) from to
    → is_row_of Strip f (p, q) row ≡ true → IsStretch f (p, q) row from to
upright_up f p q row from to is in_rows same up across in_strip = stands f p q row from to across in_strip (λ col meets.
    let l : ℤ = left_of f col in
    let r : ℤ = left_of f (col + 1) in
    let t : ℤ = top_of f row in
    let b : ℤ = top_of f (row + 1) in
    let parts = and_parts (int_lt (int_min p.x q.x) r) (int_lt l (int_max p.x q.x)) meets in
    let before : p.x <ℤ r = min_same p.x q.x r same (below (int_min p.x q.x) r parts.0) in
    let past : l <ℤ p.x = max_same p.x q.x l same (below l (int_max p.x q.x) parts.1) in
    let sides = leads_right p q l r t b up (omega (arith, ints, same)) (wide f col is) (high f row is in_rows) in
    let left_product = product_below (q.y -ℤ p.y) (l -ℤ p.x) up (omega (arith, ints, past)) in
    let right_product = product_some (q.y -ℤ p.y) (r -ℤ p.x) up (omega (arith, ints, before)) in
    let left : pos 0 <ℤ turn_at (p, q) (l, t) = omega (arith, ints, left_product, no_way (q.x -ℤ p.x) (t -ℤ p.y) (omega (arith, ints, same))) in
    let right : turn_at (p, q) (r, b) <ℤ pos 0 = omega (arith, ints, right_product, no_way (q.x -ℤ p.x) (b -ℤ p.y) (omega (arith, ints, same))) in
    ap (λ (x : Bool). x && rights f (p, q) row col) (sides.0 ∙ test_below (pos 0) (turn_at (p, q) (l, t)) left)
    ∙ sides.1 ∙ test_below (turn_at (p, q) (r, b)) (pos 0) right)

level_right : (f : Frame) (p q : Pt) (row from to : ℕ) → p.y ≡ q.y → pos 0 <ℤ (q.x -ℤ p.x) → IsAcross f (p, q) from to
    → is_row_of Strip f (p, q) row ≡ true → IsStretch f (p, q) row from to
level_right f p q row from to same right across in_strip = stands f p q row from to across in_strip (λ col meets.
    let l : ℤ = left_of f col in
    let r : ℤ = left_of f (col + 1) in
    let t : ℤ = top_of f row in
    let b : ℤ = top_of f (row + 1) in
    let strip = and_parts (int_lt (int_min p.y q.y) t) (int_lt b (int_max p.y q.y)) (and_parts (has_length (p, q)) (meets_strip f (p, q) row) in_strip).1 in
    let lower : p.y <ℤ t = min_same p.y q.y t same (below (int_min p.y q.y) t strip.0) in
    let upper : b <ℤ p.y = max_same p.y q.y b same (below b (int_max p.y q.y) strip.1) in
    let up_product = product_some (q.x -ℤ p.x) (t -ℤ p.y) right (omega (arith, ints, lower)) in
    let down_product = product_below (q.x -ℤ p.x) (b -ℤ p.y) right (omega (arith, ints, upper)) in
    let left_up : pos 0 <ℤ turn_at (p, q) (l, t) = omega (arith, ints, up_product, no_way (q.y -ℤ p.y) (l -ℤ p.x) (omega (arith, ints, same))) in
    let right_down : turn_at (p, q) (r, b) <ℤ pos 0 = omega (arith, ints, down_product, no_way (q.y -ℤ p.y) (r -ℤ p.x) (omega (arith, ints, same))) in
    both_sides (turn_at (p, q) (l, t)) (turn_at (p, q) (r, t)) (turn_at (p, q) (l, b)) (turn_at (p, q) (r, b)) left_up right_down)
  where
    both_sides : (w0 w1 w2 w3 : ℤ) → pos 0 <ℤ w0 → w3 <ℤ pos 0
        → ((int_lt (pos 0) w0 || int_lt (pos 0) w1 || int_lt (pos 0) w2 || int_lt (pos 0) w3) && (int_lt w0 (pos 0) || int_lt w1 (pos 0) || int_lt w2 (pos 0) || int_lt w3 (pos 0))) ≡ true
    both_sides w0 w1 w2 w3 first last = grind (arith, ints, first, last)

-- the two ends of an edge with length differ
has_way : (p q : Pt) → has_length (p, q) ≡ true → p.x ≡ q.x → (pos 0 <ℤ (q.y -ℤ p.y)) ⊎ (pos 0 <ℤ (p.y -ℤ q.y))
has_way p q long same = decide (int_eq p.x q.x) (int_eq p.y q.y) (int_lt p.y q.y) refl refl refl
  where
    decide : (a b c : Bool) → int_eq p.x q.x ≡ a → int_eq p.y q.y ≡ b → int_lt p.y q.y ≡ c → (pos 0 <ℤ (q.y -ℤ p.y)) ⊎ (pos 0 <ℤ (p.y -ℤ q.y))
    decide true true c one two three = absurd (cc (long, one, two))
    decide true false true one two three = inl (up p.y q.y three)
      where
        up : (m n : ℤ) → int_lt m n ≡ true → pos 0 <ℤ (n -ℤ m)
        up m n less = grind (arith, ints, less)
    decide true false false one two three = inr (down p.y q.y two three)
      where
        down : (m n : ℤ) → int_eq m n ≡ false → int_lt m n ≡ false → pos 0 <ℤ (m -ℤ n)
        down m n other more = grind (arith, ints, other, more)
    decide false b c one two three = absurd (differ p.x q.x same one)
      where
        differ : (m n : ℤ) → m ≡ n → int_eq m n ≡ false → ⊥
        differ m n equal other = grind (arith, ints, equal, other)

pub stretch_upright : (f : Frame) (a b : Pt) (row from to : ℕ) → IsFrame f → row < f.nrows → a.x ≡ b.x → IsAcross f (a, b) from to
    → is_row_of Strip f (a, b) row ≡ true → IsStretch f (a, b) row from to
stretch_upright f a b row from to is in_rows same across in_strip = elim (has_way a b (and_parts (has_length (a, b)) (meets_strip f (a, b) row) in_strip).0 same) [
  | inl up ↦ upright_up f a b row from to is in_rows same up across in_strip
  | inr down ↦ stretch_back f b a row from to (λ there. upright_up f b a row from to is in_rows (sym same) down (is_across_back f a b from to across) there) in_strip
]

pub stretch_level : (f : Frame) (a b : Pt) (row from to : ℕ) → (a.x ≡ b.x → ⊥) → a.y ≡ b.y → IsAcross f (a, b) from to
    → is_row_of Strip f (a, b) row ≡ true → IsStretch f (a, b) row from to
stretch_level f a b row from to other same across in_strip = decide (int_lt a.x b.x) refl
  where
    decide : (c : Bool) → int_lt a.x b.x ≡ c → IsStretch f (a, b) row from to
    decide true less = level_right f a b row from to same (right a.x b.x less) across in_strip
      where
        right : (m n : ℤ) → int_lt m n ≡ true → pos 0 <ℤ (n -ℤ m)
        right m n is = grind (arith, ints, is)
    decide false more = stretch_back f b a row from to (λ there. level_right f b a row from to (sym same) (left a.x b.x other more) (is_across_back f a b from to across) there) in_strip
      where
        left : (m n : ℤ) → (m ≡ n → ⊥) → int_lt m n ≡ false → pos 0 <ℤ (m -ℤ n)
        left m n apart is = grind (arith, ints, apart, is)

-- what comparisons say

pub equal : (m n : ℤ) → int_eq m n ≡ true → m ≡ n
equal m n is = grind (arith, ints, is)

pub apart : (m n : ℤ) → int_eq m n ≡ false → m ≡ n → ⊥
apart m n other is = grind (arith, ints, other, is)

pub at_most : (m n : ℤ) → int_le m n ≡ true → m ≤ℤ n
at_most m n is = grind (arith, ints, is)

pub above : (m n : ℤ) → int_le m n ≡ false → n <ℤ m
above m n is = grind (arith, ints, is)

-- numbers as the code computes them

pub some_fall : (q p : ℤ) (rise fall cell : ℤ) → pos 0 <ℤ cell → pos 0 <ℤ (q -ℤ p) → rise ≡ q -ℤ p → fall ≡ rise *ℤ cell → pos 0 <ℤ fall
some_fall q p rise fall cell some up is_rise is_fall = rw is_fall (product_some rise cell (omega (arith, ints, up, is_rise)) some)

pub first_right_by : (f : Frame) (edge : RisingEdge) (y x z turn reach fall : ℤ) (k : ℕ) → IsFrame f → fall ≡ (edge.high.y -ℤ edge.low.y) *ℤ f.cell
    → x ≡ (corner_of f 0 1).0 → z ≡ y → turn ≡ turn_at (ends_of edge) (x, z) → reach ≡ turn +ℤ pos 1 → IsLeastSteps reach fall f.ncols k → IsFirstRight f (ends_of edge) y k
first_right_by f edge y x z turn reach fall k is is_fall is_x is_z is_turn is_reach steps =
    is_first_right f edge.low edge.high y turn reach fall k is is_fall (is_turn ∙ ap (λ (w : ℤ). turn_at (ends_of edge) (w, z)) is_x ∙ ap (λ (w : ℤ). turn_at (ends_of edge) ((corner_of f 0 1).0, w)) is_z) is_reach steps

pub end_left_by : (f : Frame) (edge : RisingEdge) (y x z turn reach fall : ℤ) (k : ℕ) → IsFrame f → fall ≡ (edge.high.y -ℤ edge.low.y) *ℤ f.cell
    → x ≡ (corner_of f 0 0).0 → z ≡ y → turn ≡ turn_at (ends_of edge) (x, z) → reach ≡ turn → IsLeastSteps reach fall f.ncols k → IsEndLeft f (ends_of edge) y k
end_left_by f edge y x z turn reach fall k is is_fall is_x is_z is_turn is_reach steps =
    is_end_left f edge.low edge.high y reach fall k is is_fall (is_reach ∙ is_turn ∙ ap (λ (w : ℤ). turn_at (ends_of edge) (w, z)) is_x ∙ ap (λ (w : ℤ). turn_at (ends_of edge) ((corner_of f 0 0).0, w)) is_z) steps
