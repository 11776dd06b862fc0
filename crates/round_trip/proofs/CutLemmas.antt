-- A side counts for a cell's centre exactly where an odd number of its unit edges are crossed.
use Rattle.std.proofs.Common.{◌≡◌, ℕ, zero, suc, ◌+◌, ◌<◌, ◌≤◌, ◌⊎◌, inl, inr, Bool, true, false, [], refl, sym, ap, ◌∙◌, subst, arith}
use Rattle.std.specs.Prelude.{◌&&◌, nat_le, All}
use Rattle.std.proofs.lemmas.Bool.Decides.{nat_tests}
use Rattle.std.proofs.lemmas.List.Elements.{All-head, All-tail}
use Rattle.cell_base.specs.Raster.{Place}
use Rattle.geo_transform.specs.Corner.{centre2_of}
use Rattle.geo_transform.specs.Frame.{IsFrame}
use Rattle.geo_transform.specs.declared.frame.Frame.{Frame}
use Rattle.edge_trace.specs.Edge.{Corner, Edge, IsUnitEdge}
use Rattle.edge_trace.specs.Crossing.{is_crossed}
use Rattle.std.proofs.Math.Bool.{xor}
use Rattle.edge_trace.proofs.ParityLemmas.{is_odd, xor_joins}
use Rattle.std.specs.Int.{abs_diff}
use Rattle.ring_faces.specs.Ring.{cut, edges_towards, nearer}
use Rattle.burn_scanline.specs.Ring.{Edge as Side}
use Rattle.burn_scanline.specs.Centre.{counts}
use Rattle.tool_outcome.specs.Polygonize.{point_of}
use Rattle.round_trip.proofs.SideLemmas.{spans, counts_spans, counts_none}

-- a unit edge between corners of so many rows
pub record IsGood (nrows : ℕ) (e : Edge) : Type 0 where
  pub unit : IsUnitEdge e
  pub start : e.0.0 ≤ nrows
  pub end : e.1.0 ≤ nrows

-- a side runs along a row or a column
abbrev pub IsStraight : Edge → Type 0
IsStraight e = (e.0.0 ≡ e.1.0) ⊎ (e.0.1 ≡ e.1.1)

pub no_way : (a b : Corner) → abs_diff a.0 b.0 + abs_diff a.1 b.1 ≡ 0 → a ≡ b
no_way a b far =
    let rows : a.0 ≡ b.0 = omega (arith, far) in
    let cols : a.1 ≡ b.1 = omega (arith, far) in
    let same : (a.0, a.1) ≡ (b.0, b.1) = cc in
    same

pub stays : (m n : ℕ) → m ≡ nearer m n → m ≡ n
stays m n same = grind (arith, nat_tests)

pub less_left : (a b : Corner) (n : ℕ) → abs_diff a.0 b.0 + abs_diff a.1 b.1 ≡ suc n → IsUnitEdge (a, (nearer a.0 b.0, nearer a.1 b.1)) → abs_diff (nearer a.0 b.0) b.0 + abs_diff (nearer a.1 b.1) b.1 ≡ n
less_left a b n far (inl (row, next)) = grind (arith, nat_tests)
less_left a b n far (inr (col, next)) = grind (arith, nat_tests)

-- a side whose first edge is a unit edge is straight
straight_by : (a b : Corner) → IsUnitEdge (a, (nearer a.0 b.0, nearer a.1 b.1)) → IsStraight (a, b)
straight_by a b (inl (row, next)) = inl (stays a.0 b.0 row)
straight_by a b (inr (col, next)) = inr (stays a.1 b.1 col)

crossed_spans : (cell : Place) (e : Edge) → IsUnitEdge e → is_crossed cell e ≡ spans cell e
unfolding xor
crossed_spans cell e (inl (row, next)) = grind (arith, nat_tests)
crossed_spans cell e (inr (col, next)) = grind (arith, nat_tests)

join_upright : (l p t q : Bool) → xor (l && xor p t) (l && xor t q) ≡ (l && xor p q)
unfolding xor
join_upright true p t q = xor_joins p t q
join_upright false p t q = refl

join_level : (l m p : Bool) → xor (l && xor p p) (m && xor p p) ≡ (l && xor p p)
unfolding xor
join_level true true true = refl
join_level true true false = refl
join_level true false true = refl
join_level true false false = refl
join_level false true true = refl
join_level false true false = refl
join_level false false true = refl
join_level false false false = refl

-- cut at a corner on the way
spans_joins : (cell : Place) (a t b : Corner) → ((a.0 ≡ t.0) × (a.0 ≡ b.0)) ⊎ ((a.1 ≡ t.1) × (a.1 ≡ b.1)) → xor (spans cell (a, t)) (spans cell (t, b)) ≡ spans cell (a, b)
spans_joins cell a t b (inl level) =
    let p : ℕ → Bool = λ i. nat_le i cell.0 in
    ap (λ (i : ℕ). xor (nat_le a.1 cell.1 && xor (p a.0) (p i)) (nat_le t.1 cell.1 && xor (p i) (p b.0))) (sym level.0)
    ∙ ap (λ (i : ℕ). xor (nat_le a.1 cell.1 && xor (p a.0) (p a.0)) (nat_le t.1 cell.1 && xor (p a.0) (p i))) (sym level.1)
    ∙ join_level (nat_le a.1 cell.1) (nat_le t.1 cell.1) (p a.0)
    ∙ ap (λ (i : ℕ). nat_le a.1 cell.1 && xor (p a.0) (p i)) level.1
spans_joins cell a t b (inr upright) =
    let p : ℕ → Bool = λ i. nat_le i cell.0 in
    ap (λ (j : ℕ). xor (nat_le a.1 cell.1 && xor (p a.0) (p t.0)) (nat_le j cell.1 && xor (p t.0) (p b.0))) (sym upright.0)
    ∙ join_upright (nat_le a.1 cell.1) (p a.0) (p t.0) (p b.0)

on_the_way : (a b : Corner) → IsUnitEdge (a, (nearer a.0 b.0, nearer a.1 b.1)) → ((a.0 ≡ nearer a.0 b.0) × (a.0 ≡ b.0)) ⊎ ((a.1 ≡ nearer a.1 b.1) × (a.1 ≡ b.1))
on_the_way a b (inl (row, next)) = inl (row, stays a.0 b.0 row)
on_the_way a b (inr (col, next)) = inr (col, stays a.1 b.1 col)

nothing : (l p : Bool) → (l && xor p p) ≡ false
unfolding xor
nothing true true = refl
nothing true false = refl
nothing false p = refl

spans_none : (cell : Place) (a b : Corner) → a ≡ b → spans cell (a, b) ≡ false
spans_none cell a b same = ap (λ (c : Corner). spans cell (a, c)) (sym same) ∙ nothing (nat_le a.1 cell.1) (nat_le a.0 cell.0)

-- the parity of the crossed edges of a side
spans_odd : (cell : Place) (nrows n : ℕ) (a b : Corner) → abs_diff a.0 b.0 + abs_diff a.1 b.1 ≡ n → All (IsGood nrows) (edges_towards n a b) → spans cell (a, b) ≡ is_odd (is_crossed cell) (edges_towards n a b)
spans_odd cell nrows zero a b far all = spans_none cell a b (no_way a b far)
spans_odd cell nrows (suc n) a b far all =
    let t : Corner = (nearer a.0 b.0, nearer a.1 b.1) in
    let unit = (All-head (IsGood nrows) (a, t) (edges_towards n t b) all).unit in
    sym (spans_joins cell a t b (on_the_way a b unit))
    ∙ ap (λ (x : Bool). xor x (spans cell (t, b))) (sym (crossed_spans cell (a, t) unit))
    ∙ ap (xor (is_crossed cell (a, t))) (spans_odd cell nrows n t b (less_left a b n far unit) (All-tail (IsGood nrows) (a, t) (edges_towards n t b) all))

-- the last corner of a side is in the rows too
last_low : (nrows n : ℕ) (a b : Corner) → abs_diff a.0 b.0 + abs_diff a.1 b.1 ≡ suc n → All (IsGood nrows) (edges_towards (suc n) a b) → b.0 ≤ nrows
last_low nrows zero a b far all =
    let t : Corner = (nearer a.0 b.0, nearer a.1 b.1) in
    let good = All-head (IsGood nrows) (a, t) [] all in
    let same : t ≡ b = no_way t b (less_left a b 0 far good.unit) in
    subst (λ (c : Corner). c.0 ≤ nrows) same good.end
last_low nrows (suc n) a b far all =
    let t : Corner = (nearer a.0 b.0, nearer a.1 b.1) in
    let good = All-head (IsGood nrows) (a, t) (edges_towards (suc n) t b) all in
    last_low nrows n t b (less_left a b (suc n) far good.unit) (All-tail (IsGood nrows) (a, t) (edges_towards (suc n) t b) all)

-- a corner's side as it is written
abbrev pub side_at : Frame → Edge → Side
side_at f e = (point_of f e.0, point_of f e.1)

side_by : (f : Frame) → IsFrame f → (cell : Place) → cell.0 < f.nrows → (n : ℕ) (a b : Corner) → abs_diff a.0 b.0 + abs_diff a.1 b.1 ≡ n → All (IsGood f.nrows) (edges_towards n a b) → counts (centre2_of f cell.0 cell.1) (side_at f (a, b)) ≡ is_odd (is_crossed cell) (edges_towards n a b)
side_by f is cell in_row zero a b far all = ap (λ (c : Corner). counts (centre2_of f cell.0 cell.1) (point_of f a, point_of f c)) (sym (no_way a b far)) ∙ counts_none (centre2_of f cell.0 cell.1) (point_of f a)
side_by f is cell in_row (suc n) a b far all =
    let t : Corner = (nearer a.0 b.0, nearer a.1 b.1) in
    let good = All-head (IsGood f.nrows) (a, t) (edges_towards n t b) all in
    counts_spans f is cell in_row (a, b) good.start (last_low f.nrows n a b far all) (straight_by a b good.unit) ∙ spans_odd cell f.nrows (suc n) a b far all

-- a side counts exactly where an odd number of its edges are crossed
pub side_odd : (f : Frame) → IsFrame f → (cell : Place) → cell.0 < f.nrows → (e : Edge) → All (IsGood f.nrows) (cut e) → counts (centre2_of f cell.0 cell.1) (side_at f e) ≡ is_odd (is_crossed cell) (cut e)
side_odd f is cell in_row e all = side_by f is cell in_row (abs_diff e.0.0 e.1.0 + abs_diff e.0.1 e.1.1) e.0 e.1 refl all
