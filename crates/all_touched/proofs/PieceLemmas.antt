-- Pieces of rows that edges meet, one after another.
use Rattle.std.proofs.Common.{◌≡◌, ℕ, zero, suc, ◌+◌, ◌-◌, ◌*◌, ◌^◌, ◌<◌, ◌≤◌, ◌⊎◌, inl, inr, Bool, true, false, List, [], ◌∷◌, ◌++◌, Some, length, take, get_or, max, refl, sym, ap, ◌∙◌, subst, arith}
use Rattle.std.specs.Prelude.{◌&&◌, ◌||◌, ◌==◌, nat_le, nat_lt, All, map, slice_get, cond}
use Rattle.std.specs.List.{filter, list_any}
use Rattle.std.specs.List.Sorted.{IsPermutation}
use Rattle.std.proofs.lemmas.Bool.{and_parts, false_from_ne_true, cases_eq, cases_lt, or_cases, or_left, or_right, le-ltb, lt-ltb}
use Rattle.std.proofs.lemmas.Bool.Decides.{nat_tests}
use Rattle.std.proofs.Math.Nat.{mul-le-mul_left}
use Rattle.std.proofs.lemmas.Grind.{common_steps}
use Rattle.std.proofs.lemmas.List.{take_more}
use Rattle.std.proofs.lemmas.List.Elements.{All-append, All-cons, All-nil}
use Rattle.std.proofs.lemmas.List.Folds.{list_any-append}
use Rattle.std.proofs.lemmas.List.Sorted.{All-permutation, list_any-IsPermutation}
use Rattle.std.proofs.lemmas.Option.{get_or_from_slice_get, slice_get-get_or, slice_get_within}
use Rattle.cell_base.specs.Raster.{Place}
use Rattle.geo_transform.specs.Frame.{IsFrame}
use Rattle.geo_transform.specs.declared.frame.Frame.{Frame}
use Rattle.wkt_text.specs.declared.geometry.Geometry.{Geometry}
use Rattle.burn_scanline.specs.Ring.{Edge, all_edges}
use Rattle.burn_scanline.specs.Centre.{is_covered}
use Rattle.burn_scanline.specs.EdgeTable.{IsEdgeTable, IsSpanned, edge_of, has_row, is_row_of}
use Rattle.burn_scanline.specs.Runs.{AreApart, AreWithin, Covers, Run, has_cell, is_in_runs}
use Rattle.burn_scanline.specs.declared.edge_rows.SpannedEdge.{SpannedEdge}
use Rattle.burn_scanline.specs.declared.edge_rows.SpanRule.TheVariants.{Strip}
use Rattle.burn_scanline.proofs.LinkLemmas.{any_some}
use Rattle.all_touched.specs.Touched.{Touches, corners_of, is_left_of, is_met, is_right_of, is_touched, meets_column}
use Rattle.all_touched.specs.Inner.Stretch.{IsAcross, IsStretch, is_from_to}
use Rattle.all_touched.specs.Inner.Pieces.{Adds, AddsMet, AddsTable, AreGathered, AreInside, AreOrdered, AreSmall, HasPieces, Unites}

or_none : (a : Bool) → (a || false) ≡ a
or_none true = refl
or_none false = refl

or_joined : (a b c : Bool) → ((a || b) || c) ≡ (a || (b || c))
or_joined true b c = refl
or_joined false b c = refl

pub adds_none : (frame : Frame) (set : Place → Bool) (items : List Run) → ((p : Place) → p.0 < frame.nrows → p.1 < frame.ncols → set p ≡ false) → Adds frame set items items
adds_none frame set items none = record {
  cells = λ p in_rows in_cols. sym (ap (λ (b : Bool). is_in_runs items p || b) (none p in_rows in_cols) ∙ or_none (is_in_runs items p));
  inside = λ all. all;
}

same_set : (frame : Frame) (a b : Place → Bool) (old new : List Run) → ((p : Place) → p.0 < frame.nrows → p.1 < frame.ncols → a p ≡ b p) → Adds frame a old new → Adds frame b old new
same_set frame a b old new same adds = record {
  cells = λ p in_rows in_cols. adds.cells p in_rows in_cols ∙ ap (λ (x : Bool). is_in_runs old p || x) (same p in_rows in_cols);
  inside = adds.inside;
}

-- one piece more
adds_piece : (frame : Frame) (a b : Place → Bool) (old mid : List Run) (run : Run) → ((p : Place) → p.0 < frame.nrows → p.1 < frame.ncols → (a p || has_cell p run) ≡ b p)
    → (run.row < frame.nrows) × (run.from ≤ frame.ncols) × (run.to ≤ frame.ncols) → Adds frame a old mid → Adds frame b old (mid ++ run ∷ [])
adds_piece frame a b old mid run same within adds = record {
  cells = λ p in_rows in_cols.
      list_any-append (has_cell p) mid (run ∷ []) ∙ ap (λ (x : Bool). is_in_runs mid p || x) (or_none (has_cell p run))
      ∙ ap (λ (x : Bool). x || has_cell p run) (adds.cells p in_rows in_cols) ∙ or_joined (is_in_runs old p) (a p) (has_cell p run)
      ∙ ap (λ (x : Bool). is_in_runs old p || x) (same p in_rows in_cols);
  inside = λ all. All-append (λ piece. (piece.row < frame.nrows) × (piece.from ≤ frame.ncols) × (piece.to ≤ frame.ncols)) mid (run ∷ []) (adds.inside all)
      (All-cons (λ piece. (piece.row < frame.nrows) × (piece.from ≤ frame.ncols) × (piece.to ≤ frame.ncols)) run [] within (All-nil (λ piece. (piece.row < frame.nrows) × (piece.from ≤ frame.ncols) × (piece.to ≤ frame.ncols))));
}

-- an edge's own rows and columns

met_row : (frame : Frame) (e : Edge) (p : Place) → is_met frame e p ≡ true → is_row_of Strip frame e p.0 ≡ true
met_row frame e p is = (and_parts (is_row_of Strip frame e p.0) _ is).0

met_column : (frame : Frame) (e : Edge) (p : Place) → is_met frame e p ≡ true → meets_column frame e p.1 ≡ true
met_column frame e p is =
    let sides : Bool = list_any (is_left_of e) (corners_of frame p) && list_any (is_right_of e) (corners_of frame p) in
    (and_parts (meets_column frame e p.1) sides (and_parts (is_row_of Strip frame e p.0) (meets_column frame e p.1 && sides) is).1).0

met_span : (frame : Frame) (edge : SpannedEdge) (p : Place) → IsSpanned Strip frame edge → p.0 < frame.nrows → is_met frame (edge_of edge) p ≡ true
    → (edge.first ≤ p.0) × (p.0 ≤ edge.last)
met_span frame edge p spanned in_rows is =
    let both = and_parts (nat_le edge.first p.0) (nat_le p.0 edge.last) (sym (spanned.rows p.0 in_rows) ∙ met_row frame (edge_of edge) p is) in
    (at_least edge.first p.0 both.0, at_least p.0 edge.last both.1)
  where
    at_least : (m n : ℕ) → nat_le m n ≡ true → m ≤ n
    at_least m n holds = grind (arith, nat_tests, holds)

no_columns : (from to col : ℕ) → to ≤ from → is_from_to from to col ≡ false
no_columns from to col less = grind (arith, nat_tests, less)

-- an edge whose widths meet no column
pub adds_no_column : (frame : Frame) (e : Edge) (from to : ℕ) (items : List Run) → IsAcross frame e from to → to ≤ from → AddsMet frame e items items
adds_no_column frame e from to items across less = adds_none frame (λ p. is_met frame e p) items (λ p in_rows in_cols.
    false_from_ne_true (is_met frame e p) (λ is. true_false (sym (met_column frame e p is) ∙ across.at p.1 in_cols ∙ no_columns from to p.1 less)))
  where
    true_false : true ≡ false → ⊥
    true_false same = cc

-- the cells that an edge meets in the rows before one
abbrev pub met_above : Frame → Edge → ℕ → Place → Bool
met_above frame e row p = nat_lt p.0 row && is_met frame e p

pub rows_none : (frame : Frame) (edge : SpannedEdge) (items : List Run) → IsSpanned Strip frame edge → Adds frame (met_above frame (edge_of edge) edge.first) items items
rows_none frame edge items spanned = adds_none frame (met_above frame (edge_of edge) edge.first) items (λ p in_rows in_cols.
    false_from_ne_true (met_above frame (edge_of edge) edge.first p) (λ is.
    let parts = and_parts (nat_lt p.0 edge.first) (is_met frame (edge_of edge) p) is in
    apart p.0 edge.first parts.0 (met_span frame edge p spanned in_rows parts.1).0))
  where
    apart : (m n : ℕ) → nat_lt m n ≡ true → n ≤ m → ⊥
    apart m n less more = grind (arith, nat_tests, less, more)

row_cases : (frame : Frame) (e : Edge) (row from to : ℕ) (p : Place) → IsStretch frame e row from to → p.1 < frame.ncols
    → (met_above frame e row p || has_cell p (record { row = row; from = from; to = to })) ≡ met_above frame e (row + 1) p
row_cases frame e row from to p stretch in_cols = elim (cases_eq row p.0) [
  | inl here ↦
      let met : is_met frame e p ≡ is_from_to from to p.1 = ap (λ (r : ℕ). is_met frame e (r, p.1)) (sym here) ∙ stretch.at p.1 in_cols in
      at_row row p.0 (is_met frame e p) (is_from_to from to p.1) here met
  | inr elsewhere ↦ off_row row p.0 (is_met frame e p) (is_from_to from to p.1) elsewhere
]
  where
    at_row : (r q : ℕ) (m s : Bool) → r ≡ q → m ≡ s → ((nat_lt q r && m) || ((r == q) && s)) ≡ (nat_lt q (r + 1) && m)
    at_row r q m s same is = grind (arith, nat_tests, same, is)

    off_row : (r q : ℕ) (m s : Bool) → (r ≡ q → ⊥) → ((nat_lt q r && m) || ((r == q) && s)) ≡ (nat_lt q (r + 1) && m)
    off_row r q m s other = grind (arith, nat_tests, other)

pub rows_more : (frame : Frame) (edge : SpannedEdge) (row from to : ℕ) (old mid new : List Run) → IsSpanned Strip frame edge → edge.first ≤ row → row ≤ edge.last
    → (is_row_of Strip frame (edge_of edge) row ≡ true → IsStretch frame (edge_of edge) row from to) → new ≡ mid ++ record { row = row; from = from; to = to } ∷ []
    → Adds frame (met_above frame (edge_of edge) row) old mid → Adds frame (met_above frame (edge_of edge) (row + 1)) old new
rows_more frame edge row from to old mid new spanned low high stretch_if is adds =
    let in_rows : row < frame.nrows = omega (arith, high, spanned.within) in
    let own : (nat_le edge.first row && nat_le row edge.last) ≡ true = between edge.first row edge.last low high in
    let stretch = stretch_if (spanned.rows row in_rows ∙ own) in
    subst (λ (items : List Run). Adds frame (met_above frame (edge_of edge) (row + 1)) old items) (sym is)
    (adds_piece frame (met_above frame (edge_of edge) row) (met_above frame (edge_of edge) (row + 1)) old mid (record { row = row; from = from; to = to })
    (λ p p_rows p_cols. row_cases frame (edge_of edge) row from to p stretch p_cols) (in_rows, stretch.from_within, stretch.to_within) adds)
  where
    between : (a r b : ℕ) → a ≤ r → r ≤ b → (nat_le a r && nat_le r b) ≡ true
    between a r b one two = grind (arith, nat_tests, one, two)

pub rows_done : (frame : Frame) (edge : SpannedEdge) (row : ℕ) (old new : List Run) → IsSpanned Strip frame edge → edge.last + 1 ≤ row
    → Adds frame (met_above frame (edge_of edge) row) old new → AddsMet frame (edge_of edge) old new
rows_done frame edge row old new spanned end adds =
    same_set frame (met_above frame (edge_of edge) row) (λ p. is_met frame (edge_of edge) p) old new (λ p in_rows in_cols. whole (is_met frame (edge_of edge) p) p.0 row (λ is.
    omega (arith, end, (met_span frame edge p spanned in_rows is).1))) adds
  where
    whole : (m : Bool) (q r : ℕ) → (m ≡ true → q < r) → (nat_lt q r && m) ≡ m
    whole true q r less = and_true (nat_lt q r) (lt-ltb q r (less refl))
      where
        and_true : (a : Bool) → a ≡ true → (a && true) ≡ true
        and_true a is = ap (λ (b : Bool). b && true) is
    whole false q r less = and_false (nat_lt q r)
      where
        and_false : (a : Bool) → (a && false) ≡ false
        and_false true = refl
        and_false false = refl

-- the edges of a table

abbrev pub meets_one : Frame → Place → SpannedEdge → Bool
meets_one frame p edge = is_met frame (edge_of edge) p

pub table_none : (frame : Frame) (items : List Run) → AddsTable frame [] items items
table_none frame items = adds_none frame (λ p. list_any (meets_one frame p) []) items (λ p in_rows in_cols. refl)

adds_then : (frame : Frame) (a b : Place → Bool) (old mid new : List Run) → Adds frame a old mid → Adds frame b mid new → Adds frame (λ p. a p || b p) old new
adds_then frame a b old mid new one two = record {
  cells = λ p in_rows in_cols. two.cells p in_rows in_cols ∙ ap (λ (x : Bool). x || b p) (one.cells p in_rows in_cols) ∙ or_joined (is_in_runs old p) (a p) (b p);
  inside = λ all. two.inside (one.inside all);
}

pub table_more : (frame : Frame) (table : List SpannedEdge) (e : ℕ) (edge : SpannedEdge) (old mid new : List Run) → slice_get table e ≡ Some edge
    → AddsTable frame (take e table) old mid → AddsMet frame (edge_of edge) mid new → AddsTable frame (take (e + 1) table) old new
table_more frame table e edge old mid new at one two =
    let more : take (e + 1) table ≡ take e table ++ edge ∷ [] =
    take_more table e edge (slice_get_within table e edge at) ∙ ap (λ (s : SpannedEdge). take e table ++ s ∷ []) (get_or_from_slice_get table e edge edge at) in
    same_set frame (λ p. list_any (meets_one frame p) (take e table) || is_met frame (edge_of edge) p) (λ p. list_any (meets_one frame p) (take (e + 1) table)) old new
    (λ p in_rows in_cols. sym (ap (list_any (meets_one frame p)) more ∙ list_any-append (meets_one frame p) (take e table) (edge ∷ []) ∙ ap (λ (x : Bool). list_any (meets_one frame p) (take e table) || x) (or_none (meets_one frame p edge))))
    (adds_then frame (λ p. list_any (meets_one frame p) (take e table)) (λ p. is_met frame (edge_of edge) p) old mid new one two)

pub table_done : (frame : Frame) (table : List SpannedEdge) (e : ℕ) (old new : List Run) → length table ≤ e → AddsTable frame (take e table) old new → AddsTable frame table old new
table_done frame table e old new end adds =
    let whole : take e table ≡ table = grind (arith, common_steps) in
    subst (λ (edges : List SpannedEdge). AddsTable frame edges old new) whole adds

-- in another order
pub has_pieces : (old new : List Run) → IsPermutation old new → HasPieces old new
has_pieces old new moved = record {
  cells = λ p. sym (list_any-IsPermutation (has_cell p) old new moved);
  inside = λ nrows ncols all. All-permutation (λ piece. (piece.row < nrows) × (piece.from ≤ ncols) × (piece.to ≤ ncols)) old new moved all;
}

-- the edges of a table that meet a cell are those of the geometry

any_map : {A B : Type 0} (test : B → Bool) (f : A → B) (xs : List A) → list_any test (map f xs) ≡ list_any (λ x. test (f x)) xs
any_map test f [] = refl
any_map test f (x ∷ xs) = ap (λ (b : Bool). test (f x) || b) (any_map test f xs)

any_filter : {A : Type 0} (test keep : A → Bool) (xs : List A) → ((x : A) → test x ≡ true → keep x ≡ true) → list_any test (filter keep xs) ≡ list_any test xs
any_filter test keep [] kept = refl
any_filter {A} test keep (x ∷ xs) kept = one (keep x) (test x) refl refl (any_filter test keep xs kept)
  where
    one : (k t : Bool) → keep x ≡ k → test x ≡ t → list_any test (filter keep xs) ≡ list_any test xs → list_any test (filter keep (x ∷ xs)) ≡ list_any test (x ∷ xs)
    one true t is_kept is rest = ap (λ (b : Bool). list_any test (cond b (x ∷ filter keep xs) (filter keep xs))) is_kept ∙ ap (λ (b : Bool). test x || b) rest
    one false true is_kept is rest = absurd (true_false (sym (kept x is) ∙ is_kept))
      where
        true_false : true ≡ false → ⊥
        true_false same = cc
    one false false is_kept is rest = ap (λ (b : Bool). list_any test (cond b (x ∷ filter keep xs) (filter keep xs))) is_kept ∙ rest ∙ sym (ap (λ (b : Bool). b || list_any test xs) is)

table_meets : (frame : Frame) (g : Geometry) (table : List SpannedEdge) (p : Place) → IsEdgeTable Strip frame g table → p.0 < frame.nrows
    → list_any (meets_one frame p) table ≡ list_any (λ e. is_met frame e p) (all_edges g)
table_meets frame g table p is in_rows =
    sym (any_map (λ e. is_met frame e p) edge_of table)
    ∙ ap (list_any (λ e. is_met frame e p)) is.edges
    ∙ any_filter (λ e. is_met frame e p) (has_row Strip frame) (all_edges g)
    (λ e met. any_some (is_row_of Strip frame e) 0 frame.nrows p.0 (omega arith) (omega (arith, in_rows)) (met_row frame e p met))

-- runs are pieces
pub runs_inside : (nrows ncols : ℕ) (runs : List Run) → AreApart runs → AreWithin nrows ncols runs → AreInside nrows ncols runs
runs_inside nrows ncols runs apart within = λ i d below.
    let at : slice_get runs i ≡ Some (get_or runs i d) = get_at runs i d below in
    let some = apart.some i (get_or runs i d) at in
    let inside = within i (get_or runs i d) at in
    (inside.0, omega (arith, some, inside.1), inside.1)
  where
    get_at : (xs : List Run) (k : ℕ) (e : Run) → k < length xs → slice_get xs k ≡ Some (get_or xs k e)
    get_at xs k e less = slice_get-get_or xs k e less

-- all of it
pub gathered : (frame : Frame) (g : Geometry) (table : List SpannedEdge) (covered first pieces sorted : List Run) → IsEdgeTable Strip frame g table
    → Covers frame g covered → AreWithin frame.nrows frame.ncols covered → AreApart covered → first ≡ covered → AddsTable frame table first pieces
    → HasPieces pieces sorted → AreOrdered sorted → AreGathered frame g sorted
gathered frame g table covered first pieces sorted is covers within apart begun adds has order = record {
  cells = λ p in_rows in_cols.
      has.cells p ∙ adds.cells p in_rows in_cols
      ∙ ap (λ (rs : List Run). is_in_runs rs p || list_any (meets_one frame p) table) begun
      ∙ ap (λ (x : Bool). x || list_any (meets_one frame p) table) (covers p in_rows in_cols)
      ∙ ap (λ (x : Bool). is_covered frame g p || x) (table_meets frame g table p is in_rows);
  inside = has.inside frame.nrows frame.ncols (adds.inside (subst (AreInside frame.nrows frame.ncols) (sym begun) (runs_inside frame.nrows frame.ncols covered apart within)));
  order = order;
}

-- the columns of a frame are small enough for a key
pub are_small : (frame : Frame) (g : Geometry) (pieces : List Run) → IsFrame frame → AreGathered frame g pieces → AreSmall pieces
are_small frame g pieces is has = λ i d below.
    let inside = has.inside i d below in
    let more : frame.ncols * 1 ≤ frame.ncols * frame.nrows = mul-le-mul_left frame.ncols is.some_rows in
    omega (arith, inside.1, more, is.few_cells)

pub touches : (frame : Frame) (g : Geometry) (pieces runs : List Run) → AreGathered frame g pieces → Unites pieces runs → Touches frame g runs
touches frame g pieces runs has united = λ p in_rows in_cols. united.cells p ∙ has.cells p in_rows in_cols
