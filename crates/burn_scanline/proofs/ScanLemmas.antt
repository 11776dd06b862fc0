-- Edges that are taken in and dropped, row by row, and how many of them count.
use Rattle.std.proofs.Common.{◌≡◌, ℕ, ℤ, zero, suc, ◌+◌, ◌<◌, ◌≤◌, inl, inr, Bool, true, false, cond, List, [], ◌∷◌, ◌++◌, Option, Some, length, length-append, map, take, get_or, add-one, refl, ap, sym, ◌∙◌, subst, arith}
use Rattle.std.specs.Prelude.{◌&&◌, ◌||◌, ◌==◌, nat_le, nat_lt, All, count_by, option_map, slice_get, slice_index, unwrap_or, if◌then◌else◌}
use Rattle.std.specs.List.{filter}
use Rattle.std.proofs.lemmas.Bool.{and_parts, cases_Bool, cases_lt, eqb-true, false_from_ne_true, le-leb, le-ltb, lt-ltb, or_cases, or_left, or_right, true≢false}
use Rattle.std.proofs.lemmas.Grind.{common_steps}
use Rattle.std.proofs.lemmas.Bool.Decides.{nat_tests}
use Rattle.std.specs.List.Sorted.{IsNonDecreasingBy, IsPermutation}
use Rattle.std.proofs.lemmas.List.{get_or_default, length-map, take_more}
use Rattle.std.proofs.lemmas.List.Sorted.{All-permutation, sum_by-IsPermutation}
use Rattle.std.proofs.lemmas.List.Elements.{All-append, All-cons, All-filter, All-head, All-nil, All-tail, filter_passes}
use Rattle.std.proofs.lemmas.List.Sums.{sum_by-append, sum_by-cons, sum_by_push}
use Rattle.std.proofs.lemmas.Option.{get_or_from_slice_get, slice_get-map}
use Rattle.cell_base.specs.Raster.{Place}
use Rattle.cell_base.proofs.PlaceLemmas.{element_at}
use Rattle.geo_transform.specs.Corner.{centre2_of}
use Rattle.geo_transform.specs.declared.frame.Frame.{Frame}
use Rattle.wkt_text.specs.declared.geometry.Pt.{Pt}
use Rattle.wkt_text.specs.declared.geometry.Geometry.{Geometry}
use Rattle.burn_scanline.specs.Ring.{Edge, all_edges}
use Rattle.burn_scanline.specs.Centre.{counts, counts_up, counting_edges, doubled, is_between, is_covered, is_left}
use Rattle.burn_scanline.specs.Runs.{Run, is_in_runs}
use Rattle.burn_scanline.specs.EdgeTable.{IsEdgeTable, IsSpanned, SpannedEdge, edge_of, first_row_of, has_row, is_row_of, starting_below}
use Rattle.burn_scanline.specs.Inner.Crossing.{IsActive, IsColumnAt, IsTakenFrom}
use Rattle.burn_scanline.specs.Inner.Scan.{AreActive, AreColumns, AreColumnsBelow, AreCovered, CountAlike, AreTaken, FillsRow, counts_at, is_filled, is_odd, passes}
use Rattle.burn_scanline.specs.Inner.Linking.{HaveRowsFrom, edges_in}
use Rattle.burn_scanline.specs.declared.crossing.ActiveEdge.{ActiveEdge}
use Rattle.burn_scanline.specs.declared.edge_rows.LinkedEdge.{LinkedEdge}
use Rattle.burn_scanline.specs.declared.edge_rows.SpanRule.TheVariants.{Centre}
use Rattle.burn_scanline.proofs.LinkLemmas.{any_some, first_at, read_at}

-- counts

pub count_cons : {A : Type 0} (test : A → Bool) (x : A) (xs : List A) → count_by test (x ∷ xs) ≡ cond (test x) 1 0 + count_by test xs
count_cons test x xs = sum_by-cons (λ y. cond (test y) 1 0) x xs

abbrev bit : Bool → ℕ
bit b = cond b 1 0

count_fails : {A : Type 0} (test : A → Bool) (x : A) (xs : List A) → test x ≡ false → count_by test (x ∷ xs) ≡ count_by test xs
count_fails test x xs fails =
    let none : bit (test x) ≡ 0 = ap bit fails in
    omega (arith, count_cons test x xs, none)

pub count_append : {A : Type 0} (test : A → Bool) (xs ys : List A) → count_by test (xs ++ ys) ≡ count_by test xs + count_by test ys
count_append test xs ys = sum_by-append (λ y. cond (test y) 1 0) xs ys

pub count_push : {A : Type 0} (test : A → Bool) (xs : List A) (x : A) → count_by test (xs ++ x ∷ []) ≡ count_by test xs + cond (test x) 1 0
count_push test xs x = sum_by_push (λ y. cond (test y) 1 0) xs x

pub count_map : {A B : Type 0} (test : B → Bool) (f : A → B) (xs : List A) → count_by test (map f xs) ≡ count_by (λ x. test (f x)) xs
count_map test f [] = refl
count_map test f (x ∷ xs) = count_cons test (f x) (map f xs) ∙ ap (λ (n : ℕ). cond (test (f x)) 1 0 + n) (count_map test f xs) ∙ sym (count_cons (λ y. test (f y)) x xs)

fails_too : (a b : Bool) → (a ≡ true → b ≡ true) → b ≡ false → a ≡ false
fails_too true b kept is = absurd (true≢false (sym (kept refl) ∙ is))
fails_too false b kept is = refl

pub count_filter : {A : Type 0} (test keep : A → Bool) → ((x : A) → test x ≡ true → keep x ≡ true) → (xs : List A) → count_by test (filter keep xs) ≡ count_by test xs
count_filter test keep kept [] = refl
count_filter {A} test keep kept (x ∷ xs) = elim (cases_Bool (keep x)) [
  | inl stays ↦ ap (λ (b : Bool). count_by test (cond b (x ∷ filter keep xs) (filter keep xs))) stays ∙ count_cons test x (filter keep xs) ∙ ap (λ (n : ℕ). cond (test x) 1 0 + n) (count_filter test keep kept xs) ∙ sym (count_cons test x xs)
  | inr goes ↦
      let fails : test x ≡ false = fails_too (test x) (keep x) (kept x) goes in
      ap (λ (b : Bool). count_by test (cond b (x ∷ filter keep xs) (filter keep xs))) goes ∙ count_filter test keep kept xs ∙ sym (count_fails test x xs fails)
]

pub count_all_same : {A : Type 0} (P : A → Type 0) (a b : A → Bool) → ((x : A) → P x → a x ≡ b x) → (xs : List A) → All P xs → count_by a xs ≡ count_by b xs
count_all_same P a b same [] all = refl
count_all_same P a b same (x ∷ xs) all = count_cons a x xs ∙ ap (λ (c : Bool). cond c 1 0 + count_by a xs) (same x (All-head P x xs all)) ∙ ap (λ (n : ℕ). cond (b x) 1 0 + n) (count_all_same P a b same xs (All-tail P x xs all)) ∙ sym (count_cons b x xs)

pub count_both : {A : Type 0} (a b c : A → Bool) → ((x : A) → cond (c x) 1 0 ≡ cond (a x) 1 0 + cond (b x) 1 0) → (xs : List A) → count_by c xs ≡ count_by a xs + count_by b xs
count_both a b c sums [] = refl
count_both a b c sums (x ∷ xs) = omega (arith, count_cons a x xs, count_cons b x xs, count_cons c x xs, sums x, count_both a b c sums xs)

-- an edge of the table by its number

abbrev pub test_at : List SpannedEdge → (SpannedEdge → Bool) → ℕ → Bool
test_at edges test e = unwrap_or (option_map test (slice_get edges e)) false

first_case : (here passes : Bool) (test : ℕ → Bool) (n : ℕ) → test n ≡ passes → (a b : ℕ) → a ≡ b → count_by test (if here then n ∷ [] else []) + a ≡ b + cond (here && passes) 1 0
first_case true passes test n at a b rest =
    let one : count_by test (n ∷ []) ≡ cond passes 1 0 + 0 = count_cons test n [] ∙ ap (λ (x : Bool). cond x 1 0 + 0) at in
    omega (arith, one, rest)
first_case false passes test n at a b rest = omega (arith, rest)

pub count_starting : (edges : List SpannedEdge) (test : SpannedEdge → Bool) (row n : ℕ) → n ≤ length edges → count_by (test_at edges test) (starting_below edges row n) ≡ count_by (λ edge. (edge.first == row) && test edge) (take n edges)
count_starting edges test row zero within = refl
count_starting edges test row (suc n) within =
    let here : n < length edges = omega (arith, within) in
    let edge = element_at edges n here in
    let first : first_row_of edges n ≡ edge.0.first = ap (λ (o : Option SpannedEdge). unwrap_or (option_map (λ (s : SpannedEdge). s.first) o) 0) edge.1 in
    let at : test_at edges test n ≡ test edge.0 = ap (λ (o : Option SpannedEdge). unwrap_or (option_map test o) false) edge.1 in
    let more : take (suc n) edges ≡ take n edges ++ edge.0 ∷ [] = ap (λ (k : ℕ). take k edges) (sym (add-one n)) ∙ take_more edges n edge.0 here ∙ ap (λ (s : SpannedEdge). take n edges ++ s ∷ []) (get_or_from_slice_get edges n edge.0 edge.0 edge.1) in
    let rest = count_starting edges test row n (omega (arith, within)) in
    let whole : count_by (λ s. (s.first == row) && test s) (take (suc n) edges) ≡ count_by (λ s. (s.first == row) && test s) (take n edges) + cond ((edge.0.first == row) && test edge.0) 1 0 = ap (count_by (λ s. (s.first == row) && test s)) more ∙ count_push (λ s. (s.first == row) && test s) (take n edges) edge.0 in
    count_append (test_at edges test) (if first_row_of edges n == row then n ∷ [] else []) (starting_below edges row n)
    ∙ ap (λ (k : ℕ). count_by (test_at edges test) (if k == row then n ∷ [] else []) + count_by (test_at edges test) (starting_below edges row n)) first
    ∙ first_case (edge.0.first == row) (test edge.0) (test_at edges test) n at _ _ rest
    ∙ sym whole

pub count_zero : {A : Type 0} (P : A → Type 0) (test : A → Bool) → ((x : A) → P x → test x ≡ false) → (xs : List A) → All P xs → count_by test xs ≡ 0
count_zero P test fails [] all = refl
count_zero P test fails (x ∷ xs) all = count_fails test x xs (fails x (All-head P x xs all)) ∙ count_zero P test fails xs (All-tail P x xs all)

-- the numbers that a row leads to

all_rest : {A : Type 0} (P : A → Type 0) (xs ys : List A) → All P (xs ++ ys) → All P ys
all_rest P [] ys all = all
all_rest P (x ∷ xs) ys all = all_rest P xs ys (All-tail P x (xs ++ ys) all)

one_below : (b : Bool) (m n : ℕ) → n < m → All (λ e. e < m) (if b then n ∷ [] else [])
one_below true m n less = All-cons (λ e. e < m) n [] less (All-nil (λ e. e < m))
one_below false m n less = All-nil (λ e. e < m)

all_below : (edges : List SpannedEdge) (row m n : ℕ) → n ≤ m → All (λ e. e < m) (starting_below edges row n)
all_below edges row m zero less = All-nil (λ e. e < m)
all_below edges row m (suc n) less = All-append (λ e. e < m) (if first_row_of edges n == row then n ∷ [] else []) (starting_below edges row n) (one_below (first_row_of edges n == row) m n (omega (arith, less))) (all_below edges row m n (omega (arith, less)))

pub next_below : (edges : List SpannedEdge) (row n e : ℕ) (before rest : List ℕ) → before ++ e ∷ rest ≡ starting_below edges row n → e < n
next_below edges row n e before rest is = All-head (λ x. x < n) e rest (all_rest (λ x. x < n) before (e ∷ rest) (subst (All (λ x. x < n)) (sym is) (all_below edges row n n (omega arith))))

and_false : (b : Bool) → (b && false) ≡ false
and_false true = refl
and_false false = refl

-- an edge that counts in a row has it

row_of_counts : (p : ℤ × ℤ) (a b : Pt) → counts p (a, b) ≡ true → (is_between p (doubled a) (doubled b) || is_between p (doubled b) (doubled a)) ≡ true
row_of_counts p a b is = elim (or_cases (counts_up p (doubled a) (doubled b)) (counts_up p (doubled b) (doubled a)) is) [
  | inl up ↦ or_left (is_between p (doubled a) (doubled b)) (is_between p (doubled b) (doubled a)) (and_parts (is_between p (doubled a) (doubled b)) (is_left p (doubled a) (doubled b)) up).0
  | inr down ↦ or_right (is_between p (doubled a) (doubled b)) (is_between p (doubled b) (doubled a)) (and_parts (is_between p (doubled b) (doubled a)) (is_left p (doubled b) (doubled a)) down).0
]

span_has : (first last r : ℕ) → (nat_le first r && nat_le r last) ≡ true → (first ≤ r) × (r ≤ last)
span_has first last r is = (grind (arith, nat_tests, is), grind (arith, nat_tests, is))

pub counts_row : (f : Frame) (edge : SpannedEdge) (r col : ℕ) → IsSpanned Centre f edge → r < f.nrows → counts_at f r col edge ≡ true → (edge.first ≤ r) × (r ≤ edge.last)
counts_row f edge r col spanned in_rows is = span_has edge.first edge.last r (sym (spanned.rows r in_rows) ∙ row_of_counts (centre2_of f r col) edge.start edge.end is)

-- an edge that was taken in counts as it did in the table
pub passes_taken : (f : Frame) (edge : SpannedEdge) (taken : ActiveEdge) (r col : ℕ) → IsSpanned Centre f edge → IsTakenFrom f edge taken → r < f.nrows → passes f r col taken ≡ counts_at f r col edge
passes_taken f edge taken r col spanned from in_rows =
    ap (λ (b : Bool). nat_le r taken.last && b) (from.counts (centre2_of f r col)) ∙ elim (cases_Bool (counts_at f r col edge)) [
      | inl is ↦ ap (λ (b : Bool). b && counts_at f r col edge) (le-leb r taken.last (omega (arith, (counts_row f edge r col spanned in_rows is).1, from.last)))
      | inr is ↦ ap (λ (b : Bool). nat_le r taken.last && b) is ∙ and_false (nat_le r taken.last) ∙ sym is
    ]

-- one edge more
pub taken_step : (f : Frame) (edges : List SpannedEdge) (edge : SpannedEdge) (taken : ActiveEdge) (e r col : ℕ) (start : ℕ) (active : List ActiveEdge) (yielded : List ℕ) → slice_get edges e ≡ Some edge → IsSpanned Centre f edge → IsTakenFrom f edge taken → r < f.nrows → count_by (passes f r col) active ≡ start + count_by (test_at edges (counts_at f r col)) yielded → count_by (passes f r col) (active ++ taken ∷ []) ≡ start + count_by (test_at edges (counts_at f r col)) (yielded ++ e ∷ [])
taken_step f edges edge taken e r col start active yielded found spanned from in_rows so_far =
    let test : test_at edges (counts_at f r col) e ≡ counts_at f r col edge = ap (λ (o : Option SpannedEdge). unwrap_or (option_map (counts_at f r col) o) false) found in
    let same : bit (passes f r col taken) ≡ bit (test_at edges (counts_at f r col) e) = ap bit (passes_taken f edge taken r col spanned from in_rows ∙ sym test) in
    omega (arith, count_push (passes f r col) active taken, count_push (test_at edges (counts_at f r col)) yielded e, same, so_far)

begin_sum : (first row : ℕ) (c : Bool) → cond (nat_lt first (row + 1) && c) 1 0 ≡ cond (nat_lt first row && c) 1 0 + cond ((first == row) && c) 1 0
begin_sum first row true = grind (arith, nat_tests)
begin_sum first row false = grind (arith, nat_tests)

take_whole : (edges : List SpannedEdge) (n : ℕ) → n ≡ length edges → take n edges ≡ edges
take_whole edges n whole = grind (arith, common_steps)

-- all that begin in the row
pub taken_all : (f : Frame) (edges : List SpannedEdge) (row n : ℕ) (before after : List ActiveEdge) (yielded : List ℕ) → n ≡ length edges → yielded ≡ starting_below edges row n → AreTaken f row row edges before → AreActive f row after → ((r col : ℕ) → row ≤ r → r < f.nrows → col < f.ncols → count_by (passes f r col) after ≡ count_by (passes f r col) before + count_by (test_at edges (counts_at f r col)) yielded) → AreTaken f row (row + 1) edges after
taken_all f edges row n before after yielded whole all taken each counted = record {
  each = each;
  alike = λ r col from in_rows in_cols.
      let test : SpannedEdge → Bool = counts_at f r col in
      let begun : count_by (test_at edges test) yielded ≡ count_by (λ s. (s.first == row) && test s) edges = ap (count_by (test_at edges test)) all ∙ count_starting edges test row n (omega (arith, whole)) ∙ ap (count_by (λ s. (s.first == row) && test s)) (take_whole edges n whole) in
      omega (arith, counted r col from in_rows in_cols, taken.alike r col from in_rows in_cols, begun, count_both (λ s. nat_lt s.first row && test s) (λ s. (s.first == row) && test s) (λ s. nat_lt s.first (row + 1) && test s) (λ s. begin_sum s.first row (test s)) edges);
}

-- the column of an edge
pub passes_column : (f : Frame) (edge : ActiveEdge) (row col column : ℕ) → IsActive f row edge → IsColumnAt f edge.low edge.high row column → col < f.ncols → passes f row col edge ≡ nat_le column col
passes_column f edge row col column active at in_cols =
    ap (λ (b : Bool). b && counts_up (centre2_of f row col) (doubled edge.low) (doubled edge.high)) (le-leb row edge.last active.current)
    ∙ ap (λ (b : Bool). b && is_left (centre2_of f row col) (doubled edge.low) (doubled edge.high)) (active.beside row (omega arith) active.current)
    ∙ at.at col in_cols

-- the edges that end in a row are dropped

later : (f : Frame) (row : ℕ) (edge : ActiveEdge) → IsActive f row edge → nat_lt row edge.last ≡ true → IsActive f (row + 1) edge
later f row edge active longer = record {
  current = grind (arith, nat_tests, longer);
  within = active.within;
  beside = λ r from to. active.beside r (omega (arith, from)) to;
  upright = λ column r is from to. active.upright column r is (omega (arith, from)) to;
}

longer_row : (row r last : ℕ) (b : Bool) → row + 1 ≤ r → (nat_le r last && b) ≡ true → nat_lt row last ≡ true
longer_row row r last true from is = grind (arith, nat_tests, is)
longer_row row r last false from is = grind (arith, nat_tests, is)

pub taken_dropped : (f : Frame) (row : ℕ) (edges : List SpannedEdge) (active after : List ActiveEdge) → AreTaken f row (row + 1) edges active → after ≡ filter (λ edge. nat_lt row edge.last) active → AreTaken f (row + 1) (row + 1) edges after
taken_dropped f row edges active after taken is =
    let keep : ActiveEdge → Bool = λ edge. nat_lt row edge.last in
    let was : All (IsActive f row) (filter keep active) = All-filter keep (IsActive f row) active taken.each in
    let longer : All (λ edge. keep edge ≡ true) (filter keep active) = filter_passes keep active in
    record {
      each = subst (All (IsActive f (row + 1))) (sym is) (λ k d within. later f row _ (was k d within) (longer k d within));
      alike = λ r col from in_rows in_cols. ap (count_by (passes f r col)) is ∙ count_filter (passes f r col) keep (λ edge passed. longer_row row r edge.last _ from passed) active ∙ taken.alike r col (omega (arith, from)) in_rows in_cols;
    }

-- how many edges of the geometry count

pub covered_count : (f : Frame) (g : Geometry) (edges : List SpannedEdge) (p : Place) → IsEdgeTable Centre f g edges → p.0 < f.nrows → counting_edges f g p ≡ count_by (counts_at f p.0 p.1) edges
covered_count f g edges p table in_rows =
    let test : Edge → Bool = counts (centre2_of f p.0 p.1) in
    let kept : (e : Edge) → test e ≡ true → has_row Centre f e ≡ true = λ e is. any_some (is_row_of Centre f e) 0 f.nrows p.0 (omega arith) (omega (arith, in_rows)) (row_of_counts (centre2_of f p.0 p.1) e.0 e.1 is) in
    sym (count_filter test (has_row Centre f) kept (all_edges g)) ∙ ap (count_by test) (sym table.edges) ∙ count_map test edge_of edges

begun : (first row : ℕ) (c : Bool) → (c ≡ true → first ≤ row) → (nat_lt first (row + 1) && c) ≡ c
begun first row true before = grind (arith, nat_tests, before refl)
begun first row false before = and_false (nat_lt first (row + 1))

-- in its row a place is covered where an odd number of columns is at or left of it
pub row_covered : (f : Frame) (g : Geometry) (row col : ℕ) (edges : List SpannedEdge) (active : List ActiveEdge) (columns : List ℕ) → IsEdgeTable Centre f g edges → AreTaken f row (row + 1) edges active → AreColumns f row active columns → row < f.nrows → col < f.ncols → is_odd (count_by (λ x. nat_le x col) columns) ≡ is_covered f g (row, col)
row_covered f g row col edges active columns table taken at in_rows in_cols =
    let test : SpannedEdge → Bool = counts_at f row col in
    let same : count_by (λ s. nat_lt s.first (row + 1) && test s) edges ≡ count_by test edges = count_all_same (IsSpanned Centre f) (λ s. nat_lt s.first (row + 1) && test s) test (λ s spanned. begun s.first row (test s) (λ is. (counts_row f s row col spanned in_rows is).0)) edges table.spans in
    ap is_odd (at.counts col in_cols ∙ taken.alike row col (omega arith) in_rows in_cols ∙ same ∙ sym (covered_count f g edges (row, col) table in_rows))

-- the runs of one row more

row_step : (p0 row : ℕ) (cov here : Bool) → (row ≡ p0 → here ≡ cov) → ((nat_lt p0 row && cov) || ((row == p0) && (true && here))) ≡ (nat_lt p0 (row + 1) && cov)
row_step p0 row true true same = grind (arith, nat_tests)
row_step p0 row true false same = grind (arith, nat_tests, same)
row_step p0 row false true same = grind (arith, nat_tests, same)
row_step p0 row false false same = grind (arith, nat_tests)

pub covered_step : (f : Frame) (g : Geometry) (row : ℕ) (edges : List SpannedEdge) (active : List ActiveEdge) (columns : List ℕ) (old new : List Run) → IsEdgeTable Centre f g edges → AreTaken f row (row + 1) edges active → AreColumns f row active columns → row < f.nrows → FillsRow row f.ncols columns old new → AreCovered f g row old → AreCovered f g (row + 1) new
covered_step f g row edges active columns old new table taken at in_rows fills covered = record {
  cells = λ p in_p in_cols.
      let cov : Bool = is_covered f g p in
      let here : Bool = is_odd (count_by (λ x. nat_le x p.1) columns) in
      let same : row ≡ p.0 → here ≡ cov = λ is. row_covered f g row p.1 edges active columns table taken at in_rows in_cols ∙ ap (λ (r : ℕ). is_covered f g (r, p.1)) is in
      fills.cells p ∙ ap (λ (b : Bool). b || is_filled row f.ncols columns p) (covered.cells p in_p in_cols) ∙ ap (λ (b : Bool). (nat_lt p.0 row && cov) || ((row == p.0) && (b && here))) (lt-ltb p.1 f.ncols in_cols) ∙ row_step p.0 row cov here same;
  ends = fills.ends;
  within = fills.within f.nrows in_rows covered.within;
}

-- the columns of one edge more

below_push : (n x : ℕ) (columns : List ℕ) → AreColumnsBelow n columns → x ≤ n → AreColumnsBelow n (columns ++ x ∷ [])
below_push n x columns below less = λ i within. elim (cases_lt i (length columns)) [
  | inl old ↦
      let same : slice_index (columns ++ x ∷ []) i ≡ slice_index columns i = grind (arith, common_steps) in
      omega (arith, same, below i old)
  | inr past ↦
      let end : i ≡ length columns = omega (arith, within, past, length-append columns (x ∷ [])) in
      let same : slice_index (columns ++ x ∷ []) i ≡ x = grind (arith, common_steps, end) in
      omega (arith, same, less)
]

pub columns_step : (f : Frame) (row i column : ℕ) (edge : ActiveEdge) (active : List ActiveEdge) (columns after : List ℕ) → AreActive f row active → i < length active → edge ≡ get_or active i edge → IsColumnAt f edge.low edge.high row column → after ≡ columns ++ column ∷ [] → ((col : ℕ) → col < f.ncols → count_by (λ x. nat_le x col) columns ≡ count_by (passes f row col) (take i active)) → (col : ℕ) → col < f.ncols → count_by (λ x. nat_le x col) after ≡ count_by (passes f row col) (take (i + 1) active)
columns_step f row i column edge active columns after each within is at pushed so_far = λ col in_cols.
    let active_here : IsActive f row edge = subst (IsActive f row) (sym is) (each i edge within) in
    let more : take (i + 1) active ≡ take i active ++ edge ∷ [] = take_more active i edge within ∙ ap (λ (e : ActiveEdge). take i active ++ e ∷ []) (sym is) in
    let same : bit (passes f row col edge) ≡ bit (nat_le column col) = ap bit (passes_column f edge row col column active_here at in_cols) in
    let left : count_by (λ x. nat_le x col) after ≡ count_by (λ x. nat_le x col) (columns ++ column ∷ []) = ap (count_by (λ x. nat_le x col)) pushed in
    let right : count_by (passes f row col) (take (i + 1) active) ≡ count_by (passes f row col) (take i active ++ edge ∷ []) = ap (count_by (passes f row col)) more in
    omega (arith, left, right, count_push (λ x. nat_le x col) columns column, count_push (passes f row col) (take i active) edge, same, so_far col in_cols)

pub within_step : (n column : ℕ) (columns after : List ℕ) → after ≡ columns ++ column ∷ [] → column ≤ n → AreColumnsBelow n columns → AreColumnsBelow n after
within_step n column columns after pushed less below = subst (AreColumnsBelow n) (sym pushed) (below_push n column columns below less)

all_of_below : (n : ℕ) (columns : List ℕ) → AreColumnsBelow n columns → All (λ x. x ≤ n) columns
all_of_below n columns below = λ k d within.
    let same : get_or columns k d ≡ slice_index columns k = get_or_default columns k d 0 within in
    omega (arith, same, below k within)

take_active : (active : List ActiveEdge) (n : ℕ) → n ≡ length active → take n active ≡ active
take_active active n whole = grind (arith, common_steps)

-- sorted
pub columns_sorted : (f : Frame) (row i : ℕ) (active : List ActiveEdge) (columns sorted : List ℕ) → i ≡ length active → IsPermutation columns sorted → IsNonDecreasingBy (λ x. x) sorted → ((col : ℕ) → col < f.ncols → count_by (λ x. nat_le x col) columns ≡ count_by (passes f row col) (take i active)) → AreColumnsBelow f.ncols columns → AreColumns f row active sorted
columns_sorted f row i active columns sorted end moved order counted below = record {
  sorted = λ i j less within. order i j 0 less within;
  within = λ i within. All-permutation (λ x. x ≤ f.ncols) columns sorted moved (all_of_below f.ncols columns below) i 0 within;
  counts = λ col in_cols. sum_by-IsPermutation (λ x. bit (nat_le x col)) columns sorted moved ∙ counted col in_cols ∙ ap (count_by (passes f row col)) (take_active active i end);
}

-- rows without edges

not_begun : (first row : ℕ) (c : Bool) → row ≤ first → (nat_lt first row && c) ≡ false
not_begun first row c less = ap (λ (b : Bool). b && c) (le-ltb first row less)

no_run : (i : ℕ) (run : Run) → slice_get {X = Run} [] i ≡ Some run → ⊥
no_run i run at = cc

none_begun : (f : Frame) (first : ℕ) (edges : List SpannedEdge) → All (λ s. first ≤ s.first) edges → CountAlike f first first edges []
none_begun f first edges all = λ r col from in_rows in_cols. sym (count_zero (λ s. first ≤ s.first) (λ s. nat_lt s.first first && counts_at f r col s) (λ s less. not_begun s.first first (counts_at f r col s) less) edges all)

pub taken_none : (f : Frame) (first : ℕ) (edges : List SpannedEdge) → All (λ s. first ≤ s.first) edges → AreTaken f first first edges []
taken_none f first edges all = record { each = All-nil (IsActive f first); alike = none_begun f first edges all }

spans_both : (f : Frame) (P : SpannedEdge → Type 0) (edges : List SpannedEdge) → All (IsSpanned Centre f) edges → All P edges → All (λ s. IsSpanned Centre f s × P s) edges
spans_both f P edges spans all = λ k d within. (spans k d within, all k d within)

uncovered : (f : Frame) (g : Geometry) (edges : List SpannedEdge) (p : Place) (P : SpannedEdge → Type 0) → IsEdgeTable Centre f g edges → p.0 < f.nrows → All P edges → ((s : SpannedEdge) → P s → s.first ≤ p.0 → p.0 ≤ s.last → ⊥) → is_covered f g p ≡ false
uncovered f g edges p P table in_rows all out =
    let test : SpannedEdge → Bool = counts_at f p.0 p.1 in
    let none : count_by test edges ≡ 0 = count_zero (λ s. IsSpanned Centre f s × P s) test (λ s both. false_from_ne_true (test s) (λ is. let has = counts_row f s p.0 p.1 both.0 in_rows is in out s both.1 has.0 has.1)) edges (spans_both f P edges table.spans all) in
    ap is_odd (covered_count f g edges p table in_rows ∙ none)

pub covered_none : (f : Frame) (g : Geometry) (first : ℕ) (edges : List SpannedEdge) → IsEdgeTable Centre f g edges → All (λ s. first ≤ s.first) edges → AreCovered f g first []
covered_none f g first edges table all = record {
  cells = λ p in_rows in_cols. elim (cases_lt p.0 first) [
    | inl before ↦ sym (ap (λ (b : Bool). nat_lt p.0 first && b) (uncovered f g edges p (λ s. first ≤ s.first) table in_rows all (λ s from here to. omega (arith, from, here, before))) ∙ and_false (nat_lt p.0 first))
    | inr past ↦ sym (ap (λ (b : Bool). b && is_covered f g p) (le-ltb p.0 first past))
  ];
  ends = λ i run at. absurd (no_run i run at);
  within = λ i run at. absurd (no_run i run at);
}

pub covered_all : (f : Frame) (g : Geometry) (end : ℕ) (edges : List SpannedEdge) (runs : List Run) → IsEdgeTable Centre f g edges → All (λ s. s.last < end) edges → AreCovered f g end runs → (p : Place) → p.0 < f.nrows → p.1 < f.ncols → is_in_runs runs p ≡ is_covered f g p
covered_all f g end edges runs table all covered p in_rows in_cols = covered.cells p in_rows in_cols ∙ elim (cases_lt p.0 end) [
  | inl before ↦ ap (λ (b : Bool). b && is_covered f g p) (lt-ltb p.0 end before)
  | inr past ↦
      let none : is_covered f g p ≡ false = uncovered f g edges p (λ s. s.last < end) table in_rows all (λ s less here to. omega (arith, less, to, past)) in
      ap (λ (b : Bool). nat_lt p.0 end && b) none ∙ and_false (nat_lt p.0 end) ∙ sym none
]

-- the edges in a linked table

pub as_long : (items : List LinkedEdge) → length (edges_in items) ≡ length items
as_long items = simp length-map

one_begins : (edges : List SpannedEdge) (row n : ℕ) (b : Bool) → (b ≡ true → first_row_of edges n ≡ row) → All (λ e. first_row_of edges e ≡ row) (if b then n ∷ [] else [])
one_begins edges row n true is = All-cons (λ e. first_row_of edges e ≡ row) n [] (is refl) (All-nil (λ e. first_row_of edges e ≡ row))
one_begins edges row n false is = All-nil (λ e. first_row_of edges e ≡ row)

all_begin : (edges : List SpannedEdge) (row n : ℕ) → All (λ e. first_row_of edges e ≡ row) (starting_below edges row n)
all_begin edges row zero = All-nil (λ e. first_row_of edges e ≡ row)
all_begin edges row (suc n) = All-append (λ e. first_row_of edges e ≡ row) (if first_row_of edges n == row then n ∷ [] else []) (starting_below edges row n) (one_begins edges row n (first_row_of edges n == row) (λ is. eqb-true (first_row_of edges n) row is)) (all_begin edges row n)

next_begins : (edges : List SpannedEdge) (row n e : ℕ) (before rest : List ℕ) → before ++ e ∷ rest ≡ starting_below edges row n → first_row_of edges e ≡ row
next_begins edges row n e before rest is = All-head (λ x. first_row_of edges x ≡ row) e rest (all_rest (λ x. first_row_of edges x ≡ row) before (e ∷ rest) (subst (All (λ x. first_row_of edges x ≡ row)) (sym is) (all_begin edges row n)))

-- an edge that begins in a row
pub entering : (f : Frame) (items : List LinkedEdge) (row e : ℕ) (item : LinkedEdge) (before rest : List ℕ) → All (IsSpanned Centre f) (edges_in items) → e < length items → item ≡ get_or items e item → before ++ e ∷ rest ≡ starting_below (edges_in items) row (length items) → (slice_get (edges_in items) e ≡ Some item.edge) × IsSpanned Centre f item.edge × (item.edge.first ≡ row)
entering f items row e item before rest spans within is parts =
    let at : slice_get items e ≡ Some item = read_at items e item within is in
    let found : slice_get (edges_in items) e ≡ Some item.edge = slice_get-map (λ (i : LinkedEdge). i.edge) items e ∙ ap (λ (o : Option LinkedEdge). option_map (λ (i : LinkedEdge). i.edge) o) at in
    let spanned : IsSpanned Centre f item.edge = subst (IsSpanned Centre f) (get_or_from_slice_get (edges_in items) e item.edge item.edge found) (spans e item.edge (omega (arith, within, as_long items))) in
    let first : item.edge.first ≡ row = sym (first_at items e item at) ∙ next_begins (edges_in items) row (length items) e before rest parts in
    (found, spanned, first)

pub each_push : (f : Frame) (row : ℕ) (edge : SpannedEdge) (taken : ActiveEdge) (active after : List ActiveEdge) → IsTakenFrom f edge taken → edge.first ≡ row → after ≡ active ++ taken ∷ [] → AreActive f row active → AreActive f row after
each_push f row edge taken active after from first pushed each =
    let here : IsActive f row taken = subst (λ (r : ℕ). IsActive f r taken) first from.active in
    subst (All (IsActive f row)) (sym pushed) (All-append (IsActive f row) active (taken ∷ []) each (All-cons (IsActive f row) taken [] here (All-nil (IsActive f row))))

pub first_rows : (first end : ℕ) (items : List LinkedEdge) → HaveRowsFrom first end items → All (λ s. first ≤ s.first) (edges_in items)
first_rows first end items rows = λ k d within.
    let item = element_at items k (omega (arith, within, as_long items)) in
    let found : slice_get (edges_in items) k ≡ Some item.0.edge = slice_get-map (λ (i : LinkedEdge). i.edge) items k ∙ ap (λ (o : Option LinkedEdge). option_map (λ (i : LinkedEdge). i.edge) o) item.1 in
    let same : get_or (edges_in items) k d ≡ item.0.edge = get_or_from_slice_get (edges_in items) k item.0.edge d found in
    omega (arith, ap (λ (s : SpannedEdge). s.first) same, (rows k item.0 item.1).0)

pub last_rows : (first end : ℕ) (items : List LinkedEdge) → HaveRowsFrom first end items → All (λ s. s.last < end) (edges_in items)
last_rows first end items rows = λ k d within.
    let item = element_at items k (omega (arith, within, as_long items)) in
    let found : slice_get (edges_in items) k ≡ Some item.0.edge = slice_get-map (λ (i : LinkedEdge). i.edge) items k ∙ ap (λ (o : Option LinkedEdge). option_map (λ (i : LinkedEdge). i.edge) o) item.1 in
    let same : get_or (edges_in items) k d ≡ item.0.edge = get_or_from_slice_get (edges_in items) k item.0.edge d found in
    omega (arith, ap (λ (s : SpannedEdge). s.last) same, (rows k item.0 item.1).2)
