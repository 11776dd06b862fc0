-- The grid that a text has: its frame is one, its cells fill it, and they and its nodata value are numbers of 64 bits.
use Rattle.std.proofs.Common.{◌≡◌, ℕ, ℤ, ◌*◌, ◌<◌, ◌≤◌, ◌<ℤ◌, ◌≤ℤ◌, Bool, true, false, not, cond, List, [], ◌∷◌, ◌++◌, Option, Some, None, Result, Ok, Err, pos, refl, sym, ap, ◌∙◌, subst, arith}
use Rattle.std.specs.Prelude.{◌==◌, ◌&&◌, int_le, int_lt, nat_lt, All, find, if◌then◌else◌, is_some, option_and_then, option_map, unsigned_abs, unwrap_or}
use Rattle.std.specs.List.{filter_map, list_any}
use Rattle.std.specs.Option.{option_map_or, option_or}
use Rattle.std.specs.Result.{result_err, result_ok, result_unwrap_or}
use Rattle.std.proofs.lemmas.Bool.{and_parts, eqb-true}
use Rattle.std.proofs.lemmas.Bool.Decides.{nat_tests}
use Rattle.std.proofs.lemmas.Int.{ints}
use Rattle.std.proofs.lemmas.List.Elements.{All-nil, All-cons}
use Rattle.fixed_coord.specs.Limits.{most_cells}
use Rattle.fixed_coord.specs.Whole.{whole_of}
use Rattle.fixed_coord.specs.declared.fault.NumberFault.{NumberFault}
use Rattle.cell_base.specs.Raster.{Place, value_at}
use Rattle.cell_base.specs.WholeCells.{between, least_int64, most_int64}
use Rattle.cell_base.specs.declared.fault.CellFault.{CellFault}
use Rattle.cell_base.proofs.PlaceLemmas.{rows_hold}
use Rattle.geo_transform.specs.Fault.{has_too_many_cells, is_in_range}
use Rattle.geo_transform.specs.Frame.{IsFrame, frame_of}
use Rattle.geo_transform.specs.Layout.{Layout, square_layout}
use Rattle.geo_transform.proofs.FaultLemmas.{is_frame, parts_in_range}
use Rattle.asc_grid.specs.Grid.{first_offence, grid_in, grid_of, unless}
use Rattle.asc_grid.specs.Header.{Header, Pair, count_in, header_of, is_of, layout_of, said_of, size_in, value_text, values_of}
use Rattle.asc_grid.specs.Keyword.{keyword_of, number_of}
use Rattle.asc_grid.specs.Offence.{has_frame, offence_of_keyword, offence_of_pair, offence_of_pairs, offence_of_value, wrong_end, wrong_layout}
use Rattle.asc_grid.specs.Cells.{cells_of}
use Rattle.asc_grid.specs.Tokens.{Token, last_line, tokens_of}
use Rattle.asc_grid.specs.Value.{above_zero, count_of, counted, most_count, position_of, size_of, wrong_value}
use Rattle.asc_grid.specs.declared.fault.GridFault.{GridFault}
use Rattle.asc_grid.specs.declared.fault.GridFault.TheVariants.{At}
use Rattle.asc_grid.specs.declared.fault.GridKind.{GridKind}
use Rattle.asc_grid.specs.declared.fault.GridKind.TheVariants.{MissingKeyword, RepeatedKeyword}
use Rattle.asc_grid.specs.declared.grid.Asc.{Asc}
use Rattle.asc_grid.specs.declared.header.HeaderValues.{HeaderValues}
use Rattle.asc_grid.specs.declared.keyword.Group.{Group}
use Rattle.asc_grid.specs.declared.keyword.Group.TheVariants.{Columns, Rows, Left, Lower, Size, Nodata}
use Rattle.asc_grid.specs.declared.keyword.Keyword.{Keyword}
use Rattle.tool_outcome.specs.Source.{cell_of, grid_or_fault, source_of}
use Rattle.tool_outcome.specs.declared.fault.Fault.{Fault}
use Rattle.round_trip.specs.BackWords.{outside_of}

-- a number of 64 bits
pub record IsInt64 (z : ℤ) : Type 0 where
  pub low : least_int64 ≤ℤ z
  pub high : z ≤ℤ most_int64

-- what every grid is that was read
pub record IsGridOfText (asc : Asc ℤ) : Type 0 where
  pub frame : IsFrame asc.frame
  pub ncols : asc.cells.ncols ≡ asc.frame.ncols
  pub nrows : asc.cells.nrows ≡ asc.frame.nrows
  pub cells : (p : Place) (x : ℤ) → value_at asc.cells p ≡ Some x → IsInt64 x
  pub nodata : (n : ℤ) → asc.nodata ≡ Some n → IsInt64 n

-- what follows where there is no offence

or_none : {A : Type 0} (o p : Option A) → option_or o p ≡ None → (o ≡ None) × (p ≡ None)
or_none None p is = (refl, is)
or_none (Some a) p is = absurd (cc is)

map_none : {A B : Type 0} (f : A → B) (o : Option A) → option_map f o ≡ None → o ≡ None
map_none f None is = refl
map_none f (Some a) is = absurd (cc is)

unless_ok : {A : Type 0} (o : Option GridFault) (a b : A) → unless o a ≡ Ok b → (o ≡ None) × (a ≡ b)
unless_ok None a b is = (refl, cc is)
unless_ok (Some fault) a b is = absurd (cc is)

some_found : {A B : Type 0} (f : A → B) (o : Option A) → is_some (option_map f o) ≡ true → (x : A) × (o ≡ Some x)
some_found f (Some x) is = (x, refl)
some_found f None is = absurd (cc is)

one_group : (g h : Group) → number_of g ≡ number_of h → g ≡ h
one_group Columns Columns is = refl
one_group Rows Rows is = refl
one_group Left Left is = refl
one_group Lower Lower is = refl
one_group Size Size is = refl
one_group Nodata Nodata is = refl
one_group Columns Rows is = absurd (omega (arith, is))
one_group Columns Left is = absurd (omega (arith, is))
one_group Columns Lower is = absurd (omega (arith, is))
one_group Columns Size is = absurd (omega (arith, is))
one_group Columns Nodata is = absurd (omega (arith, is))
one_group Rows Columns is = absurd (omega (arith, is))
one_group Rows Left is = absurd (omega (arith, is))
one_group Rows Lower is = absurd (omega (arith, is))
one_group Rows Size is = absurd (omega (arith, is))
one_group Rows Nodata is = absurd (omega (arith, is))
one_group Left Columns is = absurd (omega (arith, is))
one_group Left Rows is = absurd (omega (arith, is))
one_group Left Lower is = absurd (omega (arith, is))
one_group Left Size is = absurd (omega (arith, is))
one_group Left Nodata is = absurd (omega (arith, is))
one_group Lower Columns is = absurd (omega (arith, is))
one_group Lower Rows is = absurd (omega (arith, is))
one_group Lower Left is = absurd (omega (arith, is))
one_group Lower Size is = absurd (omega (arith, is))
one_group Lower Nodata is = absurd (omega (arith, is))
one_group Size Columns is = absurd (omega (arith, is))
one_group Size Rows is = absurd (omega (arith, is))
one_group Size Left is = absurd (omega (arith, is))
one_group Size Lower is = absurd (omega (arith, is))
one_group Size Nodata is = absurd (omega (arith, is))
one_group Nodata Columns is = absurd (omega (arith, is))
one_group Nodata Rows is = absurd (omega (arith, is))
one_group Nodata Left is = absurd (omega (arith, is))
one_group Nodata Lower is = absurd (omega (arith, is))
one_group Nodata Size is = absurd (omega (arith, is))

value_sound : (group : Group) (line : ℕ) (value : Option Token) → offence_of_value group line value ≡ None
    → (token : Token) × (value ≡ Some token) × (wrong_value group token.text ≡ None)
value_sound group line None is = absurd (cc is)
value_sound group line (Some token) is = (token, refl, map_none (λ kind. At kind token.line) (wrong_value group token.text) is)

not_before : (b : Bool) (fault : GridFault) (o : Option GridFault) → (if b then Some fault else o) ≡ None → o ≡ None
not_before true fault o is = absurd (cc is)
not_before false fault o is = is

-- a keyword of a group whose pair has no offence
keyword_sound : (group : Group) (before : List Pair) (pair : Pair) (keyword : Option Keyword) → keyword_of pair.keyword.text ≡ keyword
    → is_of group pair ≡ true → offence_of_keyword before pair keyword ≡ None → wrong_value group (value_text pair) ≡ None
keyword_sound group before pair None at of_group is = absurd (cc is)
keyword_sound group before pair (Some k) at of_group is =
    let number : (number_of k.group == number_of group) ≡ true = ap (λ (o : Option Keyword). option_map_or (λ w. number_of w.group == number_of group) o false) (sym at) ∙ of_group in
    let same : k.group ≡ group = one_group k.group group (eqb-true (number_of k.group) (number_of group) number) in
    let sound = value_sound k.group pair.keyword.line pair.value
    (not_before (list_any (is_of k.group) before) (At RepeatedKeyword pair.keyword.line) (offence_of_value k.group pair.keyword.line pair.value) is) in
    ap (λ (g : Group). wrong_value g (value_text pair)) (sym same)
    ∙ ap (λ (value : Option Token). wrong_value k.group (text_of value)) sound.1 ∙ sound.2
  where
    text_of : Option Token → List ℕ
    text_of value = option_map_or (λ token. token.text) value []

found_here : (group : Group) (before : List Pair) (p : Pair) (ps : List Pair) (pair : Pair) (b : Bool) → is_of group p ≡ b
    → (offence_of_pair before p ≡ None) × (offence_of_pairs (before ++ p ∷ []) ps ≡ None) → find (is_of group) (p ∷ ps) ≡ Some pair
    → (offence_of_pairs (before ++ p ∷ []) ps ≡ None → find (is_of group) ps ≡ Some pair → wrong_value group (value_text pair) ≡ None)
    → wrong_value group (value_text pair) ≡ None
found_here group before p ps pair true of_group parts found later =
    let same : p ≡ pair = cc (found, of_group) in
    subst (λ (q : Pair). wrong_value group (value_text q) ≡ None) same
    (keyword_sound group before p (keyword_of p.keyword.text) refl of_group parts.0)
found_here group before p ps pair false other parts found later = later parts.1 (cc (found, other))

-- the pair that is found of a group has no offence
found_sound : (group : Group) (before pairs : List Pair) (pair : Pair) → offence_of_pairs before pairs ≡ None
    → find (is_of group) pairs ≡ Some pair → wrong_value group (value_text pair) ≡ None
found_sound group before [] pair is found = absurd (cc found)
found_sound group before (p ∷ ps) pair is found =
    found_here group before p ps pair (is_of group p) refl (or_none (offence_of_pair before p) (offence_of_pairs (before ++ p ∷ []) ps) is) found
    (found_sound group (before ++ p ∷ []) ps pair)

-- a count is from 1, a size above zero

counted_some : (r : Result ℤ NumberFault) → result_err (counted r) ≡ None → 0 < result_unwrap_or (counted r) 0
counted_some (Err fault) is = absurd (cc is)
counted_some (Ok n) is = decide (int_le (pos 1) n && int_le n (pos most_count)) refl
  where
    decide : (b : Bool) → (int_le (pos 1) n && int_le n (pos most_count)) ≡ b → 0 < result_unwrap_or (counted (Ok n)) 0
    decide true so =
        let low : pos 1 ≤ℤ n = from_test (pos 1) n (and_parts (int_le (pos 1) n) (int_le n (pos most_count)) so).0 in
        rw so (some_size n low)
      where
        from_test : (a b : ℤ) → int_le a b ≡ true → a ≤ℤ b
        from_test a b holds = grind (arith, ints, holds)

        some_size : (m : ℤ) → pos 1 ≤ℤ m → 0 < unsigned_abs m
        some_size m low = omega (arith, ints, low)
    decide false so = absurd (cc (is, so))

sized_some : (r : Result ℤ GridKind) → result_err (above_zero r) ≡ None → pos 0 <ℤ result_unwrap_or (above_zero r) (pos 0)
sized_some (Err kind) is = absurd (cc is)
sized_some (Ok units) is = decide (int_lt (pos 0) units) refl
  where
    decide : (b : Bool) → int_lt (pos 0) units ≡ b → pos 0 <ℤ result_unwrap_or (above_zero (Ok units)) (pos 0)
    decide true so = rw so (above units so)
      where
        above : (m : ℤ) → int_lt (pos 0) m ≡ true → pos 0 <ℤ m
        above m holds = grind (arith, ints, holds)
    decide false so = absurd (cc (is, so))

-- what a group says where it came and no pair has an offence
said_count : (group : Group) (pairs : List Pair) → ((text : List ℕ) → wrong_value group text ≡ result_err (count_of text))
    → offence_of_pairs [] pairs ≡ None → is_some (said_of group count_in pairs) ≡ true → 0 < unwrap_or (said_of group count_in pairs) 0
said_count group pairs counts sound came =
    let found = some_found count_in (find (is_of group) pairs) came in
    let right = found_sound group [] pairs found.0 sound found.1 in
    rw found.1 (counted_some (whole_of (value_text found.0)) (sym (counts (value_text found.0)) ∙ right))

said_size : (pairs : List Pair) → offence_of_pairs [] pairs ≡ None → is_some (said_of Size size_in pairs) ≡ true
    → pos 0 <ℤ unwrap_or (said_of Size size_in pairs) (pos 0)
said_size pairs sound came =
    let found = some_found size_in (find (is_of Size) pairs) came in
    let right = found_sound Size [] pairs found.0 sound found.1 in
    rw found.1 (sized_some (position_of (value_text found.0)) right)

-- a layout that nothing is wrong with
layout_sound : (l : Layout) → wrong_layout l ≡ None → (l.ncols * l.nrows ≤ most_cells) × (is_in_range l ≡ true)
layout_sound l is = decide (has_too_many_cells l) (is_in_range l) refl refl
  where
    decide : (many near : Bool) → has_too_many_cells l ≡ many → is_in_range l ≡ near → (l.ncols * l.nrows ≤ most_cells) × (is_in_range l ≡ true)
    decide true near many_is near_is = absurd (cc (is, many_is))
    decide false false many_is near_is = absurd (cc (is, many_is, near_is))
    decide false true many_is near_is = (few (l.ncols * l.nrows) many_is, near_is)
      where
        few : (n : ℕ) → nat_lt most_cells n ≡ false → n ≤ most_cells
        few n fails = grind (arith, nat_tests, fails)

both_by : (b : Bool) (o : Option GridKind) (kind : GridKind) → (if b then o else Some kind) ≡ None → (b ≡ true) × (o ≡ None)
both_by true o kind is = (refl, is)
both_by false o kind is = absurd (cc is)

-- the frame that a header without offence makes
frame_sound : (pairs : List Pair) → offence_of_pairs [] pairs ≡ None → wrong_end (values_of cell_of pairs) ≡ None
    → IsFrame (frame_of (layout_of (values_of cell_of pairs)))
frame_sound pairs sound ends =
    let parts = both_by (has_frame values) (wrong_layout l) MissingKeyword ends in
    let all = layout_sound l parts.1 in
    let a = and_parts (is_some values.columns && is_some values.rows && is_some values.left && is_some values.lower) (is_some values.size) parts.0 in
    let b = and_parts (is_some values.columns && is_some values.rows && is_some values.left) (is_some values.lower) a.0 in
    let c = and_parts (is_some values.columns && is_some values.rows) (is_some values.left) b.0 in
    let d = and_parts (is_some values.columns) (is_some values.rows) c.0 in
    is_frame l l.left l.lower l.width (record {
      some_cols = said_count Columns pairs (λ text. refl) sound d.0;
      some_rows = said_count Rows pairs (λ text. refl) sound d.1;
      few_cells = all.0;
    }) (said_size pairs sound a.1) refl (parts_in_range l all.1) refl refl refl
  where
    values : HeaderValues ℤ
    values = values_of cell_of pairs

    l : Layout
    l = layout_of values

-- what a text is read as has 64 bits
cell_sound : (r : Result ℤ NumberFault) (x : ℤ) → between (λ n. n) least_int64 most_int64 r ≡ Ok x → IsInt64 x
cell_sound (Err fault) x is = absurd (cc is)
cell_sound (Ok v) x is = decide (int_le least_int64 v && int_le v most_int64) refl
  where
    decide : (b : Bool) → (int_le least_int64 v && int_le v most_int64) ≡ b → IsInt64 x
    decide false fails = absurd (cc (is, fails))
    decide true so =
        let parts = and_parts (int_le least_int64 v) (int_le v most_int64) so in
        let same : v ≡ x = cc (is, so) in
        subst IsInt64 same (record { low = from_test least_int64 v parts.0; high = from_test v most_int64 parts.1 })
      where
        from_test : (a b : ℤ) → int_le a b ≡ true → a ≤ℤ b
        from_test a b holds = grind (arith, ints, holds)

cells_more : (token : Token) (tokens : List Token) (r : Result ℤ CellFault) → cell_of token.text ≡ r → All IsInt64 (cells_of cell_of tokens)
    → All IsInt64 (cells_of cell_of (token ∷ tokens))
cells_more token tokens (Ok x) is rest = rw is (All-cons IsInt64 x (cells_of cell_of tokens) (cell_sound (whole_of token.text) x is) rest)
cells_more token tokens (Err fault) is rest = rw is rest

cells_sound : (tokens : List Token) → All IsInt64 (cells_of cell_of tokens)
cells_sound [] = All-nil IsInt64
cells_sound (token ∷ tokens) = cells_more token tokens (cell_of token.text) refl (cells_sound tokens)

ok_some : {T : Type 0} (r : Result T CellFault) (x : T) → result_ok r ≡ Some x → r ≡ Ok x
ok_some (Ok y) x is = cc is
ok_some (Err fault) x is = absurd (cc is)

nodata_in : (found : Option Pair) (n : ℤ) → option_and_then (λ nodata. nodata) (option_map (λ pair. result_ok (cell_of (value_text pair))) found) ≡ Some n → IsInt64 n
nodata_in None n is = absurd (cc is)
nodata_in (Some pair) n is = cell_sound (whole_of (value_text pair)) n (ok_some (cell_of (value_text pair)) n is)

header_grid : (last : ℕ) (header : Header) → first_offence cell_of last header ≡ None → IsGridOfText (grid_in cell_of header)
header_grid last header none =
    let a = or_none (offence_of_pairs [] header.pairs) _ none in
    let b = or_none _ _ a.1 in
    record {
      frame = frame_sound header.pairs a.0 (map_none _ (wrong_end (values_of cell_of header.pairs)) b.0);
      ncols = refl;
      nrows = refl;
      cells = λ p x is. rows_hold IsInt64 _ _ (cells_of cell_of header.cells) p.0 p.1 x (cells_sound header.cells) is;
      nodata = λ n is. nodata_in (find (is_of Nodata) header.pairs) n is;
    }

-- so every source's grid
pub grid_of_text : (bytes : List ℕ) (asc : Asc ℤ) → grid_of cell_of bytes ≡ Ok asc → IsGridOfText asc
unfolding grid_of
grid_of_text bytes asc is =
    let header : Header = header_of (tokens_of bytes) in
    let read = unless_ok (first_offence cell_of (last_line bytes) header) (grid_in cell_of header) asc is in
    subst IsGridOfText read.1 (header_grid (last_line bytes) header read.0)

pub grid_of_source : (bytes : Option (List ℕ)) (asc : Asc ℤ) → source_of bytes ≡ Ok asc → IsGridOfText asc
grid_of_source None asc is = absurd (cc is)
grid_of_source (Some bytes) asc is = decide (grid_of cell_of bytes) refl
  where
    decide : (r : Result (Asc ℤ) GridFault) → grid_of cell_of bytes ≡ r → IsGridOfText asc
    decide (Err fault) fails = absurd (cc (is, fails))
    decide (Ok grid) holds =
        let same : grid ≡ asc = cc (is, holds) in
        subst IsGridOfText same (grid_of_text bytes grid holds)

-- the value outside is one of 64 bits
pub outside_whole : (asc : Asc ℤ) → IsGridOfText asc → IsInt64 (outside_of asc.nodata)
outside_whole asc is = decide asc.nodata refl
  where
    decide : (o : Option ℤ) → asc.nodata ≡ o → IsInt64 (outside_of o)
    decide None none = record { low = omega (arith, ints); high = omega (arith, ints) }
    decide (Some n) some = is.nodata n some
