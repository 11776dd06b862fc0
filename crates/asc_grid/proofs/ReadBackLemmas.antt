-- The canonical text of a grid reads back as that grid.
use Rattle.std.proofs.Common.{◌≡◌, ℕ, ℤ, zero, suc, ◌+◌, ◌*◌, ◌<◌, ◌≤◌, ◌≤ℤ◌, false, List, [], ◌∷◌, ◌++◌, length, take, drop, Option, Some, None, Result, Ok, IfSome, All, pos, unsigned_abs, arith, refl, sym, ap, subst, ◌∙◌, append_assoc}
use Rattle.std.specs.Prelude.{codes, nat_lt, option_and_then, option_map, slice_get}
use Rattle.std.specs.List.{flat_map}
use Rattle.std.specs.Option.{option_or}
use Rattle.std.specs.Result.{is_err, result_ok}
use Rattle.std.proofs.lemmas.Bool.Decides.{nat_tests}
use Rattle.std.proofs.lemmas.Int.{ints}
use Rattle.std.proofs.lemmas.Grind.{common_steps}
use Rattle.fixed_coord.specs.Coordinate.{coord_places}
use Rattle.fixed_coord.specs.Limits.{largest, most_cells}
use Rattle.fixed_coord.specs.Shortest.{shortest}
use Rattle.cell_base.specs.Raster.{Raster, raster_of, rows_of}
use Rattle.cell_base.specs.declared.fault.CellFault.{CellFault}
use Rattle.geo_transform.specs.Frame.{IsFrame, frame_of}
use Rattle.geo_transform.specs.Layout.{square_layout}
use Rattle.geo_transform.proofs.FaultLemmas.{frame_accepted, small_counts}
use Rattle.geo_transform.specs.declared.frame.Frame.{Frame}
use Rattle.asc_grid.specs.Tokens.{Token, last_line, tokens_from, tokens_of}
use Rattle.asc_grid.specs.Header.{Header, Pair, end_line, header_of, layout_of, nodata_of, values_of}
use Rattle.asc_grid.specs.Offence.{offence_of_pairs, wrong_end, wrong_layout}
use Rattle.asc_grid.specs.Cells.{bad_cell, cells_of, offence_of_cells, wrong_number}
use Rattle.asc_grid.specs.Canonical.{canonical_text, header_line, header_text, nodata_line, row_text, spelled}
use Rattle.asc_grid.specs.Written.{IsBetween, IsGrid}
use Rattle.asc_grid.specs.Grid.{first_offence, grid_in, grid_of, unless}
use Rattle.asc_grid.specs.Inner.Cursor.{begins_keyword}
use Rattle.asc_grid.specs.declared.grid.Asc.{Asc}
use Rattle.asc_grid.specs.declared.header.HeaderValues.{HeaderValues}
use Rattle.asc_grid.specs.declared.fault.GridFault.{GridFault}
use Rattle.asc_grid.specs.declared.fault.GridFault.TheVariants.{At}
use Rattle.asc_grid.proofs.CanonicalTokenLemmas.{AllRows, AllWords, IsNumberWord, IsWord, header_line-tokens, row_tokens, rows_text-tokens, rows_tokens, shortest_word, word_by}
use Rattle.asc_grid.proofs.CanonicalLemmas.{AreRead, count_reads, frame_pairs, frame_values, pair_on, position_reads, size_reads, small_coord, sound_nodata_pairs, sound_pairs, values_nodata_pairs, values_pairs}
use Rattle.asc_grid.proofs.HeaderLemmas.{header_of-cells}
use Rattle.asc_grid.proofs.LayoutLemmas.{frame_made}

-- each cell's text is read as the cell
abbrev pub AllRead : {T : Type 0} → (List ℕ → Result T CellFault) → (T → List ℕ) → List T → Type 0
AllRead read spell [] = Unit {0}
AllRead read spell (cell ∷ cells) = (read (spell cell) ≡ Ok cell) × AllRead read spell cells

abbrev pub AllRowsRead : {T : Type 0} → (List ℕ → Result T CellFault) → (T → List ℕ) → List (List T) → Type 0
AllRowsRead read spell [] = Unit {0}
AllRowsRead read spell (row ∷ rows) = AllRead read spell row × AllRowsRead read spell rows

cells_of-row : {T : Type 0} (read : List ℕ → Result T CellFault) (spell : T → List ℕ) (line : ℕ) (row : List T) (more : List Token) → AllRead read spell row → cells_of read (row_tokens spell line row ++ more) ≡ row ++ cells_of read more
cells_of-row read spell line [] more all = refl
cells_of-row read spell line (cell ∷ row) more all = rw all.0 (ap (λ cells. cell ∷ cells) (cells_of-row read spell line row more all.1))

cells_of-rows : {T : Type 0} (read : List ℕ → Result T CellFault) (spell : T → List ℕ) (line : ℕ) (rows : List (List T)) → AllRowsRead read spell rows → cells_of read (rows_tokens spell line rows) ≡ flat_map (λ row. row) rows
cells_of-rows read spell line [] all = refl
cells_of-rows read spell line (row ∷ rows) all = cells_of-row read spell line row (rows_tokens spell (line + 1) rows) all.0 ∙ ap (λ cells. row ++ cells) (cells_of-rows read spell (line + 1) rows all.1)

-- no token is refused
abbrev AllAccepted : {T : Type 0} → (List ℕ → Result T CellFault) → List Token → Type 0
AllAccepted read [] = Unit {0}
AllAccepted read (token ∷ tokens) = (is_err (read token.text) ≡ false) × AllAccepted read tokens

accepted_row : {T : Type 0} (read : List ℕ → Result T CellFault) (spell : T → List ℕ) (line : ℕ) (row : List T) (more : List Token) → AllRead read spell row → AllAccepted read more → AllAccepted read (row_tokens spell line row ++ more)
accepted_row read spell line [] more all rest = rest
accepted_row read spell line (cell ∷ row) more all rest = (rw all.0 refl, accepted_row read spell line row more all.1 rest)

accepted_rows : {T : Type 0} (read : List ℕ → Result T CellFault) (spell : T → List ℕ) (line : ℕ) (rows : List (List T)) → AllRowsRead read spell rows → AllAccepted read (rows_tokens spell line rows)
accepted_rows read spell line [] all = tt
accepted_rows read spell line (row ∷ rows) all = accepted_row read spell line row (rows_tokens spell (line + 1) rows) all.0 (accepted_rows read spell (line + 1) rows all.1)

no_bad_cell : {T : Type 0} (read : List ℕ → Result T CellFault) (count : ℕ) (tokens : List Token) → AllAccepted read tokens → bad_cell read count tokens ≡ None
no_bad_cell read zero tokens all = refl
no_bad_cell read (suc count) [] all = refl
no_bad_cell read (suc count) (token ∷ tokens) all = rw all.0 (no_bad_cell read count tokens all.1)

slice_get-end : {A : Type 0} (xs : List A) → slice_get xs (length xs) ≡ None
slice_get-end [] = refl
slice_get-end (x ∷ xs) = slice_get-end xs

right_number : (count last : ℕ) (tokens : List Token) → length tokens ≡ count → wrong_number count last tokens ≡ None
right_number count last tokens is =
    let enough : nat_lt (length tokens) (length tokens) ≡ false = grind (arith, nat_tests) in
    rw (← is, enough, slice_get-end tokens) refl

length-row : {T : Type 0} (spell : T → List ℕ) (line : ℕ) (row : List T) (more : List Token) → length (row_tokens spell line row ++ more) ≡ length row + length more
length-row spell line [] more = omega arith
length-row spell line (cell ∷ row) more =
    let rest = length-row spell line row more in
    omega (arith, rest)

-- all rows have this length
abbrev pub AllWide : {T : Type 0} → ℕ → List (List T) → Type 0
AllWide ncols [] = Unit {0}
AllWide ncols (row ∷ rows) = (length row ≡ ncols) × AllWide ncols rows

length-rows : {T : Type 0} (spell : T → List ℕ) (line ncols : ℕ) (rows : List (List T)) → AllWide ncols rows → length (rows_tokens spell line rows) ≡ ncols * length rows
length-rows spell line ncols [] wide = omega arith
length-rows spell line ncols (row ∷ rows) wide =
    let rest = length-rows spell (line + 1) ncols rows wide.1 in
    let all = length-row spell line row (rows_tokens spell (line + 1) rows) in
    all ∙ by_parts (length row) (length (rows_tokens spell (line + 1) rows)) ncols (length rows) wide.0 rest
  where
    by_parts : (a b n m : ℕ) → a ≡ n → b ≡ n * m → a + b ≡ n * suc m
    by_parts a b n m e f = rw (e, f) (omega arith)

take_front : {T : Type 0} (xs ys : List T) → take (length xs) (xs ++ ys) ≡ xs
take_front xs ys = grind (arith, common_steps)

drop_front : {T : Type 0} (xs ys : List T) → drop (length xs) (xs ++ ys) ≡ ys
drop_front xs ys = grind (arith, common_steps)

-- rows put one behind the other are cut into the same rows
rows_of-flat : {T : Type 0} (ncols : ℕ) (rows : List (List T)) → AllWide ncols rows → rows_of ncols (length rows) (flat_map (λ row. row) rows) ≡ rows
rows_of-flat ncols [] wide = refl
rows_of-flat ncols (row ∷ rows) wide =
    let front : take ncols (row ++ flat_map (λ r. r) rows) ≡ row = rw (← wide.0) (take_front row _) in
    let back : drop ncols (row ++ flat_map (λ r. r) rows) ≡ flat_map (λ r. r) rows = rw (← wide.0) (drop_front row _) in
    rw (front, back, rows_of-flat ncols rows wide.1) refl

-- what is true of each by its number is true of each in turn
to_wide : {T : Type 0} (ncols : ℕ) (rows : List (List T)) → All (λ row. length row ≡ ncols) rows → AllWide ncols rows
to_wide ncols [] all = tt
to_wide ncols (row ∷ rows) all = (all 0 [] (omega arith), to_wide ncols rows (λ k d within. all (suc k) d (omega (arith, within))))

to_words : {T : Type 0} (P : T → Type 0) (spell : T → List ℕ) (row : List T) → ((v : T) → P v → IsNumberWord (spell v)) → All P row → AllWords spell row
to_words P spell [] is all = tt
to_words P spell (cell ∷ row) is all = (is cell (all 0 cell (omega arith)), to_words P spell row is (λ k d within. all (suc k) d (omega (arith, within))))

to_read : {T : Type 0} (P : T → Type 0) (read : List ℕ → Result T CellFault) (spell : T → List ℕ) (row : List T) → ((v : T) → P v → read (spell v) ≡ Ok v) → All P row → AllRead read spell row
to_read P read spell [] is all = tt
to_read P read spell (cell ∷ row) is all = (is cell (all 0 cell (omega arith)), to_read P read spell row is (λ k d within. all (suc k) d (omega (arith, within))))

to_rows : {T : Type 0} (P : T → Type 0) (spell : T → List ℕ) (ncols : ℕ) (rows : List (List T)) → 0 < ncols → AllWide ncols rows → ((v : T) → P v → IsNumberWord (spell v)) → All (All P) rows → AllRows spell rows
to_rows P spell ncols [] some wide is all = tt
to_rows P spell ncols (row ∷ rows) some wide is all =
    (omega (arith, some, wide.0), to_words P spell row is (all 0 [] (omega arith)), to_rows P spell ncols rows some wide.1 is (λ k d within. all (suc k) d (omega (arith, within))))

to_rows_read : {T : Type 0} (P : T → Type 0) (read : List ℕ → Result T CellFault) (spell : T → List ℕ) (rows : List (List T)) → ((v : T) → P v → read (spell v) ≡ Ok v) → All (All P) rows → AllRowsRead read spell rows
to_rows_read P read spell [] is all = tt
to_rows_read P read spell (row ∷ rows) is all = (to_read P read spell row is (all 0 [] (omega arith)), to_rows_read P read spell rows is (λ k d within. all (suc k) d (omega (arith, within))))

-- the tokens of a canonical header, and those behind it
abbrev pub frame_tokens : (columns rows left lower size : List ℕ) → List Token → List Token
frame_tokens columns rows left lower size more =
    record { text = codes "ncols"; line = 1 } ∷ record { text = columns; line = 1 } ∷ record { text = codes "nrows"; line = 2 } ∷ record { text = rows; line = 2 }
    ∷ record { text = codes "xllcorner"; line = 3 } ∷ record { text = left; line = 3 } ∷ record { text = codes "yllcorner"; line = 4 } ∷ record { text = lower; line = 4 }
    ∷ record { text = codes "cellsize"; line = 5 } ∷ record { text = size; line = 5 } ∷ more

pub record AreWords (columns rows left lower size : List ℕ) : Type 0 where
  pub columns_word : IsWord columns
  pub rows_word : IsWord rows
  pub left_word : IsWord left
  pub lower_word : IsWord lower
  pub size_word : IsWord size

reassoc : (a b c d e n body : List ℕ) → (a ++ b ++ c ++ d ++ e ++ n) ++ body ≡ a ++ (b ++ (c ++ (d ++ (e ++ (n ++ body)))))
reassoc a b c d e n body = simp append_assoc

five_lines-tokens : (columns rows left lower size behind : List ℕ) → AreWords columns rows left lower size → tokens_from 1 (header_line (codes "ncols") columns ++ (header_line (codes "nrows") rows ++ (header_line (codes "xllcorner") left ++ (header_line (codes "yllcorner") lower ++ (header_line (codes "cellsize") size ++ behind))))) ≡ frame_tokens columns rows left lower size (tokens_from 6 behind)
five_lines-tokens columns rows left lower size behind words =
    let one = header_line-tokens 1 (codes "ncols") columns (header_line (codes "nrows") rows ++ (header_line (codes "xllcorner") left ++ (header_line (codes "yllcorner") lower ++ (header_line (codes "cellsize") size ++ behind)))) (word_by _ _ refl) words.columns_word in
    let two = header_line-tokens 2 (codes "nrows") rows (header_line (codes "xllcorner") left ++ (header_line (codes "yllcorner") lower ++ (header_line (codes "cellsize") size ++ behind))) (word_by _ _ refl) words.rows_word in
    let three = header_line-tokens 3 (codes "xllcorner") left (header_line (codes "yllcorner") lower ++ (header_line (codes "cellsize") size ++ behind)) (word_by _ _ refl) words.left_word in
    let four_line = header_line-tokens 4 (codes "yllcorner") lower (header_line (codes "cellsize") size ++ behind) (word_by _ _ refl) words.lower_word in
    let five = header_line-tokens 5 (codes "cellsize") size behind (word_by _ _ refl) words.size_word in
    rw (one, two, three, four_line, five) refl

-- the header of those tokens
header_of-frame : (columns rows left lower size : List ℕ) (cells : List Token) → begins_keyword cells ≡ false → header_of (frame_tokens columns rows left lower size cells) ≡ record { pairs = frame_pairs columns rows left lower size []; cells = cells }
header_of-frame columns rows left lower size cells ends = rw (header_of-cells cells ends) refl

header_of-nodata : (columns rows left lower size nodata : List ℕ) (cells : List Token) → begins_keyword cells ≡ false → header_of (frame_tokens columns rows left lower size (record { text = codes "NODATA_value"; line = 6 } ∷ record { text = nodata; line = 6 } ∷ cells)) ≡ record { pairs = frame_pairs columns rows left lower size (pair_on 6 (codes "NODATA_value") nodata ∷ []); cells = cells }
header_of-nodata columns rows left lower size nodata cells ends = rw (header_of-cells cells ends) refl

rows_begin : {T : Type 0} (spell : T → List ℕ) (line : ℕ) (rows : List (List T)) → AllRows spell rows → begins_keyword (rows_tokens spell line rows) ≡ false
rows_begin spell line [] all = refl
rows_begin spell line ([] ∷ rows) all = absurd (omega (arith, all.0))
rows_begin spell line ((cell ∷ cells) ∷ rows) all = rw all.1.0.number refl

-- what is known of a grid that was written
pub record IsReadable {T : Type 0} (read : List ℕ → Result T CellFault) (spell : T → List ℕ) (asc : Asc T) : Type 0 where
  pub frame : IsFrame asc.frame
  pub ncols : asc.cells.ncols ≡ asc.frame.ncols
  pub nrows : asc.cells.nrows ≡ asc.frame.nrows
  pub height : length asc.cells.rows ≡ asc.frame.nrows
  pub wide : AllWide asc.frame.ncols asc.cells.rows
  pub rows : AllRows spell asc.cells.rows
  pub rows_read : AllRowsRead read spell asc.cells.rows
  pub nodata : IfSome asc.nodata (λ v. IsNumberWord (spell v) × (read (spell v) ≡ Ok v))

-- the texts of a frame's numbers
abbrev texts_are : Frame → Type 0
texts_are f = AreWords (shortest (pos f.ncols) 0) (shortest (pos f.nrows) 0) (shortest f.xll coord_places) (shortest f.yll coord_places) (shortest f.cell coord_places)

abbrev texts_read : Frame → Type 0
texts_read f = AreRead (shortest (pos f.ncols) 0) (shortest (pos f.nrows) 0) (shortest f.xll coord_places) (shortest f.yll coord_places) (shortest f.cell coord_places) f.ncols f.nrows f.xll f.yll f.cell

few_counts : (a b : ℕ) → 0 < a → 0 < b → a * b ≤ most_cells → (a ≤ most_cells) × (b ≤ most_cells)
few_counts a b x y few = small_counts a b (record { some_cols = x; some_rows = y; few_cells = few })

texts_words : (f : Frame) → IsFrame f → texts_are f
texts_words f is =
    let counts = few_counts f.ncols f.nrows is.some_cols is.some_rows is.few_cells in
    record {
      columns_word = (shortest_word (pos f.ncols) 0 (omega (arith, counts.0))).word_is;
      rows_word = (shortest_word (pos f.nrows) 0 (omega (arith, counts.1))).word_is;
      left_word = (shortest_word f.xll coord_places (small_coord f.xll is.left)).word_is;
      lower_word = (shortest_word f.yll coord_places (small_coord f.yll is.lower)).word_is;
      size_word = (shortest_word f.cell coord_places (small_coord f.cell is.size)).word_is;
    }

texts_back : (f : Frame) → IsFrame f → texts_read f
texts_back f is =
    let counts = few_counts f.ncols f.nrows is.some_cols is.some_rows is.few_cells in
    record {
      columns_are = count_reads f.ncols is.some_cols (omega (arith, counts.0));
      rows_are = count_reads f.nrows is.some_rows (omega (arith, counts.1));
      left_is = position_reads f.xll is.left;
      lower_is = position_reads f.yll is.lower;
      size_is = size_reads f.cell is.size is.some_size;
    }

-- the frame of such numbers is the frame, and nothing is wrong with it
sound_frame : (f : Frame) → IsFrame f → (f ≡ frame_of (square_layout f.ncols f.nrows f.xll f.yll f.cell)) × (None ≡ wrong_layout (square_layout f.ncols f.nrows f.xll f.yll f.cell))
sound_frame f is = frame_made f.ncols f.nrows f.xll f.yll f.cell f (record { some_cols = is.some_cols; some_rows = is.some_rows; few = is.few_cells; some_size = is.some_size }) (frame_accepted f is)

none_of_three : {A : Type 0} (x y z : Option A) → x ≡ None → y ≡ None → z ≡ None → option_or x (option_or y z) ≡ None
none_of_three x y z a b c = rw (a, b, c) refl

none_of_two : {A : Type 0} (x y : Option A) → x ≡ None → y ≡ None → option_or x y ≡ None
none_of_two x y a b = rw (a, b) refl

unless_none : {A : Type 0} (o : Option GridFault) (a b : A) → o ≡ None → a ≡ b → unless o a ≡ Ok b
unless_none o a b none same = rw (none, same) refl

same_asc : {T : Type 0} (a b : Asc T) → a.frame ≡ b.frame → a.nodata ≡ b.nodata → a.cells ≡ b.cells → a ≡ b
same_asc a b frame nodata cells = λ i. record { frame = frame i; nodata = nodata i; cells = cells i }

same_cells : {T : Type 0} (a b : Raster T) → a.ncols ≡ b.ncols → a.nrows ≡ b.nrows → a.rows ≡ b.rows → a ≡ b
same_cells a b ncols nrows rows = λ i. record { ncols = ncols i; nrows = nrows i; rows = rows i }

-- the values of a canonical header
abbrev values_in : {T : Type 0} → Frame → Option (Option T) → HeaderValues T
values_in f nodata = frame_values f.ncols f.nrows f.xll f.yll f.cell nodata

sound_cells : {T : Type 0} (read : List ℕ → Result T CellFault) (spell : T → List ℕ) (asc : Asc T) (last line count : ℕ) → IsReadable read spell asc → count ≡ asc.frame.ncols * asc.frame.nrows → offence_of_cells read count last (rows_tokens spell line asc.cells.rows) ≡ None
sound_cells read spell asc last line count is many =
    let tokens : List Token = rows_tokens spell line asc.cells.rows in
    let all : length tokens ≡ count = length-rows spell line asc.frame.ncols asc.cells.rows is.wide ∙ ap (λ n. asc.frame.ncols * n) is.height ∙ sym many in
    none_of_two (bad_cell read count tokens) (wrong_number count last tokens) (no_bad_cell read count tokens (accepted_rows read spell line asc.cells.rows is.rows_read)) (right_number count last tokens all)

back_cells : {T : Type 0} (read : List ℕ → Result T CellFault) (spell : T → List ℕ) (asc : Asc T) (line ncols nrows : ℕ) → IsReadable read spell asc → ncols ≡ asc.frame.ncols → nrows ≡ asc.frame.nrows → raster_of ncols nrows (cells_of read (rows_tokens spell line asc.cells.rows)) ≡ asc.cells
back_cells read spell asc line ncols nrows is cols high =
    let flat = cells_of-rows read spell line asc.cells.rows is.rows_read in
    let cut : rows_of asc.frame.ncols asc.frame.nrows (flat_map (λ row. row) asc.cells.rows) ≡ asc.cells.rows = rw (← is.height) (rows_of-flat asc.frame.ncols asc.cells.rows is.wide) in
    same_cells _ _ (cols ∙ sym is.ncols) (high ∙ sym is.nrows) (rw (cols, high, flat) cut)

-- a grid of a header that says a frame and its cells
grid_by : {T : Type 0} (read : List ℕ → Result T CellFault) (spell : T → List ℕ) (asc : Asc T) (last line : ℕ) (pairs : List Pair) (nodata : Option (Option T)) → IsReadable read spell asc → offence_of_pairs [] pairs ≡ None → values_of read pairs ≡ values_in asc.frame nodata → option_and_then (λ v. v) nodata ≡ asc.nodata → unless (first_offence read last (record { pairs = pairs; cells = rows_tokens spell line asc.cells.rows })) (grid_in read (record { pairs = pairs; cells = rows_tokens spell line asc.cells.rows })) ≡ Ok asc
grid_by {T} read spell asc last line pairs nodata is sound values same =
    let tokens : List Token = rows_tokens spell line asc.cells.rows in
    let v : HeaderValues T = values_of read pairs in
    let cols : (layout_of v).ncols ≡ asc.frame.ncols = ap (λ w. (layout_of w).ncols) values in
    let high : (layout_of v).nrows ≡ asc.frame.nrows = ap (λ w. (layout_of w).nrows) values in
    let frame = sound_frame asc.frame is.frame in
    let ends : wrong_end v ≡ None = ap wrong_end values ∙ sym frame.1 in
    let cells = sound_cells read spell asc last line ((layout_of v).ncols * (layout_of v).nrows) is (rw (cols, high) refl) in
    let offence = none_of_three (offence_of_pairs [] pairs) (option_map (λ kind. At kind (end_line last tokens)) (wrong_end v)) (offence_of_cells read ((layout_of v).ncols * (layout_of v).nrows) last tokens) sound (ap (option_map (λ kind. At kind (end_line last tokens))) ends) cells in
    let grid = same_asc (grid_in read (record { pairs = pairs; cells = tokens })) asc (ap (λ w. frame_of (layout_of w)) values ∙ sym frame.0) (ap nodata_of values ∙ same) (back_cells read spell asc line (layout_of v).ncols (layout_of v).nrows is cols high) in
    unless_none _ _ asc offence grid

-- the tokens of a canonical text
text_tokens : {T : Type 0} (spell : T → List ℕ) (asc : Asc T) → IsFrame asc.frame → tokens_of (canonical_text spell asc) ≡ frame_tokens (shortest (pos asc.frame.ncols) 0) (shortest (pos asc.frame.nrows) 0) (shortest asc.frame.xll coord_places) (shortest asc.frame.yll coord_places) (shortest asc.frame.cell coord_places) (tokens_from 6 (nodata_line spell asc.nodata ++ flat_map (row_text spell) asc.cells.rows))
unfolding header_text
text_tokens spell asc is =
    let f : Frame = asc.frame in
    let body : List ℕ = flat_map (row_text spell) asc.cells.rows in
    let parts = reassoc (header_line (codes "ncols") (shortest (pos f.ncols) 0)) (header_line (codes "nrows") (shortest (pos f.nrows) 0)) (header_line (codes "xllcorner") (shortest f.xll coord_places)) (header_line (codes "yllcorner") (shortest f.yll coord_places)) (header_line (codes "cellsize") (shortest f.cell coord_places)) (nodata_line spell asc.nodata) body in
    ap (tokens_from 1) parts ∙ five_lines-tokens (shortest (pos f.ncols) 0) (shortest (pos f.nrows) 0) (shortest f.xll coord_places) (shortest f.yll coord_places) (shortest f.cell coord_places) (nodata_line spell asc.nodata ++ body) (texts_words f is)

grid_of-header : {T : Type 0} (read : List ℕ → Result T CellFault) (text : List ℕ) (header : Header) (asc : Asc T) → header_of (tokens_of text) ≡ header → unless (first_offence read (last_line text) header) (grid_in read header) ≡ Ok asc → grid_of read text ≡ Ok asc
unfolding grid_of
grid_of-header {T} read text header asc is grid = subst (λ (h : Header). unless (first_offence read (last_line text) h) (grid_in read h) ≡ Ok asc) (sym is) grid

text_none : {T : Type 0} (read : List ℕ → Result T CellFault) (spell : T → List ℕ) (asc : Asc T) → asc.nodata ≡ None → IsReadable read spell asc → grid_of read (canonical_text spell asc) ≡ Ok asc
text_none read spell asc none is =
    let f : Frame = asc.frame in
    let rows : List Token = rows_tokens spell 6 asc.cells.rows in
    let behind : tokens_from 6 (nodata_line spell asc.nodata ++ flat_map (row_text spell) asc.cells.rows) ≡ rows = rw none (rows_text-tokens spell 6 asc.cells.rows is.rows) in
    let tokens = text_tokens spell asc is.frame ∙ ap (frame_tokens (shortest (pos f.ncols) 0) (shortest (pos f.nrows) 0) (shortest f.xll coord_places) (shortest f.yll coord_places) (shortest f.cell coord_places)) behind in
    let header = ap header_of tokens ∙ header_of-frame (shortest (pos f.ncols) 0) (shortest (pos f.nrows) 0) (shortest f.xll coord_places) (shortest f.yll coord_places) (shortest f.cell coord_places) rows (rows_begin spell 6 asc.cells.rows is.rows) in
    let back = texts_back f is.frame in
    let grid = grid_by read spell asc (last_line (canonical_text spell asc)) 6 (frame_pairs (shortest (pos f.ncols) 0) (shortest (pos f.nrows) 0) (shortest f.xll coord_places) (shortest f.yll coord_places) (shortest f.cell coord_places) []) None is (sound_pairs _ _ _ _ _ f.ncols f.nrows f.xll f.yll f.cell back) (values_pairs read _ _ _ _ _ f.ncols f.nrows f.xll f.yll f.cell back) (sym none) in
    grid_of-header read (canonical_text spell asc) _ asc header grid

text_some : {T : Type 0} (read : List ℕ → Result T CellFault) (spell : T → List ℕ) (asc : Asc T) (value : T) → asc.nodata ≡ Some value → IsNumberWord (spell value) → read (spell value) ≡ Ok value → IsReadable read spell asc → grid_of read (canonical_text spell asc) ≡ Ok asc
text_some read spell asc value some word reads is =
    let f : Frame = asc.frame in
    let body : List ℕ = flat_map (row_text spell) asc.cells.rows in
    let rows : List Token = rows_tokens spell 7 asc.cells.rows in
    let line = header_line-tokens 6 (codes "NODATA_value") (spell value) body (word_by _ _ refl) word.word_is in
    let behind : tokens_from 6 (nodata_line spell asc.nodata ++ body) ≡ record { text = codes "NODATA_value"; line = 6 } ∷ record { text = spell value; line = 6 } ∷ rows =
    rw some (line ∙ ap (λ ts. record { text = codes "NODATA_value"; line = 6 } ∷ record { text = spell value; line = 6 } ∷ ts) (rows_text-tokens spell 7 asc.cells.rows is.rows)) in
    let tokens = text_tokens spell asc is.frame ∙ ap (frame_tokens (shortest (pos f.ncols) 0) (shortest (pos f.nrows) 0) (shortest f.xll coord_places) (shortest f.yll coord_places) (shortest f.cell coord_places)) behind in
    let header = ap header_of tokens ∙ header_of-nodata (shortest (pos f.ncols) 0) (shortest (pos f.nrows) 0) (shortest f.xll coord_places) (shortest f.yll coord_places) (shortest f.cell coord_places) (spell value) rows (rows_begin spell 7 asc.cells.rows is.rows) in
    let back = texts_back f is.frame in
    let nodata : Some (result_ok (read (spell value))) ≡ Some (Some value) = rw reads refl in
    let values = values_nodata_pairs read _ _ _ _ _ (spell value) f.ncols f.nrows f.xll f.yll f.cell back ∙ ap (values_in f) nodata in
    let grid = grid_by read spell asc (last_line (canonical_text spell asc)) 7 (frame_pairs (shortest (pos f.ncols) 0) (shortest (pos f.nrows) 0) (shortest f.xll coord_places) (shortest f.yll coord_places) (shortest f.cell coord_places) (pair_on 6 (codes "NODATA_value") (spell value) ∷ [])) (Some (Some value)) is (sound_nodata_pairs _ _ _ _ _ (spell value) f.ncols f.nrows f.xll f.yll f.cell back) values (sym some) in
    grid_of-header read (canonical_text spell asc) _ asc header grid

text_by : {T : Type 0} (read : List ℕ → Result T CellFault) (spell : T → List ℕ) (asc : Asc T) (nodata : Option T) → asc.nodata ≡ nodata → IsReadable read spell asc → grid_of read (canonical_text spell asc) ≡ Ok asc
text_by read spell asc None none is = text_none read spell asc none is
text_by read spell asc (Some value) some is =
    let known = rw some at is.nodata in
    text_some read spell asc value some known.0 known.1 is

between_small : (low high v : ℤ) → unsigned_abs low ≤ largest → unsigned_abs high ≤ largest → low ≤ℤ v → v ≤ℤ high → unsigned_abs v ≤ largest
between_small low high v a b c d = omega (arith, ints, a, b, c, d)

-- a nodata value between the ends of its type is read, too
nodata_known : {T : Type 0} (P : T → Type 0) (read : List ℕ → Result T CellFault) (spell : T → List ℕ) (o : Option T) → ((v : T) → P v → IsNumberWord (spell v)) → ((v : T) → P v → read (spell v) ≡ Ok v) → IfSome o P → IfSome o (λ v. IsNumberWord (spell v) × (read (spell v) ≡ Ok v))
nodata_known P read spell None word back known = tt
nodata_known P read spell (Some v) word back known = (word v known, back v known)

-- what can be written can be read
is_readable : {T : Type 0} (read : List ℕ → Result T CellFault) (units : T → ℤ) (places : ℕ) (least greatest : ℤ) (asc : Asc T) → ((v : T) → IsBetween units least greatest v → IsNumberWord (spelled units places v)) → ((v : T) → IsBetween units least greatest v → read (spelled units places v) ≡ Ok v) → IsGrid units least greatest asc → IsReadable read (spelled units places) asc
is_readable read units places least greatest asc word back is =
    let cols : 0 < asc.frame.ncols = rw (← is.ncols) is.raster.some_cols in
    let wide : AllWide asc.frame.ncols asc.cells.rows = to_wide asc.frame.ncols asc.cells.rows (rw (← is.ncols) is.raster.width) in
    record {
      frame = is.frame;
      ncols = is.ncols;
      nrows = is.nrows;
      height = is.raster.height ∙ is.nrows;
      wide = wide;
      rows = to_rows (IsBetween units least greatest) (spelled units places) asc.frame.ncols asc.cells.rows cols wide word is.values;
      rows_read = to_rows_read (IsBetween units least greatest) read (spelled units places) asc.cells.rows back is.values;
      nodata = nodata_known (IsBetween units least greatest) read (spelled units places) asc.nodata word back is.nodata;
    }

pub reads_back : {T : Type 0} (read : List ℕ → Result T CellFault) (units : T → ℤ) (places : ℕ) (least greatest : ℤ) (asc : Asc T) → unsigned_abs least ≤ largest → unsigned_abs greatest ≤ largest → ((v : T) → least ≤ℤ units v → units v ≤ℤ greatest → read (shortest (units v) places) ≡ Ok v) → IsGrid units least greatest asc → grid_of read (canonical_text (spelled units places) asc) ≡ Ok asc
reads_back {T} read units places least greatest asc low high back is =
    let word : (v : T) → IsBetween units least greatest v → IsNumberWord (spelled units places v) = λ v between. shortest_word (units v) places (between_small least greatest (units v) low high between.low between.high) in
    let again : (v : T) → IsBetween units least greatest v → read (spelled units places v) ≡ Ok v = λ v between. back v between.low between.high in
    text_by read (spelled units places) asc asc.nodata refl (is_readable read units places least greatest asc word again is)
