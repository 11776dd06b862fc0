-- The back words have their job.
use Rattle.std.proofs.Common.{◌≡◌, ℕ, ℤ, zero, suc, ◌+◌, ◌*◌, ◌<◌, ◌≤◌, ◌<ℤ◌, Bool, true, false, List, [], ◌∷◌, ◌++◌, length, Option, Some, None, Result, Ok, Err, pos, refl, sym, ap, ◌∙◌, subst, arith}
use Rattle.std.specs.Prelude.{◌==◌, ◌&&◌, if◌then◌else◌, is_some, nat_le, nat_lt, codes, decimal, slice_get, unwrap_or, unsigned_abs}
use Rattle.std.specs.List.{fold}
use Rattle.std.specs.Option.{option_or}
use Rattle.std.specs.Str.Parse.{digits_value}
use Rattle.std.proofs.lemmas.Bool.Decides.{nat_tests}
use Rattle.std.proofs.lemmas.Fmt.{decimal_is_IsNumeral, length-decimal-le}
use Rattle.std.proofs.Math.Nat.{mul-le-mul_left, mul-le-mul_right}
use Rattle.fixed_coord.specs.Number.{is_digits}
use Rattle.fixed_coord.specs.Coordinate.{IsCoord}
use Rattle.fixed_coord.specs.Limits.{most_cells}
use Rattle.fixed_coord.proofs.ShortestLemmas.{shortest_reads}
use Rattle.fixed_coord.proofs.TextLemmas.{numeral_from}
use Rattle.geo_transform.specs.Frame.{IsFrame}
use Rattle.geo_transform.specs.declared.extent.Extent.{Extent}
use Rattle.geo_transform.specs.declared.frame.Frame.{Frame}
use Rattle.asc_grid.specs.declared.grid.Asc.{Asc}
use Rattle.asc_grid.proofs.CanonicalLemmas.{coord_reads}
use Rattle.tool_words.specs.Words.{Text, is_option}
use Rattle.tool_words.specs.Value.{coordinate, count_from_one, count_of, most_count, whole_value}
use Rattle.tool_words.specs.Chosen.{chosen_by, chooses_next}
use Rattle.tool_words.specs.Grammar.{Grammar, Piece, cut, names_of, pieces_of}
use Rattle.tool_words.specs.Job.{job_of, rasterize_words, unless}
use Rattle.tool_words.specs.Offence.{first_wrong, wrong_end, wrong_piece}
use Rattle.tool_words.specs.Rasterize.{RasterizeChoice, rasterize_chooses, rasterize_clash, rasterize_default, rasterize_grammar, size_from, value_from}
use Rattle.tool_words.specs.declared.fault.WordFault.{WordFault}
use Rattle.tool_words.specs.declared.fault.WordFault.TheVariants.{At}
use Rattle.tool_words.specs.declared.fault.WordKind.TheVariants.{BadValue, MissingName}
use Rattle.tool_words.specs.declared.job.Job.{Job}
use Rattle.tool_words.specs.declared.job.Job.TheVariants.{Rasterize}
use Rattle.tool_words.specs.declared.job.RasterizeJob.{RasterizeJob}
use Rattle.tool_words.specs.declared.job.SizeFrom.TheVariants.{Cells}
use Rattle.tool_words.specs.declared.job.ValueFrom.TheVariants.{Field}
use Rattle.cell_base.specs.declared.kind.CellKind.TheVariants.{Int64}
use Rattle.round_trip.specs.BackWords.{back_job, back_words, coordinate_word, extent_of, nodata_words, outside_of, whole_word}
use Rattle.round_trip.proofs.ExtentLemmas.{HasEdges, edges_of_frame}
use Rattle.round_trip.proofs.FeatureLemmas.{held_in, small}
use Rattle.round_trip.proofs.SourceLemmas.{IsGridOfText, IsInt64, outside_whole}

-- the words of numbers

coordinate_back : (z : ℤ) → IsCoord z → coordinate (coordinate_word z) ≡ Some z
coordinate_back z is = rw (coord_reads z is) refl

whole_back : (n : ℤ) → IsInt64 n → whole_value (whole_word n) ≡ Some n
whole_back n is = rw (shortest_reads n 0 (small n is)) (rw (held_in n is) refl)

count_back : (n : ℕ) → 0 < n → n ≤ most_cells → count_from_one (decimal n) ≡ Some n
count_back n some few =
    let numeral = decimal_is_IsNumeral n (omega (arith, few)) in
    let digits : is_digits (decimal n) ≡ true = numeral_from (decimal n) numeral.0.1 numeral.0.0 in
    let short : nat_le (length (decimal n)) 10 ≡ true = is_short (length (decimal n)) (length-decimal-le 10 n (omega arith) (omega (arith, few)) (omega (arith, few))) in
    let below : nat_le n most_count ≡ true = grind (arith, nat_tests, few) in
    let above : nat_lt 0 n ≡ true = grind (arith, nat_tests, some) in
    rw (digits, short) (rw numeral.1 (rw below (rw above refl)))
  where
    is_short : (m : ℕ) → m ≤ 10 → nat_le m 10 ≡ true
    is_short m at_most = grind (arith, nat_tests, at_most)

-- the pieces of the words

abbrev options : Grammar
options = rasterize_grammar

abbrev piece : ℕ → Text → List Text → Piece
piece place word values = record { place = place; word = word; values = values }

-- the name pieces

cut_names : (place : ℕ) (layer dest : Text) → is_option layer ≡ false → is_option dest ≡ false
    → cut options place zero (layer ∷ dest ∷ []) ≡ piece place layer [] ∷ piece (suc place) dest [] ∷ []
cut_names place layer dest source_is dest_is = rw (source_is, dest_is) refl

fit_names : (place : ℕ) (layer dest : Text) → is_option layer ≡ false → is_option dest ≡ false
    → first_wrong options 0 (piece place layer [] ∷ piece (suc place) dest [] ∷ []) ≡ None
fit_names place layer dest source_is dest_is = rw (source_is, dest_is) refl

named : (place : ℕ) (layer dest : Text) → is_option layer ≡ false → is_option dest ≡ false
    → names_of (piece place layer [] ∷ piece (suc place) dest [] ∷ []) ≡ layer ∷ dest ∷ []
named place layer dest source_is dest_is = rw (source_is, dest_is) refl

chosen_names : (place : ℕ) (layer dest : Text) (c : RasterizeChoice) → is_option layer ≡ false → is_option dest ≡ false
    → fold (chooses_next rasterize_chooses) c (piece place layer [] ∷ piece (suc place) dest [] ∷ []) ≡ c
chosen_names place layer dest c source_is dest_is = rw (source_is, dest_is) refl

-- the words behind the initial value: a nodata value where there is one, and the names
record IsTail (words : List Text) (layer dest : Text) (nodata : Option ℤ) : Type 0 where
  pieces : List Piece
  cut_is : cut options 14 zero words ≡ pieces
  fit : first_wrong options 0 pieces ≡ None
  names : names_of pieces ≡ layer ∷ dest ∷ []
  chosen : (c : RasterizeChoice) → c.nodata ≡ None → fold (chooses_next rasterize_chooses) c pieces ≡ record c { nodata = nodata }

tail_is : (layer dest : Text) (nodata : Option ℤ) → is_option layer ≡ false → is_option dest ≡ false → ((n : ℤ) → nodata ≡ Some n → IsInt64 n)
    → IsTail (nodata_words nodata ++ layer ∷ dest ∷ []) layer dest nodata
tail_is layer dest None source_is dest_is whole = record {
  pieces = piece 14 layer [] ∷ piece 15 dest [] ∷ [];
  cut_is = cut_names 14 layer dest source_is dest_is;
  fit = fit_names 14 layer dest source_is dest_is;
  names = named 14 layer dest source_is dest_is;
  chosen = λ c none. chosen_names 14 layer dest c source_is dest_is ∙ ap (λ (o : Option ℤ). record c { nodata = o }) none;
}
tail_is layer dest (Some n) source_is dest_is whole =
    let value : whole_value (whole_word n) ≡ Some n = whole_back n (whole n refl) in
    let first : Piece = piece 14 (codes "-a_nodata") (whole_word n ∷ []) in
    record {
      pieces = first ∷ piece 16 layer [] ∷ piece 17 dest [] ∷ [];
      cut_is = ap (λ ps. first ∷ ps) (cut_names 16 layer dest source_is dest_is);
      fit = ap (λ (o : Option ℤ). option_or (if is_some o then None else Some (At BadValue 15)) (first_wrong options 0 (piece 16 layer [] ∷ piece 17 dest [] ∷ []))) value
          ∙ fit_names 16 layer dest source_is dest_is;
      names = named 16 layer dest source_is dest_is;
      chosen = λ c none.
          chosen_names 16 layer dest (chooses_next rasterize_chooses c first) source_is dest_is
          ∙ ap (λ (o : Option ℤ). record c { nodata = o }) value;
    }

-- the pieces in front of these

abbrev field_piece : Text → Piece
field_piece field = piece 2 (codes "-a") (field ∷ [])

abbrev extent_piece : Extent → Piece
extent_piece e = piece 4 (codes "-te") (coordinate_word e.xmin ∷ coordinate_word e.ymin ∷ coordinate_word e.xmax ∷ coordinate_word e.ymax ∷ [])

abbrev size_piece : ℕ → ℕ → Piece
size_piece ncols nrows = piece 9 (codes "-ts") (decimal ncols ∷ decimal nrows ∷ [])

abbrev initial_piece : ℤ → Piece
initial_piece init = piece 12 (codes "-init") (whole_word init ∷ [])

-- each is in its form

fit_extent : (e : Extent) → HasEdges e → wrong_piece options 0 (extent_piece e) ≡ None
fit_extent e is = rw (coordinate_back e.xmin is.xmin, coordinate_back e.ymin is.ymin, coordinate_back e.xmax is.xmax, coordinate_back e.ymax is.ymax) refl

fit_size : (f : Frame) → (count_from_one (decimal f.ncols) ≡ Some f.ncols) → (count_from_one (decimal f.nrows) ≡ Some f.nrows) → wrong_piece options 0 (size_piece f.ncols f.nrows) ≡ None
fit_size f cols rows = rw (cols, rows) refl

fit_initial : (n : ℤ) → IsInt64 n → wrong_piece options 0 (initial_piece n) ≡ None
fit_initial n is = rw (whole_back n is) refl

-- and chooses its own

choose_extent : (c : RasterizeChoice) (e : Extent) → HasEdges e → chooses_next rasterize_chooses c (extent_piece e) ≡ record c { extent = Some e }
choose_extent c e is = rw (coordinate_back e.xmin is.xmin, coordinate_back e.ymin is.ymin, coordinate_back e.xmax is.xmax, coordinate_back e.ymax is.ymax) refl

choose_size : (c : RasterizeChoice) (f : Frame) → (count_from_one (decimal f.ncols) ≡ Some f.ncols) → (count_from_one (decimal f.nrows) ≡ Some f.nrows)
    → chooses_next rasterize_chooses c (size_piece f.ncols f.nrows) ≡ record c { size = Some (f.ncols, f.nrows) }
choose_size c f cols rows = rw (cols, rows) refl

choose_initial : (c : RasterizeChoice) (n : ℤ) → IsInt64 n → chooses_next rasterize_chooses c (initial_piece n) ≡ record c { init = n }
choose_initial c n is = rw (whole_back n is) refl

-- the words behind the tool's name
abbrev behind_tool : Text → Asc ℤ → Text → Text → List Text
behind_tool field asc layer dest =
    let extent = extent_of asc.frame in
    codes "-a" ∷ field
    ∷ codes "-te" ∷ coordinate_word extent.xmin ∷ coordinate_word extent.ymin ∷ coordinate_word extent.xmax ∷ coordinate_word extent.ymax
    ∷ codes "-ts" ∷ decimal asc.frame.ncols ∷ decimal asc.frame.nrows
    ∷ codes "-init" ∷ whole_word (outside_of asc.nodata)
    ∷ (nodata_words asc.nodata ++ layer ∷ dest ∷ [])

-- each count is small
few_cols : (f : Frame) → IsFrame f → f.ncols ≤ most_cells
few_cols f is =
    let more : f.ncols * 1 ≤ f.ncols * f.nrows = mul-le-mul_left f.ncols is.some_rows in
    omega (arith, more, is.few_cells)

few_rows : (f : Frame) → IsFrame f → f.nrows ≤ most_cells
few_rows f is =
    let more : 1 * f.nrows ≤ f.ncols * f.nrows = mul-le-mul_right f.nrows is.some_cols in
    omega (arith, more, is.few_cells)

-- what all pieces choose
abbrev choice_of : Text → Asc ℤ → RasterizeChoice
choice_of field asc = record rasterize_default {
  field = Some field;
  init = outside_of asc.nodata;
  nodata = asc.nodata;
  extent = Some (extent_of asc.frame);
  size = Some (asc.frame.ncols, asc.frame.nrows);
}

-- the job of choices and names
abbrev job_with : RasterizeChoice → List Text → RasterizeJob
job_with choice names = record {
  source = unwrap_or (slice_get names 0) [];
  dest = unwrap_or (slice_get names 1) [];
  value = value_from choice;
  invert = choice.invert;
  touched = choice.touched;
  add = choice.add;
  init = choice.init;
  nodata = choice.nodata;
  extent = choice.extent;
  size = size_from choice;
  kind = choice.kind;
}

abbrev all_pieces : Text → Asc ℤ → List Piece → List Piece
all_pieces field asc tail =
    field_piece field ∷ extent_piece (extent_of asc.frame) ∷ size_piece asc.frame.ncols asc.frame.nrows ∷ initial_piece (outside_of asc.nodata) ∷ tail

-- without a fault the words have the job of their pieces
sound_words : (words : List Text) (pieces : List Piece) (choice : RasterizeChoice) (layer dest : Text)
    → pieces_of options words ≡ pieces → first_wrong options 0 pieces ≡ None → names_of pieces ≡ layer ∷ dest ∷ []
    → chosen_by rasterize_chooses rasterize_default pieces ≡ choice → rasterize_clash choice ≡ false
    → rasterize_words words ≡ Ok (Rasterize (job_with choice (layer ∷ dest ∷ [])))
sound_words words pieces choice layer dest cut_is fit names chosen clash =
    ap (λ (ps : List Piece). answer (option_or (first_wrong options 0 ps) (wrong_end options (rasterize_clash (chosen_by rasterize_chooses rasterize_default ps)) place ps)) (job_with (chosen_by rasterize_chooses rasterize_default ps) (names_of ps))) cut_is
    ∙ ap (λ (o : Option WordFault). answer (option_or o (wrong_end options (rasterize_clash (chosen_by rasterize_chooses rasterize_default pieces)) place pieces)) (job_with (chosen_by rasterize_chooses rasterize_default pieces) (names_of pieces))) fit
    ∙ ap (λ (c : RasterizeChoice). answer (wrong_end options (rasterize_clash c) place pieces) (job_with c (names_of pieces))) chosen
    ∙ ap (λ (b : Bool). answer (wrong_end options b place pieces) (job_with choice (names_of pieces))) clash
    ∙ ap (λ (ns : List Text). answer (if nat_lt (length ns) 2 then Some (At MissingName place) else None) (job_with choice ns)) names
  where
    place : ℕ
    place = length words + 2

    answer : Option WordFault → RasterizeJob → Result Job WordFault
    answer fault job = unless fault (Rasterize job)

-- the back words have the back job
pub job_back : (field : Text) (asc : Asc ℤ) (layer dest : Text) → IsGridOfText asc → is_option layer ≡ false → is_option dest ≡ false
    → job_of (back_words field asc layer dest) ≡ Ok (Rasterize (back_job field asc layer dest))
job_back field asc layer dest is source_is dest_is =
    sound_words words (all_pieces field asc tail.pieces) (choice_of field asc) layer dest
    (ap (all_pieces field asc) tail.cut_is)
    (ap (λ (o : Option WordFault). option_or o (option_or (wrong_piece options 0 (size_piece asc.frame.ncols asc.frame.nrows)) (option_or (wrong_piece options 0 (initial_piece (outside_of asc.nodata))) (first_wrong options 0 tail.pieces)))) (fit_extent (extent_of asc.frame) edges)
    ∙ ap (λ (o : Option WordFault). option_or o (option_or (wrong_piece options 0 (initial_piece (outside_of asc.nodata))) (first_wrong options 0 tail.pieces))) (fit_size asc.frame cols rows)
    ∙ ap (λ (o : Option WordFault). option_or o (first_wrong options 0 tail.pieces)) (fit_initial (outside_of asc.nodata) initial)
    ∙ tail.fit)
    tail.names
    (ap (λ (c : RasterizeChoice). fold (chooses_next rasterize_chooses) (chooses_next rasterize_chooses (chooses_next rasterize_chooses c (size_piece asc.frame.ncols asc.frame.nrows)) (initial_piece (outside_of asc.nodata))) tail.pieces) (choose_extent named_field (extent_of asc.frame) edges)
    ∙ ap (λ (c : RasterizeChoice). fold (chooses_next rasterize_chooses) (chooses_next rasterize_chooses c (initial_piece (outside_of asc.nodata))) tail.pieces) (choose_size (record named_field { extent = Some (extent_of asc.frame) }) asc.frame cols rows)
    ∙ ap (λ (c : RasterizeChoice). fold (chooses_next rasterize_chooses) c tail.pieces) (choose_initial (record named_field { extent = Some (extent_of asc.frame); size = Some (asc.frame.ncols, asc.frame.nrows) }) (outside_of asc.nodata) initial)
    ∙ tail.chosen (record named_field { extent = Some (extent_of asc.frame); size = Some (asc.frame.ncols, asc.frame.nrows); init = outside_of asc.nodata }) refl)
    refl
  where
    words : List Text
    words = behind_tool field asc layer dest

    tail : IsTail (nodata_words asc.nodata ++ layer ∷ dest ∷ []) layer dest asc.nodata
    tail = tail_is layer dest asc.nodata source_is dest_is is.nodata

    edges : HasEdges (extent_of asc.frame)
    edges = edges_of_frame asc.frame is.frame

    cols : count_from_one (decimal asc.frame.ncols) ≡ Some asc.frame.ncols
    cols = count_back asc.frame.ncols is.frame.some_cols (few_cols asc.frame is.frame)

    rows : count_from_one (decimal asc.frame.nrows) ≡ Some asc.frame.nrows
    rows = count_back asc.frame.nrows is.frame.some_rows (few_rows asc.frame is.frame)

    initial : IsInt64 (outside_of asc.nodata)
    initial = outside_whole asc is

    named_field : RasterizeChoice
    named_field = record rasterize_default { field = Some field }
