-- The records of the text of rows are the rows.
use Rattle.std.proofs.Common.{◌≡◌, ℕ, zero, suc, ◌+◌, ◌<◌, ◌≤◌, Bool, true, false, ◌⊎◌, inl, inr, List, [], ◌∷◌, ◌++◌, length, arith, refl, ap, sym, ◌∙◌, Option, Some, None, add-one, append_assoc, length-append, if◌then◌else◌}
use Rattle.std.specs.Prelude.{All, ◌==◌, ◌&&◌, codes}
use Rattle.std.specs.List.{flat_map, list_any}
use Rattle.std.specs.Str.{str_eq_ignore_ascii_case}
use Rattle.csv.specs.Machine.{next_record}
use Rattle.csv.specs.Quoting.{needs_byte}
use Rattle.csv.specs.Reading.{default_config, is_bom, records_from, records_next, strip_bom}
use Rattle.csv.specs.Writing.{default_writer, escaped, field_text, fields_text, is_blank, needs_quotes, read_back, row_body, row_text}
use Rattle.csv.specs.declared.parser.State.TheVariants as st
use Rattle.csv.proofs.RoundTrip.{read-write}
use Rattle.ogr_csv.specs.Layer.{Record, answers_in, layer_of, records_of}
use Rattle.ogr_csv.specs.Rows.{HasNoMark, has_mark, line_of, text_of_rows}
use Rattle.ogr_csv.proofs.RecordLemmas.{no_records}

-- the rows, each with a field
abbrev AllSome : List Record → Type 0
AllSome [] = Unit {0}
AllSome (row ∷ rows) = (0 < length row) × AllSome rows

back_same : (row : Record) → 0 < length row → read_back row ≡ row
back_same [] some = absurd (omega (arith, some))
back_same (field ∷ fields) some = refl

rows_read : (rows : List Record) (most : ℕ) → AllSome rows → length rows ≤ most → records_from default_config most st.StartRecord (text_of_rows rows) ≡ rows
unfolding records_from
rows_read [] most some few = no_records default_config most
rows_read (row ∷ rows) zero some few = absurd (omega (arith, few))
rows_read (row ∷ rows) (suc most) some few =
    ap (records_next (records_from default_config most)) (read-write row (text_of_rows rows))
    ∙ ap (λ r. r ∷ records_from default_config most st.StartRecord (text_of_rows rows)) (back_same row some.0)
    ∙ ap (λ rest. row ∷ rest) (rows_read rows most some.1 (omega (arith, few)))

line_some : (row : Record) → 0 < length (line_of row)
line_some row =
    let blank : List ℕ = if is_blank default_writer row then 34 ∷ 34 ∷ [] else [] in
    omega (arith, length-append (row_body default_writer row) (blank ++ 10 ∷ []), length-append blank (10 ∷ []))

rows_few : (rows : List Record) → length rows ≤ length (text_of_rows rows)
rows_few [] = omega arith
rows_few (row ∷ rows) = omega (arith, length-append (line_of row) (text_of_rows rows), line_some row, rows_few rows)

-- a byte that is none of the mark's
record IsOther (t : ℕ) : Type 0 where
  first : (t == 0xEF) ≡ false
  second : (t == 0xBB) ≡ false
  third : (t == 0xBF) ≡ false

-- what stands behind a row's first field begins with such a byte
behind_field : (fields : Record) (blank : Bool) (rest : List ℕ)
    → (t : ℕ) × (ts : List ℕ) × IsOther t × (fields_text default_writer fields ++ (((if blank then 34 ∷ 34 ∷ [] else []) ++ 10 ∷ []) ++ rest) ≡ t ∷ ts)
unfolding fields_text
behind_field [] true rest = (34, 34 ∷ 10 ∷ rest, record { first = refl; second = refl; third = refl }, refl)
behind_field [] false rest = (10, rest, record { first = refl; second = refl; third = refl }, refl)
behind_field (field ∷ fields) blank rest = (44, _, record { first = refl; second = refl; third = refl }, refl)

mark_kept : (a b c : ℕ) (rest : List ℕ) → is_bom a b c ≡ false → strip_bom (a ∷ b ∷ c ∷ rest) ≡ a ∷ b ∷ c ∷ rest
unfolding strip_bom
mark_kept a b c rest none = rw none refl

second_false : (a c : Bool) → (a && false && c) ≡ false
second_false true c = refl
second_false false c = refl

third_false : (a b : Bool) → (a && b && false) ≡ false
third_false true true = refl
third_false true false = refl
third_false false true = refl
third_false false false = refl

kept : (text : List ℕ) (t : ℕ) (ts : List ℕ) → has_mark text ≡ false → IsOther t → strip_bom (text ++ t ∷ ts) ≡ text ++ t ∷ ts
unfolding strip_bom
kept [] t [] none is = refl
kept [] t (b ∷ []) none is = refl
kept [] t (b ∷ c ∷ rest) none is = mark_kept t b c rest (ap (λ (x : Bool). x && (b == 0xBB) && (c == 0xBF)) is.first)
kept (a ∷ []) t [] none is = refl
kept (a ∷ []) t (c ∷ rest) none is =
    mark_kept a t c rest (ap (λ (x : Bool). (a == 0xEF) && x && (c == 0xBF)) is.second ∙ second_false (a == 0xEF) (c == 0xBF))
kept (a ∷ b ∷ []) t rest none is =
    mark_kept a b t rest (ap (λ (x : Bool). (a == 0xEF) && (b == 0xBB) && x) is.third ∙ third_false (a == 0xEF) (b == 0xBB))
kept (a ∷ b ∷ c ∷ text) t rest none is = mark_kept a b c (text ++ t ∷ rest) none

quote_first : (xs : List ℕ) → has_mark (34 ∷ xs) ≡ false
quote_first [] = refl
quote_first (b ∷ []) = refl
quote_first (b ∷ c ∷ rest) = refl

field_kept : (needs : Bool) (field : List ℕ) (inner : List ℕ) → has_mark field ≡ false → has_mark (if needs then 34 ∷ inner else field) ≡ false
field_kept true field inner none = quote_first inner
field_kept false field inner none = none

no_mark : (header : Record) (rest : List ℕ) → 0 < length header → HasNoMark header → strip_bom (line_of header ++ rest) ≡ line_of header ++ rest
no_mark [] rest some none = absurd (omega (arith, some))
no_mark (field ∷ fields) rest some none =
    let head : List ℕ = field_text default_writer field in
    let blank : Bool = is_blank default_writer (field ∷ fields) in
    let tail : List ℕ = (if blank then 34 ∷ 34 ∷ [] else []) ++ 10 ∷ [] in
    let behind = behind_field fields blank rest in
    let text : line_of (field ∷ fields) ++ rest ≡ head ++ behind.0 ∷ behind.1 =
    append_assoc (head ++ fields_text default_writer fields) tail rest ∙ append_assoc head (fields_text default_writer fields) (tail ++ rest) ∙ ap (λ xs. head ++ xs) behind.3 in
    let unmarked : has_mark head ≡ false = field_kept (needs_quotes default_writer field) field (escaped default_writer field ++ 34 ∷ []) none in
    ap strip_bom text ∙ kept head behind.0 behind.1 unmarked behind.2 ∙ sym text

pub rows_are_read : (header : Record) (rows : List Record) → 0 < length header → HasNoMark header → AllSome rows → records_of (text_of_rows (header ∷ rows)) ≡ header ∷ rows
rows_are_read header rows some none all =
    let text : List ℕ = text_of_rows (header ∷ rows) in
    ap (λ bytes. records_from default_config (length bytes + 1) st.StartRecord bytes) (no_mark header (text_of_rows rows) some none)
    ∙ rows_read (header ∷ rows) (length text + 1) (some, all) (omega (arith, rows_few (header ∷ rows)))

all_some : (count : ℕ) (rows : List Record) → 0 < count → All (λ row. length row ≡ count) rows → AllSome rows
all_some count [] some all = tt
all_some count (row ∷ rows) some all = (omega (arith, some, all 0 row (omega arith)), all_some count rows some (λ k d h. all (suc k) d (omega (arith, h))))

-- a header without fields is read as one empty field
first_back : (rows : List Record) → (rest : List Record) × (records_of (text_of_rows ([] ∷ rows)) ≡ ([] ∷ []) ∷ rest)
unfolding records_from strip_bom is_blank
first_back rows =
    let most : ℕ = length (text_of_rows ([] ∷ rows)) in
    (records_from default_config most st.StartRecord (text_of_rows rows), rw add-one (ap (records_next (records_from default_config most)) (read-write [] (text_of_rows rows))))

-- neither names a geometry column
no_column : (field : Option (List ℕ)) (rest rows : List Record) → answers_in field (([] ∷ []) ∷ rest) ≡ answers_in field ([] ∷ rows)
no_column None rest rows = refl
no_column (Some name) rest rows = refl

no_fields : (field : Option (List ℕ)) (rows : List Record) → layer_of field (text_of_rows ([] ∷ rows)) ≡ answers_in field ([] ∷ rows)
no_fields field rows =
    let back = first_back rows in
    ap (answers_in field) back.1 ∙ no_column field back.0 rows

pub layer_of-text_of_rows : (field : Option (List ℕ)) (header : Record) (rows : List Record) → HasNoMark header → All (λ row. length row ≡ length header) rows
    → layer_of field (text_of_rows (header ∷ rows)) ≡ answers_in field (header ∷ rows)
layer_of-text_of_rows field [] rows none all = no_fields field rows
layer_of-text_of_rows field (first ∷ fields) rows none all =
    let count : 0 < length (first ∷ fields) = omega arith in
    ap (answers_in field) (rows_are_read (first ∷ fields) rows count none (all_some (length (first ∷ fields)) rows count all))
