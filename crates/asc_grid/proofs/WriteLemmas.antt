-- Texts that are appended part by part.
use Rattle.std.proofs.Common.{◌≡◌, ℕ, zero, suc, false, ◌<◌, ◌≤◌, List, [], ◌∷◌, ◌++◌, length, drop, get_or, refl, sym, ap, ◌∙◌, arith, append-nil, append_assoc}
use Rattle.std.specs.Prelude.{◌==◌, if◌then◌else◌, map}
use Rattle.std.specs.Prelude.{All, Some, slice_get}
use Rattle.std.specs.List.{flat_map, join_with_byte}
use Rattle.std.proofs.lemmas.List.{drop_all}
use Rattle.std.proofs.lemmas.Option.{none-some, same_Some}
use Rattle.std.proofs.lemmas.Bool.Decides.{nat_tests}
use Rattle.asc_grid.specs.Appended.{Appends, AppendsPart}
use Rattle.asc_grid.specs.Canonical.{row_text}
use Rattle.asc_grid.specs.Inner.Rest.{row_rest, rows_rest}

pub appends_nothing : (before text : List ℕ) → Appends before before text text
appends_nothing before text = ([], refl, sym (append-nil before))

pub appends_then : (before mid now text part left : List ℕ) → Appends before mid text part → Appends mid now part left → Appends before now text left
appends_then before mid now text part left first second =
    (first.0 ++ second.0, first.1 ∙ ap (λ xs. first.0 ++ xs) second.1 ∙ sym (append_assoc first.0 second.0 left), second.2 ∙ ap (λ xs. xs ++ second.0) first.2 ∙ append_assoc before first.0 second.0)

-- a text's own first part
pub appends_part : (before text left : List ℕ) → Appends before (before ++ text) (text ++ left) left
appends_part before text left = (text, refl, refl)

pub appends_part_then : (before mid now text part : List ℕ) → Appends before mid text part → AppendsPart mid now part → AppendsPart before now text
appends_part_then before mid now text part first second = (second.0, appends_then before mid now text part second.0 first second.1)

-- a cell's text, what stands behind it, and the rest of its row
pub row_rest-cell : {T : Type 0} (spell : T → List ℕ) (row : List T) (col : ℕ) (cell : T) → col < length row → cell ≡ get_or row col cell → row_rest spell (drop col row) ≡ spell cell ++ (if (suc col) == length row then 10 else 32) ∷ row_rest spell (drop (suc col) row)
row_rest-cell spell [] col cell within is = absurd (omega (arith, within))
row_rest-cell spell (x ∷ []) zero cell within is = rw is refl
row_rest-cell spell (x ∷ y ∷ row) zero cell within is =
    let more : ((suc 0) == suc (suc (length row))) ≡ false = grind (arith, nat_tests) in
    rw (is, more) (append_assoc (spell x) (32 ∷ join_with_byte 32 (map spell (y ∷ row))) (10 ∷ []))
row_rest-cell spell (x ∷ row) (suc col) cell within is =
    let same : ((suc (suc col)) == suc (length row)) ≡ ((suc col) == length row) = grind (arith, nat_tests) in
    rw same (row_rest-cell spell row col cell (omega (arith, within)) is)

-- a cell and what stands behind it
pub appends_cell : (before mid now text cell rest : List ℕ) (byte : ℕ) → mid ≡ before ++ cell → now ≡ mid ++ byte ∷ [] → text ≡ cell ++ byte ∷ rest → Appends before now text rest
appends_cell before mid now text cell rest byte first second is =
    (cell ++ byte ∷ [], is ∙ sym (append_assoc cell (byte ∷ []) rest), second ∙ ap (λ xs. xs ++ byte ∷ []) first ∙ append_assoc before cell (byte ∷ []))

-- a cell without what stands behind it
pub appends_cell_alone : (before mid text cell rest : List ℕ) → mid ≡ before ++ cell → text ≡ cell ++ rest → AppendsPart before mid text
appends_cell_alone before mid text cell rest first is = (rest, (cell, is, first))

-- the same with more behind it
pub appends_before : (before now text left more : List ℕ) → Appends before now text left → Appends before now (text ++ more) (left ++ more)
appends_before before now text left more some = (some.0, ap (λ xs. xs ++ more) some.1 ∙ append_assoc some.0 left more, some.2)

pub appends_part_before : (before now text more : List ℕ) → AppendsPart before now text → AppendsPart before now (text ++ more)
appends_part_before before now text more some = (some.0 ++ more, appends_before before now text some.0 more some.1)

-- the rest of a row stands before the rows behind it
pub rows_rest-row : {T : Type 0} (spell : T → List ℕ) (rows : List (List T)) (row col : ℕ) (cells : List T) → slice_get rows row ≡ Some cells → rows_rest spell rows row col ≡ row_rest spell (drop col cells) ++ flat_map (row_text spell) (drop (suc row) rows)
rows_rest-row spell [] row col cells is = absurd (none-some cells is)
rows_rest-row spell (first ∷ rows) zero col cells is = rw (same_Some first cells is) refl
rows_rest-row spell (first ∷ rows) (suc row) col cells is = rows_rest-row spell rows row col cells is

-- from a row's start on the text of all further rows is left
pub rows_rest-start : {T : Type 0} (spell : T → List ℕ) (ncols : ℕ) (rows : List (List T)) (row : ℕ) → 0 < ncols → All (λ row. length row ≡ ncols) rows → rows_rest spell rows row 0 ≡ flat_map (row_text spell) (drop row rows)
rows_rest-start spell ncols [] zero some width = refl
rows_rest-start spell ncols [] (suc row) some width = refl
rows_rest-start spell ncols ([] ∷ rows) zero some width = absurd (omega (arith, some, width 0 [] (omega arith)))
rows_rest-start spell ncols ((cell ∷ cells) ∷ rows) zero some width = refl
rows_rest-start spell ncols (first ∷ rows) (suc row) some width = rows_rest-start spell ncols rows row some (λ k d within. width (suc k) d (omega (arith, within)))

-- a row's end is the next row's start
pub rows_rest-next : {T : Type 0} (spell : T → List ℕ) (ncols : ℕ) (rows : List (List T)) (row : ℕ) (cells : List T) → 0 < ncols → All (λ row. length row ≡ ncols) rows → slice_get rows row ≡ Some cells → rows_rest spell rows row (length cells) ≡ rows_rest spell rows (suc row) 0
rows_rest-next spell ncols rows row cells some width is =
    rows_rest-row spell rows row (length cells) cells is ∙ ap (λ xs. row_rest spell xs ++ flat_map (row_text spell) (drop (suc row) rows)) (drop_all (length cells) cells (omega arith)) ∙ sym (rows_rest-start spell ncols rows (suc row) some width)

-- past the last row nothing is left
pub rows_rest-end : {T : Type 0} (spell : T → List ℕ) (rows : List (List T)) (row col : ℕ) → length rows ≤ row → rows_rest spell rows row col ≡ []
rows_rest-end spell [] row col past = refl
rows_rest-end spell (first ∷ rows) zero col past = absurd (omega (arith, past))
rows_rest-end spell (first ∷ rows) (suc row) col past = rows_rest-end spell rows row col (omega (arith, past))

-- where nothing is left the text was appended
pub appends_all : (before now text : List ℕ) → Appends before now text [] → now ≡ before ++ text
appends_all before now text all = all.2 ∙ ap (λ xs. before ++ xs) (sym (all.1 ∙ append-nil all.0))
