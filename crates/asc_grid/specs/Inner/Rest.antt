-- The rest of the text of some rows.
use Rattle.std.specs.Prelude.{ℕ, zero, suc, drop, List, [], ◌∷◌, ◌++◌}
use Rattle.std.specs.List.{flat_map}
use Rattle.asc_grid.specs.Canonical.{row_text}

-- the rest of a row's text, from the first of these cells on
abbrev pub row_rest : {T : Type 0} → (T → List ℕ) → List T → List ℕ
row_rest spell [] = []
row_rest spell (cell ∷ cells) = row_text spell (cell ∷ cells)

-- the rest of a row's text, from a column on
abbrev pub row_from : {T : Type 0} → (T → List ℕ) → List T → ℕ → List ℕ
row_from spell row col = row_rest spell (drop col row)

-- the rest of the rows' text, from a row and a column on
abbrev pub rows_rest : {T : Type 0} → (T → List ℕ) → List (List T) → ℕ → ℕ → List ℕ
rows_rest spell [] row col = []
rows_rest spell (first ∷ rows) zero col = row_rest spell (drop col first) ++ flat_map (row_text spell) rows
rows_rest spell (first ∷ rows) (suc row) col = rows_rest spell rows row col
