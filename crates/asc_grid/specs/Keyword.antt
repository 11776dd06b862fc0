-- The keywords of a grid's header. Source: ESRI ASCII grid.
use Rattle.std.specs.Prelude.{ℕ, true, false, List, [], ◌∷◌, Option, find, option_map, codes}
use Rattle.std.specs.Str.{str_eq_ignore_ascii_case}
use Rattle.asc_grid.specs.declared.keyword.Group.{Group}
use Rattle.asc_grid.specs.declared.keyword.Group.TheVariants.{Columns, Rows, Left, Lower, Size, Nodata}
use Rattle.asc_grid.specs.declared.keyword.Keyword.{Keyword}

abbrev pub plain : Group → Keyword
plain group = record { group = group; centre = false }

abbrev pub of_centre : Group → Keyword
of_centre group = record { group = group; centre = true }

-- the keywords: what each one's value is, and whether it is that of a centre
unfoldable pub keywords : List (List ℕ × Keyword)
keywords =
    (codes "ncols", plain Columns) ∷ (codes "nrows", plain Rows)
    ∷ (codes "xllcorner", plain Left) ∷ (codes "xllcenter", of_centre Left)
    ∷ (codes "yllcorner", plain Lower) ∷ (codes "yllcenter", of_centre Lower)
    ∷ (codes "cellsize", plain Size) ∷ (codes "NODATA_value", plain Nodata) ∷ []

-- the keyword that a text is, without regard to ASCII case
abbrev pub keyword_of : List ℕ → Option Keyword
keyword_of text = option_map (λ row. row.1) (find (λ row. str_eq_ignore_ascii_case text row.0) keywords)

-- groups told apart by their numbers
abbrev pub number_of : Group → ℕ
number_of Columns = 0
number_of Rows = 1
number_of Left = 2
number_of Lower = 3
number_of Size = 4
number_of Nodata = 5
