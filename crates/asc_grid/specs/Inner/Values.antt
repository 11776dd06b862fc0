-- The values of a header while its pairs are read.
use Rattle.std.specs.Prelude.{ℕ, ℤ, ◌≡◌, ◌<◌, ◌<ℤ◌, Bool, List, [], ◌∷◌, ◌++◌, Some, None, Result, IfSome, is_some, pos, slice_get}
use Rattle.std.specs.Result.{result_ok, result_unwrap_or}
use Rattle.cell_base.specs.declared.fault.CellFault.{CellFault}
use Rattle.asc_grid.specs.Tokens.{Token}
use Rattle.geo_transform.specs.Layout.{Layout, square_layout}
use Rattle.asc_grid.specs.Header.{Pair, edge_of, values_of}
use Rattle.asc_grid.specs.Offence.{offence_of_pair}
use Rattle.asc_grid.specs.Value.{count_of, position_of, size_of}
use Rattle.asc_grid.specs.declared.keyword.Group.{Group}
use Rattle.asc_grid.specs.declared.keyword.Group.TheVariants.{Columns, Rows, Left, Lower, Size, Nodata}
use Rattle.asc_grid.specs.declared.keyword.Keyword.{Keyword}
use Rattle.asc_grid.specs.declared.header.Edge.{Edge}
use Rattle.asc_grid.specs.declared.header.HeaderValues.{HeaderValues}
use Rattle.asc_grid.specs.declared.fault.GridFault.{GridFault}

-- the group came
abbrev pub has : {T : Type 0} → HeaderValues T → Group → Bool
has v Columns = is_some v.columns
has v Rows = is_some v.rows
has v Left = is_some v.left
has v Lower = is_some v.lower
has v Size = is_some v.size
has v Nodata = is_some v.nodata

-- the values with that of one more group
abbrev pub with_group : {T : Type 0} → (List ℕ → Result T CellFault) → HeaderValues T → Group → Bool → List ℕ → HeaderValues T
with_group read v Columns centre text = record v { columns = Some (result_unwrap_or (count_of text) 0) }
with_group read v Rows centre text = record v { rows = Some (result_unwrap_or (count_of text) 0) }
with_group read v Left centre text = record v { left = Some (record { at = result_unwrap_or (position_of text) (pos 0); centre = centre }) }
with_group read v Lower centre text = record v { lower = Some (record { at = result_unwrap_or (position_of text) (pos 0); centre = centre }) }
with_group read v Size centre text = record v { size = Some (result_unwrap_or (size_of text) (pos 0)) }
with_group read v Nodata centre text = record v { nodata = Some (result_ok (read text)) }

abbrev pub with_value : {T : Type 0} → (List ℕ → Result T CellFault) → HeaderValues T → Keyword → List ℕ → HeaderValues T
with_value read v keyword text = with_group read v keyword.group keyword.centre text

-- the counts and the size that came are positive
pub record IsPositive {T : Type 0} (v : HeaderValues T) : Type 0 where
  pub columns : IfSome v.columns (λ n. 0 < n)
  pub rows : IfSome v.rows (λ n. 0 < n)
  pub size : IfSome v.size (λ units. pos 0 <ℤ units)

-- the pair of a keyword and the first of the tokens behind it
abbrev pub next_pair : Token → List Token → Pair
next_pair keyword tokens = record { keyword = keyword; value = slice_get tokens 0 }

-- the pair was taken behind those that the values came from
pub record TakesPair {T : Type 0} (read : List ℕ → Result T CellFault) (pair : Pair) (old new : HeaderValues T) : Type 0 where
  pub sound : (before : List Pair) → old ≡ values_of read before → offence_of_pair before pair ≡ None
  pub values : (before : List Pair) → old ≡ values_of read before → new ≡ values_of read (before ++ pair ∷ [])
  pub positive : IsPositive old → IsPositive new

-- the pair has this offence behind those that the values came from
abbrev pub RefusesPair : {T : Type 0} → (List ℕ → Result T CellFault) → Pair → HeaderValues T → GridFault → Type 0
RefusesPair read pair old fault = (before : List Pair) → old ≡ values_of read before → offence_of_pair before pair ≡ Some fault

-- the frame's numbers where each value came
abbrev pub given_layout : ℕ → ℕ → Edge → Edge → ℤ → Layout
given_layout ncols nrows left lower size = square_layout ncols nrows (edge_of left size) (edge_of lower size) size
