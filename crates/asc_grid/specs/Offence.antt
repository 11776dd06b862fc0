-- What is wrong with a header: the first offence in the stated order. Source: ESRI ASCII grid; the order and the limits are this project's own.
use Rattle.std.specs.Prelude.{ℕ, ◌*◌, ◌&&◌, Bool, List, [], ◌∷◌, ◌++◌, Option, Some, None, is_some, option_map, if◌then◌else◌}
use Rattle.std.specs.List.{list_any}
use Rattle.std.specs.Option.{option_or}
use Rattle.geo_transform.specs.Fault.{has_too_many_cells, is_in_range}
use Rattle.geo_transform.specs.Layout.{Layout}
use Rattle.asc_grid.specs.Tokens.{Token}
use Rattle.asc_grid.specs.Keyword.{keyword_of}
use Rattle.asc_grid.specs.Header.{Pair, is_of, layout_of}
use Rattle.asc_grid.specs.Value.{wrong_value}
use Rattle.asc_grid.specs.declared.keyword.Group.{Group}
use Rattle.asc_grid.specs.declared.keyword.Keyword.{Keyword}
use Rattle.asc_grid.specs.declared.header.HeaderValues.{HeaderValues}
use Rattle.asc_grid.specs.declared.fault.GridKind.{GridKind}
use Rattle.asc_grid.specs.declared.fault.GridKind.TheVariants.{UnknownKeyword, RepeatedKeyword, MissingKeyword, BadNumber, OutOfRange, TooLarge}
use Rattle.asc_grid.specs.declared.fault.GridFault.{GridFault}
use Rattle.asc_grid.specs.declared.fault.GridFault.TheVariants.{At}

-- the offence of a value, on its line, or on the keyword's where there is none
abbrev pub offence_of_value : Group → ℕ → Option Token → Option GridFault
offence_of_value group line None = Some (At BadNumber line)
offence_of_value group line (Some value) = option_map (λ kind. At kind value.line) (wrong_value group value.text)

-- the offence of a pair whose keyword is this one, behind the pairs before it
abbrev pub offence_of_keyword : List Pair → Pair → Option Keyword → Option GridFault
offence_of_keyword before pair None = Some (At UnknownKeyword pair.keyword.line)
offence_of_keyword before pair (Some k) =
    if list_any (is_of k.group) before then Some (At RepeatedKeyword pair.keyword.line) else offence_of_value k.group pair.keyword.line pair.value

abbrev pub offence_of_pair : List Pair → Pair → Option GridFault
offence_of_pair before pair = offence_of_keyword before pair (keyword_of pair.keyword.text)

-- the first offence of pairs that stand behind others
abbrev pub offence_of_pairs : List Pair → List Pair → Option GridFault
offence_of_pairs before [] = None
offence_of_pairs before (pair ∷ pairs) = option_or (offence_of_pair before pair) (offence_of_pairs (before ++ pair ∷ []) pairs)

-- each of the five groups that a frame needs came
abbrev pub has_frame : {T : Type 0} → HeaderValues T → Bool
has_frame v = is_some v.columns && is_some v.rows && is_some v.left && is_some v.lower && is_some v.size

-- what is wrong with a frame
abbrev pub wrong_layout : Layout → Option GridKind
wrong_layout l = if has_too_many_cells l then Some (TooLarge (l.ncols * l.nrows)) else if is_in_range l then None else Some OutOfRange

-- what is wrong at the header's end
abbrev pub wrong_end : {T : Type 0} → HeaderValues T → Option GridKind
wrong_end v = if has_frame v then wrong_layout (layout_of v) else Some MissingKeyword
