-- The header of a grid: the pairs of a keyword and its value that come before the cells. Source: ESRI ASCII grid.
use Rattle.std.specs.Prelude.{ℕ, ℤ, ◌-ℤ◌, ◌*ℤ◌, ◌==◌, ◌||◌, Bool, false, List, [], ◌∷◌, Option, Some, None, Result, find, option_map, option_and_then, pos, unwrap_or, if◌then◌else◌}
use Rattle.std.specs.Char.{is_ascii_digit}
use Rattle.std.specs.Option.{option_map_or}
use Rattle.std.specs.Result.{result_ok, result_unwrap_or}
use Rattle.fixed_coord.specs.Round.{round_half_away}
use Rattle.cell_base.specs.declared.fault.CellFault.{CellFault}
use Rattle.geo_transform.specs.Layout.{Layout, square_layout}
use Rattle.asc_grid.specs.Tokens.{Token}
use Rattle.asc_grid.specs.Keyword.{keyword_of, number_of}
use Rattle.asc_grid.specs.Value.{count_of, position_of, size_of}
use Rattle.asc_grid.specs.declared.keyword.Group.{Group}
use Rattle.asc_grid.specs.declared.keyword.Group.TheVariants.{Columns, Rows, Left, Lower, Size, Nodata}
use Rattle.asc_grid.specs.declared.header.Edge.{Edge}
use Rattle.asc_grid.specs.declared.header.HeaderValues.{HeaderValues}

-- a token in a keyword's place, and the one behind it, if there is one
pub record Pair : Type 0 where
  pub keyword : Token
  pub value : Option Token

-- the pairs, and the tokens from the first cell on
pub record Header : Type 0 where
  pub pairs : List Pair
  pub cells : List Token

-- a digit, a sign or a point stands first
abbrev pub begins_number : List ℕ → Bool
begins_number [] = false
begins_number (byte ∷ bytes) = is_ascii_digit byte || (byte == 43) || (byte == 45) || (byte == 46)

abbrev pub without_pairs : List Token → Header
without_pairs tokens = record { pairs = []; cells = tokens }

abbrev pub with_pair : Token → Option Token → Header → Header
with_pair keyword value header = record header { pairs = record { keyword = keyword; value = value } ∷ header.pairs }

-- the header ends before the first token in a keyword's place that begins a number
abbrev pub header_of : List Token → Header
header_of [] = without_pairs []
header_of (token ∷ []) = if begins_number token.text then without_pairs (token ∷ []) else with_pair token None (without_pairs [])
header_of (token ∷ value ∷ tokens) =
    if begins_number token.text then without_pairs (token ∷ value ∷ tokens) else with_pair token (Some value) (header_of tokens)

-- the line of the token that ends a header, or of the text's end
abbrev pub end_line : ℕ → List Token → ℕ
end_line last [] = last
end_line last (token ∷ tokens) = token.line

-- whether the pair's keyword is of this group
abbrev pub is_of : Group → Pair → Bool
is_of group pair = option_map_or (λ k. number_of k.group == number_of group) (keyword_of pair.keyword.text) false

-- the text of a pair's value, and whether it is that of a centre
abbrev pub value_text : Pair → List ℕ
value_text pair = option_map_or (λ token. token.text) pair.value []

abbrev pub is_centre : Pair → Bool
is_centre pair = option_map_or (λ k. k.centre) (keyword_of pair.keyword.text) false

-- what is said of a group by the first pair of its keywords
abbrev pub said_of : {V : Type 0} → Group → (Pair → V) → List Pair → Option V
said_of group of_pair pairs = option_map of_pair (find (is_of group) pairs)

-- the numbers of a pair's value
abbrev pub count_in : Pair → ℕ
count_in pair = result_unwrap_or (count_of (value_text pair)) 0

abbrev pub size_in : Pair → ℤ
size_in pair = result_unwrap_or (size_of (value_text pair)) (pos 0)

abbrev pub edge_in : Pair → Edge
edge_in pair = record { at = result_unwrap_or (position_of (value_text pair)) (pos 0); centre = is_centre pair }

-- what the pairs say: a nodata value that isn't read as a cell says that there is none
abbrev pub values_of : {T : Type 0} → (List ℕ → Result T CellFault) → List Pair → HeaderValues T
values_of read pairs = record {
  columns = said_of Columns count_in pairs;
  rows = said_of Rows count_in pairs;
  left = said_of Left edge_in pairs;
  lower = said_of Lower edge_in pairs;
  size = said_of Size size_in pairs;
  nodata = said_of Nodata (λ pair. result_ok (read (value_text pair))) pairs;
}

-- the edge of the cells: half a cell away from a centre, rounded half away from zero
abbrev pub edge_of : Edge → ℤ → ℤ
edge_of edge size = if edge.centre then round_half_away (pos 2 *ℤ edge.at -ℤ size) 2 else edge.at

-- the frame's numbers, where each is said
abbrev pub layout_of : {T : Type 0} → HeaderValues T → Layout
layout_of v =
    let size = unwrap_or v.size (pos 0) in
    let edge : Option Edge → ℤ = λ side. option_map_or (λ e. edge_of e size) side (pos 0) in
    square_layout (unwrap_or v.columns 0) (unwrap_or v.rows 0) (edge v.left) (edge v.lower) size

-- the nodata value
abbrev pub nodata_of : {T : Type 0} → HeaderValues T → Option T
nodata_of v = option_and_then (λ nodata. nodata) v.nodata
