-- The words of gdal_rasterize. Source: its manual; that two of its options exclude each other is this project's own.
use Rattle.std.specs.Prelude.{ℕ, ℤ, ◌||◌, Bool, true, false, List, [], ◌∷◌, codes, pos, Option, Some, None, option_map, unwrap_or}
use Rattle.std.proofs.Math.Bool.{beq}
use Rattle.std.specs.Option.{is_some, option_or}
use Rattle.cell_base.specs.declared.kind.CellKind.{CellKind}
use Rattle.cell_base.specs.declared.kind.CellKind.TheVariants.{Int64}
use Rattle.geo_transform.specs.declared.extent.Extent.{Extent}
use Rattle.tool_words.specs.Words.{Text}
use Rattle.tool_words.specs.Value.{any_text, cell_kind, coordinate, count_from_one, only, positive_coordinate, whole_value}
use Rattle.tool_words.specs.Grammar.{Form, Grammar, Piece, each, form_of, value_at}
use Rattle.tool_words.specs.Chosen.{chosen, chosen_by, chosen_if, name_at, switched}
use Rattle.tool_words.specs.declared.job.RasterizeJob.{RasterizeJob}
use Rattle.tool_words.specs.declared.job.SizeFrom.{SizeFrom}
use Rattle.tool_words.specs.declared.job.SizeFrom.TheVariants.{Cells, Res}
use Rattle.tool_words.specs.declared.job.ValueFrom.{ValueFrom}
use Rattle.tool_words.specs.declared.job.ValueFrom.TheVariants.{Burn, Field}

-- the edges of an extent: left, lower, right, upper
abbrev pub four_coordinates : List Form
four_coordinates = form_of coordinate ∷ form_of coordinate ∷ form_of coordinate ∷ form_of coordinate ∷ []

-- its options, and two names: the source and the destination
abbrev pub rasterize_grammar : Grammar
rasterize_grammar = record {
  options =
      record { option = codes "-burn"; takes = each (form_of whole_value ∷ []) }
      ∷ record { option = codes "-a"; takes = each (form_of any_text ∷ []) }
      ∷ record { option = codes "-i"; takes = each [] }
      ∷ record { option = codes "-at"; takes = each [] }
      ∷ record { option = codes "-add"; takes = each [] }
      ∷ record { option = codes "-init"; takes = each (form_of whole_value ∷ []) }
      ∷ record { option = codes "-a_nodata"; takes = each (form_of whole_value ∷ []) }
      ∷ record { option = codes "-te"; takes = each four_coordinates }
      ∷ record { option = codes "-tr"; takes = each (form_of positive_coordinate ∷ form_of positive_coordinate ∷ []) }
      ∷ record { option = codes "-ts"; takes = each (form_of count_from_one ∷ form_of count_from_one ∷ []) }
      ∷ record { option = codes "-ot"; takes = each (form_of cell_kind ∷ []) }
      ∷ record { option = codes "-l"; takes = each (form_of any_text ∷ []) }
      ∷ record { option = codes "-of"; takes = each (form_of (only (codes "AAIGrid")) ∷ []) }
      ∷ record { option = codes "-b"; takes = each (form_of (only (codes "1")) ∷ []) }
      ∷ record { option = codes "-q"; takes = each [] }
      ∷ [];
  names = form_of any_text ∷ form_of any_text ∷ [];
  required = 2;
}

-- what the options choose; the extent is that of -te, the resolution that of -tr, the size that of -ts
pub record RasterizeChoice : Type 0 where
  pub burn : Option ℤ
  pub field : Option Text
  pub invert : Bool
  pub touched : Bool
  pub add : Bool
  pub init : ℤ
  pub nodata : Option ℤ
  pub extent : Option Extent
  pub resolution : Option (ℤ × ℤ)
  pub size : Option (ℕ × ℕ)
  pub kind : CellKind

-- an initial value of 0, and cells of 64 bits
abbrev pub rasterize_default : RasterizeChoice
rasterize_default = record {
  burn = None;
  field = None;
  invert = false;
  touched = false;
  add = false;
  init = pos 0;
  nodata = None;
  extent = None;
  resolution = None;
  size = None;
  kind = Int64;
}

-- two values of a piece, from a number on
abbrev pub two_values : {A : Type 0} → (Text → Option A) → A → Piece → A × A
two_values value default piece =
    (unwrap_or (value (value_at piece 0)) default, unwrap_or (value (value_at piece 1)) default)

-- the extent of a piece's four values
abbrev pub extent_in : Piece → Extent
extent_in piece = record {
  xmin = unwrap_or (coordinate (value_at piece 0)) (pos 0);
  ymin = unwrap_or (coordinate (value_at piece 1)) (pos 0);
  xmax = unwrap_or (coordinate (value_at piece 2)) (pos 0);
  ymax = unwrap_or (coordinate (value_at piece 3)) (pos 0);
}

-- what a piece chooses
abbrev pub rasterize_chooses : RasterizeChoice → Piece → RasterizeChoice
rasterize_chooses before piece = record {
  burn = chosen_if (codes "-burn") whole_value 0 piece before.burn;
  field = chosen_if (codes "-a") any_text 0 piece before.field;
  invert = switched (codes "-i") true piece before.invert;
  touched = switched (codes "-at") true piece before.touched;
  add = switched (codes "-add") true piece before.add;
  init = chosen (codes "-init") whole_value 0 piece before.init;
  nodata = chosen_if (codes "-a_nodata") whole_value 0 piece before.nodata;
  extent = switched (codes "-te") (Some (extent_in piece)) piece before.extent;
  resolution = switched (codes "-tr") (Some (two_values positive_coordinate (pos 0) piece)) piece before.resolution;
  size = switched (codes "-ts") (Some (two_values count_from_one 0 piece)) piece before.size;
  kind = chosen (codes "-ot") cell_kind 0 piece before.kind;
}

-- both or neither of -burn and -a, or both or neither of -tr and -ts
abbrev pub rasterize_clash : RasterizeChoice → Bool
rasterize_clash choice =
    beq (is_some choice.burn) (is_some choice.field) || beq (is_some choice.resolution) (is_some choice.size)

-- the value that is burned: a number, or else the attribute of a field
abbrev pub value_from : RasterizeChoice → ValueFrom
value_from choice = unwrap_or (option_map Burn choice.burn) (Field (unwrap_or choice.field []))

-- the size of the grid: its cells', or else its number of columns and rows
abbrev pub size_from : RasterizeChoice → SizeFrom
size_from choice =
    unwrap_or
    (option_or (option_map (λ r. Res r.0 r.1) choice.resolution) (option_map (λ s. Cells s.0 s.1) choice.size))
    (Cells 0 0)

-- the job of the pieces
abbrev pub rasterize_job : List Piece → RasterizeJob
rasterize_job pieces =
    let choice : RasterizeChoice = chosen_by rasterize_chooses rasterize_default pieces in
    record {
      source = name_at pieces 0;
      dest = name_at pieces 1;
      value = value_from choice;
      invert = choice.invert;
      touched = choice.touched;
      add = choice.add;
      init = choice.init;
      nodata = choice.nodata;
      extent = choice.extent;
      size = size_from choice;
      kind = choice.kind;
    }
