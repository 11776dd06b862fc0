-- The words of gdal_contour. Source: its manual; that an interval and fixed levels may both be given is this project's own.
use Rattle.std.specs.Prelude.{ℤ, ◌&&◌, Bool, true, false, List, [], ◌∷◌, map, codes, pos, Option, None, if◌then◌else◌, not, unwrap_or}
use Rattle.std.specs.List.{flat_map}
use Rattle.std.specs.Option.{is_some}
use Rattle.tool_words.specs.Words.{Text}
use Rattle.tool_words.specs.Value.{any_text, decimal_of, field_name, only, positive_decimal}
use Rattle.tool_words.specs.Grammar.{Grammar, Piece, each, numbers, form_of}
use Rattle.tool_words.specs.Chosen.{chosen, chosen_by, chosen_if, is_piece, name_at, switched}
use Rattle.tool_words.specs.declared.job.ContourJob.{ContourJob}

-- its options, and two names: the source and the destination
abbrev pub contour_grammar : Grammar
contour_grammar = record {
  options =
      record { option = codes "-i"; takes = each (form_of positive_decimal ∷ []) }
      ∷ record { option = codes "-off"; takes = each (form_of decimal_of ∷ []) }
      ∷ record { option = codes "-fl"; takes = numbers }
      ∷ record { option = codes "-a"; takes = each (form_of field_name ∷ []) }
      ∷ record { option = codes "-nln"; takes = each (form_of any_text ∷ []) }
      ∷ record { option = codes "-f"; takes = each (form_of (only (codes "CSV")) ∷ []) }
      ∷ record { option = codes "-lco"; takes = each (form_of (only (codes "GEOMETRY=AS_WKT")) ∷ []) }
      ∷ record { option = codes "-b"; takes = each (form_of (only (codes "1")) ∷ []) }
      ∷ record { option = codes "-q"; takes = each [] }
      ∷ [];
  names = form_of any_text ∷ form_of any_text ∷ [];
  required = 2;
}

-- what the options choose, and whether fixed levels are given
pub record ContourChoice : Type 0 where
  pub interval : Option ℤ
  pub offset : ℤ
  pub has_fixed : Bool
  pub field : Option Text

-- an offset of 0
abbrev pub contour_default : ContourChoice
contour_default = record { interval = None; offset = pos 0; has_fixed = false; field = None }

-- what a piece chooses
abbrev pub contour_chooses : ContourChoice → Piece → ContourChoice
contour_chooses before piece = record {
  interval = chosen_if (codes "-i") positive_decimal 0 piece before.interval;
  offset = chosen (codes "-off") decimal_of 0 piece before.offset;
  has_fixed = switched (codes "-fl") true piece before.has_fixed;
  field = chosen_if (codes "-a") field_name 0 piece before.field;
}

-- neither an interval nor fixed levels
abbrev pub contour_clash : ContourChoice → Bool
contour_clash choice = not (is_some choice.interval) && not choice.has_fixed

-- the fixed levels of a piece
abbrev pub levels_in : Piece → List ℤ
levels_in piece =
    if is_piece (codes "-fl") piece then map (λ word. unwrap_or (decimal_of word) (pos 0)) piece.values else []

-- the job of the pieces; all lists of fixed levels are joined
abbrev pub contour_job : List Piece → ContourJob
contour_job pieces =
    let choice : ContourChoice = chosen_by contour_chooses contour_default pieces in
    record {
      source = name_at pieces 0;
      dest = name_at pieces 1;
      interval = choice.interval;
      offset = choice.offset;
      fixed = flat_map levels_in pieces;
      field = choice.field;
    }
