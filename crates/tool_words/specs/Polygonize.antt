-- The words of gdal_polygonize. Source: its manual.
use Rattle.std.specs.Prelude.{true, false, List, [], ◌∷◌, codes, slice_get, unwrap_or}
use Rattle.tool_words.specs.Value.{any_text, field_name, only}
use Rattle.tool_words.specs.Grammar.{Grammar, Piece, each, form_of, names_of}
use Rattle.tool_words.specs.Chosen.{chosen_by, name_at, switched}
use Rattle.tool_words.specs.declared.polygonize.PolygonizeOptions.{PolygonizeOptions}
use Rattle.tool_words.specs.declared.job.PolygonizeJob.{PolygonizeJob}
use Rattle.tool_words.specs.declared.job.MaskFrom.TheVariants.{Nodata}

-- its options; and the source, the destination, then a layer's name, which changes nothing, and a field's
abbrev pub polygonize_grammar : Grammar
polygonize_grammar = record {
  options =
      record { option = codes "-8"; takes = each [] }
      ∷ record { option = codes "-f"; takes = each (form_of (only (codes "CSV")) ∷ []) }
      ∷ record { option = codes "-lco"; takes = each (form_of (only (codes "GEOMETRY=AS_WKT")) ∷ []) }
      ∷ record { option = codes "-b"; takes = each (form_of (only (codes "1")) ∷ []) }
      ∷ record { option = codes "-q"; takes = each [] }
      ∷ [];
  names = form_of any_text ∷ form_of any_text ∷ form_of any_text ∷ form_of field_name ∷ [];
  required = 2;
}

-- neighbours by four sides
abbrev pub polygonize_default : PolygonizeOptions
polygonize_default = record { eight = false }

-- what a piece chooses
abbrev pub polygonize_chooses : PolygonizeOptions → Piece → PolygonizeOptions
polygonize_chooses before piece = record { eight = switched (codes "-8") true piece before.eight }

-- the job of the pieces
abbrev pub polygonize_job : List Piece → PolygonizeJob
polygonize_job pieces =
    let options : PolygonizeOptions = chosen_by polygonize_chooses polygonize_default pieces in
    record {
      source = name_at pieces 0;
      dest = name_at pieces 1;
      field = unwrap_or (slice_get (names_of pieces) 3) (codes "DN");
      eight = options.eight;
      mask = Nodata;
    }
