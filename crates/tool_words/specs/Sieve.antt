-- The words of gdal_sieve. Source: its manual.
use Rattle.std.specs.Prelude.{true, false, List, [], ◌∷◌, codes}
use Rattle.tool_words.specs.Value.{any_text, count_of, only}
use Rattle.tool_words.specs.Grammar.{Grammar, Piece, each, form_of}
use Rattle.tool_words.specs.Chosen.{chosen, chosen_by, name_at, switched}
use Rattle.tool_words.specs.declared.sieve.SieveOptions.{SieveOptions}
use Rattle.tool_words.specs.declared.job.SieveJob.{SieveJob}
use Rattle.tool_words.specs.declared.job.MaskFrom.TheVariants.{Nodata}

-- its options, and two names: the source and the destination
abbrev pub sieve_grammar : Grammar
sieve_grammar = record {
  options =
      record { option = codes "-st"; takes = each (form_of count_of ∷ []) }
      ∷ record { option = codes "-4"; takes = each [] }
      ∷ record { option = codes "-8"; takes = each [] }
      ∷ record { option = codes "-of"; takes = each (form_of (only (codes "AAIGrid")) ∷ []) }
      ∷ record { option = codes "-q"; takes = each [] }
      ∷ [];
  names = form_of any_text ∷ form_of any_text ∷ [];
  required = 2;
}

-- a threshold of 2, and neighbours by four sides
abbrev pub sieve_default : SieveOptions
sieve_default = record { st = 2; eight = false }

-- what a piece chooses
abbrev pub sieve_chooses : SieveOptions → Piece → SieveOptions
sieve_chooses before piece = record {
  st = chosen (codes "-st") count_of 0 piece before.st;
  eight = switched (codes "-4") false piece (switched (codes "-8") true piece before.eight);
}

-- the job of the pieces
abbrev pub sieve_job : List Piece → SieveJob
sieve_job pieces =
    let options : SieveOptions = chosen_by sieve_chooses sieve_default pieces in
    record {
      source = name_at pieces 0;
      dest = name_at pieces 1;
      st = options.st;
      eight = options.eight;
      mask = Nodata;
    }
