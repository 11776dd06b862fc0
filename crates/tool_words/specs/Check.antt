-- The words of check. Source: this project's own.
use Rattle.std.specs.Prelude.{◌≤◌, ℕ, List, [], ◌∷◌, codes, Option, unwrap_or}
use Rattle.cell_base.specs.declared.kind.CellKind.TheVariants.{Int64}
use Rattle.tool_words.specs.Words.{Text}
use Rattle.tool_words.specs.Value.{cell_kind, count_from_one, count_of, most_count, most_values, values_count}
use Rattle.tool_words.specs.Grammar.{Grammar, Piece, each, form_of}
use Rattle.tool_words.specs.Chosen.{chosen, chosen_by, name_at}
use Rattle.tool_words.specs.declared.check.CheckOptions.{CheckOptions}
use Rattle.tool_words.specs.declared.job.CheckJob.{CheckJob}

-- its options, and four names: a seed, a width, a height and how many values there are
abbrev pub check_grammar : Grammar
check_grammar = record {
  options =
      record { option = codes "-ot"; takes = each (form_of cell_kind ∷ []) }
      ∷ record { option = codes "-q"; takes = each [] }
      ∷ [];
  names = form_of count_of ∷ form_of count_from_one ∷ form_of count_from_one ∷ form_of values_count ∷ [];
  required = 4;
}

-- cells of 64 bits
abbrev pub check_default : CheckOptions
check_default = record { kind = Int64 }

-- what a piece chooses
abbrev pub check_chooses : CheckOptions → Piece → CheckOptions
check_chooses before piece = record { kind = chosen (codes "-ot") cell_kind 0 piece before.kind }

-- what the name of a number, which counts from 0, stands for
abbrev pub number_at : (Text → Option ℕ) → List Piece → ℕ → ℕ
number_at value pieces i = unwrap_or (value (name_at pieces i)) 0

-- the job of the pieces
abbrev pub check_job : List Piece → CheckJob
check_job pieces =
    let options : CheckOptions = chosen_by check_chooses check_default pieces in
    record {
      seed = number_at count_of pieces 0;
      width = number_at count_from_one pieces 1;
      height = number_at count_from_one pieces 2;
      values = number_at values_count pieces 3;
      kind = options.kind;
    }

-- the numbers of a job are such as words can name
pub record FitsCheck (job : CheckJob) : Type 0 where
  pub seed_most : job.seed ≤ most_count
  pub width_from_one : 1 ≤ job.width
  pub width_most : job.width ≤ most_count
  pub height_from_one : 1 ≤ job.height
  pub height_most : job.height ≤ most_count
  pub values_from_one : 1 ≤ job.values
  pub values_most : job.values ≤ most_values
