-- The job of the program's words, or their first fault. Source: the GDAL manuals.
use Rattle.std.specs.Prelude.{◌≡◌, Bool, false, IsOk, List, [], ◌∷◌, codes, Option, Some, None, Result, Ok, Err, if◌then◌else◌}
use Rattle.std.specs.Str.{bytes_eq}
use Rattle.tool_words.specs.Words.{Text}
use Rattle.tool_words.specs.Grammar.{Grammar, Piece, pieces_of}
use Rattle.tool_words.specs.Chosen.{chosen_by}
use Rattle.tool_words.specs.Offence.{first_fault}
use Rattle.tool_words.specs.Sieve.{sieve_grammar, sieve_job}
use Rattle.tool_words.specs.Polygonize.{polygonize_grammar, polygonize_job}
use Rattle.tool_words.specs.Rasterize.{rasterize_grammar, rasterize_chooses, rasterize_clash, rasterize_default, rasterize_job}
use Rattle.tool_words.specs.Contour.{contour_grammar, contour_chooses, contour_clash, contour_default, contour_job}
use Rattle.tool_words.specs.Check.{FitsCheck, check_grammar, check_job}
use Rattle.tool_words.specs.declared.fault.WordFault.{WordFault}
use Rattle.tool_words.specs.declared.fault.WordFault.TheVariants.{At, NoMemory}
use Rattle.tool_words.specs.declared.fault.WordKind.TheVariants.{NoTool, UnknownTool}
use Rattle.tool_words.specs.declared.job.Job.{Job}
use Rattle.tool_words.specs.declared.job.Job.TheVariants.{Sieve, Polygonize, Rasterize, Contour, Check}

-- what is there without a fault
abbrev pub unless : {A : Type 0} → Option WordFault → A → Result A WordFault
unless None a = Ok a
unless (Some fault) a = Err fault

-- the job of the words behind a tool's name, where its options clash or don't
abbrev pub job_by : Grammar → (List Piece → Bool) → (List Piece → Job) → List Text → Result Job WordFault
job_by grammar clash job words =
    unless (first_fault grammar (clash (pieces_of grammar words)) words) (job (pieces_of grammar words))

-- what no choice of options has
abbrev pub never : List Piece → Bool
never pieces = false

-- the jobs of the words behind each tool's name

abbrev pub sieve_words : List Text → Result Job WordFault
sieve_words words = job_by sieve_grammar never (λ pieces. Sieve (sieve_job pieces)) words

abbrev pub polygonize_words : List Text → Result Job WordFault
polygonize_words words = job_by polygonize_grammar never (λ pieces. Polygonize (polygonize_job pieces)) words

abbrev pub rasterize_words : List Text → Result Job WordFault
rasterize_words words =
    let clash : List Piece → Bool = λ pieces. rasterize_clash (chosen_by rasterize_chooses rasterize_default pieces) in
    job_by rasterize_grammar clash (λ pieces. Rasterize (rasterize_job pieces)) words

abbrev pub contour_words : List Text → Result Job WordFault
contour_words words =
    let clash : List Piece → Bool = λ pieces. contour_clash (chosen_by contour_chooses contour_default pieces) in
    job_by contour_grammar clash (λ pieces. Contour (contour_job pieces)) words

abbrev pub check_words : List Text → Result Job WordFault
check_words words = job_by check_grammar never (λ pieces. Check (check_job pieces)) words

-- the tools by their names
abbrev pub words_of_tool : Text → List Text → Result Job WordFault
words_of_tool tool words =
    if bytes_eq tool (codes "gdal_sieve") then sieve_words words
    else if bytes_eq tool (codes "gdal_polygonize") then polygonize_words words
    else if bytes_eq tool (codes "gdal_rasterize") then rasterize_words words
    else if bytes_eq tool (codes "gdal_contour") then contour_words words
    else if bytes_eq tool (codes "check") then check_words words
    else Err (At UnknownTool 1)

-- the job of the program's words
abbrev pub job_of : List Text → Result Job WordFault
job_of [] = Err (At NoTool 1)
job_of (tool ∷ words) = words_of_tool tool words

-- what is answered is the job or the fault; want of memory may come in place of a job
abbrev pub IsAnswer : Result Job WordFault → Result Job WordFault → Type 0
IsAnswer expected (Ok job) = expected ≡ Ok job
IsAnswer expected (Err NoMemory) = IsOk expected
IsAnswer expected (Err fault) = expected ≡ Err fault

-- the numbers of a job of check are such as words can name
abbrev pub FitsJob : Job → Type 0
FitsJob (Check job) = FitsCheck job
FitsJob other = Unit {0}
