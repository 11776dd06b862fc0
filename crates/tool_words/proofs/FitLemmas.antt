-- The numbers of a job of check that words give.
use Rattle.std.proofs.Common.{◌≡◌, ◌≤◌, ◌+◌, ◌&&◌, ℕ, List, [], ◌∷◌, Option, Some, None, Ok, Err, Bool, true, false, codes, length, refl, subst, arith}
use Rattle.std.specs.Prelude.{if◌then◌else◌, is_some, nat_le, nat_lt, slice_get, unwrap_or}
use Rattle.std.specs.Str.{bytes_eq}
use Rattle.std.specs.Str.Parse.{digits_value}
use Rattle.std.proofs.lemmas.Bool.Decides.{nat_tests}
use Rattle.std.proofs.lemmas.Option.{same_Some}
use Rattle.fixed_coord.specs.Number.{is_digits}
use Rattle.cell_base.specs.declared.kind.CellKind.{CellKind}
use Rattle.tool_words.specs.Words.{Text}
use Rattle.tool_words.specs.Value.{count_from_one, count_of, kept_if, most_count, most_values, values_count}
use Rattle.tool_words.specs.Grammar.{Piece, names_of, pieces_of}
use Rattle.tool_words.specs.Chosen.{chosen_by}
use Rattle.tool_words.specs.Offence.{first_fault, first_wrong, wrong_end}
use Rattle.tool_words.specs.Check.{FitsCheck, check_chooses, check_default, check_grammar, check_job}
use Rattle.tool_words.specs.Job.{FitsJob, check_words, contour_words, job_of, polygonize_words, rasterize_words, sieve_words, unless}
use Rattle.tool_words.specs.declared.fault.WordFault.{WordFault}
use Rattle.tool_words.specs.declared.fault.WordFault.TheVariants.{At}
use Rattle.tool_words.specs.declared.fault.WordKind.TheVariants.{UnknownTool}
use Rattle.tool_words.specs.declared.job.CheckJob.{CheckJob}
use Rattle.tool_words.specs.declared.job.Job.{Job}
use Rattle.tool_words.specs.declared.job.Job.TheVariants.{Check}
use Rattle.tool_words.proofs.NameLemmas.{AreInForms, enough_names, in_forms, or_none}

at_most : (n most : ℕ) → nat_le n most ≡ true → n ≤ most
at_most n most test = grind (arith, nat_tests, test)

above : (n least : ℕ) → nat_lt least n ≡ true → least + 1 ≤ n
above n least test = grind (arith, nat_tests, test)

kept_by : (test : ℕ → Bool) (m n : ℕ) (b : Bool) → test m ≡ b → (if b then Some m else None) ≡ Some n → (Some m ≡ Some n) × (test n ≡ true)
kept_by test m n true passes is = (is, subst (λ (k : ℕ). test k ≡ true) (same_Some m n is) passes)
kept_by test m n false passes is = absurd (cc is)

-- what is kept was there, and passes the test
kept : (test : ℕ → Bool) (o : Option ℕ) (n : ℕ) → kept_if test o ≡ Some n → (o ≡ Some n) × (test n ≡ true)
kept test None n is = absurd (cc is)
kept test (Some m) n is = kept_by test m n (test m) refl is

count_by : (digits : Bool) (value : Option ℕ) (n : ℕ) → (if digits then kept_if (λ m. nat_le m most_count) value else None) ≡ Some n → n ≤ most_count
count_by true value n is = at_most n most_count (kept (λ m. nat_le m most_count) value n is).1
count_by false value n is = absurd (cc is)

count_most : (word : Text) (n : ℕ) → count_of word ≡ Some n → n ≤ most_count
count_most word n is = count_by (is_digits word && nat_le (length word) 10) (Some (digits_value 10 word)) n is

size_from_one : (word : Text) (n : ℕ) → count_from_one word ≡ Some n → 1 ≤ n
size_from_one word n is = above n 0 (kept (nat_lt 0) (count_of word) n is).1

size_most : (word : Text) (n : ℕ) → count_from_one word ≡ Some n → n ≤ most_count
size_most word n is = count_most word n (kept (nat_lt 0) (count_of word) n is).0

values_from_one : (word : Text) (n : ℕ) → values_count word ≡ Some n → 1 ≤ n
values_from_one word n is = size_from_one word n (kept (λ m. nat_le m most_values) (count_from_one word) n is).0

values_most : (word : Text) (n : ℕ) → values_count word ≡ Some n → n ≤ most_values
values_most word n is = at_most n most_values (kept (λ m. nat_le m most_values) (count_from_one word) n is).1

-- a word in its form stands for a number
stands : (o : Option ℕ) → is_some o ≡ true → o ≡ Some (unwrap_or o 0)
stands None is = absurd (cc is)
stands (Some n) is = refl

-- the job of four names
abbrev job_by_names : List Text → CellKind → CheckJob
job_by_names names kind = record {
  seed = unwrap_or (count_of (unwrap_or (slice_get names 0) [])) 0;
  width = unwrap_or (count_from_one (unwrap_or (slice_get names 1) [])) 0;
  height = unwrap_or (count_from_one (unwrap_or (slice_get names 2) [])) 0;
  values = unwrap_or (values_count (unwrap_or (slice_get names 3) [])) 0;
  kind = kind;
}

names_fit : (names : List Text) (kind : CellKind) → AreInForms check_grammar.names 0 names → 4 ≤ length names → FitsCheck (job_by_names names kind)
names_fit [] kind forms enough = absurd (omega arith)
names_fit (a ∷ []) kind forms enough = absurd (omega arith)
names_fit (a ∷ b ∷ []) kind forms enough = absurd (omega arith)
names_fit (a ∷ b ∷ c ∷ []) kind forms enough = absurd (omega arith)
names_fit (a ∷ b ∷ c ∷ d ∷ names) kind forms enough =
    let seed = stands (count_of a) forms.0 in
    let width = stands (count_from_one b) forms.1.0 in
    let height = stands (count_from_one c) forms.1.1.0 in
    let values = stands (values_count d) forms.1.1.1.0 in
    record {
      seed_most = count_most a _ seed;
      width_from_one = size_from_one b _ width;
      width_most = size_most b _ width;
      height_from_one = size_from_one c _ height;
      height_most = size_most c _ height;
      values_from_one = values_from_one d _ values;
      values_most = values_most d _ values;
    }

-- what there is without a fault
unless_is : (fault : Option WordFault) (a job : Job) → unless fault a ≡ Ok job → (fault ≡ None) × (a ≡ job)
unless_is None a job is = (refl, cc is)
unless_is (Some fault) a job is = absurd (cc is)

check_fit : (words : List Text) (job : Job) → check_words words ≡ Ok job → FitsJob job
check_fit words job is =
    let pieces : List Piece = pieces_of check_grammar words in
    let given = unless_is (first_fault check_grammar false words) (Check (check_job pieces)) job is in
    let sound = or_none (first_wrong check_grammar 0 pieces) (wrong_end check_grammar false (length words + 2) pieces) given.0 in
    let enough = enough_names (length (names_of pieces)) 4 (length words + 2) None sound.1 in
    subst FitsJob given.1 (names_fit (names_of pieces) (chosen_by check_chooses check_default pieces).kind (in_forms check_grammar 0 pieces sound.0) enough)

other_fits : (fault : Option WordFault) (other job : Job) → FitsJob other → unless fault other ≡ Ok job → FitsJob job
other_fits fault other job fits is = subst FitsJob (unless_is fault other job is).1 fits

by_tool : (sieve polygonize rasterize contour check : Bool) (words : List Text) (job : Job)
    → (if sieve then sieve_words words else if polygonize then polygonize_words words else if rasterize then rasterize_words words
    else if contour then contour_words words else if check then check_words words else Err (At UnknownTool 1)) ≡ Ok job
    → FitsJob job
by_tool true polygonize rasterize contour check words job is = other_fits _ _ job tt is
by_tool false true rasterize contour check words job is = other_fits _ _ job tt is
by_tool false false true contour check words job is = other_fits _ _ job tt is
by_tool false false false true check words job is = other_fits _ _ job tt is
by_tool false false false false true words job is = check_fit words job is
by_tool false false false false false words job is = absurd (cc is)

-- every job that words give
pub job_fits : (words : List Text) (job : Job) → job_of words ≡ Ok job → FitsJob job
job_fits [] job is = absurd (cc is)
job_fits (tool ∷ words) job is =
    by_tool (bytes_eq tool (codes "gdal_sieve")) (bytes_eq tool (codes "gdal_polygonize")) (bytes_eq tool (codes "gdal_rasterize"))
    (bytes_eq tool (codes "gdal_contour")) (bytes_eq tool (codes "check")) words job is

-- every job of check that words give
pub check_fits : (words : List Text) (job : CheckJob) → job_of words ≡ Ok (Check job) → FitsCheck job
check_fits words job is = job_fits words (Check job) is
