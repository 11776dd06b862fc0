-- The interval of a job that words give is positive.
use Rattle.std.proofs.Common.{◌≡◌, ◌<ℤ◌, ℤ, Bool, true, false, if◌then◌else◌, List, [], ◌∷◌, Option, Some, None, Result, Ok, Err, codes, pos, refl, subst, arith}
use Rattle.std.specs.Prelude.{int_lt}
use Rattle.std.specs.List.{fold}
use Rattle.std.specs.Option.{ForSome}
use Rattle.std.specs.Str.{bytes_eq}
use Rattle.std.proofs.lemmas.Int.{ints}
use Rattle.std.proofs.lemmas.Option.{none-some, same_Some}
use Rattle.tool_words.specs.Words.{Text, is_option}
use Rattle.tool_words.specs.Grammar.{Piece, pieces_of, value_at}
use Rattle.tool_words.specs.Value.{decimal_of, kept_if, positive_decimal}
use Rattle.tool_words.specs.Chosen.{chooses_next, chosen_by, is_piece}
use Rattle.tool_words.specs.Offence.{first_fault}
use Rattle.tool_words.specs.Contour.{ContourChoice, contour_chooses, contour_clash, contour_default, contour_grammar, contour_job}
use Rattle.tool_words.specs.Job.{check_words, contour_words, job_of, polygonize_words, rasterize_words, sieve_words, unless}
use Rattle.tool_words.specs.declared.fault.WordFault.{WordFault}
use Rattle.tool_words.specs.declared.job.Job.{Job}
use Rattle.tool_words.specs.declared.job.Job.TheVariants.{Contour}
use Rattle.tool_run.specs.Inner.Ranges.{HasInterval}

abbrev IsPositive : Option ℤ → Type 0
IsPositive interval = ForSome interval (λ i. pos 0 <ℤ i)

kept_by : (b : Bool) (n : ℤ) → int_lt (pos 0) n ≡ b → IsPositive (if b then Some n else None)
kept_by true n is = λ i same. subst (λ m. pos 0 <ℤ m) (same_Some n i same) (grind (arith, ints, is))
kept_by false n is = λ i same. absurd (none-some i same)

kept_positive : (o : Option ℤ) → IsPositive (kept_if (int_lt (pos 0)) o)
kept_positive None = λ i same. absurd (none-some i same)
kept_positive (Some n) = kept_by (int_lt (pos 0) n) n refl

chosen_positive : (b : Bool) (before after : Option ℤ) → IsPositive before → IsPositive after → IsPositive (if b then after else before)
chosen_positive true before after was is = is
chosen_positive false before after was is = was

next_positive : (b : Bool) (before : ContourChoice) (piece : Piece) → IsPositive before.interval → IsPositive (if b then contour_chooses before piece else before).interval
next_positive true before piece was = chosen_positive (is_piece (codes "-i") piece) before.interval (positive_decimal (value_at piece 0)) was (kept_positive (decimal_of (value_at piece 0)))
next_positive false before piece was = was

all_positive : (before : ContourChoice) (pieces : List Piece) → IsPositive before.interval → IsPositive (fold (chooses_next contour_chooses) before pieces).interval
all_positive before [] was = was
all_positive before (piece ∷ pieces) was = all_positive (chooses_next contour_chooses before piece) pieces (next_positive (is_option piece.word) before piece was)

-- what there is without a fault
unless_is : {A : Type 0} (fault : Option WordFault) (a b : A) → unless fault a ≡ Ok b → a ≡ b
unless_is None a b is = cc
unless_is (Some fault) a b is = absurd (cc is)

contour_interval : (fault : Option WordFault) (pieces : List Piece) (job : Job) → unless fault (Contour (contour_job pieces)) ≡ Ok job → HasInterval job
contour_interval fault pieces job is = subst HasInterval (unless_is fault (Contour (contour_job pieces)) job is) (all_positive contour_default pieces (λ i same. absurd (none-some i same)))

contour_has : (words : List Text) (job : Job) → contour_words words ≡ Ok job → HasInterval job
contour_has words job is =
    let pieces = pieces_of contour_grammar words in
    contour_interval (first_fault contour_grammar (contour_clash (chosen_by contour_chooses contour_default pieces)) words) pieces job is

other_interval : (fault : Option WordFault) (other job : Job) → HasInterval other → unless fault other ≡ Ok job → HasInterval job
other_interval fault other job has is = subst HasInterval (unless_is fault other job is) has

abbrev words_by : Bool → Bool → Bool → Bool → Bool → List Text → Result Job WordFault → Result Job WordFault
words_by a b c d e words other =
    if a then sieve_words words else if b then polygonize_words words else if c then rasterize_words words
    else if d then contour_words words else if e then check_words words else other

by_tool : (a b c d e : Bool) (words : List Text) (fault : WordFault) (job : Job) → words_by a b c d e words (Err fault) ≡ Ok job → HasInterval job
by_tool true b c d e words fault job is = other_interval _ _ job tt is
by_tool false true c d e words fault job is = other_interval _ _ job tt is
by_tool false false true d e words fault job is = other_interval _ _ job tt is
by_tool false false false true e words fault job is = contour_has words job is
by_tool false false false false true words fault job is = other_interval _ _ job tt is
by_tool false false false false false words fault job is = absurd (cc is)

pub has_interval : (words : List Text) (job : Job) → job_of words ≡ Ok job → HasInterval job
has_interval [] job is = absurd (cc is)
has_interval (tool ∷ words) job is = by_tool (bytes_eq tool (codes "gdal_sieve")) (bytes_eq tool (codes "gdal_polygonize")) (bytes_eq tool (codes "gdal_rasterize")) (bytes_eq tool (codes "gdal_contour")) (bytes_eq tool (codes "check")) words _ job is
