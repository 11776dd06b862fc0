-- The faults of words name a word.
use Rattle.std.proofs.Common.{◌≡◌, ◌+◌, ◌==◌, ℕ, suc, List, [], ◌∷◌, Option, Some, None, Result, Err, Bool, true, false, IfSome, length, subst, refl}
use Rattle.std.specs.Prelude.{nat_lt, slice_get, if◌then◌else◌}
use Rattle.std.specs.Option.{option_or}
use Rattle.tool_words.specs.Words.{Text, is_option}
use Rattle.tool_words.specs.Grammar.{Form, Grammar, Piece, Takes, each, numbers, names_of, pieces_of, takes_of, value_at}
use Rattle.tool_words.specs.Offence.{first_fault, first_wrong, unfit_value, wrong_end, wrong_form, wrong_piece, wrong_values}
use Rattle.tool_words.specs.Job.{IsAnswer, job_by, unless}
use Rattle.tool_words.specs.declared.job.Job.{Job}
use Rattle.tool_words.specs.declared.fault.WordFault.{WordFault}
use Rattle.tool_words.specs.declared.fault.WordFault.TheVariants.{At, NoMemory}

-- a fault with a place
abbrev pub HasPlace : WordFault → Type 0
HasPlace (At kind place) = Unit {0}
HasPlace NoMemory = ⊥

abbrev HavePlaces : Option WordFault → Type 0
HavePlaces fault = IfSome fault HasPlace

by_test : (test : Bool) (a b : Option WordFault) → HavePlaces a → HavePlaces b → HavePlaces (if test then a else b)
by_test true a b first second = first
by_test false a b first second = second

by_or : (a b : Option WordFault) → HavePlaces a → HavePlaces b → HavePlaces (option_or a b)
by_or None b first second = second
by_or (Some fault) b first second = first

unfit_places : (piece : Piece) (i : ℕ) (forms : List Form) → HavePlaces (unfit_value piece i forms)
unfit_places piece i [] = tt
unfit_places piece i (form ∷ forms) = by_test (form (value_at piece i)) (unfit_value piece (suc i) forms) _ (unfit_places piece (suc i) forms) tt

values_places : (piece : Piece) (takes : Option Takes) → HavePlaces (wrong_values piece takes)
values_places piece None = tt
values_places piece (Some (each forms)) = by_test (nat_lt (length piece.values) (length forms)) _ (unfit_value piece 0 forms) tt (unfit_places piece 0 forms)
values_places piece (Some numbers) = by_test (length piece.values == 0) _ None tt tt

form_places : (piece : Piece) (form : Option Form) → HavePlaces (wrong_form piece form)
form_places piece None = tt
form_places piece (Some form) = by_test (form piece.word) None _ tt tt

piece_places : (grammar : Grammar) (names : ℕ) (piece : Piece) → HavePlaces (wrong_piece grammar names piece)
piece_places grammar names piece = by_test (is_option piece.word) (wrong_values piece (takes_of grammar piece.word)) (wrong_form piece (slice_get grammar.names names)) (values_places piece (takes_of grammar piece.word)) (form_places piece (slice_get grammar.names names))

wrong_places : (grammar : Grammar) (names : ℕ) (pieces : List Piece) → HavePlaces (first_wrong grammar names pieces)
wrong_places grammar names [] = tt
wrong_places grammar names (piece ∷ pieces) =
    let next : ℕ = names + length (names_of (piece ∷ [])) in
    by_or (wrong_piece grammar names piece) (first_wrong grammar next pieces) (piece_places grammar names piece) (wrong_places grammar next pieces)

end_places : (grammar : Grammar) (clash : Bool) (place : ℕ) (pieces : List Piece) → HavePlaces (wrong_end grammar clash place pieces)
end_places grammar clash place pieces = by_test (nat_lt (length (names_of pieces)) grammar.required) _ (if clash then _ else None) tt (by_test clash _ None tt tt)

pub fault_places : (grammar : Grammar) (clash : Bool) (words : List Text) → HavePlaces (first_fault grammar clash words)
fault_places grammar clash words =
    let pieces : List Piece = pieces_of grammar words in
    by_or (first_wrong grammar 0 pieces) (wrong_end grammar clash (length words + 2) pieces) (wrong_places grammar 0 pieces) (end_places grammar clash (length words + 2) pieces)

with_place : (expected : Result Job WordFault) (fault : WordFault) → expected ≡ Err fault → HasPlace fault → IsAnswer expected (Err fault)
with_place expected (At kind place) is has = is
with_place expected NoMemory is has = absurd has

-- words that are refused have this answer
pub refuses : (grammar : Grammar) (clash : List Piece → Bool) (job : List Piece → Job) (words : List Text) (fault : WordFault) → first_fault grammar (clash (pieces_of grammar words)) words ≡ Some fault → IsAnswer (job_by grammar clash job words) (Err fault)
refuses grammar clash job words fault is =
    let has : HasPlace fault = subst (λ f. IfSome f HasPlace) is (fault_places grammar (clash (pieces_of grammar words)) words) in
    with_place (job_by grammar clash job words) fault (rw is refl) has

by_fault : (fault : Option WordFault) (job : Job) → HavePlaces fault → IsAnswer (unless fault job) (unless fault job)
by_fault None job places = refl
by_fault (Some fault) job places = with_place (Err fault) fault refl places

-- the job of words, or their first fault, is an answer
pub answers : (grammar : Grammar) (clash : List Piece → Bool) (job : List Piece → Job) (words : List Text) → IsAnswer (job_by grammar clash job words) (job_by grammar clash job words)
answers grammar clash job words =
    by_fault (first_fault grammar (clash (pieces_of grammar words)) words) (job (pieces_of grammar words)) (fault_places grammar (clash (pieces_of grammar words)) words)
