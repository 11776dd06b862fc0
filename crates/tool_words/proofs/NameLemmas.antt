-- The names among pieces without a fault: each is in the form of its turn.
use Rattle.std.proofs.Common.{◌≡◌, ◌+◌, ◌≤◌, ℕ, List, [], ◌∷◌, Option, Some, None, Bool, true, false, length, refl, subst, arith}
use Rattle.std.specs.Prelude.{if◌then◌else◌, nat_lt, slice_get}
use Rattle.std.specs.List.{cons_option}
use Rattle.std.specs.Option.{option_or}
use Rattle.std.proofs.lemmas.Bool.Decides.{nat_tests}
use Rattle.tool_words.specs.Words.{Text, is_option}
use Rattle.tool_words.specs.Grammar.{Form, Grammar, Piece, names_of, takes_of}
use Rattle.tool_words.specs.Offence.{first_wrong, wrong_form, wrong_piece, wrong_values}
use Rattle.tool_words.specs.declared.fault.WordFault.{WordFault}
use Rattle.tool_words.specs.declared.fault.WordFault.TheVariants.{At}
use Rattle.tool_words.specs.declared.fault.WordKind.TheVariants.{BadValue, MissingName}

-- a name in the form of its turn, where there is one
abbrev pub IsInForm : Option Form → Text → Type 0
IsInForm None name = ⊥
IsInForm (Some form) name = form name ≡ true

-- names in the forms of their turns, of which the first is this one
abbrev pub AreInForms : List Form → ℕ → List Text → Type 0
AreInForms forms turn [] = Unit {0}
AreInForms forms turn (name ∷ names) = IsInForm (slice_get forms turn) name × AreInForms forms (turn + 1) names

pub or_none : {A : Type 0} (o p : Option A) → option_or o p ≡ None → (o ≡ None) × (p ≡ None)
or_none None p is = (refl, is)
or_none (Some a) p is = absurd (cc is)

by_test : (b : Bool) (fault : WordFault) → (if b then None else Some fault) ≡ None → b ≡ true
by_test true fault is = refl
by_test false fault is = absurd (cc is)

in_form : (piece : Piece) (form : Option Form) → wrong_form piece form ≡ None → IsInForm form piece.word
in_form piece None is = absurd (cc is)
in_form piece (Some form) is = by_test (form piece.word) (At BadValue piece.place) is

-- a piece is an option, or one name more
by_option : (forms : List Form) (turn : ℕ) (piece : Piece) (names : List Text) (wrong : Option WordFault) (option : Bool)
    → (if option then wrong else wrong_form piece (slice_get forms turn)) ≡ None
    → AreInForms forms (turn + length (cons_option (if option then None else Some piece.word) [])) names
    → AreInForms forms turn (cons_option (if option then None else Some piece.word) names)
by_option forms turn piece names wrong true right rest =
    let same : turn + 0 ≡ turn = omega arith in
    subst (λ (n : ℕ). AreInForms forms n names) same rest
by_option forms turn piece names wrong false right rest = (in_form piece (slice_get forms turn) right, rest)

-- the names of pieces without a fault
pub in_forms : (grammar : Grammar) (turn : ℕ) (pieces : List Piece) → first_wrong grammar turn pieces ≡ None → AreInForms grammar.names turn (names_of pieces)
in_forms grammar turn [] right = tt
in_forms grammar turn (piece ∷ pieces) right =
    let next : ℕ = turn + length (names_of (piece ∷ [])) in
    let parts = or_none (wrong_piece grammar turn piece) (first_wrong grammar next pieces) right in
    by_option grammar.names turn piece (names_of pieces) (wrong_values piece (takes_of grammar piece.word)) (is_option piece.word) parts.0 (in_forms grammar next pieces parts.1)

-- no name is missing
pub enough_names : (names required place : ℕ) (rest : Option WordFault) → (if nat_lt names required then Some (At MissingName place) else rest) ≡ None → required ≤ names
enough_names names required place rest is = decide (nat_lt names required) refl
  where
    decide : (b : Bool) → nat_lt names required ≡ b → required ≤ names
    decide true few = absurd (cc (is, few))
    decide false many = grind (arith, nat_tests, many)
