-- The names of a job of gdal_polygonize: its destination is no option, and its field isn't WKT.
use Rattle.std.proofs.Common.{◌≡◌, ℕ, zero, suc, ◌+◌, ◌≤◌, ◌<◌, Bool, true, false, List, [], ◌∷◌, length, Option, Some, None, Result, Ok, Err, refl, sym, ap, ◌∙◌, subst, arith}
use Rattle.std.specs.Prelude.{codes, if◌then◌else◌, is_some, nat_lt, slice_get, unwrap_or}
use Rattle.std.specs.List.{cons_option}
use Rattle.std.specs.Option.{option_or}
use Rattle.std.specs.Str.{bytes_eq, str_eq_ignore_ascii_case}
use Rattle.std.proofs.lemmas.Bool.{false≢true}
use Rattle.std.proofs.lemmas.Bool.Decides.{nat_tests}
use Rattle.std.proofs.lemmas.Option.{none-some, same_Some}
use Rattle.cell_base.proofs.PlaceLemmas.{element_at}
use Rattle.tool_words.specs.Words.{Text, is_option}
use Rattle.tool_words.specs.Value.{field_name}
use Rattle.tool_words.specs.Grammar.{Form, Grammar, Piece, form_of, names_of, pieces_of, takes_of}
use Rattle.tool_words.specs.Job.{check_words, contour_words, job_of, polygonize_words, rasterize_words, sieve_words, unless}
use Rattle.tool_words.specs.Offence.{first_fault, first_wrong, wrong_end, wrong_form, wrong_piece, wrong_values}
use Rattle.tool_words.specs.Polygonize.{polygonize_grammar, polygonize_job}
use Rattle.tool_words.specs.declared.fault.WordFault.{WordFault}
use Rattle.tool_words.specs.declared.fault.WordFault.TheVariants.{At}
use Rattle.tool_words.specs.declared.fault.WordKind.TheVariants.{BadValue, MissingName, UnknownTool}
use Rattle.tool_words.specs.declared.job.Job.{Job}
use Rattle.tool_words.specs.declared.job.Job.TheVariants.{Check, Contour, Polygonize, Rasterize, Sieve}
use Rattle.tool_words.specs.declared.job.PolygonizeJob.{PolygonizeJob}
use Rattle.tool_words.proofs.NameLemmas.{enough_names, or_none}

-- a name that is no option, in the form of its turn
record IsInTurn (grammar : Grammar) (turn : ℕ) (word : Text) : Type 0 where
  name : is_option word ≡ false
  form : Form
  at : slice_get grammar.names turn ≡ Some form
  fits : form word ≡ true

form_fits : (piece : Piece) (o : Option Form) → wrong_form piece o ≡ None → (form : Form) × (o ≡ Some form) × (form piece.word ≡ true)
form_fits piece None is = absurd (cc is)
form_fits piece (Some form) is = (form, refl, by_test (form piece.word) (At BadValue piece.place) is)
  where
    by_test : (b : Bool) (fault : WordFault) → (if b then None else Some fault) ≡ None → b ≡ true
    by_test true fault none = refl
    by_test false fault none = absurd (cc none)

in_turn_step : (grammar : Grammar) (k : ℕ) (p : Piece) (ps : List Piece) (i : ℕ) (w : Text) (b : Bool) → is_option p.word ≡ b
    → wrong_piece grammar k p ≡ None → first_wrong grammar (k + length (names_of (p ∷ []))) ps ≡ None → slice_get (names_of (p ∷ ps)) i ≡ Some w
    → ((n j : ℕ) → first_wrong grammar n ps ≡ None → slice_get (names_of ps) j ≡ Some w → IsInTurn grammar (n + j) w)
    → IsInTurn grammar (k + i) w
in_turn_step grammar k p ps i w true is right rest at later =
    let there : slice_get (names_of ps) i ≡ Some w = ap (λ (b : Bool). slice_get (cons_option (if b then None else Some p.word) (names_of ps)) i) (sym is) ∙ at in
    let none : k + length (names_of (p ∷ [])) ≡ k = ap (λ (b : Bool). k + length (cons_option (if b then None else Some p.word) [])) is ∙ omega arith in
    later k i (ap (λ (n : ℕ). first_wrong grammar n ps) (sym none) ∙ rest) there
in_turn_step grammar k p ps zero w false is right rest at later =
    let here : p.word ≡ w = same_Some p.word w (ap (λ (b : Bool). slice_get (cons_option (if b then None else Some p.word) (names_of ps)) 0) (sym is) ∙ at) in
    let fits = form_fits p (slice_get grammar.names k) (ap (λ (b : Bool). if b then wrong_values p (takes_of grammar p.word) else wrong_form p (slice_get grammar.names k)) (sym is) ∙ right) in
    let first : k ≡ k + 0 = omega arith in
    subst (λ (word : Text). IsInTurn grammar (k + 0) word) here (subst (λ (n : ℕ). IsInTurn grammar n p.word) first
    (record { name = is; form = fits.0; at = fits.1; fits = fits.2 }))
in_turn_step grammar k p ps (suc i) w false is right rest at later =
    let there : slice_get (names_of ps) i ≡ Some w = ap (λ (b : Bool). slice_get (cons_option (if b then None else Some p.word) (names_of ps)) (suc i)) (sym is) ∙ at in
    let one : k + length (names_of (p ∷ [])) ≡ k + 1 = ap (λ (b : Bool). k + length (cons_option (if b then None else Some p.word) [])) is in
    let turn : (k + 1) + i ≡ k + suc i = omega arith in
    subst (λ (n : ℕ). IsInTurn grammar n w) turn (later (k + 1) i (ap (λ (n : ℕ). first_wrong grammar n ps) (sym one) ∙ rest) there)

-- each name of pieces without fault
in_turn : (grammar : Grammar) (k : ℕ) (pieces : List Piece) (i : ℕ) (w : Text) → first_wrong grammar k pieces ≡ None
    → slice_get (names_of pieces) i ≡ Some w → IsInTurn grammar (k + i) w
in_turn grammar k [] i w right at = absurd (none-some w at)
in_turn grammar k (p ∷ ps) i w right at =
    let parts = or_none (wrong_piece grammar k p) (first_wrong grammar (k + length (names_of (p ∷ []))) ps) right in
    in_turn_step grammar k p ps i w (is_option p.word) refl parts.0 parts.1 at (λ n j. in_turn grammar n ps j w)

-- no name is missing
enough : (n place : ℕ) (o : Option WordFault) → (if nat_lt n 2 then Some (At MissingName place) else o) ≡ None → 1 < n
enough n place o is = omega (arith, enough_names n 2 place o is)

-- a field's name isn't WKT
field_fits : (w : Text) → form_of field_name w ≡ true → str_eq_ignore_ascii_case w (codes "WKT") ≡ false
field_fits w fits = by_test (str_eq_ignore_ascii_case w (codes "WKT")) refl fits
  where
    by_test : (b : Bool) → str_eq_ignore_ascii_case w (codes "WKT") ≡ b → is_some (if b then None else Some w) ≡ true → b ≡ false
    by_test false is some = refl
    by_test true is some = absurd (false≢true some)

-- what the names of a job are
pub record HasNames (job : PolygonizeJob) : Type 0 where
  pub dest : is_option job.dest ≡ false
  pub field : str_eq_ignore_ascii_case job.field (codes "WKT") ≡ false

names_hold : (pieces : List Piece) (place : ℕ) → first_wrong polygonize_grammar 0 pieces ≡ None → wrong_end polygonize_grammar false place pieces ≡ None
    → HasNames (polygonize_job pieces)
names_hold pieces place right ends = record { dest = dest; field = field (slice_get (names_of pieces) 3) refl }
  where
    dest : is_option (unwrap_or (slice_get (names_of pieces) 1) []) ≡ false
    dest =
        let name = element_at (names_of pieces) 1 (enough (length (names_of pieces)) place None ends) in
        ap (λ (o : Option Text). is_option (unwrap_or o [])) name.1 ∙ (in_turn polygonize_grammar 0 pieces 1 name.0 right name.1).name

    field : (o : Option Text) → slice_get (names_of pieces) 3 ≡ o → str_eq_ignore_ascii_case (unwrap_or o (codes "DN")) (codes "WKT") ≡ false
    field None none = refl
    field (Some w) some =
        let turn = in_turn polygonize_grammar 0 pieces 3 w right some in
        let form : turn.form ≡ form_of field_name = sym (same_Some (form_of field_name) turn.form turn.at) in
        field_fits w (ap (λ (f : Form). f w) (sym form) ∙ turn.fits)

of_fault : (o : Option WordFault) (a job : PolygonizeJob) → unless o (Polygonize a) ≡ Ok (Polygonize job) → (o ≡ None) × (a ≡ job)
of_fault None a job is = (refl, cc is)
of_fault (Some fault) a job is = absurd (cc is)

of_words : (words : List Text) (job : PolygonizeJob) → polygonize_words words ≡ Ok (Polygonize job) → HasNames job
of_words words job is =
    let pieces : List Piece = pieces_of polygonize_grammar words in
    let parts = of_fault (first_fault polygonize_grammar false words) (polygonize_job pieces) job is in
    let sound = or_none (first_wrong polygonize_grammar 0 pieces) (wrong_end polygonize_grammar false (length words + 2) pieces) parts.0 in
    subst HasNames parts.1 (names_hold pieces (length words + 2) sound.0 sound.1)

-- jobs of the other tools are others

not_sieve : (o : Option WordFault) (a : _) (job : PolygonizeJob) → unless o (Sieve a) ≡ Ok (Polygonize job) → ⊥
not_sieve None a job is = absurd (cc is)
not_sieve (Some fault) a job is = absurd (cc is)

not_rasterize : (o : Option WordFault) (a : _) (job : PolygonizeJob) → unless o (Rasterize a) ≡ Ok (Polygonize job) → ⊥
not_rasterize None a job is = absurd (cc is)
not_rasterize (Some fault) a job is = absurd (cc is)

not_contour : (o : Option WordFault) (a : _) (job : PolygonizeJob) → unless o (Contour a) ≡ Ok (Polygonize job) → ⊥
not_contour None a job is = absurd (cc is)
not_contour (Some fault) a job is = absurd (cc is)

not_check : (o : Option WordFault) (a : _) (job : PolygonizeJob) → unless o (Check a) ≡ Ok (Polygonize job) → ⊥
not_check None a job is = absurd (cc is)
not_check (Some fault) a job is = absurd (cc is)

by_tool : (sieve polygonize rasterize contour check : Bool) (words : List Text) (job : PolygonizeJob)
    → (if sieve then sieve_words words else if polygonize then polygonize_words words else if rasterize then rasterize_words words
    else if contour then contour_words words else if check then check_words words else Err (At UnknownTool 1)) ≡ Ok (Polygonize job)
    → HasNames job
by_tool true polygonize rasterize contour check words job is = absurd (not_sieve _ _ job is)
by_tool false true rasterize contour check words job is = of_words words job is
by_tool false false true contour check words job is = absurd (not_rasterize _ _ job is)
by_tool false false false true check words job is = absurd (not_contour _ _ job is)
by_tool false false false false true words job is = absurd (not_check _ _ job is)
by_tool false false false false false words job is = absurd (cc is)

-- the names of every job of gdal_polygonize
pub job_names : (words : List Text) (job : PolygonizeJob) → job_of words ≡ Ok (Polygonize job) → HasNames job
job_names [] job is = absurd (cc is)
job_names (tool ∷ words) job is =
    by_tool (bytes_eq tool (codes "gdal_sieve")) (bytes_eq tool (codes "gdal_polygonize")) (bytes_eq tool (codes "gdal_rasterize"))
    (bytes_eq tool (codes "gdal_contour")) (bytes_eq tool (codes "check")) words job is
