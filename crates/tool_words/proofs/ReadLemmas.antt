-- Reading the words piece by piece.
use Rattle.std.proofs.Common.{◌≡◌, ◌≤◌, ◌<◌, ◌+◌, ◌-◌, ◌++◌, ◌∷◌, [], ◌∙◌, ℕ, zero, suc, List, Option, Some, None, Bool, true, false, min, length, take, drop, ap, refl, sym, subst, arith, append_assoc}
use Rattle.std.specs.Prelude.{nat_lt, option_map, slice_get, if◌then◌else◌}
use Rattle.std.specs.List.{prefix_len}
use Rattle.std.specs.Option.{option_map_or}
use Rattle.std.proofs.lemmas.Bool.Decides.{nat_tests}
use Rattle.std.proofs.lemmas.Grind.{common_steps}
use Rattle.std.proofs.lemmas.List.Sums.{prefix_len-le-length}
use Rattle.std.proofs.lemmas.Option.{none-some, same_Some}
use Rattle.tool_words.specs.Words.{Text, is_option}
use Rattle.tool_words.specs.Value.{is_number}
use Rattle.tool_words.specs.Grammar.{Form, Grammar, Piece, Takes, each, numbers, cut, names_of, pieces_of, takes_of, values_behind, wanted}
use Rattle.tool_words.specs.Offence.{first_wrong, wrong_form, wrong_piece, wrong_values}
use Rattle.tool_words.specs.Inner.Read.{CutsPiece, HasEnough, HasNoMore, HasValues, RefusesPiece, counted, fault_in, least_of, piece_in, wanted_in, wanted_of}
use Rattle.tool_words.specs.declared.fault.WordFault.{WordFault}
use Rattle.tool_words.specs.declared.fault.WordFault.TheVariants.{At}
use Rattle.tool_words.specs.declared.fault.WordKind.TheVariants.{BadValue, ExtraWord, MissingValue, UnknownOption}
use Rattle.tool_words.specs.declared.options.Wanted.{Wanted}
use Rattle.tool_words.specs.declared.options.Wanted.TheVariants.{Each, Numbers}
use Rattle.tool_words.proofs.CutLemmas.{capped, cut_at, passed, wrong_behind}

by_takes : (takes : Option Takes) (words : List Text) → option_map_or (λ t. wanted t words) takes 0 ≡ counted (option_map wanted_of takes) words
by_takes None words = refl
by_takes (Some (each forms)) words = refl
by_takes (Some numbers) words = refl

by_option : (option : Bool) (takes : Option Takes) (words : List Text) → (if option then option_map_or (λ t. wanted t words) takes 0 else 0) ≡ counted (if option then option_map wanted_of takes else None) words
by_option true takes words = by_takes takes words
by_option false takes words = refl

-- the definition counts the values as the code does
pub values_counted : (grammar : Grammar) (word : Text) (words : List Text) → values_behind grammar word words ≡ counted (wanted_in grammar word) words
values_counted grammar word words = by_option (is_option word) (takes_of grammar word) words

-- no more number texts follow than words
pub numbers_within : (words : List Text) (from : ℕ) → from ≤ length words → prefix_len is_number (drop from words) ≡ min (prefix_len is_number (drop from words)) (length words - from)
numbers_within words from inside =
    let few : prefix_len is_number (drop from words) ≤ length (drop from words) = prefix_len-le-length is_number (drop from words) in
    grind (arith, common_steps, few)

take_min : {A : Type 0} (xs : List A) (n m : ℕ) → n ≡ min m (length xs) → take n xs ≡ take m xs
take_min xs n m is = grind (arith, common_steps, is)

-- the piece that the code makes is the one that the definition cuts
pub cuts_piece : (grammar : Grammar) (words : List Text) (at count : ℕ) (word : Text) → slice_get words at ≡ Some word → at < length words → count ≡ min (counted (wanted_in grammar word) (drop (at + 1) words)) (length words - (at + 1)) → CutsPiece grammar words at (piece_in words at count)
cuts_piece grammar words at count word is inside counts =
    let behind : List Text = drop (at + 1) words in
    let values : ℕ = values_behind grammar word behind in
    let there : piece_in words at count ≡ record { place = at + 1; word = word; values = take count behind } = rw is refl in
    let least : count ≡ min values (length behind) = grind (arith, common_steps, counts, values_counted grammar word behind) in
    let taken : take count behind ≡ take values behind = take_min behind count values least in
    let long : length (take count behind) ≡ count = grind (arith, common_steps, least) in
    let further : drop count behind ≡ drop (at + count + 1) words = grind (arith, common_steps) in
    let rest : cut grammar (suc (at + 1)) values behind ≡ cut grammar (at + count + 2) zero (drop (at + count + 1) words) =
    capped grammar (suc (at + 1)) values behind
    ∙ ap (λ n. cut grammar (suc (at + 1)) n behind) (sym least)
    ∙ passed grammar (suc (at + 1)) count behind
    ∙ ap (λ p. cut grammar p zero (drop count behind)) (omega arith)
    ∙ ap (cut grammar (at + count + 2) zero) further in
    rw there (record {
      place = refl;
      word = is;
      values = taken;
      cut =
          cut_at grammar words at word is
          ∙ ap (λ ps. record { place = at + 1; word = word; values = take values behind } ∷ ps) rest
          ∙ ap (λ vs. record { place = at + 1; word = word; values = vs } ∷ cut grammar (at + count + 2) zero (drop (at + count + 1) words)) (sym taken)
          ∙ ap (λ n. record { place = at + 1; word = word; values = take count behind } ∷ cut grammar (at + n + 2) zero (drop (at + n + 1) words)) (sym long);
      within = omega (arith, long, counts, inside);
    })

-- an option has no more values than it wants
pub no_more : (grammar : Grammar) (words : List Text) (at : ℕ) (piece : Piece) → CutsPiece grammar words at piece → is_option piece.word ≡ true → HasNoMore grammar piece
no_more grammar words at piece cuts option = λ forms takes.
    let behind : List Text = drop (at + 1) words in
    let values : values_behind grammar piece.word behind ≡ length forms = rw (option, takes) refl in
    let taken : piece.values ≡ take (length forms) behind = cuts.values ∙ ap (λ n. take n behind) values in
    grind (arith, common_steps, taken)

-- what an option lacks or has

pub unknown : (piece : Piece) (takes : Option Takes) → None ≡ option_map wanted_of takes → wrong_values piece takes ≡ Some (At UnknownOption piece.place)
unknown piece None is = refl
unknown piece (Some takes) is = absurd (none-some (wanted_of takes) is)

pub too_few : (piece : Piece) (takes : Option Takes) (wants : Wanted) → Some wants ≡ option_map wanted_of takes → length piece.values < least_of wants → wrong_values piece takes ≡ Some (At MissingValue piece.place)
too_few piece None wants is few = absurd (none-some wants (sym is))
too_few piece (Some (each forms)) wants is few =
    let short : length piece.values < length forms = subst (λ w. length piece.values < least_of w) (same_Some wants (Each (length forms)) is) few in
    let test : nat_lt (length piece.values) (length forms) ≡ true = grind (arith, nat_tests, short) in
    rw test refl
too_few piece (Some numbers) wants is few =
    let short : length piece.values < 1 = subst (λ w. length piece.values < least_of w) (same_Some wants Numbers is) few in
    let nothing : length piece.values ≡ 0 = omega (arith, short) in
    rw nothing refl

pub enough : (grammar : Grammar) (piece : Piece) (wants : Wanted) → HasNoMore grammar piece → Some wants ≡ option_map wanted_of (takes_of grammar piece.word) → least_of wants ≤ length piece.values → HasValues grammar piece
enough grammar piece wants most is least = by_kind (takes_of grammar piece.word) most is
  where
    by_kind : (takes : Option Takes) → ((forms : List Form) → takes ≡ Some (each forms) → length piece.values ≤ length forms) → Some wants ≡ option_map wanted_of takes → (t : Takes) × (takes ≡ Some t) × HasEnough t piece.values
    by_kind None most is = absurd (none-some wants (sym is))
    by_kind (Some (each forms)) most is =
        let low : length forms ≤ length piece.values = subst (λ w. least_of w ≤ length piece.values) (same_Some wants (Each (length forms)) is) least in
        (each forms, refl, omega (arith, low, most forms refl))
    by_kind (Some numbers) most is =
        let low : 1 ≤ length piece.values = subst (λ w. least_of w ≤ length piece.values) (same_Some wants Numbers is) least in
        (numbers, refl, omega (arith, low))

-- names

pub too_many : (piece : Piece) (form : Option Form) → None ≡ option_map (λ f. f piece.word) form → wrong_form piece form ≡ Some (At ExtraWord piece.place)
too_many piece None is = refl
too_many piece (Some form) is = absurd (none-some (form piece.word) is)

pub unfit : (piece : Piece) (form : Option Form) → Some false ≡ option_map (λ f. f piece.word) form → wrong_form piece form ≡ Some (At BadValue piece.place)
unfit piece None is = absurd (none-some false (sym is))
unfit piece (Some form) is = rw (sym (same_Some false (form piece.word) is)) refl

pub fit : (piece : Piece) (form : Option Form) → Some true ≡ option_map (λ f. f piece.word) form → wrong_form piece form ≡ None
fit piece None is = absurd (none-some true (sym is))
fit piece (Some form) is = rw (sym (same_Some true (form piece.word) is)) refl

-- the loop over the words, from one piece to the next

pub refused : {C : Type 0} (grammar : Grammar) (chooses : C → Piece → C) (clashes : C → Bool) (default : C) (words : List Text) (at : ℕ) (done : List Piece) (names : List Text) (fault : WordFault) → pieces_of grammar (drop 1 words) ≡ done ++ cut grammar (at + 1) zero (drop at words) → first_wrong grammar 0 done ≡ None → names ≡ names_of done → RefusesPiece grammar words at names fault → fault_in grammar chooses clashes default words ≡ Some fault
refused grammar chooses clashes default words at done names fault cuts sound found wrong =
    let piece : Piece = wrong.0 in
    let all : pieces_of grammar (drop 1 words) ≡ done ++ piece ∷ wrong.1 = cuts ∙ ap (λ ps. done ++ ps) wrong.2 in
    let count : length names ≡ 0 + length (names_of done) = ap length found ∙ omega arith in
    let here : wrong_piece grammar (0 + length (names_of done)) piece ≡ Some fault = ap (λ n. wrong_piece grammar n piece) (sym count) ∙ wrong.3 in
    let first : first_wrong grammar 0 (done ++ piece ∷ wrong.1) ≡ Some fault = wrong_behind grammar 0 done (piece ∷ wrong.1) ∙ rw (sound, here) refl in
    rw (all, first) refl

pub cut_on : (grammar : Grammar) (words : List Text) (at next : ℕ) (done : List Piece) (piece : Piece) → pieces_of grammar (drop 1 words) ≡ done ++ cut grammar (at + 1) zero (drop at words) → cut grammar (at + 1) zero (drop at words) ≡ piece ∷ cut grammar (next + 1) zero (drop next words) → pieces_of grammar (drop 1 words) ≡ (done ++ piece ∷ []) ++ cut grammar (next + 1) zero (drop next words)
cut_on grammar words at next done piece cuts further = cuts ∙ ap (λ ps. done ++ ps) further ∙ sym (append_assoc done (piece ∷ []) (cut grammar (next + 1) zero (drop next words)))

pub sound_on : (grammar : Grammar) (done : List Piece) (piece : Piece) (names : List Text) → first_wrong grammar 0 done ≡ None → names ≡ names_of done → wrong_piece grammar (length names) piece ≡ None → first_wrong grammar 0 (done ++ piece ∷ []) ≡ None
sound_on grammar done piece names sound found right =
    let count : length names ≡ 0 + length (names_of done) = ap length found ∙ omega arith in
    let here : wrong_piece grammar (0 + length (names_of done)) piece ≡ None = ap (λ n. wrong_piece grammar n piece) (sym count) ∙ right in
    wrong_behind grammar 0 done (piece ∷ []) ∙ rw (sound, here) refl

-- the next piece is cut where the piece before it ends
pub cut_next : (grammar : Grammar) (words : List Text) (at n : ℕ) (piece : Piece) → CutsPiece grammar words at piece → n ≡ length piece.values → cut grammar (at + 1) zero (drop at words) ≡ piece ∷ cut grammar (at + 1 + n + 1) zero (drop (at + 1 + n) words)
cut_next grammar words at n piece cuts long =
    let place : at + length piece.values + 2 ≡ at + 1 + n + 1 = omega (arith, long) in
    let next : at + length piece.values + 1 ≡ at + 1 + n = omega (arith, long) in
    cuts.cut ∙ ap (λ p. piece ∷ cut grammar p zero (drop (at + length piece.values + 1) words)) place ∙ ap (λ k. piece ∷ cut grammar (at + 1 + n + 1) zero (drop k words)) next
