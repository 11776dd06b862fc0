use Rattle.std.proofs.Common.{◌≡◌, ◌<◌, ◌++◌, ◌∷◌, [], ℕ, List, Bool, Some, true, false, length, get_or, append_assoc, sym, ap, ◌∙◌, subst, arith}
use Rattle.std.specs.Prelude.{slice_get}
use Rattle.std.proofs.lemmas.Bool.{false≢true}
use Rattle.std.proofs.lemmas.List.{append-nil}
use Rattle.std.proofs.lemmas.Option.{get_or_from_slice_get, slice_get-get_or}
use Rattle.contour_segments.specs.declared.segment.Segment.{Segment}
use Rattle.contour_chain.specs.Contours.{AreContours}
use Rattle.contour_chain.specs.Inner.Walks.{AreTaken, Closes}
use Rattle.contour_chain.proofs.ChainLemmas.{all_contours, begins_closed, closes_more, closes_none, closes_skip, taken_more}
use Rattle.contour_chain.proofs.walk.closed_lines.Goals as goal
use Rattle.contour_chain.proofs.walk.closed_lines.Goals.{then-not-taken-i+in_ok-line+in_ok-push, else-not-taken-i}

abbrev none : Segment
none = record { row = 0; col = 0; turn = 0; from = record { row = 0; col = 0; down = false }; to = record { row = 0; col = 0; down = false } }

not_taken : (taken : List Bool) (i : ℕ) → get_or taken i false ≡ false → ¬ (slice_get taken i ≡ Some true)
not_taken taken i is marked = false≢true (sym is ∙ get_or_from_slice_get taken i true false marked)

is_taken : (taken : List Bool) (i : ℕ) → i < length taken → get_or taken i false ≡ true → slice_get taken i ≡ Some true
is_taken taken i within is = slice_get-get_or taken i false within ∙ ap Some is

pub loop-i-init : goal.loop-i-init
loop-i-init c = record {
  rounds = [];
  split = sym (append-nil c.args.lines.now);
  closes = closes_none c.args.segments.now;
  taken = c.requires.taken;
}

pub line_from-requires-clause-line : goal.line_from-requires-clause-line
line_from-requires-clause-line c =
    let segments = c.args.segments.now in
    let i = c.loop-i.i in
    let at = slice_get-get_or segments i none c.loop-i-test.true in
    let are : AreTaken segments (c.args.lines.now ++ c.loop-i.invariant.rounds) c.loop-i.taken = subst (λ (xs : List (List Segment)). AreTaken segments xs c.loop-i.taken) c.loop-i.invariant.split c.loop-i.invariant.taken in
    begins_closed segments i (get_or segments i none) c.args.lines.now c.loop-i.invariant.rounds c.loop-i.taken c.requires.segments at c.requires.opens are (not_taken c.loop-i.taken i c.if-not-taken-i.true) c.loop-i.invariant.closes

pub loop-i-preserved : goal.loop-i-preserved
loop-i-preserved c =
    let segments = c.args.segments.now in
    let frees = c.args.lines.now in
    let rounds = c.loop-i.invariant.rounds in
    let i = c.loop-i.i in
    let s = get_or segments i none in
    let at = slice_get-get_or segments i none c.loop-i-test.true in
    let are : AreTaken segments (frees ++ rounds) c.loop-i.taken = subst (λ (xs : List (List Segment)). AreTaken segments xs c.loop-i.taken) c.loop-i.invariant.split c.loop-i.invariant.taken in
    elim c.if-not-taken-i.branch [
      | then-not-taken-i+in_ok-line+in_ok-push w ↦
          let line = w.in_ok-line.line in
          let lines : c.if-not-taken-i.lines ≡ c.loop-i.lines ++ line ∷ [] = w.lines-is ∙ w.in_ok-push.ensures.ok in
          let taken = taken_more segments line c.loop-i.lines c.loop-i.taken w.line_from.new.taken c.loop-i.invariant.taken w.in_ok-line.ensures.taken in
          record {
            rounds = rounds ++ line ∷ [];
            split = lines ∙ ap (λ (xs : List (List Segment)). xs ++ line ∷ []) c.loop-i.invariant.split ∙ append_assoc frees rounds (line ∷ []);
            closes = closes_more segments i s frees rounds c.loop-i.taken line c.requires.segments at c.requires.opens are (not_taken c.loop-i.taken i w.if-not-taken-i.true) w.in_ok-line.ensures.line c.loop-i.invariant.closes;
            taken = subst (λ (xs : List (List Segment)). AreTaken segments xs c.if-not-taken-i.taken) (sym lines) (subst (λ (bs : List Bool). AreTaken segments (c.loop-i.lines ++ line ∷ []) bs) (sym w.taken-is) taken);
          }
      | else-not-taken-i w ↦
          let within : i < length c.loop-i.taken = omega (arith, c.loop-i.invariant.taken.sized, c.loop-i-test.true) in
          record {
            rounds = rounds;
            split = w.lines-is ∙ c.loop-i.invariant.split;
            closes = closes_skip segments i s frees rounds c.loop-i.taken c.requires.segments at c.requires.opens are (is_taken c.loop-i.taken i within w.if-not-taken-i.false) c.loop-i.invariant.closes;
            taken = subst (λ (xs : List (List Segment)). AreTaken segments xs c.if-not-taken-i.taken) (sym w.lines-is) (subst (λ (bs : List Bool). AreTaken segments c.loop-i.lines bs) (sym w.taken-is) c.loop-i.invariant.taken);
          }
    ]

pub returns : goal.returns
returns c =
    let segments = c.args.segments.now in
    let end : c.loop-i.i ≡ length segments = omega (arith, c.loop-i-test.false, c.loop-i.auto.i-end) in
    let closes : Closes segments (length segments) c.loop-i.invariant.rounds = subst (λ (n : ℕ). Closes segments n c.loop-i.invariant.rounds) end c.loop-i.invariant.closes in
    subst (λ (xs : List (List Segment)). AreContours segments xs) (sym c.loop-i.invariant.split) (all_contours segments c.args.lines.now c.loop-i.invariant.rounds c.requires.segments c.requires.opens closes)
