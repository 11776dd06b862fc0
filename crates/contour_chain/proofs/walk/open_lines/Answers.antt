use Rattle.std.proofs.Common.{◌≡◌, ◌<◌, ◌+◌, ◌++◌, ◌∷◌, [], ℕ, List, Bool, Some, true, false, length, get_or, sym, ap, ◌∙◌, subst, arith}
use Rattle.std.specs.Prelude.{slice_get}
use Rattle.std.proofs.lemmas.Bool.{false≢true}
use Rattle.std.proofs.lemmas.Option.{get_or_from_slice_get, slice_get-get_or}
use Rattle.contour_segments.specs.declared.segment.Segment.{Segment}
use Rattle.contour_chain.specs.Inner.Walks.{AreTaken, Opens}
use Rattle.contour_chain.proofs.ChainLemmas.{begins_open, none_ends, opens_more, opens_none, opens_skip, some_ends, taken_more, taken_none}
use Rattle.contour_chain.proofs.walk.open_lines.Goals as goal
use Rattle.contour_chain.proofs.walk.open_lines.Goals.{then-not-index+in_ok-line+in_ok-push, else-not-index}

abbrev none : Segment
none = record { row = 0; col = 0; turn = 0; from = record { row = 0; col = 0; down = false }; to = record { row = 0; col = 0; down = false } }

not_marked : (met : List Bool) (i : ℕ) (b : Bool) → b ≡ get_or met i b → b ≡ false → ¬ (slice_get met i ≡ Some true)
not_marked met i b read is marked = false≢true (sym is ∙ read ∙ get_or_from_slice_get met i true b marked)

is_marked : (met : List Bool) (i : ℕ) (b : Bool) → i < length met → b ≡ get_or met i b → b ≡ true → slice_get met i ≡ Some true
is_marked met i b within read is = slice_get-get_or met i b within ∙ ap Some (sym read ∙ is)

pub loop-i-init : goal.loop-i-init
loop-i-init c = record {
  opens = subst (λ (xs : List (List Segment)). Opens c.args.segments.now 0 xs) (sym c.requires.empty) (opens_none c.args.segments.now);
  taken = subst (λ (xs : List (List Segment)). AreTaken c.args.segments.now xs c.args.taken.now) (sym c.requires.empty) (subst (λ (bs : List Bool). AreTaken c.args.segments.now [] bs) (sym c.requires.none) (taken_none c.args.segments.now));
}

pub line_from-requires-clause-line : goal.line_from-requires-clause-line
line_from-requires-clause-line c =
    let segments = c.args.segments.now in
    let i = c.loop-i.i in
    let at = slice_get-get_or segments i none c.loop-i-test.true in
    let free = not_marked c.in_ok-met.met.items i c.index.result.now c.index.ensures c.if-not-index.true in
    begins_open segments i (get_or segments i none) c.requires.segments at (none_ends segments c.args.next.now c.in_ok-met.met.items i (get_or segments i none) c.requires.segments c.requires.all c.requires.follow c.in_ok-met.ensures at free)

pub loop-i-preserved : goal.loop-i-preserved
loop-i-preserved c =
    let segments = c.args.segments.now in
    let next = c.args.next.now in
    let met = c.in_ok-met.met.items in
    let i = c.loop-i.i in
    let s = get_or segments i none in
    let at = slice_get-get_or segments i none c.loop-i-test.true in
    elim c.if-not-index.branch [
      | then-not-index+in_ok-line+in_ok-push w ↦
          let free = not_marked met i c.index.result.now c.index.ensures w.if-not-index.true in
          let ends = none_ends segments next met i s c.requires.segments c.requires.all c.requires.follow c.in_ok-met.ensures at free in
          let lines : c.if-not-index.lines ≡ c.loop-i.lines ++ w.in_ok-line.line ∷ [] = w.lines-is ∙ w.in_ok-push.ensures.ok in
          let opens = opens_more segments i s w.in_ok-line.line c.loop-i.lines c.requires.segments at ends w.in_ok-line.ensures.line c.loop-i.invariant.opens in
          let taken = taken_more segments w.in_ok-line.line c.loop-i.lines c.loop-i.taken w.line_from.new.taken c.loop-i.invariant.taken w.in_ok-line.ensures.taken in
          record {
            opens = subst (λ (xs : List (List Segment)). Opens segments (i + 1) xs) (sym lines) opens;
            taken = subst (λ (xs : List (List Segment)). AreTaken segments xs c.if-not-index.taken) (sym lines) (subst (λ (bs : List Bool). AreTaken segments (c.loop-i.lines ++ w.in_ok-line.line ∷ []) bs) (sym w.taken-is) taken);
          }
      | else-not-index w ↦
          let within : i < length met = omega (arith, c.in_ok-met.ensures.sized, c.requires.all, c.loop-i-test.true) in
          let marked = is_marked met i c.index.result.now within c.index.ensures w.if-not-index.false in
          let opens = opens_skip segments i s c.loop-i.lines at (some_ends segments next met i s c.requires.all c.requires.follow c.in_ok-met.ensures at marked) c.loop-i.invariant.opens in
          record {
            opens = subst (λ (xs : List (List Segment)). Opens segments (i + 1) xs) (sym w.lines-is) opens;
            taken = subst (λ (xs : List (List Segment)). AreTaken segments xs c.if-not-index.taken) (sym w.lines-is) (subst (λ (bs : List Bool). AreTaken segments c.loop-i.lines bs) (sym w.taken-is) c.loop-i.invariant.taken);
          }
    ]

pub returns-clause-opens : goal.returns-clause-opens
returns-clause-opens c =
    let end : c.loop-i.i ≡ length c.args.segments.now = omega (arith, c.loop-i-test.false, c.loop-i.auto.i-end) in
    subst (λ (n : ℕ). Opens c.args.segments.now n c.loop-i.lines) end c.loop-i.invariant.opens
