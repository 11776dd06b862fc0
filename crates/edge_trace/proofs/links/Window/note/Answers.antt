use Rattle.std.proofs.Common.{◌≡◌, ◌%◌, ◌<◌, ◌≤◌, ℕ, List, length, length-set, get_or, ap, sym, ◌∙◌, subst, arith}
use Rattle.std.proofs.lemmas.Option.{slice_get-get_or}
use Rattle.edge_trace.specs.Inner.Links.{IsCut}
use Rattle.edge_trace.proofs.SlotLemmas.{cut_here, early_more, note_step}
use Rattle.edge_trace.proofs.links.Window.note.Goals as goal
use Rattle.edge_trace.proofs.links.Window.note.Goals.{then-loop-at-test+else-numbers-at, else-loop-at-test}

pub loop-at-preserved : goal.loop-at-preserved
loop-at-preserved c =
    let numbers = c.args.numbers.now in
    let slots = c.loop-at.self.slots.items in
    let at = c.loop-at.at in
    let at_y = slice_get-get_or numbers at 0 c.loop-at-test.true in
    let is_slot : c.slot_of-slot.result ≡ get_or numbers at 0 % length slots = c.slot_of-slot.ensures ∙ ap (λ (xs : List ℕ). get_or numbers at 0 % length xs) c.deref.ensures.value in
    let step = note_step numbers slots at (get_or numbers at 0) c.slot_of-slot.result c.args.self.now.low c.args.high c.requires.rising at_y c.if-numbers-at.true (omega (arith, c.requires.narrow, c.loop-at.invariant.sized)) is_slot c.loop-at.invariant.slots c.loop-at.invariant.noted in
    record {
      from = omega (arith, c.loop-at.invariant.from);
      within = omega (arith, c.loop-at-test.true);
      early = early_more numbers c.args.high at (get_or numbers at 0) c.loop-at.invariant.early at_y c.if-numbers-at.true;
      sized = length-set slots c.slot_of-slot.result at ∙ c.loop-at.invariant.sized;
      slots = step.0;
      noted = step.1;
      rest_low = c.loop-at.invariant.rest_low;
      rest_gone = c.loop-at.invariant.rest_gone;
    }

pub returns-clause-window : goal.returns-clause-window
returns-clause-window c =
    let numbers = c.args.numbers.now in
    let late : c.loop-at.at < length numbers → c.args.high ≤ get_or numbers c.loop-at.at 0 = elim c.loop-at-test.branch [
      | then-loop-at-test+else-numbers-at w ↦ λ less. w.if-numbers-at.false
      | else-loop-at-test w ↦ λ less. absurd (omega (arith, w.loop-at-test.false, less))
    ] in
    record {
      slots = c.loop-at.invariant.slots;
      gone = subst (λ (n : ℕ). IsCut numbers c.loop-at.self.low n) (sym c.loop-at.invariant.rest_gone) (subst (λ (n : ℕ). IsCut numbers n c.args.self.now.gone) (sym c.loop-at.invariant.rest_low) c.requires.window.gone);
      filled = cut_here numbers c.args.high c.loop-at.at c.requires.rising c.loop-at.invariant.within c.loop-at.invariant.early late;
      noted = λ j x before at_x enough. c.loop-at.invariant.noted j x before at_x (omega (arith, enough, c.loop-at.invariant.rest_low));
      narrow = omega (arith, c.requires.narrow, c.loop-at.invariant.sized, c.loop-at.invariant.rest_low);
    }
