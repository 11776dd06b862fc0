use Rattle.std.proofs.Common.{◌≡◌, ◌*◌, ◌<◌, ◌≤◌, ℕ, List, [], Some, length, replicate, ap, sym, ◌∙◌, subst, arith}
use Rattle.std.specs.Prelude.{slice_get}
use Rattle.std.proofs.lemmas.Grind.{common_steps}
use Rattle.std.proofs.lemmas.List.{length-replicate}
use Rattle.edge_trace.specs.Inner.Links.{AreFollowed, AreSlots, IsCut, IsPowerOfTwo}
use Rattle.edge_trace.proofs.SlotLemmas.{cut_first, followed_none, slots_empty}
use Rattle.edge_trace.proofs.links.links.Goals as goal

pub loop-at-init : goal.loop-at-init
loop-at-init c =
    let numbers = c.args.sides.now.numbers.items in
    let slots = c.in_ok-empty_slots.field-0.items in
    let count : 16 * c.args.stride ≡ 4 * (4 * c.args.stride) = omega arith in
    let power : IsPowerOfTwo (4 * (4 * c.args.stride)) = subst IsPowerOfTwo count c.requires.power in
    let some : 0 < length numbers = grind (arith, common_steps, c.is_empty.ensures, c.if-is_empty.false) in
    let nothing : c.in_ok-ways.ways.items ≡ [] = c.in_ok-ways.ensures.items in
    let zeros : slots ≡ replicate (4 * (4 * c.args.stride)) 0 = c.in_ok-empty_slots.ensures in
    let long : length slots ≡ 4 * (4 * c.args.stride) = ap length zeros ∙ length-replicate (4 * (4 * c.args.stride)) 0 in
    let low : (i x : ℕ) → slice_get numbers i ≡ Some x → 1 * (4 * c.args.stride) ≤ x = λ i x at. omega (arith, (c.requires.rows i x at).0) in
    let none : IsCut numbers 0 0 = cut_first numbers 0 (λ i x at. omega arith) in
    record {
      window = record {
        slots = subst (λ (xs : List ℕ). AreSlots numbers xs) (sym zeros) (slots_empty numbers (4 * (4 * c.args.stride)) power some);
        gone = none;
        filled = none;
        noted = λ j x before. absurd (omega (arith, before));
        narrow = omega arith;
      };
      sized = omega (arith, long);
      low = omega arith;
      high = omega arith;
      followed = subst (λ (xs : List ℕ). AreFollowed c.args.stride numbers c.args.sides.now.owners.items xs) (sym nothing) (followed_none c.args.stride numbers c.args.sides.now.owners.items);
      cut = subst (λ (n : ℕ). IsCut numbers (1 * (4 * c.args.stride)) n) (sym (ap length nothing)) (cut_first numbers (1 * (4 * c.args.stride)) low);
    }
