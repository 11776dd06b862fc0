use Rattle.std.proofs.Common.{◌≡◌, ◌-◌, length, take, drop, rules, arith}
use Rattle.std.proofs.lemmas.Grind.{common_steps}
use Rattle.std.proofs.Math.Seq.{take-add}
use Rattle.rv_outside.proofs.WrittenLemmas.{adds_nothing, adds_then}
use Rattle.rv_outside.proofs.transfer.say.Goals as goal

pub loop-done-init : goal.loop-done-init
loop-done-init g c = record {
  within = search rules;
  said = adds_nothing _;
  faults = search rules;
  wants = search rules;
}

pub loop-done-preserved : goal.loop-done-preserved
loop-done-preserved g c =
    let text = c.args.text.now in
    let done = c.loop-done.done in
    let taken = c.in_ok-taken.taken in
    let rest : take (length text - done) (drop done text) ≡ drop done text = grind (arith, common_steps) in
    let step = rw rest at c.in_ok-taken.ensures.added in
    record {
      within = search rules;
      said = rw (take-add done taken text) (adds_then _ _ _ (take done text) (take taken (drop done text)) c.loop-done.invariant.said step);
      faults = search rules;
      wants = search rules;
    }
