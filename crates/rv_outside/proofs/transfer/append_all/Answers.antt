use Rattle.std.proofs.Common.{◌≡◌, ◌-◌, length, take, drop, rules, arith}
use Rattle.std.proofs.lemmas.Grind.{common_steps}
use Rattle.std.proofs.Math.Seq.{take-add}
use Rattle.rv_outside.proofs.FilesLemmas.{becomes_then, still_there}
use Rattle.rv_outside.proofs.transfer.append_all.Goals as goal

pub loop-done-preserved : goal.loop-done-preserved
loop-done-preserved g c =
    let inv = c.loop-done.invariant in
    let piece = c.args.piece.now in
    let rest : take (length piece - c.loop-done.done) (drop c.loop-done.done piece) ≡ drop c.loop-done.done piece = grind (arith, common_steps) in
    let step = rw rest at c.in_ok-added.ensures.added in
    record {
      within = search rules;
      added = rw (take-add c.loop-done.done c.in_ok-added.added piece) (becomes_then _ _ _ c.args.name.now (take c.loop-done.done piece) (take c.in_ok-added.added (drop c.loop-done.done piece)) inv.added step);
      there = still_there _ _ c.args.name.now _ step inv.there;
      write_faults = search rules;
      read_faults = search rules;
      missing = search rules;
    }
