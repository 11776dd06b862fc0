use Rattle.std.proofs.Common.{◌≡◌, ◌≤◌, ◌-◌, take, length}
use Rattle.rv_outside.specs.Sink.{Adds}
use Rattle.rv_outside.proofs.transfer.say.Given as goal

-- what was taken so far is the front of the text
abbrev pub invariant-loop-done : goal.invariant-loop-done
invariant-loop-done g l =
    let state = g.S.Sink.state in
    record {
      within : l.done ≤ length l.text;
      said : Adds (state l.fn.sink).written (state l.sink).written (take l.done l.text);
      faults : (state l.sink).faults ≡ (state l.fn.sink).faults;
      wants : (state l.sink).wants ≡ (state l.fn.sink).wants;
    }

abbrev pub decreases-loop-done : goal.decreases-loop-done
decreases-loop-done g l = length l.text - l.done
