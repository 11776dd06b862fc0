use Rattle.std.proofs.Common.{◌≡◌, ◌≤◌, ◌-◌, IfSome, IsSome, take, length}
use Rattle.rv_outside.specs.Files.{with_appended, Becomes}
use Rattle.rv_outside.proofs.transfer.append_all.Given as goal

abbrev pub invariant-loop-done : goal.invariant-loop-done
invariant-loop-done g l =
    let state = g.F.Folder.state in
    record {
      within : l.done ≤ length l.piece;
      added : Becomes (state l.fn.folder).files (state l.folder).files (with_appended l.name (take l.done l.piece));
      there : IfSome (state l.folder).files (λ files. IsSome (files l.name));
      write_faults : (state l.folder).write_faults ≡ (state l.fn.folder).write_faults;
      read_faults : (state l.folder).read_faults ≡ (state l.fn.folder).read_faults;
      missing : (state l.folder).missing ≡ (state l.fn.folder).missing;
    }

abbrev pub decreases-loop-done : goal.decreases-loop-done
decreases-loop-done g l = length l.piece - l.done
