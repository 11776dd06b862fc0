use Rattle.std.proofs.Common.{◌≡◌, ◌<◌, IfSome, ◌-◌, ◌^◌, length}
use Rattle.rv_outside.proofs.FetchLemmas.{IsFront}
use Rattle.rv_outside.proofs.transfer.read_whole.Given as goal

-- what was read so far is the front of the file
abbrev pub invariant-reading : goal.invariant-reading
invariant-reading g l =
    let state = g.F.Folder.state in
    record {
      some : 0 < length l.block.items;
      front : IfSome (state l.fn.folder).files (λ files. IsFront (files l.name) l.all.items);
      files : (state l.folder).files ≡ (state l.fn.folder).files;
      read_faults : (state l.folder).read_faults ≡ (state l.fn.folder).read_faults;
      missing : (state l.folder).missing ≡ (state l.fn.folder).missing;
      write_faults : (state l.folder).write_faults ≡ (state l.fn.folder).write_faults;
    }

-- each turn adds a byte
abbrev pub decreases-reading : goal.decreases-reading
decreases-reading g l = 2 ^ 64 - length l.all.items
