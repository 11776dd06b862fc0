use Rattle.std.proofs.Common.{◌≡◌, ◌++◌, List, ℕ}
use Rattle.rv_outside.specs.Files.{Becomes, with_file}
use Rattle.tool_run.proofs.pieces.write_text.Given as goal

-- the file holds what is not left of the text
abbrev pub invariant-pieces : goal.invariant-pieces
invariant-pieces g l =
    let state = g.F.Folder.state in
    let left = g.P.Pieces.left in
    record {
      written : (done : List ℕ) × (left l.fn.text ≡ done ++ left l.text) × Becomes (state l.fn.folder).files (state l.folder).files (with_file l.name done);
      write_faults : (state l.folder).write_faults ≡ (state l.fn.folder).write_faults;
      read_faults : (state l.folder).read_faults ≡ (state l.fn.folder).read_faults;
      missing : (state l.folder).missing ≡ (state l.fn.folder).missing;
    }

abbrev pub decreases-pieces : goal.decreases-pieces
decreases-pieces g l = g.P.Pieces.steps l.text
