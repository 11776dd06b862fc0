-- What a destination holds while it is written.
use Rattle.std.proofs.Common.{◌≡◌, inr, ℕ, List, ◌++◌, length, take, drop, Option, arith, append_assoc}
use Rattle.std.proofs.lemmas.List.{take-append-drop}
use Rattle.std.proofs.lemmas.Grind.{common_steps}
use Rattle.rv_outside.specs.Files.{Files, Becomes, with_appended, with_file}
use Rattle.rv_outside.proofs.FilesLemmas.{made_then}
use Rattle.tool_run.specs.Inner.Steps.{IsPartWritten}

take_of-append : (done rest : List ℕ) → take (length done) (done ++ rest) ≡ done
take_of-append done rest = grind (arith, common_steps)

-- a first part of the text was written
pub part_written : (old new : Option Files) (name text done rest : List ℕ) → text ≡ done ++ rest → Becomes old new (with_file name done) → IsPartWritten old new name text
part_written old new name text done rest is written =
    let part : take (length done) text ≡ done = rw is (take_of-append done rest) in
    inr (length done, rw part written)

-- a first part of the text, and a part of the next piece
pub more_written : (old mid new : Option Files) (name text done piece rest : List ℕ) (n : ℕ) → text ≡ done ++ (piece ++ rest) → Becomes old mid (with_file name done) → Becomes mid new (with_appended name (take n piece)) → IsPartWritten old new name text
more_written old mid new name text done piece rest n is written added =
    let pieces : take n piece ++ drop n piece ≡ piece = take-append-drop n piece in
    let parts : text ≡ (done ++ take n piece) ++ (drop n piece ++ rest) = grind (arith, common_steps, is, pieces, append_assoc) in
    part_written old new name text (done ++ take n piece) (drop n piece ++ rest) parts (made_then old mid new name done (take n piece) written added)
