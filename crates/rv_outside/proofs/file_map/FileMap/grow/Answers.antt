use Rattle.std.proofs.Common.{arith, ◌≡◌}
use Rattle.std.proofs.lemmas.Map.Text.{text_keys}
use Rattle.rv_outside.specs.FileMap.{files_in}
use Rattle.rv_outside.specs.declared.file_map.FileMap.{FileMap}
use Rattle.rv_outside.proofs.FilesLemmas.{same_files}
use Rattle.rv_outside.proofs.file_map.FileMap.grow.Goals as goal

pub returns-clause-grown : goal.returns-clause-grown
returns-clause-grown c = same_files _ _ (λ q. grind (arith, text_keys))

pub returns-in_err-extend_from_slice-clause-err : goal.returns-in_err-extend_from_slice-clause-err
returns-in_err-extend_from_slice-clause-err c =
    let left : FileMap = record { alloc = c.args.self.now.alloc; files = c.get_mut.follows.lender c.extend_from_slice.new.self } in
    let same : files_in left ≡ files_in c.args.self.now = same_files _ _ (λ q. grind (arith, text_keys)) in
    grind (arith, same)
