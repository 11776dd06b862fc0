use Rattle.std.proofs.Common.{arith}
use Rattle.std.proofs.lemmas.Map.Text.{text_keys}
use Rattle.rv_outside.proofs.FilesLemmas.{same_files}
use Rattle.rv_outside.proofs.file_map.FileMap.put.Goals as goal

pub returns-clause-put : goal.returns-clause-put
returns-clause-put c = same_files _ _ (λ q. grind (arith, text_keys))
