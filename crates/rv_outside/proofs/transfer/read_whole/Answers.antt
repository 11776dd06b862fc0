use Rattle.std.proofs.Common.{◌≡◌, ◌++◌, ◌≤◌, rules, arith, length, take, IfSome}
use Rattle.std.proofs.lemmas.Grind.{common_steps}
use Rattle.rv_outside.specs.Folder.{Reads}
use Rattle.rv_outside.specs.declared.folder.Taken.TheVariants.{Bytes, End}
use Rattle.rv_outside.proofs.FetchLemmas.{front_more, front_ends}
use Rattle.rv_outside.proofs.transfer.read_whole.Goals as goal

pub reading-preserved : goal.reading-preserved
reading-preserved g c =
    let state = g.F.Folder.state in
    let all = c.reading.all.items in
    let same = c.reading.invariant.files in
    let offset : length all ≡ c.len.result = cc (c.reading.all.ok.0, c.len.ensures) in
    let content_here = rw c.in-Ok-Bytes.field-0-is at (c.in-Ok-Bytes.ensures {u = tt}).content in
    let content : IfSome (state c.reading.folder).files (λ files. Reads (files c.args.name.now) (length all) c.read_at.new.into (Bytes c.in-Ok-Bytes.count)) = rw offset content_here in
    let items : c.extend_from_slice.new.self.items ≡ all ++ take c.in-Ok-Bytes.count c.read_at.new.into = grind (arith, common_steps) in
    let within : c.in-Ok-Bytes.count ≤ length c.read_at.new.into = (rw c.in-Ok-Bytes.field-0-is at (c.in-Ok-Bytes.ensures {u = tt}).within).1 in
    record {
      some = search rules;
      front = rw items (front_more _ _ all _ _ c.reading.invariant.front (rw same at content) within);
      files = search rules;
      read_faults = search rules;
      missing = search rules;
      write_faults = search rules;
    }

pub returns-in-Ok-End-clause-bytes : goal.returns-in-Ok-End-clause-bytes
returns-in-Ok-End-clause-bytes g c =
    let state = g.F.Folder.state in
    let all = c.reading.all.items in
    let same = c.reading.invariant.files in
    let offset : length all ≡ c.len.result = cc (c.reading.all.ok.0, c.len.ensures) in
    let content_here = rw c.in-Ok-End.field-0-is at (c.in-Ok-End.ensures {u = tt}).content in
    let content : IfSome (state c.reading.folder).files (λ files. Reads (files c.args.name.now) (length all) c.read_at.new.into End) = rw offset content_here in
    front_ends _ _ all c.read_at.new.into c.reading.invariant.front (rw same at content)
