use Rattle.std.proofs.Common.{arith}
use Rattle.tool_run.proofs.LayerFileLemmas.{all_read, next_refused}
use Rattle.tool_run.proofs.layer_file.features_of.Goals as goal

pub returns-in_err-feature : goal.returns-in_err-feature
returns-in_err-feature c =
    let refused = next_refused _ c.records.features.items c.in_err-feature.field-0.0 c.records.reader c.records.invariant.read c.in_err-feature.ensures.answer.0 in
    grind (arith, refused)

pub returns : goal.returns
returns c =
    let none = rw c.in_default.is at c.in_ok-feature.ensures.answer in
    all_read _ c.records.features.items c.records.reader c.records.invariant.read none.0
