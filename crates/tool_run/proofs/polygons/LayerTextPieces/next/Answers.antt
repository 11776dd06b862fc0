use Rattle.std.proofs.Common.{◌≤◌, ◌∙◌, length, ap, arith}
use Rattle.std.proofs.lemmas.Grind.{common_steps}
use Rattle.tool_run.specs.Inner.Layer.{layer_left}
use Rattle.tool_run.proofs.LayerLemmas.{none_left}
use Rattle.tool_run.proofs.polygons.LayerTextPieces.next.Goals as goal

pub returns-then-self-len-clause-more : goal.returns-then-self-len-clause-more
returns-then-self-len-clause-more c =
    let text = c.args.self.now in
    let past : length text.layer.now.values.items ≤ text.next = grind (arith, common_steps, c.if-self-len.true, c.len.ensures) in
    ap (λ header. layer_left text.field.now text.layer.now header text.next) c.if-not-self.true ∙ none_left text.layer.now text.next past
