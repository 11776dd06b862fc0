use Rattle.std.proofs.Common.{◌<◌, ◌∷◌, ◌++◌, ◌∙◌, [], length, ap, arith}
use Rattle.std.proofs.lemmas.Grind.{common_steps}
use Rattle.tool_words.proofs.ListLemmas.{take_written}
use Rattle.tool_words.proofs.names.Names.push.Goals as goal

pub returns : goal.returns
returns c =
    let inside : c.self.inside.count < length c.self.inside.names = grind (arith, common_steps, c.requires, c.self.view_is) in
    take_written (λ name. name.now) c.self.inside.names c.self.inside.count c.args.name inside ∙ ap (λ texts. texts ++ c.args.name.now ∷ []) (c.self.view_is)
