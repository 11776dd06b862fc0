use Rattle.std.proofs.Common.{◌≡◌, ◌<◌, ◌+◌, ◌∙◌, [], Some, arith, ap, sym}
use Rattle.std.specs.Prelude.{slice_get, unwrap_or}
use Rattle.std.proofs.lemmas.Grind.{common_steps}
use Rattle.tool_words.proofs.ListLemmas.{got_behind}
use Rattle.tool_words.proofs.piece.Piece.value.Goals as goal

pub returns : goal.returns
returns c =
    let piece = c.self.inside in
    let there : c.args.i < piece.count = grind (arith, common_steps, c.requires, c.self.view_is) in
    let got : slice_get c.args.self.now.values c.args.i ≡ Some c.word.result.now =
    ap (λ p. slice_get p.values c.args.i) (sym c.self.view_is) ∙ got_behind piece.words.now (piece.at + 1) piece.count c.args.i there ∙ c.word.ensures in
    sym (ap (λ value. unwrap_or value []) got)
