use Rattle.std.proofs.Common.{arith, List}
use Rattle.std.proofs.lemmas.Grind.{common_steps}
use Rattle.tool_words.specs.Words.{Text}
use Rattle.tool_words.proofs.ListLemmas.{take_one}
use Rattle.tool_words.proofs.contour.add_levels.Goals as goal

pub levels-preserved : goal.levels-preserved
levels-preserved c =
    let values : List Text = c.args.piece.now.values in
    let more = take_one values c.levels.i (omega (arith, c.levels-test.true, c.len-i-end.ensures)) in
    record { added = grind (arith, common_steps, c.levels.invariant.added, more) }
