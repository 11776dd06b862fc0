use Rattle.std.proofs.Common.{arith}
use Rattle.tool_words.proofs.ExtentLemmas.{all_read, fourth_bad, second_bad, third_bad}
use Rattle.tool_words.proofs.rasterize.extent_in.Goals as goal

pub returns-in_err-coord-2 : goal.returns-in_err-coord-2
returns-in_err-coord-2 c =
    let bad = second_bad c.args.piece.now _ _ c.in_ok-coord.ensures c.in_err-coord-2.ensures in
    grind (arith, bad)

pub returns-in_err-coord-3 : goal.returns-in_err-coord-3
returns-in_err-coord-3 c =
    let bad = third_bad c.args.piece.now _ _ _ c.in_ok-coord.ensures c.in_ok-coord-2.ensures c.in_err-coord-3.ensures in
    grind (arith, bad)

pub returns-in_err-coord-4 : goal.returns-in_err-coord-4
returns-in_err-coord-4 c =
    let bad = fourth_bad c.args.piece.now _ _ _ _ c.in_ok-coord.ensures c.in_ok-coord-2.ensures c.in_ok-coord-3.ensures c.in_err-coord-4.ensures in
    grind (arith, bad)

pub returns : goal.returns
returns c = all_read c.args.piece.now _ _ _ _ c.in_ok-coord.ensures c.in_ok-coord-2.ensures c.in_ok-coord-3.ensures c.in_ok-coord-4.ensures
