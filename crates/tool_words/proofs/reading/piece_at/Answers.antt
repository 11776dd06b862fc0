use Rattle.std.proofs.Common.{◌<◌, ◌-◌, ◌+◌, ◌∙◌, length, min, drop, ap, arith}
use Rattle.tool_words.specs.Inner.Read.{counted}
use Rattle.tool_words.proofs.ReadLemmas.{cuts_piece}
use Rattle.tool_words.proofs.reading.piece_at.Goals as goal

pub returns : goal.returns
returns g c =
    let words = c.args.words.now in
    let inside : c.args.at < length words = omega (arith, c.if-prove.false, c.len.ensures.value) in
    let count = c.count_values-count.ensures ∙ ap (λ w. min (counted w (drop (c.args.at + 1) words)) (length words - (c.args.at + 1))) c.wanted.ensures in
    cuts_piece g.T.Options.grammar words c.args.at c.count_values-count.result c.args.word.now c.requires inside count
