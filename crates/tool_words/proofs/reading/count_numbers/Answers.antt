use Rattle.std.proofs.Common.{◌∙◌, arith, sym}
use Rattle.tool_words.proofs.CutLemmas.{no_number, one_number}
use Rattle.tool_words.proofs.reading.count_numbers.Goals as goal

pub returns-then-not-is_number : goal.returns-then-not-is_number
returns-then-not-is_number c =
    let ends = no_number c.args.words.now c.numbers.at c.word.result.now c.word.ensures (sym c.is_number.ensures ∙ c.if-not-is_number.true) in
    omega (arith, c.numbers.invariant.counted, ends)

pub numbers-preserved : goal.numbers-preserved
numbers-preserved c =
    let more = one_number c.args.words.now c.numbers.at c.word.result.now c.word.ensures (sym c.is_number.ensures ∙ c.if-not-is_number.false) in
    record { counted = omega (arith, c.numbers.invariant.counted, more, c.numbers.auto) }
