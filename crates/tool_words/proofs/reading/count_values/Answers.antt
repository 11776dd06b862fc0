use Rattle.std.proofs.Common.{◌≡◌, ◌-◌, ◌∙◌, Some, min, length, drop, ap, sym}
use Rattle.tool_words.specs.Inner.Read.{counted}
use Rattle.tool_words.specs.declared.options.Wanted.TheVariants.{Numbers}
use Rattle.tool_words.proofs.ReadLemmas.{numbers_within}
use Rattle.tool_words.proofs.reading.count_values.Goals as goal

pub returns-in-Numbers : goal.returns-in-Numbers
returns-in-Numbers c =
    let words = c.args.words.now in
    let wants : c.args.wanted ≡ Some Numbers = c.in-Some.is ∙ ap Some c.in-Numbers.is in
    c.count_numbers.ensures ∙ numbers_within words c.args.from c.requires
    ∙ ap (λ w. min (counted w (drop c.args.from words)) (length words - c.args.from)) (sym wants)
