use Rattle.std.proofs.Common.{◌++◌, ◌∷◌, [], ◌∙◌, ap, refl, sym, arith}
use Rattle.tool_words.specs.Grammar.{names_of}
use Rattle.tool_words.specs.Chosen.{chooses_next}
use Rattle.tool_words.proofs.CutLemmas.{chosen_behind, names_append}
use Rattle.tool_words.proofs.ReadLemmas.{cut_on, refused, sound_on}
use Rattle.tool_words.proofs.reading.read.Goals as goal

pub returns-in_err-at-clause-fault : goal.returns-in_err-at-clause-fault
returns-in_err-at-clause-fault g c =
    let t = g.T.Options in
    let inv = c.words.invariant in
    let fault = refused t.grammar t.chooses t.clashes t.default c.args.words.now c.words.at inv.done c.words.names c.in_err-at.field-0.0 inv.cut inv.sound inv.names c.in_err-at.ensures.refuses in
    grind (arith, fault)

pub words-preserved : goal.words-preserved
words-preserved g c =
    let t = g.T.Options in
    let inv = c.words.invariant in
    let reads = c.in_ok-at.ensures.reads in
    record {
      done = inv.done ++ reads.piece ∷ [];
      within = reads.within;
      cut = cut_on t.grammar c.args.words.now c.words.at c.in_ok-at.at inv.done reads.piece inv.cut reads.cut;
      sound = sound_on t.grammar inv.done reads.piece c.words.names inv.sound inv.names reads.sound;
      options = reads.chosen ∙ ap (λ before. chooses_next t.chooses before reads.piece) inv.options ∙ sym (chosen_behind t.chooses t.default inv.done reads.piece);
      names = reads.names ∙ ap (λ names. names ++ names_of (reads.piece ∷ [])) inv.names ∙ sym (names_append inv.done (reads.piece ∷ []));
    }

pub check_end-requires : goal.check_end-requires
check_end-requires g c κs = ((refl, tt), c.len-2.ensures.few)
