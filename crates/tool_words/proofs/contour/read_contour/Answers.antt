use Rattle.std.proofs.Common.{drop, arith}
use Rattle.tool_words.specs.Chosen.{chosen_by}
use Rattle.tool_words.specs.Contour.{contour_chooses, contour_clash, contour_default, contour_grammar, contour_job}
use Rattle.tool_words.specs.declared.job.Job.TheVariants.{Contour}
use Rattle.tool_words.proofs.OffenceLemmas.{refuses}
use Rattle.tool_words.proofs.contour.read_contour.Goals as goal

pub returns-in_err-options : goal.returns-in_err-options
returns-in_err-options c =
    let fault = (c.in_err-options.ensures {u = tt}).fault in
    let answer = refuses contour_grammar (λ pieces. contour_clash (chosen_by contour_chooses contour_default pieces)) (λ pieces. Contour (contour_job pieces)) (drop 1 c.args.words.now) c.in_err-options.field-0.0 fault in
    grind (arith, answer)
