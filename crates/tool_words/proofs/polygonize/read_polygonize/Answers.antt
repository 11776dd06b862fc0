use Rattle.std.proofs.Common.{drop, arith}
use Rattle.tool_words.specs.Job.{never}
use Rattle.tool_words.specs.Polygonize.{polygonize_grammar, polygonize_job}
use Rattle.tool_words.specs.declared.job.Job.TheVariants.{Polygonize}
use Rattle.tool_words.proofs.OffenceLemmas.{refuses}
use Rattle.tool_words.proofs.polygonize.read_polygonize.Goals as goal

pub returns-in_err-options : goal.returns-in_err-options
returns-in_err-options c =
    let fault = (c.in_err-options.ensures {u = tt}).fault in
    let answer = refuses polygonize_grammar never (λ pieces. Polygonize (polygonize_job pieces)) (drop 1 c.args.words.now) c.in_err-options.field-0.0 fault in
    grind (arith, answer)
