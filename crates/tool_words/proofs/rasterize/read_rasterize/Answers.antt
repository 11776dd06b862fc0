use Rattle.std.proofs.Common.{drop, arith}
use Rattle.tool_words.specs.Chosen.{chosen_by}
use Rattle.tool_words.specs.Rasterize.{rasterize_chooses, rasterize_clash, rasterize_default, rasterize_grammar, rasterize_job}
use Rattle.tool_words.specs.declared.job.Job.TheVariants.{Rasterize}
use Rattle.tool_words.proofs.OffenceLemmas.{refuses}
use Rattle.tool_words.proofs.rasterize.read_rasterize.Goals as goal

pub returns-in_err-options : goal.returns-in_err-options
returns-in_err-options c =
    let fault = (c.in_err-options.ensures {u = tt}).fault in
    let answer = refuses rasterize_grammar (λ pieces. rasterize_clash (chosen_by rasterize_chooses rasterize_default pieces)) (λ pieces. Rasterize (rasterize_job pieces)) (drop 1 c.args.words.now) c.in_err-options.field-0.0 fault in
    grind (arith, answer)
