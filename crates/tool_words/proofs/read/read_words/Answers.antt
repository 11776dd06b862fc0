use Rattle.std.proofs.Common.{◌≡◌, ◌∙◌, Some, ap, drop, sym, subst}
use Rattle.std.specs.Prelude.{slice_get}
use Rattle.std.specs.Option.{option_copied}
use Rattle.tool_words.specs.Job.{IsAnswer, check_words, never}
use Rattle.tool_words.specs.Check.{check_grammar, check_job}
use Rattle.tool_words.specs.declared.job.Job.TheVariants.{Check}
use Rattle.tool_words.proofs.JobLemmas.{of_check, of_contour, of_rasterize}
use Rattle.tool_words.proofs.OffenceLemmas.{answers}
use Rattle.tool_words.proofs.read.read_words.Goals as goal

pub returns-in-gdal_rasterize : goal.returns-in-gdal_rasterize
returns-in-gdal_rasterize c =
    let first : slice_get c.args.words.now 0 ≡ Some c.in-Some.tool.now = sym c.get.ensures ∙ ap option_copied c.in-Some.is in
    let is = of_rasterize c.args.words.now c.in-Some.tool.now first c.in-gdal_rasterize.is in
    subst (λ expected. IsAnswer expected c.read_rasterize.result) (sym is) c.read_rasterize.ensures

pub returns-in-gdal_contour : goal.returns-in-gdal_contour
returns-in-gdal_contour c =
    let first : slice_get c.args.words.now 0 ≡ Some c.in-Some.tool.now = sym c.get.ensures ∙ ap option_copied c.in-Some.is in
    let is = of_contour c.args.words.now c.in-Some.tool.now first c.in-gdal_contour.is in
    subst (λ expected. IsAnswer expected c.read_contour.result) (sym is) c.read_contour.ensures

pub returns-in-check : goal.returns-in-check
returns-in-check c =
    let words = drop 1 c.args.words.now in
    let first : slice_get c.args.words.now 0 ≡ Some c.in-Some.tool.now = sym c.get.ensures ∙ ap option_copied c.in-Some.is in
    let is = of_check c.args.words.now c.in-Some.tool.now first c.in-check.is in
    let answer : IsAnswer (check_words words) (check_words words) = answers check_grammar never (λ pieces. Check (check_job pieces)) words in
    subst (λ expected. IsAnswer expected c.read_check.result) (sym is) (subst (IsAnswer (check_words words)) (sym c.read_check.ensures) answer)
