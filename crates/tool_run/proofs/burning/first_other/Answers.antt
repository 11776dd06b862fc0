use Rattle.std.proofs.Common.{◌∙◌, Some, sym, ap, arith}
use Rattle.tool_run.proofs.LayerLemmas.{some_at}
use Rattle.tool_run.proofs.BurnLemmas.{is_other, no_other, other_found, other_not_yet}
use Rattle.tool_run.proofs.burning.first_other.Goals as goal

pub returns-then-has_points_or_lines : goal.returns-then-has_points_or_lines
returns-then-has_points_or_lines c =
    let item = c.index-features-at.result in
    let at = some_at c.args.features.now c.features.at item c.features-test.true ∙ ap Some (sym c.index-features-at.is) in
    let is = ap is_other c.index-features-at.is ∙ sym c.has_points_or_lines.ensures ∙ c.if-has_points_or_lines.true in
    sym (other_found c.args.features.now c.features.at item at c.features-test.true c.features.invariant is)

pub features-preserved : goal.features-preserved
features-preserved c =
    let item = c.index-features-at.result in
    let at = some_at c.args.features.now c.features.at item c.features-test.true ∙ ap Some (sym c.index-features-at.is) in
    let is = ap is_other c.index-features-at.is ∙ sym c.has_points_or_lines.ensures ∙ c.if-has_points_or_lines.false in
    other_not_yet c.args.features.now c.features.at item at c.features.invariant is

pub returns : goal.returns
returns c = sym (no_other c.args.features.now (λ k f within at. c.features.invariant k f (omega (arith, within, c.features-test.false)) at))
