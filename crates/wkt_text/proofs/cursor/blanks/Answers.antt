use Rattle.std.proofs.Common.{◌≡◌, true, add-one, ap, arith, get_or, length, ◌∙◌}
use Rattle.std.proofs.lemmas.List.{drop_all}
use Rattle.wkt_text.specs.Inner.Cursor.{begins_with_blank}
use Rattle.std.proofs.lemmas.Grind.{common_steps}
use Rattle.wkt_text.specs.Tokens.{is_blank}
use Rattle.wkt_text.proofs.CursorLemmas.{at_blank, solid_at}
use Rattle.wkt_text.proofs.cursor.blanks.Goals as goal

pub loop-at-preserved : goal.loop-at-preserved
loop-at-preserved c = λ end within.
    let blank : is_blank (get_or c.args.text.now c.loop-at.at 0) ≡ true = grind (arith, common_steps) in
    rw add-one (at_blank c.args.text.now c.loop-at.at end within (omega arith) blank ∙ c.loop-at.invariant end within)

pub returns-then-not-is_blank-clause-solid : goal.returns-then-not-is_blank-clause-solid
returns-then-not-is_blank-clause-solid c = solid_at c.args.text.now c.loop-at.at (grind (arith, common_steps))

pub returns-clause-solid : goal.returns-clause-solid
returns-clause-solid c = ap begins_with_blank (drop_all (length c.args.text.now) c.args.text.now (omega arith))
