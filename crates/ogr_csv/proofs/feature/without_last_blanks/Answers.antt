use Rattle.std.proofs.Common.{◌≡◌, ◌-◌, ◌<◌, false, arith, get_or}
use Rattle.std.proofs.lemmas.Grind.{common_steps}
use Rattle.wkt_text.specs.Tokens.{is_blank}
use Rattle.ogr_csv.proofs.BlankLemmas.{cut_behind}
use Rattle.ogr_csv.proofs.feature.without_last_blanks.Goals as goal
use Rattle.ogr_csv.proofs.feature.without_last_blanks.Goals.{then-blanks-test+else-is_blank, else-blanks-test}

pub returns : goal.returns
returns c =
    let stops : 0 < c.blanks.len → is_blank (get_or c.args.text.now (c.blanks.len - 1) 0) ≡ false =
    λ some. elim c.blanks-test.branch [
      | then-blanks-test+else-is_blank w ↦ grind (arith, common_steps)
      | else-blanks-test w ↦ absurd (omega (arith, some))
    ] in
    cut_behind c.args.text.now c.blanks.len c.blanks.invariant.within c.blanks.invariant.blanks stops
