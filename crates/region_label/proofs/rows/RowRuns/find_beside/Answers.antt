use Rattle.std.proofs.Common.{arith}
use Rattle.region_label.proofs.NoteLemmas.{kept_order}
use Rattle.region_label.proofs.NotedLemmas.{all_noted}
use Rattle.region_label.proofs.rows.RowRuns.find_beside.Goals as goal

pub note_row-on-requires-clause-ordered : goal.note_row-on-requires-clause-ordered
note_row-on-requires-clause-ordered c = kept_order _ _ c.loop-row.invariant.keeps c.requires.ordered

pub returns-clause-few : goal.returns-clause-few
returns-clause-few c =
    let keeps = c.loop-row.invariant.keeps in
    let ordered = kept_order _ _ keeps c.requires.ordered in
    omega (arith, c.loop-row.invariant.few, ordered.within c.loop-row.row)

pub returns-clause-noted : goal.returns-clause-noted
returns-clause-noted c =
    let keeps = c.loop-row.invariant.keeps in
    let ordered = kept_order _ _ keeps c.requires.ordered in
    all_noted c.loop-row.self c.loop-row.row ordered (omega (arith, keeps.nrows, c.loop-row-test.false, c.loop-row.auto.row-end)) c.loop-row.invariant.noted
