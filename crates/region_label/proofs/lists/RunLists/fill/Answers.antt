use Rattle.std.proofs.Common.{◌≡◌, ℕ, length, ◌∙◌, subst, not, arith}
use Rattle.std.specs.Prelude.{nat_eq}
use denote.Param.{value_of, number}
use Rattle.region_label.specs.Inner.Blocks.{AreBeside, block_count}
use Rattle.region_label.specs.Inner.Lists.{AreFilled}
use Rattle.region_label.proofs.BesideLemmas.{contact_of_own, count_read, own_of_contact}
use Rattle.region_label.proofs.FilledLemmas.{filled_same}
use Rattle.region_label.proofs.lists.RunLists.fill.Goals as goal

pub fill_block-requires-clause-block : goal.fill_block-requires-clause-block
fill_block-requires-clause-block g c =
    let rows = c.args.rows.now in
    let runs : c.len.result ≡ length rows.runs.items = cc (rows.runs.ok.0, c.len.ensures) in
    let count = count_read rows c.count-block-end.result (λ none. c.count-block-end.ensures.alone none ∙ runs) c.count-block-end.ensures.kept in
    omega (arith, count)

pub returns-then-are_runs : goal.returns-then-are_runs
returns-then-are_runs g c =
    let rows = c.args.rows.now in
    let none : length rows.blocks.of.items ≡ 0 = c.are_runs.ensures.0 c.if-are_runs.true in
    let filled = c.loop-block.invariant in
    let all : c.loop-block.block ≡ length rows.runs.items = omega (arith, c.count-block-end.ensures.alone none) in
    filled_same _ _ (length rows.runs.items) c.loop-block.self (length rows.runs.items) (λ i j beside. contact_of_own _ rows i j none beside) (λ i j contact. own_of_contact _ rows i j none contact) (subst (λ (n : ℕ). AreFilled (AreBeside (not (nat_eq (value_of (number g.row.EIGHT)) 0)) rows) (length rows.runs.items) c.loop-block.self n) all filled)

pub spread-requires-clause-filled : goal.spread-requires-clause-filled
spread-requires-clause-filled g c =
    let rows = c.args.rows.now in
    let runs : c.len.result ≡ length rows.runs.items = cc (rows.runs.ok.0, c.len.ensures) in
    let count = count_read rows c.count-block-end.result (λ none. c.count-block-end.ensures.alone none ∙ runs) c.count-block-end.ensures.kept in
    let all : c.loop-block.block ≡ block_count rows = omega (arith, count) in
    subst (λ (n : ℕ). AreFilled (AreBeside (not (nat_eq (value_of (number g.row.EIGHT)) 0)) rows) (length rows.runs.items) c.loop-block.self n) all c.loop-block.invariant
