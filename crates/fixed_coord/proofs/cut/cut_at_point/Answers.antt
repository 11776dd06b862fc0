use Rattle.std.proofs.Common.{arith, ◌≡◌, ◌+◌, ◌-◌, length, ap, ◌∙◌}
use Rattle.fixed_coord.specs.Inner.Spelled.{parts_in}
use Rattle.fixed_coord.proofs.CutLemmas.{is_cut, count_in_front}
use Rattle.fixed_coord.proofs.cut.cut_at_point.Goals as goal
use Rattle.fixed_coord.proofs.cut.cut_at_point.Goals.{then-number, else-number}

-- the count of digits in front, in one word
counted : (c : goal.After-cut_digits) → c.if-number.count ≡ count_in_front c.args.number.whole.now c.args.places c.args.number.down c.spelled-power.result
counted c =
    elim c.if-number.branch [
      | then-number w ↦ rw w.if-number.true (w.count-is ∙ w.saturating_sub-count.ensures ∙ ap (λ k. length c.args.number.whole.now + k - c.spelled-power.result) c.from.ensures)
      | else-number w ↦ rw w.if-number.false (w.count-is ∙ ap (λ k. length c.args.number.whole.now + k + c.spelled-power.result) c.from.ensures)
    ]

pub returns : goal.returns
returns c =
    is_cut (parts_in c.args.number) c.spelled-power.result c.args.places c.if-number.count c.cut_digits.result.front c.cut_digits.result.behind c.requires.digits c.spelled-power.ensures
    (omega arith) c.requires.places (counted c) c.cut_digits.ensures
