use Rattle.std.proofs.Common.{◌≡◌, ℕ, Some, refl, ap, sym, ◌∙◌, subst, not, arith}
use Rattle.std.specs.Prelude.{nat_eq, slice_get}
use Rattle.std.proofs.lemmas.Option.{slice_get-get_or}
use denote.Param.{value_of, number}
use Rattle.region_label.specs.Inner.Blocks.{AreBeside}
use Rattle.region_label.specs.Inner.Lists.{Joins}
use Rattle.region_label.proofs.BesideLemmas.{both_joined, ends_kept, ends_read, under_way_block, under_way_numbered}
use Rattle.region_label.proofs.FillLemmas.{under_way_end, under_way_first, under_way_on, under_way_short, under_way_within}
use Rattle.region_label.proofs.ListsLemmas.{joins_then}
use Rattle.region_label.proofs.lists.RunLists.fill_from.Goals as goal

pub loop-init : goal.loop-init
loop-init g c = under_way_first _ c.args.start c.args.number c.args.self.now _ c.requires.links c.requires.free refl refl refl refl

pub block-block-requires : goal.block-block-requires
block-block-requires g c = λ some.
    let rows = c.args.rows.now in
    ends_kept rows c.loop.at (under_way_block _ rows c.args.start c.args.number _ _ _ _ _ c.requires.blocks c.requires.start c.loop.invariant) some

pub join_above-last-requires-clause-at : goal.join_above-last-requires-clause-at
join_above-last-requires-clause-at g c =
    let rows = c.args.rows.now in
    let way = c.loop.invariant in
    let within = under_way_block _ rows c.args.start c.args.number _ _ _ _ _ c.requires.blocks c.requires.start way in
    let read = c.block-block.ensures in
    let ends = ends_read rows c.loop.at c.block-block.result c.requires.blocks within read.first_alone read.last_alone read.first read.last in
    ends.first

pub join_above-last-requires-clause-last : goal.join_above-last-requires-clause-last
join_above-last-requires-clause-last g c = omega (arith, (under_way_within _ c.args.start c.args.number _ _ _ _ _ c.loop.invariant).1, c.requires.sized.components)

pub join_below-last-requires-clause-at : goal.join_below-last-requires-clause-at
join_below-last-requires-clause-at g c =
    let rows = c.args.rows.now in
    let way = c.loop.invariant in
    let within = under_way_block _ rows c.args.start c.args.number _ _ _ _ _ c.requires.blocks c.requires.start way in
    let read = c.block-block.ensures in
    let ends = ends_read rows c.loop.at c.block-block.result c.requires.blocks within read.first_alone read.last_alone read.first read.last in
    ends.last

pub join_below-last-requires-clause-last : goal.join_below-last-requires-clause-last
join_below-last-requires-clause-last g c =
    let first = (under_way_within _ c.args.start c.args.number _ _ _ _ _ c.loop.invariant).1 in
    omega (arith, c.requires.sized.components, c.requires.sized.links, c.loop.invariant.links, c.join_above-last.ensures.joins.within (omega (arith, first, c.requires.sized.components, c.requires.sized.links, c.loop.invariant.links)))

pub returns-then-at-last : goal.returns-then-at-last
returns-then-at-last g c =
    let rows = c.args.rows.now in
    let way = c.loop.invariant in
    let within = under_way_block _ rows c.args.start c.args.number _ _ _ _ _ c.requires.blocks c.requires.start way in
    let read = c.block-block.ensures in
    let ends = ends_read rows c.loop.at c.block-block.result c.requires.blocks within read.first_alone read.last_alone read.first read.last in
    let above = c.join_above-last.ensures in
    let below = c.join_below-last.ensures in
    let numbered = under_way_numbered _ c.args.start c.args.number _ _ _ _ _ way in
    let first : Joins (AreBeside (not (nat_eq (value_of (number g.row.EIGHT)) 0)) rows) c.loop.at c.args.number c.loop.self c.join_above-last.new.self c.loop.last c.join_above-last.result = subst (λ (n : ℕ). Joins (AreBeside (not (nat_eq (value_of (number g.row.EIGHT)) 0)) rows) n c.args.number c.loop.self c.join_above-last.new.self c.loop.last c.join_above-last.result) ends.in_first above.joins in
    let second : Joins (AreBeside (not (nat_eq (value_of (number g.row.EIGHT)) 0)) rows) c.loop.at c.args.number c.join_above-last.new.self c.join_below-last.new.self c.join_above-last.result c.join_below-last.result = subst (λ (n : ℕ). Joins (AreBeside (not (nat_eq (value_of (number g.row.EIGHT)) 0)) rows) n c.args.number c.join_above-last.new.self c.join_below-last.new.self c.join_above-last.result c.join_below-last.result) ends.in_last below.joins in
    let joins = joins_then _ c.loop.at c.args.number _ _ _ _ _ _ first second in
    let all = both_joined _ rows c.loop.at c.args.number c.block-block.result _ _ _ _ _ _ c.requires.blocks ends numbered above.joins above.joined below.joins below.joined in
    under_way_end _ c.args.start c.args.number c.args.self.now c.loop.self c.join_below-last.new.self c.loop.last c.loop.at c.loop.counter c.requires.links way (subst (λ (n : ℕ). Joins (AreBeside (not (nat_eq (value_of (number g.row.EIGHT)) 0)) rows) c.loop.at c.args.number c.loop.self c.join_below-last.new.self c.loop.last n) (sym c.if-at-last.true) joins) all

pub index-at-requires : goal.index-at-requires
index-at-requires g c =
    let first = (under_way_within _ c.args.start c.args.number _ _ _ _ _ c.loop.invariant).0 in
    omega (arith, first, c.requires.sized.components, c.requires.sized.links, c.loop.invariant.links, c.join_above-last.ensures.joins.links, c.join_below-last.ensures.joins.links)

pub loop-preserved : goal.loop-preserved
loop-preserved g c =
    let rows = c.args.rows.now in
    let way = c.loop.invariant in
    let within = under_way_block _ rows c.args.start c.args.number _ _ _ _ _ c.requires.blocks c.requires.start way in
    let read = c.block-block.ensures in
    let ends = ends_read rows c.loop.at c.block-block.result c.requires.blocks within read.first_alone read.last_alone read.first read.last in
    let above = c.join_above-last.ensures in
    let below = c.join_below-last.ensures in
    let numbered = under_way_numbered _ c.args.start c.args.number _ _ _ _ _ way in
    let first : Joins (AreBeside (not (nat_eq (value_of (number g.row.EIGHT)) 0)) rows) c.loop.at c.args.number c.loop.self c.join_above-last.new.self c.loop.last c.join_above-last.result = subst (λ (n : ℕ). Joins (AreBeside (not (nat_eq (value_of (number g.row.EIGHT)) 0)) rows) n c.args.number c.loop.self c.join_above-last.new.self c.loop.last c.join_above-last.result) ends.in_first above.joins in
    let second : Joins (AreBeside (not (nat_eq (value_of (number g.row.EIGHT)) 0)) rows) c.loop.at c.args.number c.join_above-last.new.self c.join_below-last.new.self c.join_above-last.result c.join_below-last.result = subst (λ (n : ℕ). Joins (AreBeside (not (nat_eq (value_of (number g.row.EIGHT)) 0)) rows) n c.args.number c.join_above-last.new.self c.join_below-last.new.self c.join_above-last.result c.join_below-last.result) ends.in_last below.joins in
    let joins = joins_then _ c.loop.at c.args.number _ _ _ _ _ _ first second in
    let all = both_joined _ rows c.loop.at c.args.number c.block-block.result _ _ _ _ _ _ c.requires.blocks ends numbered above.joins above.joined below.joins below.joined in
    let link : slice_get c.join_below-last.new.self.links.items c.loop.at ≡ Some c.index-at.result.now = slice_get-get_or c.join_below-last.new.self.links.items c.loop.at c.index-at.result.now (omega (arith, (under_way_within _ c.args.start c.args.number _ _ _ _ _ c.loop.invariant).0, c.requires.sized.components, c.requires.sized.links, c.loop.invariant.links, above.joins.links, below.joins.links)) ∙ ap (λ (n : ℕ). Some n) (sym c.index-at.ensures) in
    under_way_on _ c.args.start c.args.number c.args.self.now c.loop.self c.join_below-last.new.self c.loop.last c.join_below-last.result c.loop.at c.loop.counter c.index-at.result.now c.requires.links way joins all c.if-at-last.false link

pub returns : goal.returns
returns g c = absurd (omega (arith, under_way_short _ c.args.start c.args.number _ _ _ _ _ c.loop.invariant, c.requires.sized.components))
