use Rattle.std.proofs.Common.{◌≡◌, Option, ℕ, Some, ap, sym, refl, ◌∙◌, subst, not, arith}
use Rattle.std.specs.Prelude.{nat_eq, slice_get}
use Rattle.std.proofs.lemmas.Int.{ints}
use Rattle.std.proofs.lemmas.Option.{same_Some, slice_get-get_or}
use denote.Param.{value_of, number}
use Rattle.region_label.specs.Run.{Run}
use Rattle.region_label.specs.declared.rows.RunNote.{RunNote}
use Rattle.region_label.specs.Inner.Blocks.{block_at}
use Rattle.region_label.specs.Inner.Lists.{IsFree, IsNumbered, Touches}
use Rattle.region_label.specs.Inner.Rows.{noted_units}
use Rattle.region_label.proofs.BesideLemmas.{beside_to, block_read, low_block}
use Rattle.region_label.proofs.ContactLemmas.{contact_of, free_read, numbered_read}
use Rattle.region_label.proofs.ListLemmas.{slice_get-set_same}
use Rattle.region_label.proofs.ListsLemmas.{joins_one}
use Rattle.region_label.proofs.NoteLemmas.{length-noted, noted_at}
use Rattle.region_label.proofs.lists.RunLists.join.Goals as goal

pub returns-then-is_some-clause-joined : goal.returns-then-is_some-clause-joined
returns-then-is_some-clause-joined g c = λ contact.
    let rows = c.args.rows.now in
    let components = c.args.self.now.components.items in
    let is = block_read rows c.args.run c.block_of-block.result c.requires.run c.block_of-block.ensures.alone c.block_of-block.ensures.kept in
    let within = low_block rows c.args.run c.block_of-block.result c.requires.blocks c.requires.run is in
    let read : slice_get components c.block_of-block.result ≡ Some c.index-5.result.now = slice_get-get_or components c.block_of-block.result c.index-5.result.now (omega (arith, within, c.requires.sized.components)) ∙ ap (λ (o : Option ℕ). Some o) (sym c.index-5.ensures) in
    subst (λ (n : ℕ). IsNumbered components n) (sym is) (numbered_read components c.block_of-block.result c.index-5.result.now read (sym c.is_some.ensures ∙ c.if-is_some.true))

pub returns-clause-joins : goal.returns-clause-joins
returns-clause-joins g c =
    let rows = c.args.rows.now in
    let notes = rows.notes.items in
    let components = c.args.self.now.components.items in
    let sized = length-noted notes in
    let at_run = noted_at notes c.args.run c.index.result.now (slice_get-get_or notes c.args.run c.index.result.now (omega (arith, c.requires.ordered.sized)) ∙ ap (λ (note : RunNote). Some note) (sym c.index.ensures)) in
    let at_at = noted_at notes c.args.at c.index-2.result.now (slice_get-get_or notes c.args.at c.index-2.result.now (omega (arith, c.requires.ordered.sized)) ∙ ap (λ (note : RunNote). Some note) (sym c.index-2.ensures)) in
    let is = block_read rows c.args.run c.block_of-block.result c.requires.run c.block_of-block.ensures.alone c.block_of-block.ensures.kept in
    let within = low_block rows c.args.run c.block_of-block.result c.requires.blocks c.requires.run is in
    let read : slice_get components c.block_of-block.result ≡ Some c.index-5.result.now = slice_get-get_or components c.block_of-block.result c.index-5.result.now (omega (arith, within, c.requires.sized.components)) ∙ ap (λ (o : Option ℕ). Some o) (sym c.index-5.ensures) in
    let free : IsFree components c.block_of-block.result = free_read components c.block_of-block.result c.index-5.result.now read (sym c.is_some.ensures ∙ c.if-is_some.false) in
    let first : slice_get rows.runs.items c.args.at ≡ Some c.index-4.result.now = slice_get-get_or rows.runs.items c.args.at c.index-4.result.now c.requires.at ∙ ap (λ (r : Run). Some r) (sym c.index-4.ensures) in
    let second : slice_get rows.runs.items c.args.run ≡ Some c.index-3.result.now = slice_get-get_or rows.runs.items c.args.run c.index-3.result.now c.requires.run ∙ ap (λ (r : Run). Some r) (sym c.index-3.ensures) in
    let touches : (a b : Run) → slice_get rows.runs.items c.args.at ≡ Some a → slice_get rows.runs.items c.args.run ≡ Some b → Touches (not (nat_eq (value_of (number g.row.EIGHT)) 0)) a b = λ a b at_a at_b.
    let from : c.index-4.result.now.from ≡ a.from = ap (λ (r : Run). r.from) (same_Some c.index-4.result.now a (sym first ∙ at_a)) in
    let to : c.index-3.result.now.to ≡ b.to = ap (λ (r : Run). r.to) (same_Some c.index-3.result.now b (sym second ∙ at_b)) in
    let near = c.requires.beside a b at_a at_b in
    (near.0, omega (arith, c.if-index-reach.false, c.reach.ensures, from, to), near.1) in
    let contact = contact_of _ rows.runs.items (noted_units rows.notes.items) c.args.at c.args.run c.index-2.result.now.units c.index.result.now.units c.requires.at c.requires.run at_at at_run (omega (arith, ints, c.if-index.false)) touches in
    joins_one _ (block_at rows c.args.at) c.args.number c.args.self.now _ c.args.last c.block_of-block.result (omega (arith, within, c.requires.sized.links)) (beside_to _ rows c.args.at c.args.run c.block_of-block.result is contact) free refl refl refl refl

pub returns-clause-joined : goal.returns-clause-joined
returns-clause-joined g c = λ contact.
    let rows = c.args.rows.now in
    let components = c.args.self.now.components.items in
    let is = block_read rows c.args.run c.block_of-block.result c.requires.run c.block_of-block.ensures.alone c.block_of-block.ensures.kept in
    let within = low_block rows c.args.run c.block_of-block.result c.requires.blocks c.requires.run is in
    (c.args.number, rw is (slice_get-set_same components c.block_of-block.result (Some c.args.number) (omega (arith, within, c.requires.sized.components))))
